-- Append, Stitch and Laminate (NuVoc ",", ",." and ",:"): two arrays in one.
use Rattle.std.specs.Prelude.{ℕ, Some, negsuc, if◌then◌else◌, List, [], ◌∷◌, Result}
use Rattle.jdata.specs.Noun.{noun, shape, kind, atoms}
use Rattle.jdata.specs.declared.fault.Fault.{Fault}
use Rattle.jdata.specs.declared.noun.Noun.{Noun}
use Rattle.jdata.specs.declared.noun.Kind.{Kind}
use Rattle.jframe.specs.Assembly.{has_atoms, common_kind}
use Rattle.jframe.specs.Joining.{items_joined}
use Rattle.jframe.specs.Ranks.{at_ranks}

-- the items of x, and behind them those of y
abbrev pub appended : Noun → Noun → Result Noun Fault
appended x y = items_joined (x ∷ y ∷ [])

-- an array as the only item of another; an atom is left as it is, so that it fills the item that it gives
abbrev pub layer_axes : List ℕ → List ℕ
layer_axes [] = []
layer_axes (n ∷ ns) = 1 ∷ n ∷ ns

abbrev pub layer : Noun → Noun
layer v = noun (layer_axes (shape v)) (kind v) (atoms v)

-- two items, x and y
abbrev pub laminated : Noun → Noun → Result Noun Fault
laminated x y = items_joined (layer x ∷ layer y ∷ [])

-- an array without atoms counts as one of the kind
abbrev pub as_kind : Kind → Noun → Noun
as_kind k v = if has_atoms v then v else noun (shape v) k (atoms v)

-- each item of x joined with that of y
abbrev pub stitched : Noun → Noun → Result Noun Fault
stitched x y =
    let k = common_kind (x ∷ y ∷ []) in
    at_ranks (Some (negsuc 0)) (Some (negsuc 0)) appended (as_kind k x) (as_kind k y)
