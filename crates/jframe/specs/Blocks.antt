-- The items of one array in a whole, as a block of its own.
use Rattle.std.specs.Prelude.{◌≡◌, ℕ, ◌≤◌, ◌⊎◌, suc, true, List, [], ◌∷◌, length, map}
use Rattle.std.specs.List.{range_with_len}
use Rattle.jdata.specs.Indexes.{index_at}
use Rattle.jdata.specs.Limits.{most_atoms}
use Rattle.jdata.specs.Noun.{shape, kind, atoms, product, extent}
use Rattle.jdata.specs.declared.noun.Noun.{Noun}
use Rattle.jdata.specs.declared.noun.Kind.{Kind}
use Rattle.jdata.specs.declared.noun.Atom.{Atom}
use Rattle.jframe.specs.Assembly.{raised}
use Rattle.jframe.specs.Joining.{items_given, has_axes, atom_given}
use Rattle.jframe.specs.Padding.{FitsIn}

-- the axes of the block of an array, whose items are to have this shape
abbrev pub block_axes : List ℕ → Noun → List ℕ
block_axes item v = items_given (suc (length item)) v ∷ item

unfoldable pub block : Kind → List ℕ → Noun → List Atom
block k item v = map (λ place. atom_given k (suc (length item)) v (index_at (block_axes item v) place)) (range_with_len 0 (product (block_axes item v)))

-- an array whose items can have this shape, among atoms of a kind
pub record CanJoin (k : Kind) (item : List ℕ) (v : Noun) : Type 0 where
  pub fits : has_axes v ≡ true → FitsIn (raised (suc (length item)) (shape v)) (block_axes item v)
  pub bound : extent (block_axes item v) ≤ most_atoms
  pub of_kind : (kind v ≡ k) ⊎ (atoms v ≡ [])
