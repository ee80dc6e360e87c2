-- Joining along the first axis (NuVoc "," and ";"): the items of one array follow those of the one before. Arrays of lower
-- rank get leading axes of 1, items are filled to the greatest length on each axis, and an atom fills one item.
use Rattle.std.specs.Prelude.{ℕ, ◌+◌, ◌-◌, max, nat_lt, Bool, if◌then◌else◌, List, [], ◌∷◌, length, map, get_or, Result, Err}
use Rattle.std.specs.List.{range_with_len}
use Rattle.jdata.specs.Fills.{fill_of}
use Rattle.jdata.specs.Indexes.{at_or}
use Rattle.jdata.specs.Limits.{limited}
use Rattle.jdata.specs.Noun.{shape, atoms, greatest}
use Rattle.jdata.specs.Tabulated.{indexed}
use Rattle.jdata.specs.declared.fault.Fault.{Fault}
use Rattle.jdata.specs.declared.fault.Fault.TheVariants as fault
use Rattle.jdata.specs.declared.noun.Noun.{Noun}
use Rattle.jdata.specs.declared.noun.Kind.{Kind}
use Rattle.jdata.specs.declared.noun.Atom.{Atom}
use Rattle.jframe.specs.Assembly.{raised, greatest_rank, common_kind, kinds_agree}

-- the rank of the whole, at least 1
abbrev pub joined_rank : List Noun → ℕ
joined_rank vs = max (greatest_rank vs) 1

-- how many items an array gives to a whole of this rank
abbrev pub items_given : ℕ → Noun → ℕ
items_given rank v = get_or (raised rank (shape v)) 0 1

-- an atom has no axes
abbrev pub has_axes : Noun → Bool
has_axes v = nat_lt 0 (length (shape v))

-- the length of an array on an axis, to which an atom gives nothing
abbrev pub axis_given : ℕ → ℕ → Noun → ℕ
axis_given rank axis v = if has_axes v then get_or (raised rank (shape v)) axis 1 else 0

-- the axes of an item of the whole
abbrev pub item_joined : List Noun → List ℕ
item_joined vs = map (λ axis. greatest (map (axis_given (joined_rank vs) axis) vs)) (range_with_len 1 (joined_rank vs - 1))

-- what stands in the items of an array: its atoms and fills, or its one atom everywhere
abbrev pub atom_given : Kind → ℕ → Noun → List ℕ → Atom
atom_given k rank v index =
    if has_axes v then at_or (fill_of k) (raised rank (shape v)) (atoms v) index else get_or (atoms v) 0 (fill_of k)

-- and in those of all, one array after the other
abbrev pub atom_joined : Kind → ℕ → List Noun → List ℕ → Atom
atom_joined k rank (v ∷ vs) (i ∷ is) =
    if nat_lt i (items_given rank v) then atom_given k rank v (i ∷ is) else atom_joined k rank vs ((i - items_given rank v) ∷ is)
atom_joined k rank vs index = fill_of k

abbrev pub count_joined : ℕ → List Noun → ℕ
count_joined rank [] = 0
count_joined rank (v ∷ vs) = items_given rank v + count_joined rank vs

abbrev pub whole_joined : List Noun → Noun
whole_joined vs =
    let rank = joined_rank vs in
    indexed (count_joined rank vs ∷ item_joined vs) (common_kind vs) (atom_joined (common_kind vs) rank vs)

-- the arrays joined, or why they are not: their kinds differ, or the whole is beyond the limits of an array
unfoldable pub items_joined : List Noun → Result Noun Fault
items_joined vs = if kinds_agree vs then limited (whole_joined vs) else Err fault.Domain
