-- Where the items of an array are: Index Of, Index of Last, Member, Less, Nub and Nub Sieve (NuVoc "i.", "i:", "e.", "-.",
-- "~." and "~:"). An item is found where it matches (NuVoc "-:"), and so nowhere where shapes differ.
use Rattle.std.specs.Prelude.{ℕ, suc, ◌-◌, ◌==◌, not, nat_lt, ℤ, pos, Bool, true, false, if◌then◌else◌, List, [], ◌∷◌, length, map, take, reverse, Result, Ok}
use Rattle.std.specs.List.{range_with_len, position_or_len}
use Rattle.jdata.specs.Noun.{shape, int_atom}
use Rattle.jdata.specs.Tabulated.{tabulated}
use Rattle.jdata.specs.declared.fault.Fault.{Fault}
use Rattle.jdata.specs.declared.noun.Noun.{Noun}
use Rattle.jdata.specs.declared.noun.Kind.TheVariants as sort
use Rattle.jdata.specs.declared.noun.Atom.TheVariants as atom
use Rattle.jarray.specs.Matches.{matches}
use Rattle.jselect.specs.Copies.{copied}
use Rattle.jselect.specs.Items.{item_count, item_axes, as_list}
use Rattle.jselect.specs.Views.{nth_range}

-- 1 where a fact holds, else 0
abbrev pub truth : Bool → ℤ
truth true = pos 1
truth false = pos 0

-- item i of an array. An atom has one, itself
abbrev pub item : Noun → ℕ → Noun
item y i = nth_range 1 i (as_list y)

abbrev pub items : Noun → List Noun
items y = map (item y) (range_with_len 0 (item_count y))

-- the first place in a list where an array matches, or how long the list is
unfoldable pub first_place : List Noun → Noun → ℕ
first_place among v = position_or_len (matches v) among

-- a place counted from the end, among so many
abbrev pub from_end : ℕ → ℕ → ℕ
from_end n p = if nat_lt p n then n - suc p else n

-- the last place in a list where an array matches, or how long the list is
abbrev pub last_place : List Noun → Noun → ℕ
last_place among v = from_end (length among) (first_place (reverse among) v)

-- how many axes of y count its cells of the rank of an item of x: none, where y has no more axes than the item
abbrev pub outer : Noun → Noun → ℕ
outer x y = length (shape y) - length (item_axes x)

-- such a cell of y
abbrev pub cell : Noun → Noun → ℕ → Noun
cell x y j = nth_range (outer x y) j y

-- a number for each such cell of y
abbrev pub for_cells : Noun → Noun → (Noun → ℤ) → Noun
for_cells x y number = tabulated (take (outer x y) (shape y)) sort.Int (λ j. atom.Int (number (cell x y j)))

-- the first place among the items of x, or how many they are
abbrev pub index_of : Noun → Noun → Result Noun Fault
index_of x y = Ok (for_cells x y (λ v. pos (first_place (items x) v)))

-- the last place
abbrev pub last_index_of : Noun → Noun → Result Noun Fault
last_index_of x y = Ok (for_cells x y (λ v. pos (last_place (items x) v)))

-- whether an array is among the items of y
abbrev pub is_item_of : Noun → Noun → Bool
is_item_of y v = nat_lt (first_place (items y) v) (item_count y)

abbrev pub member : Noun → Noun → Result Noun Fault
member x y = Ok (for_cells y x (λ v. truth (is_item_of y v)))

-- 1 for each item of y that passes a test, else 0
abbrev pub flags : (ℕ → Bool) → Noun → Noun
flags test y = tabulated (item_count y ∷ []) sort.Int (λ i. atom.Int (truth (test i)))

-- the items of x that match no item of y
abbrev pub less : Noun → Noun → Result Noun Fault
less x y = copied (flags (λ i. not (is_item_of y (item x i))) x) x

-- whether item i is the first that it matches
abbrev pub is_new : Noun → ℕ → Bool
is_new y i = first_place (items y) (item y i) == i

-- the items that match no earlier one
abbrev pub nub : Noun → Result Noun Fault
nub y = copied (flags (is_new y) y) y

-- 1 for each item that matches no earlier one
abbrev pub sieve : Noun → Result Noun Fault
sieve y = Ok (flags (is_new y) y)

-- whether two arrays match
abbrev pub matched : Noun → Noun → Result Noun Fault
matched x y = Ok (int_atom (truth (matches x y)))
