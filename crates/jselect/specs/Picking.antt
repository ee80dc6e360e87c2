-- Items of an array, picked by their places.
use Rattle.std.specs.Prelude.{ℕ, ◌*◌, Bool, true, false, if◌then◌else◌, List, [], ◌∷◌, length, take, drop, replicate, get_or}
use Rattle.std.specs.List.{range_with_len, flat_map}
use Rattle.jdata.specs.Fills.{fill_of}
use Rattle.jdata.specs.Noun.{kind}
use Rattle.jdata.specs.Tabulated.{indexed}
use Rattle.jdata.specs.declared.noun.Noun.{Noun}
use Rattle.jdata.specs.declared.noun.Atom.{Atom}
use Rattle.jselect.specs.Items.{as_list, atom_at, item_axes}

-- whether an array of this shape is an atom
abbrev pub is_alone : List ℕ → Bool
is_alone [] = true
is_alone (n ∷ ns) = false

-- the place of the item that serves at place i: the one of an atom serves everywhere
abbrev pub served : Bool → ℕ → ℕ
served alone i = if alone then 0 else i

-- each place below n, or the one that serves there, as often as its count says
unfoldable pub repeated : (ℕ → ℕ) → (ℕ → ℕ) → ℕ → List ℕ
repeated count place n = flat_map (λ i. replicate (count i) (place i)) (range_with_len 0 n)

-- the atom of the picked items at an index
abbrev pub picked : List ℕ → Noun → List ℕ → Atom
picked places y [] = fill_of (kind y)
picked places y (p ∷ j) = atom_at (as_list y) (get_or places p 0 ∷ j)

-- the items at these places, in their order; an atom is a list of one
unfoldable pub items_at : List ℕ → Noun → Noun
items_at places y = indexed (length places ∷ item_axes y) (kind y) (picked places y)

-- runs of so many things of a list, by their number
unfoldable pub runs : {A : Type 0} → ℕ → List A → List ℕ → List A
runs c xs places = flat_map (λ p. take c (drop (p * c) xs)) places
