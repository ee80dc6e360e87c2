-- Cells of an array that are replaced, atom by atom (NuVoc "}"): where a cell is named more than once, the last one counts.
use Rattle.std.specs.Prelude.{ℕ, zero, suc, ◌+◌, ◌*◌, ◌/◌, ◌%◌, ◌==◌, ◌≡◌, if◌then◌else◌, Option, Some, None, List, length, map, get_or}
use Rattle.std.specs.List.{range_with_len}

-- the last of the first n places where a number stands, if there is one
abbrev pub last_place : List ℕ → ℕ → ℕ → Option ℕ
last_place numbers zero number = None
last_place numbers (suc n) number = if get_or numbers n 0 == number then Some n else last_place numbers n number

-- atom r of the k-th cell of c atoms that xs stand for: where they are fewer than all those cells have, they stand again
abbrev pub atom_of_cell : {A : Type 0} → A → List A → ℕ → ℕ → ℕ → A
atom_of_cell d xs c k r = get_or xs ((k * c + r) % length xs) d

-- the atom at a place: from xs where its cell is the k-th that is replaced, and else from ys
abbrev pub atom_from : {A : Type 0} → A → List A → List A → ℕ → ℕ → Option ℕ → A
atom_from d xs ys c place (Some k) = atom_of_cell d xs c k (place % c)
atom_from d xs ys c place None = get_or ys place d

-- the atom at a place of ys, where the cells with these numbers, of c atoms each, are replaced
abbrev pub atom_replaced : {A : Type 0} → A → List A → List A → List ℕ → ℕ → ℕ → A
atom_replaced d xs ys numbers c place = atom_from d xs ys c place (last_place numbers (length numbers) (place / c))

unfoldable pub replaced : {A : Type 0} → A → List A → List A → List ℕ → ℕ → ℕ → List A
replaced d xs ys numbers c n = map (atom_replaced d xs ys numbers c) (range_with_len 0 n)

-- n is a multiple of c
abbrev pub Divides : ℕ → ℕ → Type 0
Divides c n = (q : ℕ) × (n ≡ q * c)
