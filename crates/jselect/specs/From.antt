-- From and Fetch (NuVoc "{" and "{::"): the item or the cell of an array that integers name.
use Rattle.std.specs.Prelude.{ℕ, ◌==◌, ◌&&◌, not, nat_lt, nat_le, ℤ, Bool, if◌then◌else◌, List, [], ◌∷◌, ◌++◌, length, drop, Result, Ok, Err}
use Rattle.jdata.specs.Firsts.{and_then}
use Rattle.jdata.specs.Kinds.{same_kind}
use Rattle.jdata.specs.Noun.{shape, kind, atoms}
use Rattle.jdata.specs.Tabulated.{indexed}
use Rattle.jdata.specs.declared.fault.Fault.{Fault}
use Rattle.jdata.specs.declared.fault.Fault.TheVariants as fault
use Rattle.jdata.specs.declared.noun.Noun.{Noun}
use Rattle.jdata.specs.declared.noun.Kind.{Kind}
use Rattle.jdata.specs.declared.noun.Kind.TheVariants as sort
use Rattle.jdata.specs.declared.noun.Atom.{Atom, Atom-F, out-Atom}
use Rattle.jdata.specs.declared.noun.Atom.TheOpen as one
use Rattle.jarray.specs.Numbers.{is_integers}
use Rattle.jselect.specs.Arguments.{integers_in}
use Rattle.jselect.specs.Items.{as_list, atom_at}
use Rattle.jselect.specs.Places.{places_in}

-- the cell at these places, one for each axis from the first: its atom at an index is that of y at the places and the index
unfoldable pub cell_at : List ℕ → Noun → Noun
cell_at places y = indexed (drop (length places) (shape y)) (kind y) (λ index. atom_at y (places ++ index))

-- the cell that integers name, which are no more than the axes
unfoldable pub cell_named : List ℤ → Noun → Result Noun Fault
cell_named numbers y =
    if nat_lt (length (shape y)) (length numbers)
    then Err fault.Length
    else and_then (places_in (shape y) numbers) (λ places. Ok (cell_at places y))

-- the integers in a box that names a cell: an integer or a list of them
abbrev pub numbers_of_kind : Kind → Noun → Result (List ℤ) Fault
numbers_of_kind sort.Int content = if nat_le (length (shape content)) 1 then Ok (integers_in content) else Err fault.Domain
numbers_of_kind sort.Char content = Err fault.Domain
numbers_of_kind sort.Boxed content = Err fault.Nonce

-- a content without atoms has none, whatever its kind and shape
abbrev pub numbers_boxed : Noun → Result (List ℤ) Fault
numbers_boxed content = if length (atoms content) == 0 then Ok [] else numbers_of_kind (kind content) content

-- what an atom names: an integer an item, where an atom y is a list of one, and a box a cell
abbrev pub named_by : Atom-F Atom Noun → Noun → Result Noun Fault
named_by (one.Int number) y = cell_named (number ∷ []) (as_list y)
named_by (one.Char byte) y = Err fault.Domain
named_by (one.Box content) y = and_then (numbers_boxed content) (λ numbers. cell_named numbers y)
named_by (one.Pyx name) y = Err fault.Domain

abbrev pub named_by_first : List Atom → Noun → Result Noun Fault
named_by_first [] y = Err fault.Domain
named_by_first (a ∷ rest) y = named_by (out-Atom a) y

-- what the atom x names in y: the first, where there are more
unfoldable pub selected : Noun → Noun → Result Noun Fault
selected x y = named_by_first (atoms x) y

-- the content of a box
abbrev pub content_of : Atom-F Atom Noun → Noun → Noun
content_of (one.Box content) v = content
content_of other v = v

abbrev pub opened_atom : List Atom → Noun → Noun
opened_atom [] v = v
opened_atom (a ∷ rest) v = content_of (out-Atom a) v

-- a box that stands alone is opened, and other arrays stay as they are
abbrev pub opened : Noun → Noun
opened v = if length (shape v) == 0 then opened_atom (atoms v) v else v

-- boxes in more than one axis
abbrev pub is_box_table : Noun → Bool
is_box_table y = nat_le 2 (length (shape y)) && (same_kind (kind y) sort.Boxed && not (length (atoms y) == 0))

-- the item that an integer names, opened
abbrev pub item_opened : ℤ → Noun → Result Noun Fault
item_opened number y =
    if is_box_table y then Err fault.Length else and_then (cell_named (number ∷ []) (as_list y)) (λ v. Ok (opened v))

-- one integer after another names an item of what the one before named
abbrev pub fetched_by : List ℤ → Noun → Result Noun Fault
fetched_by [] y = Ok y
fetched_by (number ∷ numbers) y = and_then (item_opened number y) (fetched_by numbers)

unfoldable pub fetched : Noun → Noun → Result Noun Fault
fetched x y = if is_integers x then fetched_by (integers_in x) y else Err fault.Domain
