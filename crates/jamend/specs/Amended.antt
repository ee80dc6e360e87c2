-- Amend (NuVoc "}"): `x m} y` is y with the items, or the cell, that m names replaced by x. Faults, in this order: those of m,
-- Domain where the kinds differ, Length where there are more integers than axes, Rank, Length, Index.
use Rattle.std.specs.Prelude.{ℕ, ◌-◌, nat_lt, ◌||◌, ℤ, Bool, if◌then◌else◌, Option, Some, None, List, [], ◌∷◌, ◌++◌, length, drop, take, map, Result, Ok, Err}
use Rattle.std.specs.Str.{bytes_eq}
use Rattle.jdata.specs.Fills.{fill_of}
use Rattle.jdata.specs.Firsts.{all_or_first, and_then}
use Rattle.jdata.specs.Indexes.{place_at}
use Rattle.jdata.specs.Kinds.{kinds_match}
use Rattle.jdata.specs.Noun.{noun, shape, kind, atoms, product}
use Rattle.jdata.specs.declared.fault.Fault.{Fault}
use Rattle.jdata.specs.declared.fault.Fault.TheVariants as fault
use Rattle.jdata.specs.declared.noun.Noun.{Noun}
use Rattle.jarray.specs.Numbers.{is_integers}
use Rattle.jselect.specs.Arguments.{integers_in}
use Rattle.jselect.specs.Items.{item_count, item_axes}
use Rattle.jselect.specs.Places.{place_in, places_in}
use Rattle.jamend.specs.Naming.{cell_numbers}
use Rattle.jamend.specs.Replacing.{replaced}

-- x is of y's kind, where an array without atoms is of each
abbrev pub kinds_agree : Noun → Noun → Bool
kinds_agree x y = kinds_match (kind x) (kind y) (atoms x) || kinds_match (kind y) (kind x) (atoms y)

-- what is wrong with the axes of x, where these are to end with them
abbrev pub shape_fault : List ℕ → List ℕ → Option Fault
shape_fault target axes =
    if nat_lt (length target) (length axes) then Some fault.Rank else
    if bytes_eq (drop (length target - length axes) target) axes then None else Some fault.Length

abbrev pub or_fault : Option Fault → Result Noun Fault → Result Noun Fault
or_fault (Some why) meant = Err why
or_fault None meant = meant

-- y with x for the cells that have these numbers, of c atoms each
unfoldable pub with_cells : Noun → Noun → ℕ → List ℕ → Noun
with_cells x y c numbers = noun (shape y) (kind y) (replaced (fill_of (kind y)) (atoms x) (atoms y) numbers c (product (shape y)))

-- x for the items that these integers name, in their axes
unfoldable pub items_amended : Noun → List ℕ → List ℤ → Noun → Result Noun Fault
items_amended x axes numbers y =
    if kinds_agree x y
    then or_fault (shape_fault (axes ++ item_axes y) (shape x))
    (and_then (all_or_first (map (place_in (item_count y)) numbers)) (λ cells. Ok (with_cells x y (product (item_axes y)) cells)))
    else Err fault.Domain

-- the number of the cell that integers name
abbrev pub cell_number : List ℕ → List ℤ → Result ℕ Fault
cell_number axes numbers = and_then (places_in axes numbers) (λ places. Ok (place_at (take (length numbers) axes) places))

-- x for the cell that these integers name
unfoldable pub cell_amended : Noun → List ℤ → Noun → Result Noun Fault
cell_amended x numbers y =
    let axes = drop (length numbers) (shape y) in
    if kinds_agree x y
    then (if nat_lt (length (shape y)) (length numbers)
    then Err fault.Length
    else or_fault (shape_fault axes (shape x)) (and_then (cell_number (shape y) numbers) (λ cell. Ok (with_cells x y (product axes) (cell ∷ [])))))
    else Err fault.Domain

-- m without atoms names no items, whatever its kind
unfoldable pub amended : Noun → Noun → Noun → Result Noun Fault
amended x m y =
    if is_integers m
    then items_amended x (shape m) (integers_in m) y
    else and_then (cell_numbers (shape m) (atoms m)) (λ numbers. cell_amended x numbers y)
