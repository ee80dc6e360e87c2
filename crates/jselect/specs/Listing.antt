-- Items that integers name, many at once (NuVoc "{"): each integer one item, where an atom y is a list of one, and these
-- axes before those of an item.
use Rattle.std.specs.Prelude.{ℕ, ℤ, pos, List, ◌++◌, length, map, get_or, Result, Ok}
use Rattle.jdata.specs.Firsts.{all_or_first, and_then}
use Rattle.jdata.specs.Limits.{limited}
use Rattle.jdata.specs.Noun.{noun, kind, atoms, product}
use Rattle.jdata.specs.declared.fault.Fault.{Fault}
use Rattle.jdata.specs.declared.noun.Noun.{Noun}
use Rattle.jselect.specs.Items.{item_axes, item_count}
use Rattle.jselect.specs.Picking.{runs}
use Rattle.jselect.specs.Places.{place_in}

unfoldable pub items_named : List ℕ → List ℤ → Noun → Result Noun Fault
items_named axes numbers y =
    and_then (all_or_first (map (place_in (item_count y)) numbers)) (λ places.
    limited (noun (axes ++ item_axes y) (kind y) (runs (product (item_axes y)) (atoms y) places)))

-- the integer that an integer names in a list of them
abbrev pub number_named : List ℤ → ℤ → Result ℤ Fault
number_named items number = and_then (place_in (length items) number) (λ place. Ok (get_or items place (pos 0)))
