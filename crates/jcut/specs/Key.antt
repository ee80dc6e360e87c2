-- Key (NuVoc "/."): the items of y at the places of each item of ~. x, in the order of the first places.
use Rattle.std.specs.Prelude.{ℕ, ◌==◌, if◌then◌else◌, List, map, filter, Result, Ok, Err}
use Rattle.std.specs.List.{range_with_len}
use Rattle.jdata.specs.declared.fault.Fault.{Fault}
use Rattle.jdata.specs.declared.fault.Fault.TheVariants as fault
use Rattle.jdata.specs.declared.noun.Noun.{Noun}
use Rattle.jarray.specs.Matches.{matches}
use Rattle.jselect.specs.Items.{item_count}
use Rattle.jsearch.specs.Finding.{item, is_new}
use Rattle.jcut.specs.Parted.{Parted}

-- the places of the items of ~. x
unfoldable pub new_places : Noun → List ℕ
new_places x = filter (is_new x) (range_with_len 0 (item_count x))

-- the places of the items of x that match its item i
unfoldable pub places_like : Noun → ℕ → List ℕ
places_like x i = filter (λ j. matches (item x i) (item x j)) (range_with_len 0 (item_count x))

abbrev pub classes : Noun → Noun → Result Parted Fault
classes x y =
    if item_count x == item_count y
    then Ok (record { whole = y; places = map (places_like x) (new_places x) })
    else Err fault.Length
