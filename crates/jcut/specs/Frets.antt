-- Frets (NuVoc ";."): the items at which an array is cut. They are those that match its first or last item, or those
-- for which a list of zeros and ones has a one.
use Rattle.std.specs.Prelude.{ℕ, ◌-◌, ◌&&◌, ◌||◌, ℤ, pos, Bool, false, if◌then◌else◌, List, map, filter, length, get_or, Result, Ok, Err}
use Rattle.std.specs.List.{range_with_len, list_all}
use Rattle.std.specs.Ordering.{int_eq}
use Rattle.jdata.specs.declared.fault.Fault.{Fault}
use Rattle.jdata.specs.declared.fault.Fault.TheVariants as fault
use Rattle.jdata.specs.declared.noun.Noun.{Noun}
use Rattle.jarray.specs.Matches.{matches}
use Rattle.jarray.specs.Numbers.{is_integers}
use Rattle.jselect.specs.Arguments.{integers_in}
use Rattle.jselect.specs.Items.{item_count}
use Rattle.jsearch.specs.Finding.{item}
use Rattle.jcut.specs.declared.cutting.Cutting.{Cutting}
use Rattle.jcut.specs.declared.cutting.Cutting.TheVariants as cutting

-- the place among n of the item that frets match
abbrev pub marker : Cutting → ℕ → ℕ
marker cutting.Begin n = 0
marker cutting.BeginAfter n = 0
marker cutting.End n = n - 1
marker cutting.EndBefore n = n - 1

abbrev pub own_fret : Cutting → Noun → ℕ → Bool
own_fret k y i = matches (item y (marker k (item_count y))) (item y i)

abbrev pub own_frets : Cutting → Noun → List Bool
own_frets k y = map (own_fret k y) (range_with_len 0 (item_count y))

abbrev pub is_one : ℤ → Bool
is_one n = int_eq n (pos 1)

abbrev pub is_flag : ℤ → Bool
is_flag n = int_eq n (pos 0) || int_eq n (pos 1)

-- the frets that an argument gives
unfoldable pub given_frets : Noun → Result (List Bool) Fault
given_frets x =
    if is_integers x && list_all is_flag (integers_in x)
    then Ok (map is_one (integers_in x))
    else Err fault.Domain

-- the places of the frets, in their order
unfoldable pub fret_places : List Bool → List ℕ
fret_places frets = filter (λ i. get_or frets i false) (range_with_len 0 (length frets))
