-- Cut (NuVoc ";."): an interval of items for each fret. It begins or ends there; with a negative number the fret itself is
-- left away. Items in no interval are dropped.
use Rattle.std.specs.Prelude.{ℕ, ◌+◌, ◌-◌, ◌==◌, ℤ, pos, negsuc, Bool, if◌then◌else◌, Option, Some, None, List, length, map, get_or, Result, Ok, Err}
use Rattle.std.specs.List.{range_with_len}
use Rattle.std.specs.Ordering.{int_eq}
use Rattle.jdata.specs.Firsts.{and_then}
use Rattle.jdata.specs.declared.fault.Fault.{Fault}
use Rattle.jdata.specs.declared.fault.Fault.TheVariants as fault
use Rattle.jdata.specs.declared.noun.Noun.{Noun}
use Rattle.jselect.specs.Items.{item_count}
use Rattle.jcut.specs.Frets.{own_frets, given_frets, fret_places}
use Rattle.jcut.specs.Parted.{Parted}
use Rattle.jcut.specs.Runs.{between}
use Rattle.jcut.specs.declared.cutting.Cutting.{Cutting}
use Rattle.jcut.specs.declared.cutting.Cutting.TheVariants as cutting

-- which numbers cut, and how
abbrev pub cutting_of : ℤ → Option Cutting
cutting_of k =
    if int_eq k (pos 1) then Some cutting.Begin else
    if int_eq k (negsuc 0) then Some cutting.BeginAfter else
    if int_eq k (pos 2) then Some cutting.End else
    if int_eq k (negsuc 1) then Some cutting.EndBefore else None

-- where fret k stands
abbrev pub fret : List ℕ → ℕ → ℕ
fret frets k = get_or frets k 0

-- the fret behind fret k, or the end of n items
abbrev pub next : List ℕ → ℕ → ℕ → ℕ
next frets n k = get_or frets (k + 1) n

-- the place behind the fret before fret k, or the first place
abbrev pub behind : List ℕ → ℕ → ℕ
behind frets k = if k == 0 then 0 else fret frets (k - 1) + 1

-- the interval of fret k among n items
abbrev pub interval : Cutting → List ℕ → ℕ → ℕ → List ℕ
interval cutting.Begin frets n k = between (fret frets k) (next frets n k)
interval cutting.BeginAfter frets n k = between (fret frets k + 1) (next frets n k)
interval cutting.End frets n k = between (behind frets k) (fret frets k + 1)
interval cutting.EndBefore frets n k = between (behind frets k) (fret frets k)

unfoldable pub intervals : Cutting → List ℕ → ℕ → List (List ℕ)
intervals k frets n = map (interval k frets n) (range_with_len 0 (length frets))

-- y by these frets, one for each item
abbrev pub cut : Cutting → List Bool → Noun → Parted
cut k frets y = record { whole = y; places = intervals k (fret_places frets) (item_count y) }

abbrev pub cut_alone : Cutting → Noun → Parted
cut_alone k y = cut k (own_frets k y) y

abbrev pub cut_by : Cutting → Noun → Noun → Result Parted Fault
cut_by k x y = and_then (given_frets x) (λ frets. if length frets == item_count y then Ok (cut k frets y) else Err fault.Length)
