-- Steps and Indices (NuVoc "i:" and "I."): the integers from a number's opposite to it, and places as often as numbers say.
use Rattle.std.specs.Prelude.{ℕ, suc, ◌+◌, ◌*◌, ◌&&◌, ℤ, pos, negsuc, ◌-ℤ◌, false, if◌then◌else◌, List, [], ◌∷◌, length, map, Result, Err}
use Rattle.std.specs.List.{list_all}
use Rattle.jdata.specs.Limits.{limited}
use Rattle.jdata.specs.Noun.{noun}
use Rattle.jdata.specs.Tabulated.{tabulated}
use Rattle.jdata.specs.declared.fault.Fault.{Fault}
use Rattle.jdata.specs.declared.fault.Fault.TheVariants as fault
use Rattle.jdata.specs.declared.noun.Noun.{Noun}
use Rattle.jdata.specs.declared.noun.Kind.TheVariants as sort
use Rattle.jdata.specs.declared.noun.Atom.TheVariants as atom
use Rattle.jarray.specs.Numbers.{is_integers}
use Rattle.jselect.specs.Arguments.{integers_in, is_count}
use Rattle.jselect.specs.Copies.{count_at}
use Rattle.jselect.specs.Picking.{served, repeated}
use Rattle.jsearch.specs.Turned.{magnitude}

-- up from the opposite of an integer, or down from it where it is negative
abbrev pub step_at : ℤ → ℤ → ℤ
step_at (pos n) place = place -ℤ pos n
step_at (negsuc n) place = pos (suc n) -ℤ place

abbrev pub step : ℤ → ℕ → ℤ
step z place = step_at z (pos place)

abbrev pub step_list : ℤ → Noun
step_list z = tabulated ((2 * magnitude z + 1) ∷ []) sort.Int (λ place. atom.Int (step z place))

-- of the first integer; no integer has no steps
abbrev pub steps_of : List ℤ → Result Noun Fault
steps_of [] = Err fault.Domain
steps_of (z ∷ zs) = limited (step_list z)

unfoldable pub steps : Noun → Result Noun Fault
steps y = if is_integers y then steps_of (integers_in y) else Err fault.Domain

-- each place as often as the number there says, which counts
abbrev pub repeated_places : List ℤ → List ℕ
repeated_places numbers = repeated (count_at false numbers) (served false) (length numbers)

abbrev pub place_list : List ℕ → Noun
place_list places = noun (length places ∷ []) sort.Int (map (λ p. atom.Int (pos p)) places)

unfoldable pub indices : Noun → Result Noun Fault
indices y =
    if is_integers y && list_all is_count (integers_in y)
    then limited (place_list (repeated_places (integers_in y)))
    else Err fault.Domain
