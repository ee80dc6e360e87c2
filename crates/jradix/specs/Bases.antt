-- Base (NuVoc "#."): the number that has these digits in these bases.
use Rattle.std.specs.Prelude.{ℕ, ◌==◌, ◌&&◌, ℤ, pos, ◌+ℤ◌, ◌*ℤ◌, Bool, true, false, if◌then◌else◌, List, [], ◌∷◌, length, map, get_or, Option, Some, None, Result, Ok, Err}
use Rattle.std.specs.List.{range_with_len}
use Rattle.jdata.specs.Firsts.{and_then}
use Rattle.jdata.specs.Noun.{shape, int_atom}
use Rattle.jdata.specs.declared.fault.Fault.{Fault}
use Rattle.jdata.specs.declared.fault.Fault.TheVariants as fault
use Rattle.jdata.specs.declared.noun.Noun.{Noun}
use Rattle.jarray.specs.Numbers.{is_integers}
use Rattle.jscalar.specs.Fitted.{fitted}
use Rattle.jselect.specs.Arguments.{integers_in}
use Rattle.jselect.specs.Picking.{is_alone, served}

-- a base and the digit in it
abbrev pub Place : Type 0
Place = ℤ × ℤ

-- the value so far times the base plus the digit, within 64 bits
abbrev pub step : ℤ → Place → Result ℤ Fault
step value place = fitted (value *ℤ place.0 +ℤ place.1)

-- from a value on, place by place
abbrev pub value_on : ℤ → List Place → Result ℤ Fault
value_on value [] = Ok value
value_on value (place ∷ places) = and_then (step value place) (λ next. value_on next places)

-- the number of an argument at a place: the one of an atom stands at each
abbrev pub number_at : Bool → List ℤ → ℕ → ℤ
number_at alone numbers i = get_or numbers (served alone i) (pos 0)

abbrev pub place_at : Bool → List ℤ → Bool → List ℤ → ℕ → Place
place_at one_base bases one_digit digits i = (number_at one_base bases i, number_at one_digit digits i)

-- how many places there are: as many as bases and as many as digits, where neither is an atom
abbrev pub place_count : Bool → ℕ → Bool → ℕ → Option ℕ
place_count true bases one_digit digits = Some digits
place_count false bases true digits = Some bases
place_count false bases false digits = if bases == digits then Some bases else None

abbrev pub value_by : (ℕ → Place) → Option ℕ → Result ℤ Fault
value_by place (Some n) = value_on (pos 0) (map place (range_with_len 0 n))
value_by place None = Err fault.Length

abbrev pub value_in : Bool → List ℤ → Bool → List ℤ → Result ℤ Fault
value_in one_base bases one_digit digits =
    value_by (place_at one_base bases one_digit digits) (place_count one_base (length bases) one_digit (length digits))

unfoldable pub value_of : Noun → Noun → Result ℤ Fault
value_of x y =
    if is_integers x && is_integers y
    then value_in (is_alone (shape x)) (integers_in x) (is_alone (shape y)) (integers_in y)
    else Err fault.Domain

abbrev pub based : Noun → Noun → Result Noun Fault
based x y = and_then (value_of x y) (λ n. Ok (int_atom n))

-- in base 2
abbrev pub based_two : Noun → Result Noun Fault
based_two y = based (int_atom (pos 2)) y
