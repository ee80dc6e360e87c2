-- Antibase (NuVoc "#:"): the digits of a number in these bases, and the binary digits of numbers.
use Rattle.std.specs.Prelude.{ℕ, suc, ◌-◌, ◌/◌, ◌%◌, ◌^◌, ◌&&◌, max, ℤ, pos, ◌-ℤ◌, int_div, if◌then◌else◌, List, [], ◌∷◌, ◌++◌, length, map, get_or, Result, Ok, Err}
use Rattle.std.specs.List.{list_all}
use Rattle.std.specs.Ordering.{int_eq}
use Rattle.std.specs.Int.Count.{count_leading_zeros}
use Rattle.jdata.specs.Firsts.{and_then}
use Rattle.jdata.specs.Limits.{limited}
use Rattle.jdata.specs.Noun.{noun, shape, greatest}
use Rattle.jdata.specs.Tabulated.{tabulated}
use Rattle.jdata.specs.declared.fault.Fault.{Fault}
use Rattle.jdata.specs.declared.fault.Fault.TheVariants as fault
use Rattle.jdata.specs.declared.noun.Noun.{Noun}
use Rattle.jdata.specs.declared.noun.Kind.TheVariants as sort
use Rattle.jdata.specs.declared.noun.Atom.TheVariants as atom
use Rattle.jarray.specs.Numbers.{is_integers}
use Rattle.jscalar.specs.Fitted.{fitted}
use Rattle.jscalar.specs.Quotients.{residue}
use Rattle.jselect.specs.Arguments.{integers_in, is_count, count_of}

-- a number over a base; with base 0 nothing is left
abbrev pub whole_part : ℤ → ℤ → Result ℤ Fault
whole_part base number = if int_eq base (pos 0) then Ok (pos 0) else fitted (int_div number base)

-- what is left of a rest when its digit in a base is taken, and that digit, which in base 0 is all of the rest
abbrev pub digit_and_rest : ℤ → ℤ → Result (ℤ × ℤ) Fault
digit_and_rest base rest =
    let digit = residue base rest in
    and_then (whole_part base (rest -ℤ digit)) (λ left. Ok (left, digit))

-- a rest, and the digits behind it
abbrev pub Taken : Type 0
Taken = ℤ × List ℤ

-- and with one digit more, in this base
abbrev pub with_digit : ℤ → Taken → Result Taken Fault
with_digit base taken = and_then (digit_and_rest base taken.0) (λ next. Ok (next.0, next.1 ∷ taken.1))

-- the digits in these bases, the last of which is taken first
abbrev pub taken : List ℤ → ℤ → Result Taken Fault
taken [] number = Ok (number, [])
taken (base ∷ bases) number = and_then (taken bases number) (with_digit base)

abbrev pub digits_taken : List ℤ → ℤ → Result (List ℤ) Fault
digits_taken bases number = and_then (taken bases number) (λ t. Ok t.1)

abbrev pub digit_list : List ℤ → Noun
digit_list digits = noun (length digits ∷ []) sort.Int (map atom.Int digits)

-- of the first number; no number has no digits
abbrev pub digits_of : List ℤ → List ℤ → Result Noun Fault
digits_of bases [] = Err fault.Domain
digits_of bases (number ∷ numbers) = and_then (digits_taken bases number) (λ these. limited (digit_list these))

-- the bases are those of `x` in ravel order, so an atom is a list of one
unfoldable pub digits : Noun → Noun → Result Noun Fault
digits x y = if is_integers x && is_integers y then digits_of (integers_in x) (integers_in y) else Err fault.Domain

-- how many binary digits a number of 64 bits has
abbrev pub bits : ℕ → ℕ
bits n = 64 - count_leading_zeros 64 n

-- the least number of binary digits, at least 1, that holds each of these
abbrev pub width : List ℤ → ℕ
width numbers = max 1 (greatest (map (λ z. bits (count_of z)) numbers))

-- binary digit `j` of so many
abbrev pub bit_at : ℕ → ℤ → ℕ → ℕ
bit_at k z j = (count_of z / 2 ^ (k - suc j)) % 2

-- and at a place in ravel order, where each number has so many
abbrev pub bit_of : List ℤ → ℕ → ℕ → ℤ
bit_of numbers k p = pos (bit_at k (get_or numbers (p / k) (pos 0)) (p % k))

-- the digits of each atom stand along a new last axis
abbrev pub bit_table : List ℕ → List ℤ → ℕ → Noun
bit_table axes numbers k = tabulated (axes ++ k ∷ []) sort.Int (λ p. atom.Int (bit_of numbers k p))

unfoldable pub binary : Noun → Result Noun Fault
binary y =
    if is_integers y
    then (if list_all is_count (integers_in y) then limited (bit_table (shape y) (integers_in y) (width (integers_in y))) else Err fault.Nonce)
    else Err fault.Domain
