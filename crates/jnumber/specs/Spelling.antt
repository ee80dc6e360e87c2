-- How a number is spelled (J Dictionary, "Constants"; NuVoc, "Numeric constants"): one or more decimal
-- digits, with at most one underscore before them for a negative number, within 64 signed bits.
use Rattle.std.specs.Prelude.{◌≡◌, ℕ, ◌==◌, if◌then◌else◌, List, [], ◌∷◌, ℤ, pos, negsuc, neg_ℤ, suc, decimal, FitsSigned}
use mir.Syntax.{w64}
use Rattle.std.specs.Str.Parse.{IsNumeral, digits_value}

-- the byte `_`
abbrev pub underscore : ℕ
underscore = 95

-- the digits of a run: what stands behind a first underscore, else the whole run
abbrev pub digits_in : List ℕ → List ℕ
digits_in [] = []
digits_in (first ∷ rest) = if first == underscore then rest else first ∷ rest

-- the number that the digits of a run write in base ten, negative behind an underscore
abbrev pub number_in : List ℕ → ℤ
number_in [] = pos 0
number_in (first ∷ rest) =
    if first == underscore then neg_ℤ (pos (digits_value 10 rest)) else pos (digits_value 10 (first ∷ rest))

-- the run spells the number
pub record Spells (run : List ℕ) (number : ℤ) : Type 0 where
  pub digits : IsNumeral 10 (digits_in run)
  pub value : number ≡ number_in run
  pub in_range : FitsSigned w64 number

-- the spelling that is written: without leading zeros, with an underscore for a minus
abbrev pub written : ℤ → List ℕ
written (pos n) = decimal n
written (negsuc n) = underscore ∷ decimal (suc n)
