-- Common divisors and multiples (NuVoc "+." GCD, "*." LCM).
use Rattle.std.specs.Prelude.{ℕ, ◌%◌, max, Bool, ◌==◌, ◌&&◌, if◌then◌else◌, ℤ, pos, ◌*ℤ◌, unsigned_abs, int_div}
use Rattle.std.specs.Option.{unwrap_or}
use Rattle.std.specs.Ordering.{int_eq}
use Rattle.jscalar.specs.Searches.{greatest_up_to}

-- whether d divides both
abbrev pub is_common_divisor : ℕ → ℕ → ℕ → Bool
is_common_divisor a b d = (a % d == 0) && (b % d == 0)

-- the greatest number that divides both, and 0 for two zeros
unfoldable pub greatest_common_divisor : ℕ → ℕ → ℕ
greatest_common_divisor a b = unwrap_or (greatest_up_to (max a b) (is_common_divisor a b)) 0

-- the product over the greatest common divisor; 0 where one is 0
unfoldable pub common_multiple : ℤ → ℤ → ℤ
common_multiple x y =
    if int_eq (x *ℤ y) (pos 0)
    then pos 0
    else int_div (x *ℤ y) (pos (greatest_common_divisor (unsigned_abs x) (unsigned_abs y)))
