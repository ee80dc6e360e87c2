-- The greatest number at which a test holds, by which roots and divisors are said.
use Rattle.std.specs.Prelude.{ℕ, zero, suc, Bool, if◌then◌else◌, Option, Some, None}

-- of the numbers from 0 to n
unfoldable pub greatest_up_to : ℕ → (ℕ → Bool) → Option ℕ
greatest_up_to zero test = if test 0 then Some 0 else None
greatest_up_to (suc n) test = if test (suc n) then Some (suc n) else greatest_up_to n test
