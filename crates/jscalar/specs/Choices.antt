-- Factorials, and the ways to choose (NuVoc "!" Factorial, "!" Out of).
use Rattle.std.specs.Prelude.{ℕ, zero, suc, ◌+◌, ◌*◌, ℤ, pos, negsuc, Result, Ok, Err}
use Rattle.jdata.specs.declared.fault.Fault.{Fault}
use Rattle.jdata.specs.declared.fault.Fault.TheVariants.{Nonce}
use Rattle.jscalar.specs.Fitted.{fitted}

unfoldable pub factorial : ℕ → ℕ
factorial zero = 1
factorial (suc n) = suc n * factorial n

-- the ways to choose k of n, by Pascal's rule: the first of suc n is taken, or it isn't
unfoldable pub ways : ℕ → ℕ → ℕ
ways zero n = 1
ways (suc k) zero = 0
ways (suc k) (suc n) = ways k n + ways (suc k) n

-- of a number that isn't negative
unfoldable pub factorial_of : ℤ → Result ℤ Fault
factorial_of (pos n) = fitted (pos (factorial n))
factorial_of (negsuc n) = Err Nonce

-- the ways to choose x of y, of which there are none for a negative x, for a y that isn't negative
unfoldable pub out_of : ℤ → ℤ → Result ℤ Fault
out_of (pos x) (pos y) = fitted (pos (ways x y))
out_of (negsuc x) (pos y) = Ok (pos 0)
out_of x (negsuc y) = Err Nonce
