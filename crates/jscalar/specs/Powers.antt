-- Powers and roots (NuVoc "^" Power, "^" Exponential, "%:" Root, "%:" Square root).
use Rattle.std.specs.Prelude.{ℕ, suc, ◌^◌, ◌==◌, if◌then◌else◌, Option, Some, None, ℤ, pos, negsuc, unsigned_abs, Result, Ok, Err}
use Rattle.std.specs.Int.{int_pow}
use Rattle.std.specs.Ordering.{int_eq}
use Rattle.jdata.specs.declared.fault.Fault.{Fault}
use Rattle.jdata.specs.declared.fault.Fault.TheVariants.{Nonce}
use Rattle.jscalar.specs.Fitted.{fitted}
use Rattle.jscalar.specs.Searches.{greatest_up_to}

-- x to the power y; a negative power is whole for 1 and -1 alone, which are their own reciprocals
unfoldable pub power : ℤ → ℤ → Result ℤ Fault
power x (pos y) = fitted (int_pow x y)
power x (negsuc y) = if unsigned_abs x == 1 then Ok (int_pow x (suc y)) else Err Nonce

-- the power of e, which is whole for 0 alone
unfoldable pub exponential : ℤ → Result ℤ Fault
exponential y = if int_eq y (pos 0) then Ok (pos 1) else Err Nonce

abbrev pub whole : Option ℕ → Result ℤ Fault
whole (Some r) = Ok (pos r)
whole None = Err Nonce

-- the whole r with r to the power x equal to y, for an x of at least 1 and a y that isn't negative
unfoldable pub root : ℤ → ℤ → Result ℤ Fault
root (pos x) (pos y) = if x == 0 then Err Nonce else whole (greatest_up_to y (λ r. r ^ x == y))
root x y = Err Nonce
