-- Quotients and residues (NuVoc "%" Divided by, "-:" Halve, "%" Reciprocal, "|" Residue).
use Rattle.std.specs.Prelude.{ℤ, pos, negsuc, suc, neg_ℤ, ◌-ℤ◌, ◌*ℤ◌, int_div, int_rem, unsigned_abs, ◌==◌, if◌then◌else◌, Result, Ok, Err}
use Rattle.std.specs.Int.{int_div_euclid}
use Rattle.std.specs.Ordering.{int_eq}
use Rattle.jdata.specs.declared.fault.Fault.{Fault}
use Rattle.jdata.specs.declared.fault.Fault.TheVariants.{Nonce}
use Rattle.jscalar.specs.Fitted.{fitted}

-- x over y where that is whole; 0 over 0 is 0
unfoldable pub whole_quotient : ℤ → ℤ → Result ℤ Fault
whole_quotient x y =
    if int_eq y (pos 0)
    then (if int_eq x (pos 0) then Ok (pos 0) else Err Nonce)
    else (if int_eq (int_rem x y) (pos 0) then fitted (int_div x y) else Err Nonce)

-- 1 over y where that is whole: 1 and -1 are their own reciprocals
unfoldable pub reciprocal : ℤ → Result ℤ Fault
reciprocal y = if unsigned_abs y == 1 then Ok y else Err Nonce

-- y over x, rounded down: by a positive divisor this is the Euclidean quotient, and by a negative one
-- the quotient of the negated numbers
unfoldable pub floor_quotient : ℤ → ℤ → ℤ
floor_quotient y (pos x) = int_div_euclid y (pos x)
floor_quotient y (negsuc x) = int_div_euclid (neg_ℤ y) (pos (suc x))

-- what is left of y when the whole multiples of x are taken away; with 0 all of it
unfoldable pub residue : ℤ → ℤ → ℤ
residue x y = if int_eq x (pos 0) then y else y -ℤ (x *ℤ floor_quotient y x)
