-- The one fault of each verb whose answer is made before its flag.
use Rattle.std.proofs.Common.{◌≡◌, ◌∙◌, sym, subst, ℕ, suc, Bool, true, false, cond, Option, Some, None, Result, Ok, Err}
use Rattle.std.specs.Prelude.{ℤ, pos, negsuc, unsigned_abs, ◌==◌}
use Rattle.std.specs.Int.{int_pow}
use Rattle.jdata.specs.declared.fault.Fault.{Fault}
use Rattle.jdata.specs.declared.fault.Fault.TheVariants.{Nonce, Domain}
use Rattle.jdata.specs.Fits.{is_within_64_bits}
use Rattle.jscalar.specs.Fitted.{fitted}
use Rattle.jscalar.specs.Flagged.{flagged, IsOnly}
use Rattle.jscalar.specs.Quotients.{whole_quotient, reciprocal}
use Rattle.jscalar.specs.Powers.{power, exponential, root, whole}
use Rattle.jscalar.specs.Choices.{factorial_of, out_of}
use Rattle.jscalar.specs.Truths.{not_or, not_and}

pub by_flag : (fault : Fault) (r meant : Result ℤ Fault) (n : ℤ) (none : Bool) → r ≡ meant → IsOnly fault meant → (IsOnly fault r → r ≡ flagged fault n none) → meant ≡ flagged fault n none
by_flag fault r meant n none e only h = sym e ∙ h (subst (IsOnly fault) (sym e) only)

number : {fault : Fault} {n : ℤ} → IsOnly fault (Ok n)
number {fault} {n} = record { tells = λ other e. cc }

fault : {why : Fault} → IsOnly why (Err why)
fault {why} = record { tells = λ other e. cc }

either : {why : Fault} (b : Bool) (r s : Result ℤ Fault) → IsOnly why r → IsOnly why s → IsOnly why (cond b r s)
either true r s h k = h
either false r s h k = k

pub only_fitted : (z : ℤ) → IsOnly Nonce (fitted z)
unfolding fitted
only_fitted z = either (is_within_64_bits z) (Ok z) (Err Nonce) number fault

pub only_quotient : (x y : ℤ) → IsOnly Nonce (whole_quotient x y)
unfolding whole_quotient
only_quotient x y = either _ _ _ (either _ _ _ number fault) (either _ _ _ (only_fitted _) fault)

pub only_reciprocal : (y : ℤ) → IsOnly Nonce (reciprocal y)
unfolding reciprocal
only_reciprocal y = either _ _ _ number fault

pub only_power : (x y : ℤ) → IsOnly Nonce (power x y)
unfolding power
only_power x (pos y) = only_fitted (int_pow x y)
only_power x (negsuc y) = either (unsigned_abs x == 1) (Ok (int_pow x (suc y))) (Err Nonce) number fault

pub only_exponential : (y : ℤ) → IsOnly Nonce (exponential y)
unfolding exponential
only_exponential y = either _ _ _ number fault

only_whole : (r : Option ℕ) → IsOnly Nonce (whole r)
only_whole (Some r) = number
only_whole None = fault

pub only_root : (x y : ℤ) → IsOnly Nonce (root x y)
unfolding root
only_root (pos x) (pos y) = either _ _ _ fault (only_whole _)
only_root (pos x) (negsuc y) = fault
only_root (negsuc x) y = fault

pub only_factorial : (y : ℤ) → IsOnly Nonce (factorial_of y)
unfolding factorial_of
only_factorial (pos n) = only_fitted _
only_factorial (negsuc n) = fault

pub only_out_of : (x y : ℤ) → IsOnly Nonce (out_of x y)
unfolding out_of
only_out_of (pos x) (pos y) = only_fitted _
only_out_of (negsuc x) (pos y) = number
only_out_of (pos x) (negsuc y) = fault
only_out_of (negsuc x) (negsuc y) = fault

pub only_not_or : (x y : ℤ) → IsOnly Domain (not_or x y)
unfolding not_or
only_not_or x y = either _ _ _ number fault

pub only_not_and : (x y : ℤ) → IsOnly Domain (not_and x y)
unfolding not_and
only_not_and x y = either _ _ _ number fault
