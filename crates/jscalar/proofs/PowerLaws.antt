-- Lemmas on powers.
use Rattle.std.proofs.Common.{◌≡◌, true≢false, ◌≢◌, eqb, ℕ, zero, suc, ◌%◌, ◌^◌, ◌<◌, ◌≤◌, Bool, true, false, cond, Ok, Err, refl, ap, ◌∙◌, arith}
use Rattle.std.proofs.lemmas.Bool.Decides.{nat_tests}
use Rattle.std.proofs.Math.Nat.{pow-zero, pow-suc, mul-one, mul-zero, pow-le-pow_left, pow-le-pow_right}
use Rattle.std.specs.Prelude.{ℤ, pos, negsuc, neg_ℤ, ◌*ℤ◌, int_lt, unsigned_abs, FitsSigned}
use Rattle.std.specs.Int.{int_pow}
use mir.Syntax.{w64}
use mir.Val.{to_z, of_z}
use lib.Signed.{nat_abs-le}
use Rattle.jdata.specs.declared.fault.Fault.TheVariants.{Nonce}
use Rattle.jscalar.specs.Fitted.{fitted}
use Rattle.jscalar.specs.Powers.{power, exponential}
use Rattle.jscalar.proofs.Fractions.{same_int, other_int}

pub exponential_of_zero : (y : ℤ) → y ≡ pos 0 → Ok (pos 1) ≡ exponential y
unfolding exponential
exponential_of_zero y e = rw (same_int y (pos 0) e) refl

pub exponential_of_other : (y : ℤ) → y ≢ pos 0 → Err Nonce ≡ exponential y
unfolding exponential
exponential_of_other y n = rw (other_int y (pos 0) n) refl

pub one_power : (e : ℕ) → 1 ^ e ≡ 1
one_power zero = pow-zero 1
one_power (suc e) = pow-suc 1 e ∙ mul-one (1 ^ e) ∙ one_power e

pub zero_power : (e : ℕ) → e ≢ 0 → 0 ^ e ≡ 0
zero_power zero h = absurd (h refl)
zero_power (suc e) h = pow-suc 0 e ∙ mul-zero (0 ^ e)

pub power_zero : (b : ℤ) → int_pow b 0 ≡ pos 1
power_zero (pos a) = ap pos (pow-zero a)
power_zero (negsuc a) = ap pos (pow-zero (suc a))

pub even_power : (b : ℤ) (e : ℕ) → unsigned_abs b < 2 → e ≢ 0 → e % 2 ≡ 0 → int_pow b e ≡ b *ℤ b
even_power (pos zero) e h n p = ap pos (zero_power e n)
even_power (pos (suc zero)) e h n p = ap pos (one_power e)
even_power (pos (suc (suc a))) e h n p = absurd (omega arith)
even_power (negsuc zero) e h n p = let t : eqb (e % 2) 0 ≡ true = grind (arith, nat_tests) in rw t (ap pos (one_power e))
even_power (negsuc (suc a)) e h n p = absurd (omega arith)

pub odd_power : (b : ℤ) (e : ℕ) → unsigned_abs b < 2 → e ≢ 0 → e % 2 ≢ 0 → int_pow b e ≡ b
odd_power (pos zero) e h n p = ap pos (zero_power e n)
odd_power (pos (suc zero)) e h n p = ap pos (one_power e)
odd_power (pos (suc (suc a))) e h n p = absurd (omega arith)
odd_power (negsuc zero) e h n p = let t : eqb (e % 2) 0 ≡ false = grind (arith, nat_tests) in rw t (ap (λ k. neg_ℤ (pos k)) (one_power e))
odd_power (negsuc (suc a)) e h n p = absurd (omega arith)

abs-neg : (n : ℕ) → unsigned_abs (neg_ℤ (pos n)) ≡ n
abs-neg zero = refl
abs-neg (suc n) = refl

pub abs-power : (b : ℤ) (e : ℕ) → unsigned_abs (int_pow b e) ≡ unsigned_abs b ^ e
abs-power (pos a) e = refl
abs-power (negsuc a) e = by_test (eqb (e % 2) 0)
  where
    by_test : (t : Bool) → unsigned_abs (cond t (pos (suc a ^ e)) (neg_ℤ (pos (suc a ^ e)))) ≡ suc a ^ e
    by_test true = refl
    by_test false = abs-neg (suc a ^ e)

-- a power of 2 or more to the degree 64 or more is beyond 64 bits
pub great_power_beyond : (b : ℤ) (e : ℕ) → 2 ≤ unsigned_abs b → 64 ≤ e → ¬ FitsSigned w64 (int_pow b e)
great_power_beyond b e h k f =
    let low : 2 ^ 64 ≤ 2 ^ e = pow-le-pow_right {n = 2} (omega arith) k in
    let high : 2 ^ e ≤ unsigned_abs b ^ e = pow-le-pow_left h e in
    let size : unsigned_abs (int_pow b e) ≤ 2 ^ 63 = nat_abs-le (int_pow b e) f.sfits in
    omega (arith, low, high, size, abs-power b e)

pub power_of_unit : (x y : ℤ) → int_lt y (pos 0) ≡ true → unsigned_abs x ≡ 1 → Ok (int_pow x (unsigned_abs y)) ≡ power x y
unfolding power
power_of_unit x (pos n) p e = absurd (grind (arith, nat_tests))
power_of_unit x (negsuc n) p e = rw e refl

pub no_power : (x y : ℤ) → int_lt y (pos 0) ≡ true → unsigned_abs x ≢ 1 → Err Nonce ≡ power x y
unfolding power
no_power x (pos n) p e = absurd (grind (arith, nat_tests))
no_power x (negsuc n) p e = let t : eqb (unsigned_abs x) 1 ≡ false = grind (arith, nat_tests) in rw t refl

pub whole_power : (x y : ℤ) → int_lt y (pos 0) ≡ false → fitted (int_pow x (unsigned_abs y)) ≡ power x y
unfolding power
whole_power x (pos n) p = refl
whole_power x (negsuc n) p = absurd (true≢false p)

pub small_square_kept : (b : ℤ) → unsigned_abs b < 2 → to_z w64 (of_z w64 (b *ℤ b)) ≡ b *ℤ b
small_square_kept (pos zero) h = refl
small_square_kept (pos (suc zero)) h = refl
small_square_kept (pos (suc (suc a))) h = absurd (omega arith)
small_square_kept (negsuc zero) h = refl
small_square_kept (negsuc (suc a)) h = absurd (omega arith)
