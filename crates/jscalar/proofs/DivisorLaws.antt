-- Lemmas on common divisors and multiples.
use Rattle.std.proofs.Common.{◌≡◌, ◌≢◌, ℕ, zero, suc, ◌%◌, ◌<◌, ◌≤◌, max, true, false, refl, sym, ap, ◌∙◌, arith}
use Rattle.std.proofs.lemmas.Bool.{false_from_ne_true}
use Rattle.std.proofs.lemmas.Bool.Decides.{nat_tests}
use Rattle.std.proofs.lemmas.Nat.Gcd.{dvd_refl, le_of_dvd, dvd_of_mod-eq-zero, mod-eq-zero_of_dvd}
use Rattle.std.proofs.Math.Nat.{zero-mul, mod-zero, one-dvd}
use Rattle.std.specs.Prelude.{ℤ, pos, negsuc, neg_ℤ, ◌*ℤ◌, int_div, unsigned_abs, cond, Ok, Result}
use Rattle.std.specs.Option.{unwrap_or}
use Rattle.jscalar.specs.Fitted.{fitted}
use Rattle.jscalar.proofs.Bounds.{fitted_within}
use Rattle.jscalar.proofs.Fractions.{same_int, other_int}
use Rattle.jdata.specs.declared.fault.Fault.{Fault}
use Rattle.std.specs.Int.{IsGcd, ◌∣◌}
use Rattle.jscalar.specs.Divisors.{greatest_common_divisor, is_common_divisor, common_multiple}
use Rattle.jscalar.proofs.SearchLaws.{greatest_found, greatest_at_least}

zero_divides : (n : ℕ) → 0 ∣ n → n ≡ 0
zero_divides n d = sym (mod-zero n) ∙ mod-eq-zero_of_dvd 0 d

divides_both : (a b d : ℕ) → d ∣ a → d ∣ b → is_common_divisor a b d ≡ true
divides_both a b d p q =
    let u : a % d ≡ 0 = mod-eq-zero_of_dvd d p in
    let v : b % d ≡ 0 = mod-eq-zero_of_dvd d q in
    rw (u, v) refl

both_divided : (a b d : ℕ) → is_common_divisor a b d ≡ true → (d ∣ a) × (d ∣ b)
both_divided a b d t =
    let u : a % d ≡ 0 = grind (arith, nat_tests) in
    let v : b % d ≡ 0 = grind (arith, nat_tests) in
    (dvd_of_mod-eq-zero d u, dvd_of_mod-eq-zero d v)

-- the greatest common divisor is at most the greater number
within : (a b g : ℕ) → IsGcd a b g → g ≤ max a b
within zero zero g h = let e : g ≡ 0 = zero_divides g (h.2 0 (dvd_refl 0) (dvd_refl 0)) in omega arith
within (suc a) b g h = let k : g ≤ suc a = le_of_dvd (omega arith) h.0 in omega arith
within a (suc b) g h = let k : g ≤ suc b = le_of_dvd (omega arith) h.1 in omega arith

no_greater : (a b g : ℕ) → IsGcd a b g → (k : ℕ) → g < k → k ≤ max a b → is_common_divisor a b k ≡ false
no_greater a b zero h k l m =
    let e : a ≡ 0 = zero_divides a h.0 in
    let f : b ≡ 0 = zero_divides b h.1 in
    absurd (omega arith)
no_greater a b (suc g) h k l m = false_from_ne_true _ (λ t.
    let d = both_divided a b k t in
    let j : k ≤ suc g = le_of_dvd (omega arith) (h.2 k d.0 d.1) in
    omega arith)

pub gcd_from_IsGcd : (a b g : ℕ) → IsGcd a b g → g ≡ greatest_common_divisor a b
unfolding greatest_common_divisor
gcd_from_IsGcd a b g h =
    sym (ap (λ o. unwrap_or o 0) (greatest_found (max a b) (is_common_divisor a b) g (within a b g h) (divides_both a b g h.0 h.1) (no_greater a b g h)))

pub gcd_positive : (a b : ℕ) → 0 < a → 0 < greatest_common_divisor a b
unfolding greatest_common_divisor
gcd_positive a b h =
    let g = greatest_at_least (max a b) (is_common_divisor a b) 1 (omega arith) (divides_both a b 1 (one-dvd a) (one-dvd b)) in
    rw g.1 (omega (arith, g.2))

-- a number of a product that isn't 0 isn't 0
pub left_of_product : (x y : ℤ) → x *ℤ y ≢ pos 0 → 0 < unsigned_abs x
left_of_product (pos zero) (pos b) h = absurd (h (ap pos (zero-mul b)))
left_of_product (pos zero) (negsuc b) h = absurd (h (ap (λ n. neg_ℤ (pos n)) (zero-mul (suc b))))
left_of_product (pos (suc a)) y h = omega arith
left_of_product (negsuc a) y h = omega arith

pub multiple_of_zero : (x y : ℤ) → x *ℤ y ≡ pos 0 → ◌≡◌ {A = Result ℤ Fault} (Ok (pos 0)) (fitted (common_multiple x y))
unfolding common_multiple
multiple_of_zero x y e =
    sym (ap fitted (ap (λ b. cond b (pos 0) (int_div (x *ℤ y) (pos (greatest_common_divisor (unsigned_abs x) (unsigned_abs y))))) (same_int (x *ℤ y) (pos 0) e))
    ∙ fitted_within (pos 0) (record { sfits = omega arith }))

pub multiple_is : (x y : ℤ) → x *ℤ y ≢ pos 0 → int_div (x *ℤ y) (pos (greatest_common_divisor (unsigned_abs x) (unsigned_abs y))) ≡ common_multiple x y
unfolding common_multiple
multiple_is x y n =
    sym (ap (λ b. cond b (pos 0) (int_div (x *ℤ y) (pos (greatest_common_divisor (unsigned_abs x) (unsigned_abs y))))) (other_int (x *ℤ y) (pos 0) n))
