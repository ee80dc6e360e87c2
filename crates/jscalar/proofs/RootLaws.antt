-- Lemmas on whole roots.
use Rattle.std.proofs.Common.{◌≡◌, true≢false, ◌≢◌, ◌==◌, eqb, ℕ, zero, suc, ◌+◌, ◌*◌, ◌^◌, ◌<◌, ◌≤◌, min, inl, inr, Bool, true, false, Some, None, Err, refl, sym, ◌∙◌, arith}
use Rattle.std.proofs.lemmas.Bool.{cases_lt}
use Rattle.std.proofs.lemmas.Bool.Decides.{nat_tests}
use Rattle.std.proofs.Math.Nat.{pow-suc, pow-le-pow_left, pow-le-pow_right, mul-le-mul_right, one-le-pow}
use Rattle.std.specs.Prelude.{ℤ, pos, negsuc, int_lt, unsigned_abs}
use Rattle.jdata.specs.declared.fault.Fault.TheVariants.{Nonce}
use Rattle.jscalar.specs.Searches.{greatest_up_to}
use Rattle.jscalar.specs.Powers.{root, whole}
use Rattle.jscalar.proofs.SearchLaws.{greatest_found, greatest_none, greatest_same}
use Rattle.jscalar.proofs.PowerLaws.{one_power, zero_power}

-- r is the greatest number whose power is v or less
pub record IsFloorRoot (d v r : ℕ) : Type 0 where
  pub within : r ^ d ≤ v
  pub next : v < (r + 1) ^ d

abbrev pub is_root : ℕ → ℕ → ℕ → Bool
is_root d v r = r ^ d == v

-- a number is at most its power
pub at_most_power : (r d : ℕ) → 0 < d → r ≤ r ^ d
at_most_power zero d h = omega arith
at_most_power (suc r) zero h = absurd (omega arith)
at_most_power (suc r) (suc d) h =
    let one : 1 ≤ suc r ^ d = one-le-pow d (suc r) (omega arith) in
    let k : 1 * suc r ≤ suc r ^ d * suc r = mul-le-mul_right (suc r) one in
    omega (arith, pow-suc (suc r) d, k)

no_root_above : (d v r k : ℕ) → IsFloorRoot d v r → r < k → is_root d v k ≡ false
no_root_above d v r k h l =
    let m : (r + 1) ^ d ≤ k ^ d = pow-le-pow_left (omega arith) d in
    let n : v < (r + 1) ^ d = h.next in
    grind (arith, nat_tests)

no_root_below : (d v r k : ℕ) → r ^ d < v → k ≤ r → is_root d v k ≡ false
no_root_below d v r k h l =
    let m : k ^ d ≤ r ^ d = pow-le-pow_left l d in
    grind (arith, nat_tests)

pub root_found : (d v r : ℕ) → 0 < d → IsFloorRoot d v r → r ^ d ≡ v → greatest_up_to v (is_root d v) ≡ Some r
root_found d v r p h e =
    greatest_found v (is_root d v) r (omega (arith, at_most_power r d p, e)) (grind (arith, nat_tests)) (λ k l m. no_root_above d v r k h l)

pub root_missing : (d v r : ℕ) → IsFloorRoot d v r → r ^ d ≢ v → greatest_up_to v (is_root d v) ≡ None
root_missing d v r h n =
    let below : r ^ d < v = omega (arith, h.within, n) in
    greatest_none v (is_root d v) (λ k l. elim (cases_lt r k) [ inl above ↦ no_root_above d v r k h above | inr never ↦ no_root_below d v r k below (omega (arith, never)) ])

-- from 64 on each degree has the same roots
same_root : (d v r : ℕ) → v < 2 ^ 63 → 64 ≤ d → is_root d v r ≡ is_root 64 v r
same_root d v zero s h = let a : 0 ^ d ≡ 0 = zero_power d (omega arith) in rw a refl
same_root d v (suc zero) s h = let a : 1 ^ d ≡ 1 = one_power d in rw a refl
same_root d v (suc (suc r)) s h =
    let a : 2 ^ 64 ≤ suc (suc r) ^ 64 = pow-le-pow_left {n = 2} (omega arith) 64 in
    let b : suc (suc r) ^ 64 ≤ suc (suc r) ^ d = pow-le-pow_right {n = suc (suc r)} (omega arith) h in
    let p : is_root d v (suc (suc r)) ≡ false = grind (arith, nat_tests) in
    let q : is_root 64 v (suc (suc r)) ≡ false = grind (arith, nat_tests) in
    p ∙ sym q

pub same_roots : (d v : ℕ) → v < 2 ^ 63 → greatest_up_to v (is_root (min d 64) v) ≡ greatest_up_to v (is_root d v)
same_roots d v s =
    elim (cases_lt d 64) [
      | inl small ↦ let e : min d 64 ≡ d = omega arith in rw e refl
      | inr never ↦ let e : min d 64 ≡ 64 = omega (arith, never) in rw e (greatest_same v (is_root 64 v) (is_root d v) (λ r. sym (same_root d v r s (omega (arith, never)))))
    ]

pub no_root_of_low : (x y : ℤ) → int_lt x (pos 1) ≡ true → Err Nonce ≡ root x y
unfolding root
no_root_of_low (pos zero) (pos v) h = refl
no_root_of_low (pos (suc d)) (pos v) h = absurd (grind (arith, nat_tests))
no_root_of_low (pos d) (negsuc v) h = refl
no_root_of_low (negsuc d) y h = refl

pub no_root_of_negative : (x y : ℤ) → int_lt y (pos 0) ≡ true → Err Nonce ≡ root x y
unfolding root
no_root_of_negative (pos d) (pos v) h = absurd (grind (arith, nat_tests))
no_root_of_negative (pos d) (negsuc v) h = refl
no_root_of_negative (negsuc d) y h = refl

pub root_is : (x y : ℤ) → int_lt x (pos 1) ≡ false → int_lt y (pos 0) ≡ false → whole (greatest_up_to (unsigned_abs y) (is_root (unsigned_abs x) (unsigned_abs y))) ≡ root x y
unfolding root
root_is (pos zero) (pos v) h k = absurd (grind (arith, nat_tests))
root_is (pos (suc d)) (pos v) h k = let t : eqb (suc d) 0 ≡ false = grind (arith, nat_tests) in rw t refl
root_is (pos d) (negsuc v) h k = absurd (true≢false k)
root_is (negsuc d) y h k = absurd (true≢false h)
