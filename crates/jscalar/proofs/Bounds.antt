-- Lemmas on numbers within 64 signed bits.
use Rattle.std.proofs.Common.{◌≡◌, true≢false, false, ◌≢◌, inl, inr, ℕ, ◌<◌, ◌≤◌, ◌^◌, Ok, Err, Result, sym, ap, ◌∙◌, arith}
use Rattle.std.proofs.lemmas.Int.{to_z-of_z, to_z_pos}
use Rattle.std.proofs.lemmas.Bool.{cases_lt}
use Rattle.std.specs.Prelude.{ℤ, pos, negsuc, int_lt, unsigned_abs, FitsSigned}
use Rattle.std.proofs.lemmas.Bool.Decides.{nat_tests}
use mir.Syntax.{w64, w128}
use mir.Val.{to_z, of_z}
use Rattle.jdata.specs.declared.fault.Fault.{Fault}
use Rattle.jdata.specs.declared.fault.Fault.TheVariants.{Nonce}
use Rattle.jdata.specs.Fits.{is_within_64_bits}
use Rattle.jscalar.specs.Fitted.{fitted}

pub fitted_within : (z : ℤ) → FitsSigned w64 z → fitted z ≡ Ok z
unfolding fitted is_within_64_bits
fitted_within (pos n) h = let k : n < 2 ^ 63 = h.sfits in grind (arith, nat_tests)
fitted_within (negsuc n) h = let k : n < 2 ^ 63 = h.sfits in grind (arith, nat_tests)

fitted_above : (n : ℕ) → 2 ^ 63 ≤ n → (fitted (pos n) ≡ Err Nonce) × (fitted (negsuc n) ≡ Err Nonce)
unfolding fitted is_within_64_bits
fitted_above n h = (grind (arith, nat_tests), grind (arith, nat_tests))

pub fitted_beyond : (z : ℤ) → ¬ FitsSigned w64 z → fitted z ≡ Err Nonce
fitted_beyond (pos n) h = elim (cases_lt n (2 ^ 63)) [ inl small ↦ absurd (h (record { sfits = small })) | inr never ↦ (fitted_above n (omega (arith, never))).0 ]
fitted_beyond (negsuc n) h = elim (cases_lt n (2 ^ 63)) [ inl small ↦ absurd (h (record { sfits = small })) | inr never ↦ (fitted_above n (omega (arith, never))).1 ]

-- what a checked operation gives
pub fitted_some : (n z : ℤ) → FitsSigned w64 z × (n ≡ z) → Ok (to_z w64 (of_z w64 n)) ≡ fitted z
fitted_some n z h =
    let f : FitsSigned w64 n = rw h.1 h.0 in
    ap Ok (to_z-of_z w64 n f ∙ h.1) ∙ sym (fitted_within z h.0)

pub fitted_none : (z : ℤ) → ¬ FitsSigned w64 z → Err Nonce ≡ fitted z
fitted_none z h = sym (fitted_beyond z h)

-- what a call gives, and then is given on
pub given_on : (r z : ℤ) → FitsSigned w64 z → r ≡ z → ◌≡◌ {A = Result ℤ Fault} (Ok (to_z w64 (of_z w64 r))) (Ok z)
given_on r z f e = ap Ok (ap (λ n. to_z w64 (of_z w64 n)) e ∙ to_z-of_z w64 z f)

-- a comparison of a number with 0, as the code makes it
pub zero_from_bits : (z : ℤ) → FitsSigned w64 z → of_z w64 z ≡ 0 → z ≡ pos 0
zero_from_bits (pos n) f h = ap pos h
zero_from_bits (negsuc n) f h = let k : n < 2 ^ 63 = f.sfits in absurd (omega (arith, h))

pub not_zero_from_bits : (z : ℤ) → (of_z w64 z ≡ 0 → ⊥) → z ≢ pos 0
not_zero_from_bits z h e = h (ap (of_z w64) e)

pub wide_zero_from_bits : (z : ℤ) → FitsSigned w128 z → of_z w128 z ≡ 0 → z ≡ pos 0
wide_zero_from_bits (pos n) f h = ap pos h
wide_zero_from_bits (negsuc n) f h = let k : n < 2 ^ 127 = f.sfits in absurd (omega (arith, h))

pub abs_within : (y : ℤ) → FitsSigned w64 y → int_lt y (pos 0) ≡ false → unsigned_abs y < 2 ^ 63
abs_within (pos n) f h = f.sfits
abs_within (negsuc n) f h = absurd (true≢false h)

-- a number of the code that isn't negative, and fits
pub fitted_natural : (n m : ℕ) → n < 2 ^ 63 → n ≡ m → Ok (to_z w64 n) ≡ fitted (pos m)
fitted_natural n m h e = ap Ok (to_z_pos w64 n h) ∙ sym (fitted_within (pos n) (record { sfits = h })) ∙ ap (λ k. fitted (pos k)) e
