-- Lemmas on quotients and residues.
use Rattle.std.proofs.Common.{◌≡◌, true≢false, ◌≢◌, ◌⊎◌, eqb, ℕ, zero, suc, ◌-◌, ◌/◌, ◌%◌, ◌<◌, inl, inr, Bool, true, false, Ok, Err, refl, sym, ap, ◌∙◌, arith}
use Rattle.std.proofs.lemmas.Bool.Decides.{Decides-int_eq, nat_tests}
use Rattle.std.proofs.lemmas.Int.{ints}
use Rattle.std.proofs.lemmas.Nat.{mod_below}
use Rattle.std.proofs.lemmas.Bool.{cases_lt}
use Rattle.std.proofs.Math.Nat.{suc-mod, mod_self, mod-eq_of_lt, div-add-mod, mul-suc}
use Rattle.std.specs.Prelude.{ℤ, pos, negsuc, ◌+ℤ◌, ◌-ℤ◌, ◌*ℤ◌, int_div, int_rem, int_lt, unsigned_abs, FitsSigned, SomeIff, Option, Some, None}
use Rattle.std.specs.Ordering.{int_eq}
use Rattle.std.specs.Int.{int_rem_euclid, CanDivide}
use mir.Syntax.{w64}
use mir.Val.{to_z, of_z}
use Rattle.jdata.specs.declared.fault.Fault.TheVariants.{Nonce}
use Rattle.jscalar.specs.Fitted.{fitted}
use Rattle.jscalar.specs.Quotients.{whole_quotient, reciprocal, floor_quotient, residue}

pub same_int : (x y : ℤ) → x ≡ y → int_eq x y ≡ true
same_int x y e = (Decides-int_eq x y).1 e

pub other_int : (x y : ℤ) → x ≢ y → int_eq x y ≡ false
other_int x y n = by_test (int_eq x y) refl
  where
    by_test : (b : Bool) → int_eq x y ≡ b → int_eq x y ≡ false
    by_test true e = absurd (n ((Decides-int_eq x y).0 e))
    by_test false e = e

pub zero_over_zero : (x y : ℤ) → x ≡ pos 0 → y ≡ pos 0 → Ok (pos 0) ≡ whole_quotient x y
unfolding whole_quotient
zero_over_zero x y p q = rw (same_int y (pos 0) q, same_int x (pos 0) p) refl

pub over_zero : (x y : ℤ) → x ≢ pos 0 → y ≡ pos 0 → Err Nonce ≡ whole_quotient x y
unfolding whole_quotient
over_zero x y p q = rw (same_int y (pos 0) q, other_int x (pos 0) p) refl

pub not_whole : (x y : ℤ) → y ≢ pos 0 → int_rem x y ≢ pos 0 → Err Nonce ≡ whole_quotient x y
unfolding whole_quotient
not_whole x y p q = rw (other_int y (pos 0) p, other_int (int_rem x y) (pos 0) q) refl

pub is_whole : (x y : ℤ) → y ≢ pos 0 → int_rem x y ≡ pos 0 → fitted (int_div x y) ≡ whole_quotient x y
unfolding whole_quotient
is_whole x y p q = rw (other_int y (pos 0) p, same_int (int_rem x y) (pos 0) q) refl

pub quotient_checked : (o : Option ℤ) (x y : ℤ) → (of_z w64 y ≡ 0 → ⊥) → SomeIff o (CanDivide w64 x y) (int_div x y) → SomeIff o (FitsSigned w64 (int_div x y)) (int_div x y)
quotient_checked (Some n) x y h k = (k.0.1, k.1)
quotient_checked None x y h k = λ f. k ((omega (arith, h), f))

pub own_reciprocal : (y : ℤ) → unsigned_abs y ≡ 1 → Ok y ≡ reciprocal y
unfolding reciprocal
own_reciprocal y e = rw e refl

pub no_reciprocal : (y : ℤ) → unsigned_abs y ≢ 1 → Err Nonce ≡ reciprocal y
unfolding reciprocal
no_reciprocal y n = let k : eqb (unsigned_abs y) 1 ≡ false = grind (arith, nat_tests) in rw k refl

-- the rest of the next number
suc_rest : (a n : ℕ) → 0 < n → ((suc a % n ≡ 0) × (suc (a % n) ≡ n)) ⊎ ((suc a % n ≡ suc (a % n)) × (suc (a % n) < n))
suc_rest a n h =
    elim (cases_lt (suc (a % n)) n) [
      | inl small ↦ inr ((suc-mod a n ∙ mod-eq_of_lt small, small))
      | inr never ↦ let e : suc (a % n) ≡ n = omega (arith, mod_below a n h, never) in inl ((suc-mod a n ∙ ap (λ k. k % n) e ∙ mod_self n, e))
    ]

pub residue_by_zero : (x y : ℤ) → x ≡ pos 0 → residue x y ≡ y
unfolding residue
residue_by_zero x y e = rw (same_int x (pos 0) e) refl

pub residue_is : (x y : ℤ) → x ≢ pos 0 → residue x y ≡ y -ℤ (x *ℤ floor_quotient y x)
unfolding residue
residue_is x y n = rw (other_int x (pos 0) n) refl

by_positive : (n : ℕ) (y : ℤ) → 0 < n → y -ℤ (pos n *ℤ floor_quotient y (pos n)) ≡ int_rem_euclid y (pos n)
unfolding floor_quotient
by_positive n (pos a) h = omega (arith, ints, div-add-mod a n)
by_positive n (negsuc a) h = omega (arith, ints, div-add-mod a n, mul-suc n (a / n), mod_below a n h)

-- the rest by a negative number is the Euclidean one less the divisor's size, where that one isn't 0
record IsRestBelow (m : ℕ) (y : ℤ) (r : ℤ) : Type 0 where
  pub none : int_rem_euclid y (negsuc m) ≡ pos 0 → r ≡ pos 0
  pub some : int_rem_euclid y (negsuc m) ≢ pos 0 → r ≡ int_rem_euclid y (negsuc m) +ℤ negsuc m

by_negative : (m : ℕ) (y : ℤ) → IsRestBelow m y (y -ℤ (negsuc m *ℤ floor_quotient y (negsuc m)))
unfolding floor_quotient
by_negative m (pos zero) = record { none = λ _. omega (arith, ints, div-add-mod 0 (suc m)); some = λ h. absurd (h (ap pos (omega (arith, div-add-mod 0 (suc m))))) }
by_negative m (pos (suc a)) =
    elim (suc_rest a (suc m) (omega arith)) [
      | inl e ↦ record { none = λ _. omega (arith, ints, div-add-mod a (suc m), mul-suc (suc m) (a / suc m), e.1); some = λ h. absurd (h (ap pos e.0)) }
      | inr e ↦ record { none = λ h. absurd (omega (arith, ints, h, e.0)); some = λ _. omega (arith, ints, div-add-mod a (suc m), mul-suc (suc m) (a / suc m), e.0) }
    ]
by_negative m (negsuc a) =
    elim (suc_rest a (suc m) (omega arith)) [
      | inl e ↦ record { none = λ _. omega (arith, ints, div-add-mod (suc a) (suc m), e.0); some = λ h. absurd (h (ap pos (omega (arith, e.1)))) }
      | inr e ↦ record { none = λ h. absurd (omega (arith, ints, h, e.1)); some = λ _. omega (arith, ints, div-add-mod (suc a) (suc m), e.0, e.1) }
    ]

-- the rest as the code has it, with its signs as tests
pub residue_of_positive : (x y : ℤ) → x ≢ pos 0 → int_lt x (pos 0) ≡ false → residue x y ≡ int_rem_euclid y x
residue_of_positive (pos n) y h p = residue_is (pos n) y h ∙ by_positive n y (by_zero n h)
  where
    by_zero : (n : ℕ) → pos n ≢ pos 0 → 0 < n
    by_zero zero h = absurd (h refl)
    by_zero (suc n) h = omega arith
residue_of_positive (negsuc m) y h p = absurd (true≢false p)

pub residue_of_negative : (x y : ℤ) → int_lt x (pos 0) ≡ true → int_lt (pos 0) (int_rem_euclid y x) ≡ true → residue x y ≡ int_rem_euclid y x +ℤ x
residue_of_negative (pos n) y p q = absurd (grind (arith, nat_tests))
residue_of_negative (negsuc m) y p q = residue_is (negsuc m) y (λ e. cc) ∙ (by_negative m y).some (λ e. true≢false (sym q ∙ ap (int_lt (pos 0)) e))

pub residue_of_negative_none : (x y : ℤ) → int_lt x (pos 0) ≡ true → int_lt (pos 0) (int_rem_euclid y x) ≡ false → residue x y ≡ int_rem_euclid y x
residue_of_negative_none (pos n) y p q = absurd (grind (arith, nat_tests))
residue_of_negative_none (negsuc m) y p q =
    let z : int_rem_euclid y (negsuc m) ≡ pos 0 = by_sign y q in
    residue_is (negsuc m) y (λ e. cc) ∙ (by_negative m y).none z ∙ sym z
  where
    by_test : (n : ℕ) → int_lt (pos 0) (pos n) ≡ false → pos n ≡ pos 0
    by_test zero q = refl
    by_test (suc n) q = absurd (grind (arith, nat_tests))

    by_sign : (y : ℤ) → int_lt (pos 0) (int_rem_euclid y (negsuc m)) ≡ false → int_rem_euclid y (negsuc m) ≡ pos 0
    by_sign (pos a) q = by_test (a % suc m) q
    by_sign (negsuc a) q = by_test (suc m - 1 - a % suc m) q

-- a sum of unlike signs fits
pub unlike_sum : (r x : ℤ) → FitsSigned w64 r → FitsSigned w64 x → int_lt x (pos 0) ≡ true → int_lt (pos 0) r ≡ true → to_z w64 (of_z w64 (r +ℤ x)) ≡ r +ℤ x
unlike_sum r x f g p q = grind (arith, ints)
