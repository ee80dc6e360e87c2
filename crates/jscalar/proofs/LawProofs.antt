-- The laws of the scalar verbs.
use Rattle.std.proofs.Common.{◌≡◌, cond, ℕ, zero, suc, ◌+◌, ◌*◌, ◌%◌, ◌^◌, ◌<◌, ◌≤◌, Bool, true, false, Option, Some, None, Ok, refl, sym, ap, ◌∙◌, subst, arith}
use Rattle.std.proofs.lemmas.Bool.Decides.{nat_tests}
use Rattle.std.proofs.lemmas.Int.{ints}
use Rattle.std.proofs.lemmas.Nat.{mod_below}
use Rattle.std.proofs.lemmas.Nat.Gcd.{IsGcd-from_zero, IsGcd-from_mod}
use Rattle.std.proofs.Math.Nat.{mul_assoc, mul_comm, one-mul, le_refl, pow-lt-pow_left}
use Rattle.std.specs.Prelude.{ℤ, pos, negsuc, ◌≤ℤ◌, ◌<ℤ◌, ◌+ℤ◌, int_lt}
use Rattle.std.specs.Int.{IsGcd, int_rem_euclid}
use Rattle.jscalar.specs.Searches.{greatest_up_to}
use Rattle.jscalar.specs.Powers.{root, whole}
use Rattle.jscalar.specs.Choices.{factorial, ways}
use Rattle.jscalar.specs.Quotients.{residue}
use Rattle.jscalar.specs.Laws.{DivisorIsGreatest, WaysAreByFactorials, RootsUndoPowers, ResidueIsWithin}
use Rattle.jscalar.proofs.DivisorLaws.{gcd_from_IsGcd}
use Rattle.jscalar.proofs.ChoiceLaws.{ways_of_none, absorbed, factorial_next, factorial_of_none}
use Rattle.jscalar.proofs.RootLaws.{IsFloorRoot, root_found, root_is, is_root}
use Rattle.jscalar.proofs.Fractions.{residue_of_positive, residue_of_negative, residue_of_negative_none}

gcd_exists : (n a b : ℕ) → b ≤ n → (g : ℕ) × IsGcd a b g
gcd_exists n a zero h = (a, IsGcd-from_zero a 0 refl)
gcd_exists zero a (suc b) h = absurd (omega arith)
gcd_exists (suc n) a (suc b) h =
    let r = gcd_exists n (suc b) (a % suc b) (omega (arith, mod_below a (suc b) (omega arith))) in
    (r.0, IsGcd-from_mod a (suc b) r.0 r.1)

pub divisor_is_greatest : DivisorIsGreatest
divisor_is_greatest a b =
    let r = gcd_exists b a b (le_refl b) in
    subst (IsGcd a b) (gcd_from_IsGcd a b r.0 r.1) r.1

regroup : (w s t v f g : ℕ) → w * s ≡ v * t → w * ((f * s) * g) ≡ (v * (f * g)) * t
regroup w s t v f g e =
    ap (λ x. w * x) (ap (λ x. x * g) (mul_comm f s) ∙ mul_assoc s f g)
    ∙ sym (mul_assoc w s (f * g))
    ∙ ap (λ x. x * (f * g)) e
    ∙ mul_assoc v t (f * g)
    ∙ ap (λ x. v * x) (mul_comm t (f * g))
    ∙ sym (mul_assoc v (f * g) t)

pub ways_are_by_factorials : WaysAreByFactorials
ways_are_by_factorials zero left =
    let e : left + 0 ≡ left = omega arith in
    rw (e, ways_of_none left, factorial_of_none) (one-mul (1 * factorial left) ∙ one-mul (factorial left))
ways_are_by_factorials (suc k) left =
    let e : left + suc k ≡ suc (left + k) = omega arith in
    rw (e, factorial_next k) (regroup (ways (suc k) (suc (left + k))) (suc k) (suc (left + k)) (ways k (left + k)) (factorial k) (factorial left) (absorbed (left + k) k)
    ∙ ap (λ x. x * suc (left + k)) (ways_are_by_factorials k left)
    ∙ sym (factorial_next (left + k)))

-- the test holds of what is found
found_holds : (n : ℕ) (test : ℕ → Bool) (r : ℕ) → greatest_up_to n test ≡ Some r → test r ≡ true
unfolding greatest_up_to
found_holds zero test r e = by_test (test 0) refl e
  where
    by_test : (b : Bool) → test 0 ≡ b → cond b (Some 0) None ≡ Some r → test r ≡ true
    by_test true p e = let q : 0 ≡ r = cc in subst (λ k. test k ≡ true) q p
    by_test false p e = cc
found_holds (suc n) test r e = by_test (test (suc n)) refl e (λ f. found_holds n test r f)
  where
    by_test : (b : Bool) → test (suc n) ≡ b → cond b (Some (suc n)) (greatest_up_to n test) ≡ Some r → (greatest_up_to n test ≡ Some r → test r ≡ true) → test r ≡ true
    by_test true p e before = let q : suc n ≡ r = cc in subst (λ k. test k ≡ true) q p
    by_test false p e before = before e

whole_is : (o : Option ℕ) (r : ℕ) → whole o ≡ Ok (pos r) → o ≡ Some r
whole_is (Some n) r e = ap Some (cc)
whole_is None r e = cc

root_here : (degree y : ℕ) → 0 < degree → whole (greatest_up_to y (is_root degree y)) ≡ root (pos degree) (pos y)
root_here degree y h = root_is (pos degree) (pos y) (grind (arith, nat_tests)) (grind (arith, nat_tests))

pub roots_undo_powers : RootsUndoPowers
roots_undo_powers degree base h =
    let above : base ^ degree < (base + 1) ^ degree = pow-lt-pow_left {a = base} {b = base + 1} (omega arith) (omega arith) in
    let floor : IsFloorRoot degree (base ^ degree) base = record { within = le_refl (base ^ degree); next = above } in (
      sym (root_here degree (base ^ degree) h) ∙ ap whole (root_found degree (base ^ degree) base h floor refl),
      λ y e.
          let found = whole_is (greatest_up_to y (is_root degree y)) base (root_here degree y h ∙ e) in
          let holds = found_holds y (is_root degree y) base found in
          grind (arith, nat_tests),
    )

rest_below : (y : ℤ) (n : ℕ) → 0 < n → (pos 0 ≤ℤ int_rem_euclid y (pos n)) × (int_rem_euclid y (pos n) <ℤ pos n)
rest_below (pos a) n h = (omega (arith, ints), omega (arith, ints, mod_below a n h))
rest_below (negsuc a) n h = (omega (arith, ints), omega (arith, ints, mod_below a n h))

same_rest : (y : ℤ) (m : ℕ) → int_rem_euclid y (negsuc m) ≡ int_rem_euclid y (pos (suc m))
same_rest (pos a) m = refl
same_rest (negsuc a) m = refl

residue_up : (n : ℕ) (y : ℤ) → 0 < n → (pos 0 ≤ℤ residue (pos n) y) × (residue (pos n) y <ℤ pos n)
residue_up n y h = rw (residue_of_positive (pos n) y (λ e. absurd (omega (arith, ints, e))) (grind (arith, nat_tests))) (rest_below y n h)

shifted : (r : ℤ) (m : ℕ) → pos 0 ≤ℤ r → r <ℤ pos (suc m) → int_lt (pos 0) r ≡ true → (negsuc m <ℤ (r +ℤ negsuc m)) × ((r +ℤ negsuc m) ≤ℤ pos 0)
shifted r m p q e = (grind (arith, ints), grind (arith, ints))

unshifted : (r : ℤ) (m : ℕ) → int_lt (pos 0) r ≡ false → pos 0 ≤ℤ r → (negsuc m <ℤ r) × (r ≤ℤ pos 0)
unshifted r m e p = (grind (arith, ints), grind (arith, ints))

residue_down : (m : ℕ) (y : ℤ) → (negsuc m <ℤ residue (negsuc m) y) × (residue (negsuc m) y ≤ℤ pos 0)
residue_down m y = by_test (int_lt (pos 0) (int_rem_euclid y (negsuc m))) refl
  where
    bounds : (pos 0 ≤ℤ int_rem_euclid y (negsuc m)) × (int_rem_euclid y (negsuc m) <ℤ pos (suc m))
    bounds = rw (same_rest y m) (rest_below y (suc m) (omega arith))

    by_test : (b : Bool) → int_lt (pos 0) (int_rem_euclid y (negsuc m)) ≡ b → (negsuc m <ℤ residue (negsuc m) y) × (residue (negsuc m) y ≤ℤ pos 0)
    by_test true e = rw (residue_of_negative (negsuc m) y refl e) (shifted (int_rem_euclid y (negsuc m)) m bounds.0 bounds.1 e)
    by_test false e = rw (residue_of_negative_none (negsuc m) y refl e) (unshifted (int_rem_euclid y (negsuc m)) m e bounds.0)

pub residue_is_within : ResidueIsWithin
residue_is_within (pos n) y = (λ h. residue_up n y (omega (arith, ints, h)), λ h. absurd (omega (arith, ints, h)))
residue_is_within (negsuc m) y = (λ h. absurd (omega (arith, ints, h)), λ _. residue_down m y)
