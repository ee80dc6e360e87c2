-- A log whose members are, one by one, first members of another has no more of them.
use Rattle.std.proofs.Common.{◌≡◌, suc, ◌≤◌, arith, refl, sym, ap, subst, inl, inr, ◌⊎◌, List, [], ◌∷◌, Bool, true, false, cond, le_trans}
use Rattle.jlaws.proofs.Logs.{keep, Stage, tally}
use Rattle.jlaws.proofs.Stages.{decide, now}

module _ {A P : Type 0} (same : P → P → Bool) (same_true : (a b : P) → same a b ≡ true → a ≡ b) (same_refl : (a : P) → same a a ≡ true) (who : A → P) (c : A → Bool) where
  abbrev pub mine : P → List A → List A
  mine a = keep (λ e. same a (who e))

  -- without the newest member of `a`
  abbrev without : P → List A → List A
  without a [] = []
  without a (e ∷ l) = cond (same a (who e)) l (e ∷ without a l)

  without_own : (a : P) (z : A) (m : List A) (l : List A) → mine a l ≡ (z ∷ m) → mine a (without a l) ≡ m
  without_own a z m [] h = cc
  without_own a z m (e ∷ l) h = elim (decide (same a (who e))) [
    | inl y ↦ rw y (let g : (e ∷ mine a l) ≡ (z ∷ m) = rw y at h in cc)
    | inr n ↦ rw (n, n) (without_own a z m l (rw n at h))
  ]

  without_other : (a b : P) (l : List A) → same b a ≡ false → mine b (without a l) ≡ mine b l
  without_other a b [] h = refl
  without_other a b (e ∷ l) h = elim (decide (same a (who e))) [
    | inl y ↦ let f : same b (who e) ≡ false = subst (λ v. same b v ≡ false) (same_true a (who e) y) h in rw (y, f) refl
    | inr n ↦ rw n (elim (decide (same b (who e))) [ inl f ↦ rw f (ap (λ v. e ∷ v) (without_other a b l h)) | inr f ↦ rw f (without_other a b l h) ])
  ]

  swapped : (z e : A) (l m : List A) → tally c l ≡ tally c (z ∷ m) → tally c (e ∷ l) ≡ tally c (z ∷ (e ∷ m))
  swapped z e l m i = elim (decide (c z)) [
    | inl y ↦ elim (decide (c e)) [ inl f ↦ rw (y, f) (ap suc (rw y at i)) | inr f ↦ rw (y, f) (rw y at i) ]
    | inr y ↦ elim (decide (c e)) [ inl f ↦ rw (y, f) (ap suc (rw y at i)) | inr f ↦ rw (y, f) (rw y at i) ]
  ]

  without_tally : (a : P) (z : A) (m : List A) (l : List A) → mine a l ≡ (z ∷ m) → tally c l ≡ tally c (z ∷ without a l)
  without_tally a z m [] h = cc
  without_tally a z m (e ∷ l) h = elim (decide (same a (who e))) [
    | inl y ↦ let g : (e ∷ mine a l) ≡ (z ∷ m) = rw y at h in let f : e ≡ z = cc in rw y (ap (λ v. tally c (v ∷ l)) f)
    | inr n ↦ rw n (let i : tally c l ≡ tally c (z ∷ without a l) = without_tally a z m l (rw n at h) in swapped z e l (without a l) i)
  ]

  empty : (l : List A) → ((a : P) → Stage (mine a l) []) → l ≡ []
  empty [] h = refl
  empty (e ∷ l) h =
      let k : (e ∷ mine (who e) l) ≡ [] = let j : mine (who e) (e ∷ l) ≡ [] = h (who e) in rw (same_refl (who e)) at j in
      cc

  least : (z : A) (r : List A) → tally c r ≤ tally c (z ∷ r)
  least z r = elim (decide (c z)) [ inl y ↦ rw y (omega arith) | inr y ↦ rw y (omega arith) ]

  more : (z : A) (l r : List A) → tally c l ≤ tally c r → tally c (z ∷ l) ≤ tally c (z ∷ r)
  more z l r h = elim (decide (c z)) [ inl y ↦ rw y (omega arith) | inr y ↦ rw y h ]

  step : (z : A) (r l : List A) → ((a : P) → Stage (mine a l) (mine a (z ∷ r))) → ((m : List A) → ((a : P) → Stage (mine a m) (mine a r)) → tally c m ≤ tally c r) → tally c l ≤ tally c (z ∷ r)
  step z r l h again = elim now_z [ inl e ↦ has e | inr k ↦ has_not k ]
    where
      now_z : (mine (who z) l ≡ (z ∷ mine (who z) r)) ⊎ Stage (mine (who z) l) (mine (who z) r)
      now_z = let k : Stage (mine (who z) l) (mine (who z) (z ∷ r)) = h (who z) in rw (same_refl (who z)) at k

      other : (a : P) → same a (who z) ≡ false → Stage (mine a l) (mine a r)
      other a n = let k : Stage (mine a l) (mine a (z ∷ r)) = h a in rw n at k

      has_not : Stage (mine (who z) l) (mine (who z) r) → tally c l ≤ tally c (z ∷ r)
      has_not k =
          let few : tally c l ≤ tally c r = again l (λ a. elim (decide (same a (who z))) [ inl y ↦ subst (λ v. Stage (mine v l) (mine v r)) (sym (same_true a (who z) y)) k | inr n ↦ other a n ]) in
          let one : tally c r ≤ tally c (z ∷ r) = least z r in
          le_trans few one

      has : mine (who z) l ≡ (z ∷ mine (who z) r) → tally c l ≤ tally c (z ∷ r)
      has e =
          let few : tally c (without (who z) l) ≤ tally c r = again (without (who z) l) (λ a. elim (decide (same a (who z))) [
            | inl y ↦ subst (λ v. Stage (mine v (without (who z) l)) (mine v r)) (sym (same_true a (who z) y)) (subst (λ v. Stage v (mine (who z) r)) (sym (without_own (who z) z (mine (who z) r) l e)) (now (mine (who z) r)))
            | inr n ↦ subst (λ v. Stage v (mine a r)) (sym (without_other (who z) a l n)) (other a n)
          ]) in
          subst (λ v. v ≤ tally c (z ∷ r)) (sym (without_tally (who z) z (mine (who z) r) l e)) (more z (without (who z) l) r few)

  pub fewer : (r l : List A) → ((a : P) → Stage (mine a l) (mine a r)) → tally c l ≤ tally c r
  fewer [] l h = rw (empty l h) (omega arith)
  fewer (z ∷ r) l h = step z r l h (λ m k. fewer r m k)
