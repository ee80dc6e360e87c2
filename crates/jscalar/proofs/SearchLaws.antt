-- Lemmas on the greatest number at which a test holds.
use Rattle.std.proofs.Common.{◌≡◌, true≢false, ℕ, zero, suc, ◌<◌, ◌≤◌, inl, inr, Bool, true, false, cond, Some, None, refl, sym, ◌∙◌, subst, arith}
use Rattle.std.proofs.lemmas.Bool.{cases_lt}
use Rattle.jscalar.specs.Searches.{greatest_up_to}

pub greatest_found : (n : ℕ) (test : ℕ → Bool) (r : ℕ) → r ≤ n → test r ≡ true → ((k : ℕ) → r < k → k ≤ n → test k ≡ false) → greatest_up_to n test ≡ Some r
unfolding greatest_up_to
greatest_found zero test r le holds above =
    let e : r ≡ 0 = omega arith in
    let t : test 0 ≡ true = subst (λ k. test k ≡ true) e holds in
    rw (t, e) refl
greatest_found (suc n) test r le holds above =
    elim (cases_lt r (suc n)) [
      | inl small ↦ rw (above (suc n) small (omega arith)) (greatest_found n test r (omega arith) holds (λ k l m. above k l (omega arith)))
      | inr never ↦
          let e : r ≡ suc n = omega arith in
          let t : test (suc n) ≡ true = subst (λ k. test k ≡ true) e holds in
          rw (t, e) refl
    ]

pub greatest_none : (n : ℕ) (test : ℕ → Bool) → ((k : ℕ) → k ≤ n → test k ≡ false) → greatest_up_to n test ≡ None
unfolding greatest_up_to
greatest_none zero test none = rw (none 0 (omega arith)) refl
greatest_none (suc n) test none = rw (none (suc n) (omega arith)) (greatest_none n test (λ k l. none k (omega arith)))

-- the greatest is no less than any at which the test holds
pub greatest_at_least : (n : ℕ) (test : ℕ → Bool) (r : ℕ) → r ≤ n → test r ≡ true → (k : ℕ) × (greatest_up_to n test ≡ Some k) × (r ≤ k)
unfolding greatest_up_to
greatest_at_least zero test r le holds =
    let e : r ≡ 0 = omega arith in
    (0, rw (subst (λ k. test k ≡ true) e holds) refl, le)
greatest_at_least (suc n) test r le holds = by_test (test (suc n)) refl (λ small. greatest_at_least n test r small holds)
  where
    by_test : (b : Bool) → test (suc n) ≡ b → (r ≤ n → (k : ℕ) × (greatest_up_to n test ≡ Some k) × (r ≤ k)) → (k : ℕ) × (cond (test (suc n)) (Some (suc n)) (greatest_up_to n test) ≡ Some k) × (r ≤ k)
    by_test true e before = (suc n, rw e refl, le)
    by_test false e before =
        elim (cases_lt r (suc n)) [
          | inl small ↦ let h = before (omega arith) in (h.0, rw e h.1, h.2)
          | inr never ↦
              let f : r ≡ suc n = omega arith in
              absurd (true≢false (sym (subst (λ k. test k ≡ true) f holds) ∙ e))
        ]

pub greatest_same : (n : ℕ) (test other : ℕ → Bool) → ((k : ℕ) → test k ≡ other k) → greatest_up_to n test ≡ greatest_up_to n other
unfolding greatest_up_to
greatest_same zero test other same = rw (same 0) refl
greatest_same (suc n) test other same = rw (same (suc n), greatest_same n test other same) refl
