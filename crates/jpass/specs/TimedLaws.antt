-- Nothing, and one after another.
use Rattle.std.specs.Prelude.{ℕ, List, [], ◌∷◌, ◌++◌, refl}
use Rattle.std.proofs.Common.{◌≡◌, inl, inr, sym, subst, ap}
use Rattle.juses.specs.Entries.{entry}
use Rattle.juses.specs.Histories.{Once}
use Rattle.juses.specs.Told.{Told, Replied, Handed, NoneDue}
use Rattle.juses.specs.declared.uses.Entry.{Entry}
use Rattle.juses.specs.declared.uses.Use.TheVariants.{Begin}
use Rattle.juses.specs.declared.uses.Reply.TheVariants.{Done}
use Rattle.jpass.specs.Timed.{Timed, made, helped_by, helped_after}

pub once_self : (h : List Entry) → Once h h
once_self [] = refl
once_self (e ∷ h) = inl refl

pub once_none : (h : List Entry) → Once [] h
once_none [] = refl
once_none (e ∷ h) = inr (once_none h)

pub once_again : (p h j : List Entry) → Once p h → Once h j → Once p j
once_again p h [] a b = let P : List Entry → Type 0 = Once p in subst P b a
once_again p h (e ∷ j) a (inl is) = let P : List Entry → Type 0 = Once p in subst P is a
once_again p h (e ∷ j) a (inr b) = inr (once_again p h j a b)

pub made_both : (xs ys : List Told) → made (xs ++ ys) ≡ made xs ++ made ys
made_both [] ys = refl
made_both (Replied e ∷ xs) ys = ap (λ l. e ∷ l) (made_both xs ys)
made_both (Handed why task on work ∷ xs) ys = ap (λ l. entry task on Begin Done ∷ l) (made_both xs ys)
made_both (NoneDue why ∷ xs) ys = made_both xs ys

pub helped_both : (helped : List (List ℕ)) (xs ys : List Told) → helped_after helped (xs ++ ys) ≡ helped_after (helped_after helped xs) ys
helped_both helped [] ys = refl
helped_both helped (x ∷ xs) ys = helped_both (helped_by helped x) xs ys

module _ (workers thread : ℕ) where
  pub timed_later : (from : List Entry) (helped : List (List ℕ)) (xs : List Told) (ps : List ℕ) (h j : List Entry) → Timed workers thread from helped xs ps h → Once h j → Timed workers thread from helped xs ps j
  timed_later from helped [] ps h j t o = (t.0, once_again from h j t.1 o)
  timed_later from helped (Replied e ∷ xs) ps h j (k, qs, is, a, b, t) o = (k, qs, is, a, b, timed_later (e ∷ k) (helped_by helped (Replied e)) xs qs h j t o)
  timed_later from helped (Handed why task on work ∷ xs) ps h j (k, qs, is, a, b, t) o = (k, qs, is, a, b, timed_later (entry task on Begin Done ∷ k) (helped_by helped (Handed why task on work)) xs qs h j t o)
  timed_later from helped (NoneDue why ∷ xs) ps h j (k, a, b, t) o = (k, a, b, timed_later k helped xs ps h j t o)

  pub timed_earlier : (before from : List Entry) (helped : List (List ℕ)) (xs : List Told) (ps : List ℕ) (h : List Entry) → Once before from → Timed workers thread from helped xs ps h → Timed workers thread before helped xs ps h
  timed_earlier before from helped [] ps h o t = (t.0, once_again before from h o t.1)
  timed_earlier before from helped (Replied e ∷ xs) ps h o (k, qs, is, a, b, t) = (k, qs, is, once_again before from k o a, b, t)
  timed_earlier before from helped (Handed why task on work ∷ xs) ps h o (k, qs, is, a, b, t) = (k, qs, is, once_again before from k o a, b, t)
  timed_earlier before from helped (NoneDue why ∷ xs) ps h o (k, a, b, t) = (k, once_again before from k o a, b, t)

  pub timed_joins : (from : List Entry) (helped : List (List ℕ)) (xs : List Told) (ps : List ℕ) (h : List Entry) (ys : List Told) (qs : List ℕ) (j : List Entry)
      → Timed workers thread from helped xs ps h → Timed workers thread h (helped_after helped xs) ys qs j → Timed workers thread from helped (xs ++ ys) (ps ++ qs) j
  timed_joins from helped [] ps h ys qs j t u =
      subst (λ l. Timed workers thread from helped ys l j) (sym (ap (λ l. l ++ qs) t.0)) (timed_earlier from h helped ys qs j t.1 u)
  timed_joins from helped (Replied e ∷ xs) ps h ys qs j (k, rs, is, a, b, t) u =
      (k, rs ++ qs, ap (λ l. l ++ qs) is, a, b, timed_joins (e ∷ k) (helped_by helped (Replied e)) xs rs h ys qs j t u)
  timed_joins from helped (Handed why task on work ∷ xs) ps h ys qs j (k, rs, is, a, b, t) u =
      (k, rs ++ qs, ap (λ l. l ++ qs) is, a, b, timed_joins (entry task on Begin Done ∷ k) (helped_by helped (Handed why task on work)) xs rs h ys qs j t u)
  timed_joins from helped (NoneDue why ∷ xs) ps h ys qs j (k, a, b, t) u = (k, a, b, timed_joins k helped xs ps h ys qs j t u)
