-- Stages of logs, and of the entries that pass a test.
use Rattle.std.proofs.Common.{◌≡◌, suc, ◌≤◌, arith, refl, sym, ap, subst, inl, inr, ◌⊎◌, List, [], ◌∷◌, ◌++◌, Bool, true, false, length}
use Rattle.jlaws.proofs.Logs.{keep, Stage}

abbrev Says : Bool → Type 0
Says b = (b ≡ true) ⊎ (b ≡ false)

pub decide : (b : Bool) → (b ≡ true) ⊎ (b ≡ false)
decide true = inl refl
decide false = inr refl

pub clash : {P : Type 0} (b : Bool) → b ≡ true → b ≡ false → P
clash b e f = cc

module _ {A : Type 0} where
  pub now : (l : List A) → Stage l l
  now [] = refl
  now (x ∷ l) = inl refl

  pub further : (s t l : List A) → Stage s t → Stage t l → Stage s l
  further s t [] h e = subst (λ v. Stage s v) e h
  further s t (x ∷ l) h (inl e) = subst (λ v. Stage s v) e h
  further s t (x ∷ l) h (inr k) = inr (further s t l h k)

  pub nothing : (x : A) (s : List A) {P : Type 0} → Stage (x ∷ s) [] → P
  nothing x s e = cc

  pub shorter : (s l : List A) → Stage s l → length s ≤ length l
  shorter s [] e = rw e (omega arith)
  shorter s (x ∷ l) (inl e) = rw e (omega arith)
  shorter s (x ∷ l) (inr h) = let k : length s ≤ length l = shorter s l h in omega arith

  -- no log is a stage of what it was before
  pub older : (x : A) (l : List A) {P : Type 0} → Stage (x ∷ l) l → P
  older x l h = let k : suc (length l) ≤ length l = shorter (x ∷ l) l h in absurd (omega arith)

  -- of two stages one is a stage of the other
  pub ordered : (s t l : List A) → Stage s l → Stage t l → Stage s t ⊎ Stage t s
  ordered s t [] e f = inl (subst (λ v. Stage s v) (sym f) (subst (λ v. Stage v []) (sym e) refl))
  ordered s t (x ∷ l) (inl e) k = inr (subst (λ v. Stage t v) (sym e) k)
  ordered s t (x ∷ l) (inr h) (inl f) = inl (subst (λ v. Stage s v) (sym f) (inr h))
  ordered s t (x ∷ l) (inr h) (inr k) = ordered s t l h k

  -- what a stage lacks
  pub lacks : (s l : List A) → Stage s l → (s ≡ l) ⊎ ((x : A) × Stage (x ∷ s) l)
  lacks s [] e = inl e
  lacks s (y ∷ l) (inl e) = inl e
  lacks s (y ∷ l) (inr h) = elim (lacks s l h) [ inl e ↦ inr (y, inl (ap (λ v. y ∷ v) e)) | inr (x, k) ↦ inr (x, inr k) ]

  module _ (p : A → Bool) where
    pub keep_yes : (x : A) (l : List A) → p x ≡ true → keep p (x ∷ l) ≡ (x ∷ keep p l)
    keep_yes x l e = rw e

    pub keep_no : (x : A) (l : List A) → p x ≡ false → keep p (x ∷ l) ≡ keep p l
    keep_no x l e = rw e

    pub kept : (s l : List A) → Stage s l → Stage (keep p s) (keep p l)
    kept s [] e = rw e refl
    kept s (x ∷ l) (inl e) = rw e (now (keep p (x ∷ l)))
    kept s (x ∷ l) (inr h) = elim (decide (p x)) [ inl e ↦ rw e (inr (kept s l h)) | inr e ↦ rw e (kept s l h) ]

    -- where a kept member stands
    abbrev place_later : (x y : A) (s l : List A) → ((t : List A) × Stage (x ∷ t) l × (keep p t ≡ s) × (p x ≡ true)) → (t : List A) × Stage (x ∷ t) (y ∷ l) × (keep p t ≡ s) × (p x ≡ true)
    place_later x y s l (t, k, e, f) = (t, inr k, e, f)

    pub place : (x : A) (s l : List A) → Stage (x ∷ s) (keep p l) → (t : List A) × Stage (x ∷ t) l × (keep p t ≡ s) × (p x ≡ true)
    place x s [] h = nothing x s h
    place x s (y ∷ l) h = elim (decide (p y)) [ inl e ↦ first e (λ k. place x s l k) (rw e at h) | inr e ↦ place_later x y s l (place x s l (rw e at h)) ]
      where
        first : p y ≡ true → (Stage (x ∷ s) (keep p l) → (t : List A) × Stage (x ∷ t) l × (keep p t ≡ s) × (p x ≡ true)) → Stage (x ∷ s) (y ∷ keep p l) → (t : List A) × Stage (x ∷ t) (y ∷ l) × (keep p t ≡ s) × (p x ≡ true)
        first e again (inl f) = (l, inl (cc), cc, cc)
        first e again (inr k) = place_later x y s l (again k)

    pub keep_none : (l : List A) → ((x : A) (t : List A) → Stage (x ∷ t) l → p x ≡ false) → keep p l ≡ []
    keep_none [] h = refl
    keep_none (x ∷ l) h = rw (h x l (inl refl)) (keep_none l (λ y t k. h y t (inr k)))

  -- a test that only members of the other pass
  pub keep_both : (q p : A → Bool) (l : List A) → ((x : A) (s : List A) → Stage (x ∷ s) l → p x ≡ false → q x ≡ false) → keep q l ≡ keep q (keep p l)
  keep_both q p [] h = refl
  keep_both q p (x ∷ l) h = both_on (keep_both q p l (λ y s k. h y s (inr k)))
    where
      both_on : keep q l ≡ keep q (keep p l) → keep q (x ∷ l) ≡ keep q (keep p (x ∷ l))
      both_on rest = elim (decide (p x)) [ inl e ↦ rw e (elim (decide (q x)) [ inl f ↦ rw f (ap (λ v. x ∷ v) rest) | inr f ↦ rw f rest ]) | inr e ↦ rw (e, h x l (inl refl) e) rest ]

  -- members newer than a stage that don't pass
  pub keep_stage : (q : A → Bool) (s l : List A) → Stage s l → ((x : A) (t : List A) → Stage (x ∷ t) l → Stage s t → q x ≡ false) → keep q l ≡ keep q s
  keep_stage q s [] e h = ap (keep q) (sym e)
  keep_stage q s (x ∷ l) (inl e) h = ap (keep q) (sym e)
  keep_stage q s (x ∷ l) (inr k) h = rw (h x l (inl refl) k) (keep_stage q s l k (λ y t i j. h y t (inr i) j))

  -- members newer than a stage that pass `q` pass `p`, and those of the stage don't pass `p`
  pub keep_split : (q p : A → Bool) (s l : List A) → Stage s l → ((x : A) (t : List A) → Stage (x ∷ t) l → Stage s t → p x ≡ false → q x ≡ false) → ((x : A) (t : List A) → Stage (x ∷ t) s → p x ≡ false) → keep q l ≡ keep q (keep p l) ++ keep q s
  keep_split q p s [] i h none = rw i refl
  keep_split q p s (x ∷ l) (inl i) h none =
      subst (λ v. keep q v ≡ keep q (keep p v) ++ keep q s) i (rw (keep_none p s none) refl)
  keep_split q p s (x ∷ l) (inr i) h none = split_on (keep_split q p s l i (λ y t j k. h y t (inr j) k) none)
    where
      split_on : keep q l ≡ keep q (keep p l) ++ keep q s → keep q (x ∷ l) ≡ keep q (keep p (x ∷ l)) ++ keep q s
      split_on rest = elim (decide (p x)) [ inl e ↦ rw e (elim (decide (q x)) [ inl f ↦ rw f (ap (λ v. x ∷ v) rest) | inr f ↦ rw f rest ]) | inr e ↦ rw (e, h x l (inl refl) i e) rest ]
