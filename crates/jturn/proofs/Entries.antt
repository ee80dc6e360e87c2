-- The entries of a pass as the history grows, and all entries.
use Rattle.std.proofs.Common.{◌≡◌, ℕ, zero, suc, ◌+◌, ◌<◌, ◌≤◌, eqb, List, [], ◌∷◌, ◌++◌, length, sym, refl, ap, ◌∙◌, subst, arith, append_assoc}
use Rattle.std.specs.List.Sorted.{IsPermutation}
use Rattle.std.proofs.lemmas.List.Sorted.{IsPermutation-refl, IsPermutation-sym, IsPermutation-trans, IsPermutation-cons, IsPermutation-to_front, IsPermutation-middle}
use mathlib.Core.Logic.{dite}
use native.Mathlib.Decide.{ℕ_discrete, dec_le}
use Rattle.jturn.specs.Pass.{StartsWith, entry_at, entries_at}
use Rattle.jturn.specs.Turned.{one_if, times, IsOneEntry}
use Rattle.jturn.proofs.Totals.{one_here, none_else, times_append}

-- the positions are all below n
abbrev Below : ℕ → List ℕ → Type 0
Below n ps = (p : ℕ) → n ≤ p → times p ps ≡ 0

module _ {E : Type 0} where
  entry_front : (xs ys : List E) (p : ℕ) → p < length xs → entry_at (xs ++ ys) p ≡ entry_at xs p
  entry_front [] ys p h = absurd (omega arith)
  entry_front (x ∷ xs) ys zero h = refl
  entry_front (x ∷ xs) ys (suc p) h = entry_front xs ys p (omega arith)

  entry_last : (xs : List E) (y : E) → entry_at (xs ++ y ∷ []) (length xs) ≡ y ∷ []
  entry_last [] y = refl
  entry_last (x ∷ xs) y = entry_last xs y

  entries_longer : (seen more : List E) (ps : List ℕ) → Below (length seen) ps → entries_at (seen ++ more) ps ≡ entries_at seen ps
  entries_longer seen more [] h = refl
  entries_longer seen more (p ∷ ps) h = let here : p < length seen = dite (dec_le (length seen) p) (λ past. let z = h p past in let o = one_here p p refl in absurd (omega arith)) (λ before. omega arith) in
      let tail = entries_longer seen more ps (λ q le. let z = h q le in omega arith) in
      λ i. entry_front seen more p here i ++ tail i

  entries_append : (seen : List E) (ps qs : List ℕ) → entries_at seen (ps ++ qs) ≡ entries_at seen ps ++ entries_at seen qs
  entries_append seen [] qs = refl
  entries_append seen (p ∷ ps) qs = ap (λ l. entry_at seen p ++ l) (entries_append seen ps qs) ∙ sym (append_assoc (entry_at seen p) (entries_at seen ps) (entries_at seen qs))

  -- they stay the same as the history grows
  pub entries_begin : (log seen : List E) (ps : List ℕ) → StartsWith log seen → Below (length seen) ps → entries_at log ps ≡ entries_at seen ps
  entries_begin log seen ps h inside = ap (λ l. entries_at l ps) h.1 ∙ entries_longer seen h.0 ps inside

  -- one entry more
  pub entries_more : (seen : List E) (ps : List ℕ) (x : E) → Below (length seen) ps → entries_at (seen ++ x ∷ []) (ps ++ length seen ∷ []) ≡ entries_at seen ps ++ x ∷ []
  entries_more seen ps x inside = entries_append (seen ++ x ∷ []) ps (length seen ∷ []) ∙ (λ i. entries_longer seen (x ∷ []) ps inside i ++ (entry_last seen x i ++ []))

  -- two passes have the entries of both
  pub entries_joined : (log one two : List E) (ps qs : List ℕ) → StartsWith log one → StartsWith log two → Below (length one) ps → Below (length two) qs → entries_at log (ps ++ qs) ≡ entries_at one ps ++ entries_at two qs
  entries_joined log one two ps qs a b i j = entries_append log ps qs ∙ (λ k. entries_begin log one ps a i k ++ entries_begin log two qs b j k)

  entries_none : (ps : List ℕ) → entries_at {E = E} [] ps ≡ []
  entries_none [] = refl
  entries_none (p ∷ ps) = entries_none ps

  -- a list that is not empty ends in an entry
  last_of : (n : ℕ) (l : List E) → length l ≡ suc n → (front : List E) × ((x : E) × (l ≡ front ++ x ∷ []) × (length front ≡ n))
  last_of n [] e = absurd (omega arith)
  last_of n (x ∷ []) e = ([], (x, refl, omega arith))
  last_of zero (x ∷ y ∷ ys) e = absurd (omega arith)
  last_of (suc n) (x ∷ y ∷ ys) e = let h = last_of n (y ∷ ys) (omega arith) in let len = h.1.2 in (x ∷ h.0, (h.1.0, ap (λ l. x ∷ l) h.1.1, omega arith))

-- where p stands in the list
place_of : (p : ℕ) (ps : List ℕ) → 0 < times p ps → (us : List ℕ) × ((vs : List ℕ) × (ps ≡ us ++ p ∷ vs))
place_of p [] h = absurd (omega arith)
place_of p (x ∷ xs) h = dite (ℕ_discrete x p) (λ is. ([], (xs, ap (λ (n : ℕ). n ∷ xs) is))) (λ ne. let o = none_else x p ne in let t = place_of p xs (omega arith) in (x ∷ t.0, (t.1.0, ap (λ l. x ∷ l) t.1.1)))

times_middle : (p n : ℕ) (us vs : List ℕ) → times p (us ++ n ∷ vs) ≡ times p (us ++ vs) + one_if (eqb n p)
times_middle p n us vs = let a = times_append p us (n ∷ vs) in let b = times_append p us vs in omega arith

-- without the last position
one_less : (n p : ℕ) (us vs : List ℕ) → IsOneEntry (suc n) p (times p (us ++ n ∷ vs)) → IsOneEntry n p (times p (us ++ vs))
one_less n p us vs h = let a = h.0 in let b = h.1 in let m = times_middle p n us vs in dite (ℕ_discrete n p)
    (λ is. let o = one_here n p is in let z = a (omega arith) in ((λ l. absurd (omega arith)), λ l. omega arith))
    (λ ne. let o = none_else n p ne in ((λ l. let z = a (omega arith) in omega arith), λ l. let z = b (omega arith) in omega arith))

module _ {E : Type 0} where
  around : (front : List E) (x : E) (n : ℕ) (us vs : List ℕ) → length front ≡ n → Below n us → Below n vs
      → entries_at (front ++ x ∷ []) (us ++ n ∷ vs) ≡ entries_at front us ++ x ∷ entries_at front vs
  around front x n us vs len a b = let a' : Below (length front) us = λ p le. a p (omega arith) in let b' : Below (length front) vs = λ p le. b p (omega arith) in
      entries_append (front ++ x ∷ []) us (n ∷ vs) ∙ (λ i. entries_longer front (x ∷ []) us a' i ++ ((ap (entry_at (front ++ x ∷ [])) (sym len) ∙ entry_last front x) i ++ entries_longer front (x ∷ []) vs b' i))

  entries_moved : (n : ℕ) (log : List E) (ps : List ℕ) → length log ≡ n → ((p : ℕ) → IsOneEntry n p (times p ps)) → IsPermutation log (entries_at log ps)
  entries_moved zero [] ps len h = subst (IsPermutation []) (sym (entries_none ps)) (IsPermutation-refl [])
  entries_moved zero (x ∷ xs) ps len h = absurd (omega arith)
  entries_moved (suc n) log ps len h = let l = last_of n log len in let front : List E = l.0 in let x : E = l.1.0 in let log_is = l.1.1 in let front_len = l.1.2 in
      let once = (h n).0 (omega arith) in let s = place_of n ps (omega arith) in let us : List ℕ = s.0 in let vs : List ℕ = s.1.0 in let ps_is = s.1.1 in
      let rest : (p : ℕ) → IsOneEntry n p (times p (us ++ vs)) = λ p. one_less n p us vs (subst (λ (q : List ℕ). IsOneEntry (suc n) p (times p q)) ps_is (h p)) in
      let below_us : Below n us = λ p le. let z = (rest p).1 le in let t = times_append p us vs in omega arith in
      let below_vs : Below n vs = λ p le. let z = (rest p).1 le in let t = times_append p us vs in omega arith in
      let fewer : IsPermutation front (entries_at front us ++ entries_at front vs) = subst (IsPermutation front) (entries_append front us vs) (entries_moved n front (us ++ vs) front_len rest) in
      let moved : IsPermutation (front ++ x ∷ []) (entries_at front us ++ x ∷ entries_at front vs) = IsPermutation-trans _ _ _ (IsPermutation-to_front front x)
      (IsPermutation-trans _ _ _ (IsPermutation-cons x _ _ fewer) (IsPermutation-sym _ _ (IsPermutation-middle (entries_at front us) x (entries_at front vs)))) in
      subst (λ (z : List E × List E). IsPermutation z.0 z.1) (λ i. (sym log_is i, (sym (around front x n us vs front_len below_us below_vs) ∙ (λ j. entries_at (sym log_is j) (sym ps_is j))) i)) moved

  -- where each position is there once, the entries are all entries of the history, in some order
  pub entries_all : (log : List E) (ps : List ℕ) → ((p : ℕ) → IsOneEntry (length log) p (times p ps)) → IsPermutation log (entries_at log ps)
  entries_all log ps h = entries_moved (length log) log ps refl h
