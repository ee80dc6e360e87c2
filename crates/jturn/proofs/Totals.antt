-- Totals over the views, and lists that begin alike.
use Rattle.std.proofs.Common.{◌≡◌, ℕ, zero, suc, ◌+◌, ◌<◌, ◌≤◌, ◌≢◌, Bool, true, false, cond, ltb, eqb, List, [], ◌∷◌, ◌++◌, length, set, sym, refl, ap, ◌∙◌, subst, arith, eq-eqb, ne_eqb, length-append}
use Rattle.std.proofs.lemmas.Bool.{ltb-true, ltb-false}
use mathlib.Core.Option.{some, some-injective, some-ne-none}
use mathlib.Core.Logic.{dite}
use native.Mathlib.Decide.{ℕ_discrete}
use lib.ListN.{get_elem?}
use Rattle.jturn.specs.Pass.{StartsWith}
use Rattle.jturn.specs.Turned.{total, one_if, times}

module _ {A : Type 0} (f : A → ℕ) where
  pub total_set : (xs : List A) (i : ℕ) (v w : A) → get_elem? xs i ≡ some v → total f (set xs i w) + f v ≡ total f xs + f w
  total_set [] i v w e = absurd (some-ne-none v (sym e))
  total_set (x ∷ xs) zero v w e = let h : f x ≡ f v = ap f (some-injective x v e) in omega arith
  total_set (x ∷ xs) (suc i) v w e = let h = total_set xs i v w e in omega arith

  pub total_at : (xs : List A) (i : ℕ) (v : A) → get_elem? xs i ≡ some v → f v ≤ total f xs
  total_at [] i v e = absurd (some-ne-none v (sym e))
  total_at (x ∷ xs) zero v e = let h : f x ≡ f v = ap f (some-injective x v e) in omega arith
  total_at (x ∷ xs) (suc i) v e = let h = total_at xs i v e in omega arith

  pub total_two : (xs : List A) (i j : ℕ) (v u : A) → i ≢ j → get_elem? xs i ≡ some v → get_elem? xs j ≡ some u → f v + f u ≤ total f xs
  total_two [] i j v u ne e d = absurd (some-ne-none v (sym e))
  total_two (x ∷ xs) zero zero v u ne e d = absurd (ne refl)
  total_two (x ∷ xs) zero (suc j) v u ne e d = let h : f x ≡ f v = ap f (some-injective x v e) in let k = total_at xs j u d in omega arith
  total_two (x ∷ xs) (suc i) zero v u ne e d = let h : f x ≡ f u = ap f (some-injective x u d) in let k = total_at xs i v e in omega arith
  total_two (x ∷ xs) (suc i) (suc j) v u ne e d = let k = total_two xs i j v u (λ q. ne (ap suc q)) e d in omega arith

  pub total_snoc : (xs : List A) (w : A) → total f (xs ++ w ∷ []) ≡ total f xs + f w
  total_snoc [] w = omega arith
  total_snoc (x ∷ xs) w = let h = total_snoc xs w in omega arith

  pub total_some : (xs : List A) → 0 < total f xs → (i : ℕ) × ((v : A) × (get_elem? xs i ≡ some v) × (0 < f v))
  total_some [] h = absurd (omega arith)
  total_some (x ∷ xs) h = dite (ℕ_discrete (f x) 0) (λ z. let t = total_some xs (omega arith) in (suc t.0, t.1)) (λ ne. (0, (x, refl, omega arith)))

module _ {A : Type 0} (f : A → ℕ) where
  total_none : (xs : List A) → ((j : ℕ) (u : A) → get_elem? xs j ≡ some u → f u ≡ 0) → total f xs ≡ 0
  total_none [] h = refl
  total_none (x ∷ xs) h = let a = h 0 x refl in let b = total_none xs (λ j u e. h (suc j) u e) in omega arith

  -- where the others have none
  pub total_only : (xs : List A) (i : ℕ) (v : A) → get_elem? xs i ≡ some v → ((j : ℕ) (u : A) → i ≢ j → get_elem? xs j ≡ some u → f u ≡ 0) → total f xs ≡ f v
  total_only [] i v e h = absurd (some-ne-none v (sym e))
  total_only (x ∷ xs) zero v e h = let a : f x ≡ f v = ap f (some-injective x v e) in let b = total_none xs (λ j u k. h (suc j) u (λ n. omega arith) k) in omega arith
  total_only (x ∷ xs) (suc i) v e h = let a = h 0 x (λ n. omega arith) refl in let b = total_only xs i v e (λ j u ne k. h (suc j) u (λ n. ne (omega arith)) k) in omega arith

pub total_le : {A : Type 0} (f g : A → ℕ) (xs : List A) → ((i : ℕ) (v : A) → get_elem? xs i ≡ some v → f v ≤ g v) → total f xs ≤ total g xs
total_le f g [] h = omega arith
total_le f g (x ∷ xs) h = let a = h 0 x refl in let b = total_le f g xs (λ i v e. h (suc i) v e) in omega arith

pub one_here : (x p : ℕ) → x ≡ p → one_if (eqb x p) ≡ 1
one_here x p e = ap one_if (eq-eqb x p e)

pub none_else : (x p : ℕ) → x ≢ p → one_if (eqb x p) ≡ 0
none_else x p ne = ap one_if (ne_eqb x p ne)

pub times_append : (p : ℕ) (xs ys : List ℕ) → times p (xs ++ ys) ≡ times p xs + times p ys
times_append p [] ys = omega arith
times_append p (x ∷ xs) ys = let h = times_append p xs ys in omega arith

module _ {A : Type 0} where
  pub put_here : (l : List A) (i : ℕ) (v w : A) → get_elem? l i ≡ some v → get_elem? (set l i w) i ≡ some w
  put_here [] i v w e = absurd (some-ne-none v (sym e))
  put_here (x ∷ xs) zero v w e = refl
  put_here (x ∷ xs) (suc i) v w e = put_here xs i v w e

  pub starts_empty : (xs : List A) → StartsWith xs []
  starts_empty xs = (xs, refl)

  pub starts_length : (xs ys : List A) → StartsWith xs ys → length ys ≤ length xs
  starts_length xs ys h = omega (arith, ap length h.1, length-append ys h.0)

  same_start : (a b r s : List A) → a ++ r ≡ b ++ s → length a ≤ length b → StartsWith b a
  same_start [] b r s e le = (b, refl)
  same_start (x ∷ a) [] r s e le = absurd (omega arith)
  same_start (x ∷ a) (y ∷ b) r s e le = let h : x ≡ y = cc in let t : a ++ r ≡ b ++ s = cc in let k = same_start a b r s t (omega arith) in (k.0, λ i. sym h i ∷ k.1 i)

  -- of two beginnings of one list the shorter begins the longer
  pub starts_both : (log a b : List A) → StartsWith log a → StartsWith log b → length a ≤ length b → StartsWith b a
  starts_both log a b h k le = same_start a b h.0 k.0 (sym h.1 ∙ k.1) le

  -- what begins a list and is as long is the list
  whole_start : (a r : List A) → length (a ++ r) ≤ length a → a ≡ a ++ r
  whole_start [] [] le = refl
  whole_start [] (x ∷ r) le = absurd (omega arith)
  whole_start (x ∷ a) r le = let h = whole_start a r (omega arith) in ap (λ l. x ∷ l) h

  pub starts_whole : (log a : List A) → StartsWith log a → length log ≤ length a → a ≡ log
  starts_whole log a h le = let k : length (a ++ h.0) ≤ length a = subst (λ (l : List A). length l ≤ length a) h.1 le in whole_start a h.0 k ∙ sym h.1

  by_bool : (P : A → A → Type 0) (m n : ℕ) (x y : A) → (m < n → P x y) → (n ≤ m → P y x) → (b : Bool) → ltb m n ≡ b → P (cond b x y) (cond b y x)
  by_bool P m n x y f g true e = f (ltb-true m n e)
  by_bool P m n x y f g false e = g (ltb-false m n e)

  -- the choice of a test and the other choice, by cases
  pub by_test : (P : A → A → Type 0) (m n : ℕ) (x y : A) → (m < n → P x y) → (n ≤ m → P y x) → P (cond (ltb m n) x y) (cond (ltb m n) y x)
  by_test P m n x y f g = by_bool P m n x y f g (ltb m n) refl

  pub alone : (a b : A) (j : ℕ) → get_elem? (a ∷ []) j ≡ some b → a ≡ b
  alone a b zero e = some-injective a b e
  alone a b (suc j) e = absurd (some-ne-none b (sym e))
