-- There is exactly one list of all places in order.
use Rattle.std.specs.Prelude.{ℕ, zero, suc, ◌+◌, ◌<◌, ◌≡◌, true, false, cond, List, [], ◌∷◌, ◌++◌, length, get_or, sum_by}
use Rattle.std.specs.List.{range_with_len}
use Rattle.std.specs.List.Sorted.{IsPermutation, IsSorted}
use Rattle.std.specs.Ordering.{is_lt, ordering_reverse}
use Rattle.std.specs.declared.cmp.Ordering.{Ordering}
use Rattle.std.specs.declared.cmp.Ordering.TheVariants.{Less, Equal, Greater}
use Rattle.std.specs.Cmp.{IsTotalOrder}
use Rattle.std.proofs.Common.{arith, sym, ◌∙◌, ap, refl, subst, true≢false}
use Rattle.std.proofs.lemmas.List.Sums.{sum_by-cons}
use Rattle.std.proofs.lemmas.List.Sorted.{sum_by-IsPermutation, IsPermutation-refl, IsPermutation-sym, IsPermutation-trans, IsPermutation-cons, IsPermutation-middle, IsPermutation-to_front, sorted_far, ranks_by}
use Rattle.jsearch.specs.Grades.{IsGrade, placed, in_order}

-- an order in which only a thing itself is equal to it
pub record IsStrict {K : Type 0} (R : K → K → Ordering) : Type 0 where
  pub total : IsTotalOrder R
  pub alone : (x y : K) → R x y ≡ Equal → x ≡ y

-- 1 for what comes before y
abbrev less_than : {K : Type 0} → (K → K → Ordering) → K → K → ℕ
less_than R y z = cond (is_lt (R z y)) 1 0

none_less : {K : Type 0} (R : K → K → Ordering) (y : K) (l : List K) → ((i : ℕ) (d : K) → i < length l → is_lt (R (get_or l i d) y) ≡ false) → sum_by (less_than R y) l ≡ 0
none_less R y [] h = refl
none_less R y (x ∷ l) h =
    let here : less_than R y x ≡ 0 = ap (λ b. cond b 1 0) (h 0 x (omega arith)) in
    let rest = none_less R y l (λ i d k. h (suc i) d (omega arith)) in
    sum_by-cons (less_than R y) x l ∙ (omega (arith, here, rest))

tail_sorted : {K : Type 0} (R : K → K → Ordering) (x : K) (l : List K) → IsSorted R (x ∷ l) → IsSorted R l
tail_sorted R x l s = λ k d low below. let one : suc k + 1 ≡ suc (k + 1) = omega arith in subst (λ n. is_lt (R (get_or (x ∷ l) n d) (get_or l k d)) ≡ false) one (s (suc k) d (omega arith) (omega arith))

-- nothing comes before the first of a list in order
first_is_least : {K : Type 0} (R : K → K → Ordering) (o : IsTotalOrder R) (x : K) (l : List K) → IsSorted R (x ∷ l) → sum_by (less_than R x) (x ∷ l) ≡ 0
first_is_least R o x l s = none_less R x (x ∷ l) (λ i d k. sorted_far (λ a b. is_lt (R a b)) (ranks_by o (λ z. z)) (x ∷ l) s 0 i d (omega arith) k)

not_less : {K : Type 0} (R : K → K → Ordering) (x y : K) (rest : ℕ) → less_than R y x + rest ≡ 0 → is_lt (R x y) ≡ false
not_less R x y rest e =
    elim (is_lt (R x y)) as (λ b. cond b 1 0 + rest ≡ 0 → b ≡ false) [ true ↦ λ h. absurd (omega arith) | false ↦ λ h. refl ] e

neither : (r s : Ordering) → r ≡ ordering_reverse s → is_lt r ≡ false → is_lt s ≡ false → r ≡ Equal
neither Less s e h k = absurd (true≢false h)
neither Equal s e h k = refl
neither Greater Less e h k = absurd (true≢false k)
neither Greater Equal e h k = cc
neither Greater Greater e h k = cc

-- two lists in order with the same members are one
pub one_order : {K : Type 0} (R : K → K → Ordering) → IsStrict R → (l m : List K) → IsSorted R l → IsSorted R m → ((f : K → ℕ) → sum_by f l ≡ sum_by f m) → l ≡ m
one_order R o [] [] s t same = refl
one_order R o [] (y ∷ m) s t same = absurd (let e = same (λ z. 1) ∙ sum_by-cons (λ z. 1) y m in omega (arith, e))
one_order R o (x ∷ l) [] s t same = absurd (let e = sym (sum_by-cons (λ z. 1) x l) ∙ same (λ z. 1) in omega (arith, e))
one_order R o (x ∷ l) (y ∷ m) s t same =
    let under_y = not_less R x y (sum_by (less_than R y) l) (sym (sum_by-cons (less_than R y) x l) ∙ same (less_than R y) ∙ first_is_least R o.total y m t) in
    let under_x = not_less R y x (sum_by (less_than R x) m) (sym (sum_by-cons (less_than R x) y m) ∙ sym (same (less_than R x)) ∙ first_is_least R o.total x l s) in
    let heads : x ≡ y = o.alone x y (neither (R x y) (R y x) (o.total.antisymm x y) under_y under_x) in
    let rest = one_order R o l m (tail_sorted R x l s) (tail_sorted R y m t)
    (λ f. let whole = sym (sum_by-cons f x l) ∙ same f ∙ sum_by-cons f y m in let head = ap f heads in omega (arith, whole, head)) in
    (λ i. heads i ∷ rest i)

pub one_grade : (R : ℕ → ℕ → Ordering) → IsStrict R → (n : ℕ) (l m : List ℕ) → IsGrade R n l → IsGrade R n m → l ≡ m
one_grade R o n l m g h =
    one_order R o l m g.in_order h.in_order
    (λ f. sum_by-IsPermutation f (range_with_len 0 n) l g.all ∙ sym (sum_by-IsPermutation f (range_with_len 0 n) m h.all))

-- a place put in moves no other
placed_all : (R : ℕ → ℕ → Ordering) (p : ℕ) (l : List ℕ) → IsPermutation (p ∷ l) (placed R p l)
placed_all R p [] = IsPermutation-refl (p ∷ [])
placed_all R p (q ∷ l) =
    elim (is_lt (R p q)) as (λ b. IsPermutation (p ∷ q ∷ l) (cond b (p ∷ q ∷ l) (q ∷ placed R p l))) [
      | true ↦ IsPermutation-refl (p ∷ q ∷ l)
      | false ↦ IsPermutation-trans (p ∷ q ∷ l) (q ∷ p ∷ l) (q ∷ placed R p l)
          (IsPermutation-sym (q ∷ p ∷ l) (p ∷ q ∷ l) (IsPermutation-middle (q ∷ []) p l))
          (IsPermutation-cons q (p ∷ l) (placed R p l) (placed_all R p l))
    ]

-- in order by its neighbours
cons_sorted : (R : ℕ → ℕ → Ordering) (x : ℕ) (l : List ℕ) → ((d : ℕ) → 0 < length l → is_lt (R (get_or l 0 d) x) ≡ false) → IsSorted R l → IsSorted R (x ∷ l)
cons_sorted R x l first s zero d low below = let one : suc zero ≡ zero + 1 = omega arith in subst (λ n. is_lt (R (get_or (x ∷ l) n d) x) ≡ false) one (first d (omega arith))
cons_sorted R x l first s (suc k) d low below = let one : suc (k + 1) ≡ suc k + 1 = omega arith in subst (λ n. is_lt (R (get_or (x ∷ l) n d) (get_or l k d)) ≡ false) one (s k d (omega arith) (omega arith))

asym : (R : ℕ → ℕ → Ordering) → IsTotalOrder R → (p q : ℕ) → is_lt (R p q) ≡ true → is_lt (R q p) ≡ false
asym R o p q h =
    let back : is_lt (ordering_reverse (R q p)) ≡ true = ap is_lt (sym (o.antisymm p q)) ∙ h in
    elim (R q p) as (λ r. is_lt (ordering_reverse r) ≡ true → is_lt r ≡ false) [ Less ↦ λ e. absurd (true≢false (sym e)) | Equal ↦ λ e. refl | Greater ↦ λ e. refl ] back

placed_sorted : (R : ℕ → ℕ → Ordering) → IsTotalOrder R → (p : ℕ) (l : List ℕ) → IsSorted R l → IsSorted R (placed R p l)
placed_sorted R o p [] s = cons_sorted R p [] (λ d h. absurd (omega arith)) s
placed_sorted R o p (q ∷ l) s =
    elim (is_lt (R p q)) as (λ b. is_lt (R p q) ≡ b → IsSorted R (cond b (p ∷ q ∷ l) (q ∷ placed R p l))) [
      | true ↦ λ e. cons_sorted R p (q ∷ l) (λ d h. asym R o p q e) s
      | false ↦ λ e. cons_sorted R q (placed R p l) (first_after R p q l e s) (placed_sorted R o p l (tail_sorted R q l s))
    ] refl
  where
    first_after : (R : ℕ → ℕ → Ordering) (p q : ℕ) (l : List ℕ) → is_lt (R p q) ≡ false → IsSorted R (q ∷ l) → (d : ℕ) → 0 < length (placed R p l) → is_lt (R (get_or (placed R p l) 0 d) q) ≡ false
    first_after R p q [] e s d h = e
    first_after R p q (r ∷ l) e s d h =
        elim (is_lt (R p r)) as (λ b. is_lt (R (get_or (cond b (p ∷ r ∷ l) (r ∷ placed R p l)) 0 d) q) ≡ false) [
          | true ↦ e
          | false ↦ s 0 d (omega arith) (omega arith)
        ]

range_end : (a n : ℕ) → range_with_len a (suc n) ≡ range_with_len a n ++ (a + n) ∷ []
range_end a zero = let same : a ≡ a + 0 = omega arith in (λ i. same i ∷ [])
range_end a (suc n) = let same : a + 1 + n ≡ a + suc n = omega arith in (λ i. a ∷ (range_end (a + 1) n ∙ ap (λ k. range_with_len (a + 1) n ++ k ∷ []) same) i)

pub range_more : (n : ℕ) → range_with_len 0 (suc n) ≡ range_with_len 0 n ++ n ∷ []
range_more n = let same : 0 + n ≡ n = omega arith in range_end 0 n ∙ ap (λ k. range_with_len 0 n ++ k ∷ []) same

pub graded_is : (R : ℕ → ℕ → Ordering) → IsTotalOrder R → (n : ℕ) → IsGrade R n (in_order R n)
unfolding in_order
graded_is R o zero = record { all = IsPermutation-refl []; in_order = λ k d low below. absurd (omega arith) }
graded_is R o (suc n) =
    let before = graded_is R o n in
    record {
      all = subst (λ l. IsPermutation l (placed R n (in_order R n))) (sym (range_more n))
          (IsPermutation-trans (range_with_len 0 n ++ n ∷ []) (n ∷ range_with_len 0 n) (placed R n (in_order R n)) (IsPermutation-to_front (range_with_len 0 n) n)
          (IsPermutation-trans (n ∷ range_with_len 0 n) (n ∷ in_order R n) (placed R n (in_order R n)) (IsPermutation-cons n (range_with_len 0 n) (in_order R n) before.all) (placed_all R n (in_order R n))));
      in_order = placed_sorted R o n (in_order R n) before.in_order;
    }
