-- Lists of integers in order, and how many of them stand before a number.
use Rattle.std.specs.Prelude.{ℕ, zero, suc, ◌+◌, ◌-◌, ◌<◌, ◌≤◌, ◌≡◌, ◌&&◌, ◌||◌, ℤ, pos, int_lt, int_le, Bool, true, false, cond, List, [], ◌∷◌, length, get_or, count_by}
use Rattle.std.specs.List.{AllAdjacentBelow, IsAllAdjacentAnswer}
use Rattle.std.specs.List.Sorted.{IsPartitionedBy, IsPartitionPoint}
use Rattle.std.proofs.Common.{arith, sym, ◌∙◌, ap, refl, subst, true≢false}
use Rattle.std.proofs.lemmas.List.Sums.{sum_by-cons}
use Rattle.std.proofs.lemmas.Int.{ints}
use Rattle.jselect.proofs.Choices.{and_first, and_second, both}
use Rattle.jsearch.specs.Intervals.{each_next, rises, falls, is_turned}

below_then : (a b n : ℤ) → int_le a b ≡ true → int_lt b n ≡ true → int_lt a n ≡ true
below_then a b n h k = grind (arith, ints)

above_then : (a b n : ℤ) → int_le b a ≡ true → int_lt n b ≡ true → int_lt n a ≡ true
above_then a b n h k = grind (arith, ints)

not_itself : (a : ℤ) → int_lt a a ≡ true → ⊥
not_itself a h = grind (arith, ints)

le_from_not_lt : (a b : ℤ) → int_lt b a ≡ false → int_le a b ≡ true
le_from_not_lt a b h = grind (arith, ints)

-- what a loop over neighbours answers
pub each_answer : (test : ℤ → ℤ → Bool) (xs : List ℤ) (r : Bool) → IsAllAdjacentAnswer (λ x y b. b ≡ test x y) xs r → r ≡ each_next test xs
each_answer test xs true h = sym (all_pass test xs h)
  where
    all_pass : (test : ℤ → ℤ → Bool) (xs : List ℤ) → AllAdjacentBelow (λ x y. true ≡ test x y) xs (length xs) → each_next test xs ≡ true
    all_pass test [] h = refl
    all_pass test (a ∷ []) h = refl
    all_pass test (a ∷ b ∷ rest) h =
        both (test a b) (each_next test (b ∷ rest)) (sym (h 0 a (omega arith)))
        (all_pass test (b ∷ rest) (λ k d below. let one : suc k + 1 ≡ suc (k + 1) = omega arith in subst (λ n. true ≡ test (get_or (b ∷ rest) k d) (get_or (a ∷ b ∷ rest) n d)) one (h (suc k) d (omega arith))))
each_answer test xs false h = sym (some_fails test xs h.0 h.1 h.2)
  where
    no_second : (b c : Bool) → c ≡ false → b && c ≡ false
    no_second true c e = e
    no_second false c e = refl

    no_first : (b c : Bool) → b ≡ false → b && c ≡ false
    no_first true c e = cc
    no_first false c e = refl

    some_fails : (test : ℤ → ℤ → Bool) (xs : List ℤ) (k : ℕ) → k + 1 < length xs → ((d : ℤ) → false ≡ test (get_or xs k d) (get_or xs (k + 1) d)) → each_next test xs ≡ false
    some_fails test [] k below h = absurd (omega arith)
    some_fails test (a ∷ []) k below h = absurd (omega arith)
    some_fails test (a ∷ b ∷ rest) zero below h =
        let one : zero + 1 ≡ suc zero = omega arith in
        no_first (test a b) (each_next test (b ∷ rest)) (sym (subst (λ n. false ≡ test a (get_or (a ∷ b ∷ rest) n a)) one (h a)))
    some_fails test (a ∷ b ∷ rest) (suc k) below h =
        let one : suc k + 1 ≡ suc (k + 1) = omega arith in
        no_second (test a b) (each_next test (b ∷ rest)) (some_fails test (b ∷ rest) k (omega arith) (λ d. subst (λ n. false ≡ test (get_or (b ∷ rest) k d) (get_or (a ∷ b ∷ rest) n d)) one (h d)))

-- a test that what stands before passes too
abbrev Closed : (ℤ → ℤ → Bool) → (ℤ → Bool) → Type 0
Closed test p = (a b : ℤ) → test a b ≡ true → p b ≡ true → p a ≡ true

first_passes : (test : ℤ → ℤ → Bool) (p : ℤ → Bool) → Closed test p → (a : ℤ) (rest : List ℤ) → each_next test (a ∷ rest) ≡ true → (j : ℕ) (d : ℤ) → j < length (a ∷ rest) → p (get_or (a ∷ rest) j d) ≡ true → p a ≡ true
first_passes test p closed a rest h zero d below e = e
first_passes test p closed a [] h (suc j) d below e = absurd (omega arith)
first_passes test p closed a (b ∷ rest) h (suc j) d below e =
    closed a b (and_first (test a b) (each_next test (b ∷ rest)) h)
    (first_passes test p closed b rest (and_second (test a b) (each_next test (b ∷ rest)) h) j d (omega arith) e)

tail_next : (test : ℤ → ℤ → Bool) (a : ℤ) (rest : List ℤ) → each_next test (a ∷ rest) ≡ true → each_next test rest ≡ true
tail_next test a [] h = refl
tail_next test a (b ∷ rest) h = and_second (test a b) (each_next test (b ∷ rest)) h

partitioned : (test : ℤ → ℤ → Bool) (p : ℤ → Bool) → Closed test p → (xs : List ℤ) → each_next test xs ≡ true → (i j : ℕ) (d : ℤ) → i ≤ j → j < length xs → p (get_or xs j d) ≡ true → p (get_or xs i d) ≡ true
partitioned test p closed [] h i j d low below e = absurd (omega arith)
partitioned test p closed (a ∷ rest) h zero j d low below e = first_passes test p closed a rest h j d below e
partitioned test p closed (a ∷ rest) h (suc i) zero d low below e = absurd (omega arith)
partitioned test p closed (a ∷ rest) h (suc i) (suc j) d low below e = partitioned test p closed rest (tail_next test a rest h) i j d (omega arith) (omega arith) e

pub less_partitioned : (xs : List ℤ) (n : ℤ) → rises xs ≡ true → IsPartitionedBy (λ a. int_lt a n) xs
less_partitioned xs n h = partitioned int_le (λ a. int_lt a n) (λ a b e f. below_then a b n e f) xs h

pub greater_partitioned : (xs : List ℤ) (n : ℤ) → falls xs ≡ true → IsPartitionedBy (λ a. int_lt n a) xs
greater_partitioned xs n h = partitioned (λ a b. int_le b a) (λ a. int_lt n a) (λ a b e f. above_then a b n e f) xs h

-- a place between those that pass and those that fail is how many pass
abbrev one_if : Bool → ℕ
one_if b = cond b 1 0

none_pass : (p : ℤ → Bool) (xs : List ℤ) → ((k : ℕ) (d : ℤ) → k < length xs → p (get_or xs k d) ≡ false) → count_by p xs ≡ 0
none_pass p [] h = refl
none_pass p (x ∷ xs) h =
    let here : one_if (p x) ≡ one_if false = ap one_if (h 0 x (omega arith)) in
    let rest = none_pass p xs (λ k d below. h (suc k) d (omega arith)) in
    sum_by-cons (λ y. one_if (p y)) x xs ∙ omega (arith, here, rest)

counted : (p : ℤ → Bool) (xs : List ℤ) (i : ℕ) → i ≤ length xs → ((k : ℕ) (d : ℤ) → k < i → p (get_or xs k d) ≡ true) → ((k : ℕ) (d : ℤ) → i ≤ k → k < length xs → p (get_or xs k d) ≡ false) → count_by p xs ≡ i
counted p [] i most pass fail = omega arith
counted p (x ∷ xs) zero most pass fail = none_pass p (x ∷ xs) (λ k d below. fail k d (omega arith) below)
counted p (x ∷ xs) (suc i) most pass fail =
    let here : one_if (p x) ≡ one_if true = ap one_if (pass 0 x (omega arith)) in
    let rest = counted p xs i (omega arith) (λ k d below. pass (suc k) d (omega arith)) (λ k d low below. fail (suc k) d (omega arith) (omega arith)) in
    sum_by-cons (λ y. one_if (p y)) x xs ∙ omega (arith, here, rest)

pub point_counts : (p : ℤ → Bool) (xs : List ℤ) (i : ℕ) → i ≤ length xs → IsPartitionPoint (λ y. p y ≡ true) (λ y. p y ≡ false) xs i → i ≡ count_by p xs
point_counts p xs i most h = sym (counted p xs i most (λ k d below. h.0 k d (omega arith) below) (λ k d low below. h.1 k d low below))

-- a list that is turned falls, if it is in order; another one rises
last_passes : (test : ℤ → ℤ → Bool) (p : ℤ → Bool) → ((a b : ℤ) → test a b ≡ true → p a ≡ true → p b ≡ true) → (a : ℤ) (rest : List ℤ) → each_next test (a ∷ rest) ≡ true → p a ≡ true → (d : ℤ) → p (get_or (a ∷ rest) (length rest) d) ≡ true
last_passes test p onward a [] h e d = e
last_passes test p onward a (b ∷ rest) h e d =
    last_passes test p onward b rest (and_second (test a b) (each_next test (b ∷ rest)) h) (onward a b (and_first (test a b) (each_next test (b ∷ rest)) h) e) d

rises_straight : (a : ℤ) (rest : List ℤ) → rises (a ∷ rest) ≡ true → int_lt (get_or (a ∷ rest) (length rest) (pos 0)) a ≡ true → ⊥
rises_straight a rest h e =
    not_itself a (first_passes int_le (λ z. int_lt z a) (λ x y f g. below_then x y a f g) a rest h (length rest) (pos 0) (omega arith) e)

level_rises : (a : ℤ) (rest : List ℤ) → falls (a ∷ rest) ≡ true → int_lt (get_or (a ∷ rest) (length rest) (pos 0)) a ≡ false → rises (a ∷ rest) ≡ true
level_rises a [] h e = refl
level_rises a (b ∷ rest) h e =
    let less = and_first (int_le b a) (falls (b ∷ rest)) h in
    let more = and_second (int_le b a) (falls (b ∷ rest)) h in
    let last = get_or (b ∷ rest) (length rest) (pos 0) in
    let here : int_lt b a ≡ false = not_true (int_lt b a) (λ f. true≢false (sym (last_passes (λ x y. int_le y x) (λ z. int_lt z a) (λ x y g k. below_then y x a g k) b rest more f (pos 0)) ∙ e)) in
    let rest_level : int_lt last b ≡ false = not_true (int_lt last b) (λ f. true≢false (sym (lower last b a f less) ∙ e)) in
    both (int_le a b) (rises (b ∷ rest)) (le_from_not_lt a b here) (level_rises b rest more rest_level)
  where
    not_true : (b : Bool) → (b ≡ true → ⊥) → b ≡ false
    not_true true h = absurd (h refl)
    not_true false h = refl

    lower : (x y z : ℤ) → int_lt x y ≡ true → int_le y z ≡ true → int_lt x z ≡ true
    lower x y z h k = grind (arith, ints)

by_either : (r f : Bool) → r || f ≡ true → (r ≡ true → f ≡ true) → f ≡ true
by_either true f h k = k refl
by_either false f h k = h

pub turned_falls : (xs : List ℤ) → rises xs || falls xs ≡ true → is_turned xs ≡ true → falls xs ≡ true
turned_falls [] h e = refl
turned_falls (a ∷ rest) h e =
    let at : suc (length rest) - 1 ≡ length rest = omega arith in
    by_either (rises (a ∷ rest)) (falls (a ∷ rest)) h (λ up. absurd (rises_straight a rest up (subst (λ n. int_lt (get_or (a ∷ rest) n (pos 0)) a ≡ true) at e)))

by_other : (r f : Bool) → r || f ≡ true → (f ≡ true → r ≡ true) → r ≡ true
by_other true f h k = refl
by_other false f h k = k h

pub straight_rises : (xs : List ℤ) → rises xs || falls xs ≡ true → is_turned xs ≡ false → rises xs ≡ true
straight_rises [] h e = refl
straight_rises (a ∷ rest) h e =
    let at : suc (length rest) - 1 ≡ length rest = omega arith in
    by_other (rises (a ∷ rest)) (falls (a ∷ rest)) h (λ down. level_rises a rest down (subst (λ n. int_lt (get_or (a ∷ rest) n (pos 0)) a ≡ false) at e))
