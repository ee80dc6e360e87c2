-- Places among so many.
use Rattle.std.specs.Prelude.{ℕ, zero, suc, ◌+◌, ◌-◌, ◌<◌, ◌≤◌, ◌≡◌, Bool, true, false, cond, List, [], ◌∷◌, ◌++◌, length, filter, map}
use Rattle.std.specs.List.{All, range_with_len}
use Rattle.std.proofs.Common.{arith, sym, ◌∙◌, ap, refl}
use Rattle.std.proofs.lemmas.List.Elements.{All-nil, All-cons, All-head, All-tail, All-append, All-filter}
use Rattle.std.proofs.lemmas.List.FromFn.{length-range_with_len, map-range_with_len_more}
use Rattle.std.proofs.lemmas.List.{length-append, map-id}
use Rattle.jcut.specs.Picks.{Picks}

-- the numbers from one on are below the end
pub range_below : (a n m : ℕ) → a + n ≤ m → All (λ p. p < m) (range_with_len a n)
range_below a zero m h = All-nil (λ p. p < m)
range_below a (suc n) m h = All-cons (λ p. p < m) a (range_with_len (a + 1) n) (omega arith) (range_below (a + 1) n m (omega arith))

-- a run is a choice of places
pub run_picks : (a n m : ℕ) → a + n ≤ m → Picks m (range_with_len a n)
run_picks a n m h = record { within = range_below a n m h; few = omega (arith, length-range_with_len a n) }

pub around_picks : (s e n : ℕ) → s ≤ e → e ≤ n → Picks n (range_with_len 0 s ++ range_with_len e (n - e))
around_picks s e n h k = record {
  within = All-append (λ p. p < n) (range_with_len 0 s) (range_with_len e (n - e)) (range_below 0 s n (omega arith)) (range_below e (n - e) n (omega arith));
  few = omega (arith, length-append (range_with_len 0 s) (range_with_len e (n - e)), length-range_with_len 0 s, length-range_with_len e (n - e));
}

filter_step : (p : ℕ → Bool) (x : ℕ) (l : List ℕ) (b : Bool) → length (filter p l) ≤ length l → length (cond b (x ∷ filter p l) (filter p l)) ≤ suc (length l)
filter_step p x l true h = omega arith
filter_step p x l false h = omega arith

filter_few : (p : ℕ → Bool) (l : List ℕ) → length (filter p l) ≤ length l
filter_few p [] = omega arith
filter_few p (x ∷ l) = filter_step p x l (p x) (filter_few p l)

pub filter_below : (p : ℕ → Bool) (n : ℕ) → All (λ k. k < n) (filter p (range_with_len 0 n))
filter_below p n = All-filter p (λ k. k < n) (range_with_len 0 n) (range_below 0 n n (omega arith))

pub filter_picks : (p : ℕ → Bool) (n : ℕ) → Picks n (filter p (range_with_len 0 n))
filter_picks p n = record { within = filter_below p n; few = omega (arith, filter_few p (range_with_len 0 n), length-range_with_len 0 n) }

pub range_more : (n : ℕ) → range_with_len 0 (n + 1) ≡ range_with_len 0 n ++ n ∷ []
range_more n =
    sym (map-id (range_with_len 0 (n + 1)))
    ∙ map-range_with_len_more (λ (x : ℕ). x) 0 n n (omega arith)
    ∙ ap (λ l. l ++ n ∷ []) (map-id (range_with_len 0 n))

-- two tests that agree at the places below n
filter_same_from : (f g : ℕ → Bool) (a n : ℕ) → ((j : ℕ) → j < a + n → f j ≡ g j) → filter f (range_with_len a n) ≡ filter g (range_with_len a n)
filter_same_from f g a zero same = refl
filter_same_from f g a (suc n) same =
    let rest = filter_same_from f g (a + 1) n (λ j below. same j (omega arith)) in
    let here : f a ≡ g a = same a (omega arith) in
    λ i. cond (here i) (a ∷ rest i) (rest i)

pub filter_same : (f g : ℕ → Bool) (n : ℕ) → ((j : ℕ) → j < n → f j ≡ g j) → filter f (range_with_len 0 n) ≡ filter g (range_with_len 0 n)
filter_same f g n same = filter_same_from f g 0 n (λ j below. same j (omega arith))

-- two functions that agree on the things of a list
pub map_same : {A B : Type 0} (f g : A → B) (l : List A) → All (λ x. f x ≡ g x) l → map f l ≡ map g l
map_same f g [] h = refl
map_same f g (x ∷ l) h =
    let here = All-head (λ y. f y ≡ g y) x l h in
    let rest = map_same f g l (All-tail (λ y. f y ≡ g y) x l h) in
    λ i. here i ∷ rest i
