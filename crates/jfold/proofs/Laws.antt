-- Verbs whose values on the same numbers from the last on and from the first on are one.
use Rattle.std.proofs.Common.{◌≡◌, ℕ, ◌+◌, ◌≤◌, List, [], ◌∷◌, length, take, reverse, Some, None, Result, Ok, refl, sym, ap, ◌∙◌, arith}
use Rattle.std.specs.Prelude.{ℤ}
use Rattle.std.specs.List.{sum_by, fold}
use Rattle.std.proofs.lemmas.List.{reverse-append}
use Rattle.std.proofs.lemmas.List.Sums.{sum_by-cons, sum_by-take-le}
use Rattle.jdata.specs.declared.fault.Fault.{Fault}
use Rattle.jdata.proofs.Lists.{same_map}
use Rattle.jfold.specs.Folded.{on_number, between, of_back, prefixes_by}
use Rattle.jfold.specs.Running.{turned, onward, running}
use Rattle.jfold.proofs.Steps.{value_of, one_more}

-- the verb is a function that may be grouped either way, on numbers of a weight within the limit
pub record Joins (weight : ℤ → ℕ) (limit : ℕ) (meant : ℤ → ℤ → Result ℤ Fault) (f : ℤ → ℤ → ℤ) : Type 0 where
  pub gives : (x y : ℤ) → weight x + weight y ≤ limit → meant x y ≡ Ok (f x y)
  pub keeps : (x y : ℤ) → weight x + weight y ≤ limit → weight (f x y) ≤ weight x + weight y
  pub joins : (x y z : ℤ) → weight x + weight y + weight z ≤ limit → f (f x y) z ≡ f x (f y z)

ahead : (weight : ℤ → ℕ) (limit : ℕ) (meant : ℤ → ℤ → Result ℤ Fault) (f : ℤ → ℤ → ℤ) (law : Joins weight limit meant f) (v : ℤ) (ns : List ℤ) → weight v + sum_by weight ns ≤ limit → between (turned meant) ns v ≡ Some (fold f v ns)
ahead weight limit meant f law v [] h = refl
ahead weight limit meant f law v (n ∷ ns) h =
    let cons : sum_by weight (n ∷ ns) ≡ weight n + sum_by weight ns = sum_by-cons weight n ns in
    let kept : weight (f v n) ≤ weight v + weight n = law.keeps v n (omega arith) in
    ap (on_number (between (turned meant) ns)) (law.gives v n (omega arith)) ∙ ahead weight limit meant f law (f v n) ns (omega arith)

fold_kept : (weight : ℤ → ℕ) (limit : ℕ) (meant : ℤ → ℤ → Result ℤ Fault) (f : ℤ → ℤ → ℤ) (law : Joins weight limit meant f) (v : ℤ) (ns : List ℤ) → weight v + sum_by weight ns ≤ limit → weight (fold f v ns) ≤ weight v + sum_by weight ns
fold_kept weight limit meant f law v [] h = omega arith
fold_kept weight limit meant f law v (n ∷ ns) h =
    let cons : sum_by weight (n ∷ ns) ≡ weight n + sum_by weight ns = sum_by-cons weight n ns in
    let kept : weight (f v n) ≤ weight v + weight n = law.keeps v n (omega arith) in
    let rest : weight (fold f (f v n) ns) ≤ weight (f v n) + sum_by weight ns = fold_kept weight limit meant f law (f v n) ns (omega arith) in
    omega arith

fold_front : (weight : ℤ → ℕ) (limit : ℕ) (meant : ℤ → ℤ → Result ℤ Fault) (f : ℤ → ℤ → ℤ) (law : Joins weight limit meant f) (x n : ℤ) (ns : List ℤ) → weight x + weight n + sum_by weight ns ≤ limit → fold f (f x n) ns ≡ f x (fold f n ns)
fold_front weight limit meant f law x n [] h = refl
fold_front weight limit meant f law x n (m ∷ ms) h =
    let cons : sum_by weight (m ∷ ms) ≡ weight m + sum_by weight ms = sum_by-cons weight m ms in
    let kept : weight (f n m) ≤ weight n + weight m = law.keeps n m (omega arith) in
    ap (λ v. fold f v ms) (law.joins x n m (omega arith)) ∙ fold_front weight limit meant f law x (f n m) ms (omega arith)

backward : (weight : ℤ → ℕ) (limit : ℕ) (meant : ℤ → ℤ → Result ℤ Fault) (f : ℤ → ℤ → ℤ) (law : Joins weight limit meant f) (x : ℤ) (xs : List ℤ) → weight x + sum_by weight xs ≤ limit → of_back meant (reverse (x ∷ xs)) ≡ Some (fold f x xs)
backward weight limit meant f law x [] h = refl
backward weight limit meant f law x (n ∷ ns) h =
    let cons : sum_by weight (n ∷ ns) ≡ weight n + sum_by weight ns = sum_by-cons weight n ns in
    let kept : weight (fold f n ns) ≤ weight n + sum_by weight ns = fold_kept weight limit meant f law n ns (omega arith) in
    ap (of_back meant) (reverse-append (x ∷ []) (n ∷ ns))
    ∙ one_more meant (reverse (n ∷ ns)) x (fold f n ns) (backward weight limit meant f law n ns (omega arith))
    ∙ ap value_of (law.gives x (fold f n ns) (omega arith))
    ∙ ap Some (sym (fold_front weight limit meant f law x n ns (omega arith)))

both_ways : (weight : ℤ → ℕ) (limit : ℕ) (meant : ℤ → ℤ → Result ℤ Fault) (f : ℤ → ℤ → ℤ) (law : Joins weight limit meant f) (l : List ℤ) → sum_by weight l ≤ limit → of_back meant (reverse l) ≡ onward meant l
both_ways weight limit meant f law [] h = refl
both_ways weight limit meant f law (x ∷ xs) h =
    let cons : sum_by weight (x ∷ xs) ≡ weight x + sum_by weight xs = sum_by-cons weight x xs in
    backward weight limit meant f law x xs (omega arith) ∙ sym (ahead weight limit meant f law x xs (omega arith))

pub prefixes_run : (weight : ℤ → ℕ) (limit : ℕ) (meant : ℤ → ℤ → Result ℤ Fault) (f : ℤ → ℤ → ℤ) (law : Joins weight limit meant f) (l : List ℤ) → sum_by weight l ≤ limit → prefixes_by (Some meant) l ≡ running meant l
prefixes_run weight limit meant f law l h =
    same_map (λ n. of_back meant (reverse (take (n + 1) l))) (λ n. onward meant (take (n + 1) l)) (length l) None
    (λ n below. let part : sum_by weight (take (n + 1) l) ≤ sum_by weight l = sum_by-take-le weight l (n + 1) in both_ways weight limit meant f law (take (n + 1) l) (omega arith))

along : (weight : ℤ → ℕ) (limit : ℕ) (meant : ℤ → ℤ → Result ℤ Fault) (f : ℤ → ℤ → ℤ) (law : Joins weight limit meant f) (x : ℤ) (xs : List ℤ) → sum_by weight (x ∷ xs) ≤ limit → onward meant (x ∷ xs) ≡ Some (fold f x xs)
along weight limit meant f law x xs h =
    let cons : sum_by weight (x ∷ xs) ≡ weight x + sum_by weight xs = sum_by-cons weight x xs in
    ahead weight limit meant f law x xs (omega arith)

alike : (weight : ℤ → ℕ) (limit : ℕ) (meant other : ℤ → ℤ → Result ℤ Fault) (f : ℤ → ℤ → ℤ) (law : Joins weight limit meant f) (same : Joins weight limit other f) (l : List ℤ) → sum_by weight l ≤ limit → onward meant l ≡ onward other l
alike weight limit meant other f law same [] h = refl
alike weight limit meant other f law same (x ∷ xs) h = along weight limit meant f law x xs h ∙ sym (along weight limit other f same x xs h)

-- two verbs that are one function on such numbers
pub runs_alike : (weight : ℤ → ℕ) (limit : ℕ) (meant other : ℤ → ℤ → Result ℤ Fault) (f : ℤ → ℤ → ℤ) (law : Joins weight limit meant f) (same : Joins weight limit other f) (l : List ℤ) → sum_by weight l ≤ limit → running meant l ≡ running other l
runs_alike weight limit meant other f law same l h =
    same_map (λ n. onward meant (take (n + 1) l)) (λ n. onward other (take (n + 1) l)) (length l) None
    (λ n below. let part : sum_by weight (take (n + 1) l) ≤ sum_by weight l = sum_by-take-le weight l (n + 1) in alike weight limit meant other f law same (take (n + 1) l) (omega arith))
