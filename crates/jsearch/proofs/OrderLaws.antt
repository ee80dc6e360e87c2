-- Orders of places are total and transitive, and only a place itself is equal to it. Keys in order are places in order.
use Rattle.std.specs.Prelude.{ℕ, ◌+◌, ◌<◌, ◌≡◌, ℤ, List, [], ◌∷◌, length, map, get_or}
use Rattle.std.specs.List.{All, range_with_len}
use Rattle.std.specs.List.Sorted.{IsPermutation, IsSorted}
use Rattle.std.specs.declared.cmp.Ordering.{Ordering}
use Rattle.std.specs.declared.cmp.Ordering.TheVariants.{Less, Equal, Greater}
use Rattle.std.specs.Cmp.{IsTotalOrder, int_cmp_total, nat_cmp_total, on_total, then_total, back_total}
use Rattle.std.specs.Cmp.Lexicographic.{lists_total}
use Rattle.std.specs.Ordering.{nat_cmp, ordering_then, is_lt}
use Rattle.std.specs.FinMap.{nat_cmp-IsAntisymmetric}
use Rattle.std.proofs.Common.{arith, sym, ◌∙◌, ap, refl, subst}
use Rattle.std.proofs.lemmas.List.{length-map, get_or-map}
use Rattle.std.proofs.lemmas.List.Elements.{All-cons}
use Rattle.std.proofs.lemmas.List.Sorted.{IsPermutation-map, All-permutation}
use Rattle.jsearch.specs.Grades.{in_order}
use Rattle.jsearch.specs.Order.{by_keys, lists_in}
use Rattle.jsearch.specs.declared.ordering.Direction.{Direction}
use Rattle.jsearch.specs.declared.ordering.Direction.TheVariants.{Rising, Falling}
use Rattle.jsearch.proofs.OneGrade.{IsStrict, one_grade, graded_is}

pub lists_in_total : (d : Direction) → IsTotalOrder (lists_in d)
lists_in_total Rising = lists_total int_cmp_total
lists_in_total Falling = back_total (lists_total int_cmp_total)

last_decides : (r : Ordering) (p q : ℕ) → ordering_then r (nat_cmp p q) ≡ Equal → nat_cmp p q ≡ Equal
last_decides Less p q e = cc
last_decides Equal p q e = e
last_decides Greater p q e = cc

pub by_keys_strict : (order : List ℤ → List ℤ → Ordering) (key : ℕ → List ℤ) → IsTotalOrder order → IsStrict (by_keys order key)
by_keys_strict order key total = record {
  total = then_total (on_total key total) nat_cmp_total;
  alone = λ p q e. nat_cmp-IsAntisymmetric p q (last_decides (order (key p) (key q)) p q e);
}

-- each key stands for the list at its place
each_keyed : {K : Type 0} (value : K → List ℤ) (key : ℕ → List ℤ) (l : List (K × ℕ)) → map (λ e. value e.0) l ≡ map (λ e. key e.1) l → All (λ e. value e.0 ≡ key e.1) l
each_keyed value key [] h = λ k d below. absurd (omega arith)
each_keyed {K} value key (x ∷ l) h =
    let P : K × ℕ → Type 0 = λ e. value e.0 ≡ key e.1 in
    let here : value x.0 ≡ key x.1 = cc in
    let rest : map (λ e. value e.0) l ≡ map (λ e. key e.1) l = cc in
    All-cons P x l here (each_keyed value key l rest)

keys_sorted : {K : Type 0} (cmp : K → K → Ordering) (order : List ℤ → List ℤ → Ordering) (value : K → List ℤ) (key : ℕ → List ℤ) (l : List (K × ℕ)) →
    ((a b : K) → cmp a b ≡ order (value a) (value b)) → All (λ e. value e.0 ≡ key e.1) l → IsSorted (λ x y. ordering_then (cmp x.0 y.0) (nat_cmp x.1 y.1)) l →
    IsSorted (by_keys order key) (map (λ e. e.1) l)
keys_sorted cmp order value key [] agrees keyed s = λ k d low below. absurd (omega arith)
keys_sorted {K} cmp order value key (x ∷ l) agrees keyed s = λ k d low below.
    let whole : List (K × ℕ) = x ∷ l in
    let long : length (map (λ (e : K × ℕ). e.1) whole) ≡ length whole = length-map whole (λ e. e.1) in
    let within : k + 1 < length whole = omega (arith, long) in
    let before : k < length whole = omega arith in
    let a = get_or whole (k + 1) x in
    let b = get_or whole k x in
    let here : get_or (map (λ (e : K × ℕ). e.1) whole) (k + 1) d ≡ a.1 = get_or-map (λ e. e.1) whole (k + 1) x d within in
    let there : get_or (map (λ (e : K × ℕ). e.1) whole) k d ≡ b.1 = get_or-map (λ e. e.1) whole k x d before in
    let same : cmp a.0 b.0 ≡ order (key a.1) (key b.1) = agrees a.0 b.0 ∙ (λ i. order (keyed (k + 1) x within i) (keyed k x before i)) in
    (λ i. is_lt (by_keys order key (here i) (there i))) ∙ ap (λ r. is_lt (ordering_then r (nat_cmp a.1 b.1))) (sym same) ∙ s k x low within

map-map : {A B C : Type 0} (f : B → C) (h : A → B) (l : List A) → map f (map h l) ≡ map (λ x. f (h x)) l
map-map f h [] = refl
map-map f h (x ∷ l) = ap (λ r. f (h x) ∷ r) (map-map f h l)

-- what a sort of keys with their places beside them leaves
pub places_in_order : {K : Type 0} (cmp : K → K → Ordering) (order : List ℤ → List ℤ → Ordering) (value : K → List ℤ) (key : ℕ → List ℤ) (before after : List (K × ℕ)) (n : ℕ) →
    IsTotalOrder order → ((a b : K) → cmp a b ≡ order (value a) (value b)) →
    map (λ e. e.1) before ≡ range_with_len 0 n → map (λ e. value e.0) before ≡ map key (range_with_len 0 n) →
    IsPermutation before after → IsSorted (λ x y. ordering_then (cmp x.0 y.0) (nat_cmp x.1 y.1)) after →
    map (λ e. e.1) after ≡ in_order (by_keys order key) n
places_in_order {K} cmp order value key before after n total agrees places keys moved sorted =
    let second : K × ℕ → ℕ = λ e. e.1 in
    let P : K × ℕ → Type 0 = λ e. value e.0 ≡ key e.1 in
    let strict = by_keys_strict order key total in
    let keyed : All P before = each_keyed value key before (keys ∙ ap (map key) (sym places) ∙ map-map key second before) in
    one_grade (by_keys order key) strict n (map second after) (in_order (by_keys order key) n)
    (record {
      all = subst (λ l. IsPermutation l (map second after)) places (IsPermutation-map second before after moved);
      in_order = keys_sorted cmp order value key after agrees (All-permutation P before after moved keyed) sorted;
    })
    (graded_is (by_keys order key) strict.total n)
