-- What all entries add up to.
use Rattle.std.proofs.Common.{◌≡◌, ℕ, ◌+◌, ◌<◌, List, [], ◌∷◌, ◌++◌, length, length-append, get_or, map, sum, sym, refl, subst, arith, ap, ◌∙◌}
use Rattle.std.specs.List.Sorted.{IsPermutation}
use Rattle.std.proofs.lemmas.List.Sorted.{IsPermutation-map, sum_by-IsPermutation}
use Rattle.std.proofs.lemmas.List.Sums.{sum_by-append}

-- where the entries are all entries of the history, in some order
pub sum_of_both : (log all xs ys : List ℕ) → IsPermutation log all → all ≡ xs ++ ys → sum log ≡ sum xs + sum ys
sum_of_both log all xs ys moved is = sym (sum_by-IsPermutation (λ n. n) log all moved) ∙ (ap sum is ∙ sum_by-append (λ n. n) xs ys)

last_at : {A : Type 0} (ys : List A) (x d : A) → get_or (ys ++ x ∷ []) (length ys) d ≡ x
last_at [] x d = refl
last_at (y ∷ ys) x d = last_at ys x d

-- what holds of each holds of the last
pub last_meets : {A : Type 0} (P : A → Type 0) (xs ys : List A) (x : A) → xs ≡ ys ++ x ∷ [] → ((k : ℕ) (d : A) → k < length xs → P (get_or xs k d)) → P x
last_meets P xs ys x e h = let at_end : length ys < length xs = omega (arith, length-append ys (x ∷ []), ap length e) in
    subst P (ap (λ l. get_or l (length ys) x) e ∙ last_at ys x x) (h (length ys) x at_end)

-- what stands for a history has the numbers of all entries, in some order
pub numbers_of_both : {A : Type 0} (f : A → ℕ) (numbers : List ℕ) (log all both : List A) → numbers ≡ map f log → IsPermutation log all → all ≡ both → IsPermutation numbers (map f both)
numbers_of_both f numbers log all both stands moved is =
    subst (λ (z : List ℕ × List ℕ). IsPermutation z.0 z.1) (λ i. (sym stands i, ap (map f) is i)) (IsPermutation-map f log all moved)
