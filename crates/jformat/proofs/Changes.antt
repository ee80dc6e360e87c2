-- How many axes have another number at a plane than at the plane before, counted from the last axis on.
use Rattle.std.proofs.Common.{◌≡◌, ◌≢◌, ℕ, ◌+◌, ◌-◌, ◌*◌, ◌/◌, ◌%◌, ◌<◌, ◌≤◌, ◌==◌, Bool, not, cond, List, length, get_or, drop, refl, sym, ap, ◌∙◌, arith, suc, count_by}
use Rattle.std.specs.List.{range_with_len}
use Rattle.std.proofs.Math.Nat.{mul_comm}
use Rattle.std.proofs.lemmas.Bool.Decides.{nat_tests}
use Rattle.std.proofs.lemmas.List.{get_or_default}
use Rattle.std.proofs.lemmas.List.Sums.{sum_by-cons, count_by-le-length}
use Rattle.std.proofs.lemmas.List.FromFn.{length-range_with_len}
use Rattle.jdata.specs.Noun.{product}
use Rattle.jformat.specs.Rows.{number_along}
use Rattle.jformat.proofs.Products.{product_more}

abbrev pub changes : List ℕ → ℕ → ℕ → Bool
changes axes plane i = not (number_along axes i (plane - 1) == number_along axes i plane)

-- the axes from place a on have the product inner, and blanks is 1 and one for each axis from a - 1 up to before the last that changes
pub record IsCounted (axes : List ℕ) (plane inner blanks a : ℕ) : Type 0 where
  pub inner_is : inner ≡ product (drop a axes)
  pub blanks_is : blanks ≡ 1 + count_by (changes axes plane) (range_with_len (a - 1) (length axes - a))
  pub within : a ≤ length axes
  pub some : 0 < length axes → 1 ≤ a

pub blanks_at_most : (axes : List ℕ) (plane inner blanks a : ℕ) → IsCounted axes plane inner blanks a → blanks ≤ 1 + length axes
blanks_at_most axes plane inner blanks a was =
    let few = count_by-le-length (changes axes plane) (range_with_len (a - 1) (length axes - a)) in
    let l = length-range_with_len (a - 1) (length axes - a) in
    omega (arith, was.blanks_is, few, l)

-- one axis more in the product
pub inner_more : (axes : List ℕ) (plane inner blanks a b : ℕ) → a ≡ b + 1 → IsCounted axes plane inner blanks a → inner * get_or axes b 0 ≡ product (drop b axes)
inner_more axes plane inner blanks a b e was =
    ap (λ x. x * get_or axes b 0) (was.inner_is ∙ ap (λ k. product (drop k axes)) e)
    ∙ (mul_comm (product (drop (b + 1) axes)) (get_or axes b 0) ∙ sym (product_more axes b (omega (arith, was.within))))

-- one place more in the count
count_more : (f : ℕ → Bool) (i m : ℕ) → count_by f (range_with_len i (suc m)) ≡ cond (f i) 1 0 + count_by f (range_with_len (i + 1) m)
count_more f i m = sum_by-cons (λ x. cond (f x) 1 0) i (range_with_len (i + 1) m)

count_at : (f : ℕ → Bool) (i j m k : ℕ) → i ≡ j → m ≡ k → count_by f (range_with_len i m) ≡ count_by f (range_with_len j k)
count_at f i j m k e d = ap (λ x. count_by f (range_with_len x m)) e ∙ ap (λ x. count_by f (range_with_len j x)) d

pub counted_more : (axes : List ℕ) (plane inner blanks a b i more : ℕ) → a ≡ b + 1 → b ≡ i + 1 → IsCounted axes plane inner blanks a → more ≡ cond (changes axes plane i) 1 0 → IsCounted axes plane (inner * get_or axes b 0) (blanks + more) b
counted_more axes plane inner blanks a b i more e f was m = record {
  inner_is = inner_more axes plane inner blanks a b e was;
  blanks_is =
      let p = changes axes plane in
      let k = length axes - a in
      let now : count_by p (range_with_len (b - 1) (length axes - b)) ≡ count_by p (range_with_len i (suc k)) = count_at p (b - 1) i (length axes - b) (suc k) (omega (arith, f)) (omega (arith, e, was.within)) in
      let before : count_by p (range_with_len (a - 1) k) ≡ count_by p (range_with_len (i + 1) k) = count_at p (a - 1) (i + 1) k k (omega (arith, e, f)) refl in
      let step : count_by p (range_with_len i (suc k)) ≡ cond (p i) 1 0 + count_by p (range_with_len (i + 1) k) = count_more p i k in
      omega (arith, was.blanks_is, now, before, step, m);
  within = omega (arith, was.within);
  some = λ _. omega arith;
}

-- the number along axis i, as the code has it
number_is : (axes : List ℕ) (i inner plane : ℕ) → i < length axes → inner ≡ product (drop (i + 1) axes) → (plane / inner) % get_or axes i 0 ≡ number_along axes i plane
number_is axes i inner plane h e =
    ap (λ x. (plane / x) % get_or axes i 0) e ∙ ap (λ x. (plane / product (drop (i + 1) axes)) % x) (get_or_default axes i 0 1 h)

abbrev tally : Bool → ℕ
tally b = cond b 1 0

yes_changes : (m n : ℕ) → m ≢ n → tally (not (m == n)) ≡ 1
yes_changes m n h = grind (arith, nat_tests)

no_changes : (m n : ℕ) → m ≡ n → tally (not (m == n)) ≡ 0
no_changes m n h = grind (arith, nat_tests)

pub one_more : (axes : List ℕ) (plane inner blanks a b i : ℕ) → a ≡ b + 1 → b ≡ i + 1 → IsCounted axes plane inner blanks a → ((plane - 1) / (inner * get_or axes b 0)) % get_or axes i 0 ≢ (plane / (inner * get_or axes b 0)) % get_or axes i 0 → IsCounted axes plane (inner * get_or axes b 0) (blanks + 1) b
one_more axes plane inner blanks a b i e f was h =
    let inner_is : inner * get_or axes b 0 ≡ product (drop (i + 1) axes) = inner_more axes plane inner blanks a b e was ∙ ap (λ k. product (drop k axes)) f in
    let here : i < length axes = omega (arith, was.within) in
    let old = number_is axes i (inner * get_or axes b 0) (plane - 1) here inner_is in
    let new = number_is axes i (inner * get_or axes b 0) plane here inner_is in
    counted_more axes plane inner blanks a b i 1 e f was (sym (yes_changes (number_along axes i (plane - 1)) (number_along axes i plane) (λ same. h (old ∙ same ∙ sym new))))

pub none_more : (axes : List ℕ) (plane inner blanks a b i : ℕ) → a ≡ b + 1 → b ≡ i + 1 → IsCounted axes plane inner blanks a → ((plane - 1) / (inner * get_or axes b 0)) % get_or axes i 0 ≡ (plane / (inner * get_or axes b 0)) % get_or axes i 0 → IsCounted axes plane (inner * get_or axes b 0) blanks b
none_more axes plane inner blanks a b i e f was h =
    let inner_is : inner * get_or axes b 0 ≡ product (drop (i + 1) axes) = inner_more axes plane inner blanks a b e was ∙ ap (λ k. product (drop k axes)) f in
    let here : i < length axes = omega (arith, was.within) in
    let old = number_is axes i (inner * get_or axes b 0) (plane - 1) here inner_is in
    let new = number_is axes i (inner * get_or axes b 0) plane here inner_is in
    let same = counted_more axes plane inner blanks a b i 0 e f was (sym (no_changes (number_along axes i (plane - 1)) (number_along axes i plane) (sym old ∙ h ∙ new))) in
    record { inner_is = same.inner_is; blanks_is = omega (arith, same.blanks_is); within = same.within; some = same.some }
