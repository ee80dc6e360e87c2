-- The verbs that may be grouped either way on truths.
use Rattle.std.proofs.Common.{◌≡◌, ◌⊎◌, inl, inr, ℕ, ◌+◌, ◌≤◌, List, [], ◌∷◌, Some, Ok, Bool, true, false, not, ◌&&◌, cond, refl, sym, subst, ◌∙◌, arith}
use Rattle.std.specs.Prelude.{ℤ, pos}
use Rattle.std.specs.Int.{int_min, int_max}
use Rattle.std.specs.Ordering.{int_eq}
use Rattle.std.specs.List.{sum_by, list_all}
use Rattle.std.proofs.lemmas.Bool.Decides.{Decides-int_eq, Decides-or}
use Rattle.std.proofs.lemmas.List.Sums.{sum_by-cons}
use Rattle.jdata.specs.Fits.{is_within_64_bits}
use Rattle.jscalar.specs.Fitted.{fitted}
use Rattle.jscalar.specs.Searches.{greatest_up_to}
use Rattle.jscalar.specs.Divisors.{greatest_common_divisor, common_multiple}
use Rattle.jscalar.specs.Truths.{truth, is_truth, is_one}
use Rattle.jscalar.specs.Dyads as dyads
use Rattle.jfold.specs.Folded.{prefixes_by}
use Rattle.jfold.specs.Running.{running}
use Rattle.jfold.proofs.Laws.{Joins, prefixes_run, runs_alike}
use Rattle.jfold.proofs.Verbs.{least_either_way, greatest_either_way}

-- 0 of a truth
untrue : ℤ → ℕ
untrue n = cond (is_truth n) 0 1

sure : (b : Bool) → cond b 0 1 ≤ 0 → b ≡ true
sure true h = refl
sure false h = absurd (omega arith)

is_zero_or_one : (n : ℤ) → untrue n ≤ 0 → (n ≡ pos 0) ⊎ (n ≡ pos 1)
unfolding untrue is_truth is_one
is_zero_or_one n h = (Decides-or (int_eq n (pos 0)) (int_eq n (pos 1)) (Decides-int_eq n (pos 0)) (Decides-int_eq n (pos 1))).0 (sure (is_truth n) h)

by_truths : (P : ℤ → Type 0) → P (pos 0) → P (pos 1) → (n : ℤ) → untrue n ≤ 0 → P n
by_truths P none one n h = elim (is_zero_or_one n h) [ inl e ↦ subst P (sym e) none | inr e ↦ subst P (sym e) one ]

by_two : (P : ℤ → ℤ → Type 0) → P (pos 0) (pos 0) → P (pos 0) (pos 1) → P (pos 1) (pos 0) → P (pos 1) (pos 1) → (x y : ℤ) → untrue x + untrue y ≤ 0 → P x y
by_two P a b c d x y h =
    let g : untrue x ≤ 0 = omega arith in
    let k : untrue y ≤ 0 = omega arith in
    by_truths (λ m. P m y) (by_truths (P (pos 0)) a b y k) (by_truths (P (pos 1)) c d y k) x g

differ : ℤ → ℤ → ℤ
differ x y = truth (not (int_eq x y))

Either : ℤ → ℤ → ℤ → Type 0
Either x y z = differ (differ x y) z ≡ differ x (differ y z)

differ_either_way : (x y z : ℤ) → untrue x + untrue y + untrue z ≤ 0 → Either x y z
unfolding Either differ
differ_either_way x y z h =
    let g : untrue z ≤ 0 = omega arith in
    let k : untrue x + untrue y ≤ 0 = omega arith in
    by_two (λ m n. Either m n z) (by_truths (Either (pos 0) (pos 0)) refl refl z g) (by_truths (Either (pos 0) (pos 1)) refl refl z g)
    (by_truths (Either (pos 1) (pos 0)) refl refl z g) (by_truths (Either (pos 1) (pos 1)) refl refl z g) x y k

truth_is_truth : (b : Bool) → untrue (truth b) ≤ 0
unfolding untrue is_truth is_one
truth_is_truth true = omega arith
truth_is_truth false = omega arith

zero_is_truth : untrue (pos 0) ≤ 0
unfolding untrue is_truth is_one
zero_is_truth = omega arith

one_is_truth : untrue (pos 1) ≤ 0
unfolding untrue is_truth is_one
one_is_truth = omega arith

differ_joins : Joins untrue 0 dyads.not_equal differ
unfolding differ Either
differ_joins = record {
  gives = λ x y h. refl;
  keeps = λ x y h. omega (arith, truth_is_truth (not (int_eq x y)));
  joins = λ x y z h. differ_either_way x y z h;
}

larger_kept : (x y : ℤ) → untrue x + untrue y ≤ 0 → untrue (int_max x y) ≤ 0
larger_kept x y h = by_two (λ m n. untrue (int_max m n) ≤ 0) zero_is_truth one_is_truth one_is_truth one_is_truth x y h

lesser_kept : (x y : ℤ) → untrue x + untrue y ≤ 0 → untrue (int_min x y) ≤ 0
lesser_kept x y h = by_two (λ m n. untrue (int_min m n) ≤ 0) zero_is_truth zero_is_truth zero_is_truth one_is_truth x y h

divisor_is_larger : (x y : ℤ) → untrue x + untrue y ≤ 0 → dyads.common_divisor x y ≡ Ok (int_max x y)
unfolding greatest_common_divisor greatest_up_to fitted is_within_64_bits
divisor_is_larger x y h = by_two (λ m n. dyads.common_divisor m n ≡ Ok (int_max m n)) refl refl refl refl x y h

multiple_is_lesser : (x y : ℤ) → untrue x + untrue y ≤ 0 → dyads.common_multiple x y ≡ Ok (int_min x y)
unfolding greatest_common_divisor common_multiple greatest_up_to fitted is_within_64_bits
multiple_is_lesser x y h = by_two (λ m n. dyads.common_multiple m n ≡ Ok (int_min m n)) refl refl refl refl x y h

larger_joins : Joins untrue 0 dyads.larger int_max
larger_joins = record { gives = λ x y h. refl; keeps = λ x y h. omega (arith, larger_kept x y h); joins = λ x y z h. greatest_either_way x y z }

divisor_joins : Joins untrue 0 dyads.common_divisor int_max
divisor_joins = record { gives = divisor_is_larger; keeps = λ x y h. omega (arith, larger_kept x y h); joins = λ x y z h. greatest_either_way x y z }

lesser_joins : Joins untrue 0 dyads.lesser int_min
lesser_joins = record { gives = λ x y h. refl; keeps = λ x y h. omega (arith, lesser_kept x y h); joins = λ x y z h. least_either_way x y z }

multiple_joins : Joins untrue 0 dyads.common_multiple int_min
multiple_joins = record { gives = multiple_is_lesser; keeps = λ x y h. omega (arith, lesser_kept x y h); joins = λ x y z h. least_either_way x y z }

both : (b rest : Bool) → (b && rest) ≡ true → (cond b 0 1 ≤ 0) × (rest ≡ true)
both true rest e = (omega arith, e)
both false rest e = absurd (cc)

true_first : (n : ℤ) (rest : Bool) → (is_truth n && rest) ≡ true → (untrue n ≤ 0) × (rest ≡ true)
unfolding untrue
true_first n rest e = both (is_truth n) rest e

all_true : (l : List ℤ) → list_all is_truth l ≡ true → sum_by untrue l ≤ 0
all_true [] e = omega arith
all_true (n ∷ l) e =
    let parts : (untrue n ≤ 0) × (list_all is_truth l ≡ true) = true_first n (list_all is_truth l) e in
    omega (arith, sum_by-cons untrue n l, parts.0, all_true l parts.1)

pub differences_run : (l : List ℤ) → list_all is_truth l ≡ true → prefixes_by (Some dyads.not_equal) l ≡ running dyads.not_equal l
differences_run l e = prefixes_run _ _ _ _ differ_joins l (all_true l e)

-- of truths the greatest common divisor is the larger, and the least common multiple the lesser
pub divisors_run : (l : List ℤ) → list_all is_truth l ≡ true → prefixes_by (Some dyads.common_divisor) l ≡ running dyads.larger l
divisors_run l e = prefixes_run _ _ _ _ divisor_joins l (all_true l e) ∙ runs_alike _ _ _ _ _ divisor_joins larger_joins l (all_true l e)

pub multiples_run : (l : List ℤ) → list_all is_truth l ≡ true → prefixes_by (Some dyads.common_multiple) l ≡ running dyads.lesser l
multiples_run l e = prefixes_run _ _ _ _ multiple_joins l (all_true l e) ∙ runs_alike _ _ _ _ _ multiple_joins lesser_joins l (all_true l e)
