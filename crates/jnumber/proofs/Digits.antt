-- Lemmas on decimal digits: one more digit read, and digits that pass 64 bits.
use Rattle.std.proofs.Common.{◌≡◌, ℕ, ◌+◌, ◌-◌, ◌*◌, ◌^◌, ◌<◌, ◌≤◌, List, [], ◌∷◌, length, drop, get_or, arith}
use Rattle.std.proofs.lemmas.List.{drop_more, drop_all}
use Rattle.std.proofs.lemmas.Bool.Decides.{nat_tests}
use Rattle.std.specs.Char.{digit_value}
use Rattle.std.specs.Str.Parse.{AllDigits, digits_value, digits_value_after}

-- read on from n, the rest gives what the whole does, and the rest is of digits where the whole is
pub record SameDigits (n : ℕ) (rest whole : List ℕ) : Type 0 where
  pub value : digits_value_after 10 n rest ≡ digits_value 10 whole
  pub onward : AllDigits 10 whole → AllDigits 10 rest
  pub back : AllDigits 10 rest → AllDigits 10 whole
  pub fits : n < 2 ^ 64

pub digit_is : (c : ℕ) → 48 ≤ c → c ≤ 57 → (digit_value c < 10) × (digit_value c ≡ c - 48)
digit_is c low high = grind (arith, nat_tests)

pub digit_in_range : (c : ℕ) → digit_value c < 10 → (48 ≤ c) × (c ≤ 57)
digit_in_range c h = grind (arith, nat_tests)

-- what digits write is no less than what stood before them
pub value_after_ge : (n : ℕ) (ds : List ℕ) → n ≤ digits_value_after 10 n ds
value_after_ge n [] = omega arith
value_after_ge n (c ∷ cs) = let h : n * 10 + digit_value c ≤ digits_value_after 10 (n * 10 + digit_value c) cs = value_after_ge (n * 10 + digit_value c) cs in omega (arith, h)

pub same_cons : (n c : ℕ) (cs whole : List ℕ) → SameDigits n (c ∷ cs) whole → digit_value c < 10 → n * 10 + digit_value c < 2 ^ 64 → SameDigits (n * 10 + digit_value c) cs whole
same_cons n c cs whole h d f = record {
  value = h.value;
  onward = λ all. (h.onward all).1;
  back = λ all. h.back (d, all);
  fits = f;
}

-- one more digit
pub same_more : (n v : ℕ) (ds whole : List ℕ) (i : ℕ) → i < length ds → SameDigits n (drop i ds) whole → digit_value (get_or ds i 0) < 10 → v ≡ n * 10 + digit_value (get_or ds i 0) → v < 2 ^ 64 → SameDigits v (drop (i + 1) ds) whole
same_more n v ds whole i l h d e f = rw e (same_cons n (get_or ds i 0) (drop (i + 1) ds) whole (rw (drop_more ds i 0 l) at h) d (rw e at f))

-- no number where a byte is no digit
pub not_digits : (n : ℕ) (ds whole : List ℕ) (i : ℕ) → i < length ds → SameDigits n (drop i ds) whole → (digit_value (get_or ds i 0) < 10 → ⊥) → AllDigits 10 whole → ⊥
not_digits n ds whole i l h d all =
    let k = rw (drop_more ds i 0 l) at h in
    d ((k.onward all).0)

-- no number of 64 bits where it passes them on the way
pub too_great : (n : ℕ) (ds whole : List ℕ) (i : ℕ) → i < length ds → SameDigits n (drop i ds) whole → (n * 10 + digit_value (get_or ds i 0) < 2 ^ 64 → ⊥) → digits_value 10 whole < 2 ^ 64 → ⊥
too_great n ds whole i l h over small =
    let k = rw (drop_more ds i 0 l) at h in
    let ge : n * 10 + digit_value (get_or ds i 0) ≤ digits_value_after 10 (n * 10 + digit_value (get_or ds i 0)) (drop (i + 1) ds) = value_after_ge (n * 10 + digit_value (get_or ds i 0)) (drop (i + 1) ds) in
    over (omega (arith, ge, k.value))

-- at the end
pub same_all : (n : ℕ) (ds whole : List ℕ) (i : ℕ) → length ds ≤ i → SameDigits n (drop i ds) whole → AllDigits 10 whole × (n ≡ digits_value 10 whole)
same_all n ds whole i l h = let k = rw (drop_all i ds l) at h in (k.back tt, k.value)
