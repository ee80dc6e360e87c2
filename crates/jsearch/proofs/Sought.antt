-- The first place of a key in a list, found from the list's end.
use Rattle.std.specs.Prelude.{ℕ, suc, ◌+◌, ◌<◌, ◌≡◌, Bool, true, false, cond, not, Option, Some, None, unwrap_or, List, [], ◌∷◌, length, drop, get_or, reverse}
use Rattle.std.specs.List.{position_or_len, position_from}
use Rattle.std.specs.Cmp.{IsEquivalence}
use Rattle.std.proofs.lemmas.List.{at_drop_more, length-reverse}
use Rattle.std.proofs.Math.ListN.{drop_of_length-le}
use Rattle.std.proofs.Common.{arith, sym, ◌∙◌, ap, refl}

-- a place counted from another number on
found_from : {K : Type 0} (t : K → Bool) (i : ℕ) (xs : List K) → unwrap_or (position_from t i xs) (i + length xs) ≡ i + position_or_len t xs
found_from t i [] = refl
found_from t i (x ∷ xs) =
    elim (t x) as (λ b. unwrap_or (cond b (Some i) (position_from t (i + 1) xs)) (i + suc (length xs)) ≡ i + cond (not b) (1 + position_or_len t xs) 0) [
      | true ↦ omega arith
      | false ↦ (let more = found_from t (i + 1) xs in let n : i + suc (length xs) ≡ i + 1 + length xs = omega arith in ap (unwrap_or (position_from t (i + 1) xs)) n ∙ more ∙ omega arith)
    ]

pub found : {K : Type 0} (t : K → Bool) (xs : List K) → unwrap_or (position_from t 0 xs) (length xs) ≡ position_or_len t xs
found t xs =
    let none : length xs ≡ 0 + length xs = omega arith in
    let more : 0 + position_or_len t xs ≡ position_or_len t xs = omega arith in
    ap (unwrap_or (position_from t 0 xs)) none ∙ found_from t 0 xs ∙ more

-- a key in front of the others
pub stepped : {K : Type 0} (E : K → K → Bool) → IsEquivalence E → (among : List K) (left i : ℕ) (key q : K) (old new : Option ℕ) → i + 1 ≡ left → i < length among → key ≡ get_or among i key →
    new ≡ cond (E key q) (Some i) old → old ≡ position_from (E q) left (drop left among) → new ≡ position_from (E q) i (drop i among)
stepped E laws among left i key q old new one within here e was =
    e ∙ (λ k. cond (laws.symm key q k) (Some i) ((was ∙ ap (λ n. position_from (E q) n (drop n among)) (sym one)) k))
    ∙ ap (λ x. cond (E q x) (Some i) (position_from (E q) (i + 1) (drop (i + 1) among))) here
    ∙ sym (at_drop_more (position_from (E q) i) among i key within)

pub ended : {K : Type 0} (t : K → Bool) (among : List K) → None ≡ position_from t (length among) (drop (length among) among)
ended t among = ap (position_from t (length among)) (sym (drop_of_length-le among (omega arith)))

pub found_back : {K : Type 0} (t : K → Bool) (xs : List K) → unwrap_or (position_from t 0 (reverse xs)) (length xs) ≡ position_or_len t (reverse xs)
found_back t xs = ap (unwrap_or (position_from t 0 (reverse xs))) (sym (length-reverse xs)) ∙ found t (reverse xs)
