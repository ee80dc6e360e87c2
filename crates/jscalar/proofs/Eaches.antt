-- All the places of a list, one after another.
use Rattle.std.proofs.Common.{◌≡◌, ℕ, suc, ◌+◌, List, [], ◌∷◌, map, length, get_or, Result, refl, ap, ◌∙◌, arith}
use Rattle.std.specs.Prelude.{ℤ, pos}
use Rattle.std.specs.List.{range_with_len}
use Rattle.jdata.specs.Firsts.{all_or_first}
use Rattle.jdata.specs.declared.fault.Fault.{Fault}
use Rattle.jscalar.specs.Places.{by_place}
use Rattle.jscalar.proofs.Filled.{moved, same_from}

ranged : (meant : ℤ → Result ℤ Fault) (l : List ℤ) → map (λ j. meant (get_or l j (pos 0))) (range_with_len 0 (length l)) ≡ map meant l
ranged meant [] = refl
ranged meant (x ∷ l) =
    let at : ℕ → Result ℤ Fault = λ j. meant (get_or (x ∷ l) j (pos 0)) in
    let behind : (j : ℕ) → at (1 + j) ≡ meant (get_or l j (pos 0)) = λ j. (let e : 1 + j ≡ suc j = omega arith in ap at e) in
    ap (λ rest. meant x ∷ rest)
    (moved at 1 0 (length l) ∙ same_from (λ j. at (1 + j)) (λ j. meant (get_or l j (pos 0))) 0 (length l) (λ j below above. behind j) ∙ ranged meant l)

pub each_by_place : (meant : ℤ → Result ℤ Fault) (l : List ℤ) → by_place (λ j. meant (get_or l j (pos 0))) (length l) ≡ all_or_first (map meant l)
unfolding by_place
each_by_place meant l = ap all_or_first (ranged meant l)
