-- Integers that are pushed one after another.
use Rattle.std.specs.Prelude.{ℕ, zero, suc, ◌+◌, ◌≡◌, ℤ, pos, List, [], ◌∷◌, ◌++◌, map, replicate}
use Rattle.std.specs.List.{range_with_len}
use Rattle.std.proofs.Common.{arith, sym, ◌∙◌, ap, refl, w64, of_z, to_z}
use mir.Val.{SFits}
use Rattle.std.proofs.lemmas.Int.{to_z-of_z}
use Rattle.std.proofs.lemmas.List.{append_assoc, map-append}
use Rattle.std.proofs.lemmas.List.FromFn.{map-range_with_len_more}

-- the number at the next place
pub pushed : (f : ℕ → ℤ) (k : ℕ) (n : ℤ) (l longer : List ℤ) → SFits w64 n → longer ≡ l ++ to_z w64 (of_z w64 n) ∷ [] → n ≡ f k →
    l ≡ map f (range_with_len 0 k) → longer ≡ map f (range_with_len 0 (k + 1))
pushed f k n l longer fits e at was =
    e ∙ (λ i. was i ++ (to_z-of_z w64 n fits ∙ at) i ∷ []) ∙ sym (map-range_with_len_more f 0 k k (omega arith))

replicate_more : {A : Type 0} (n : ℕ) (x : A) → replicate (n + 1) x ≡ replicate n x ++ x ∷ []
replicate_more zero x = refl
replicate_more (suc n) x =
    let one : suc n + 1 ≡ suc (n + 1) = omega arith in
    ap (λ k. replicate k x) one ∙ ap (λ l. x ∷ l) (replicate_more n x)

-- the same number again
pub pushed_again : (k : ℕ) (n : ℤ) (before l longer : List ℤ) → SFits w64 n → longer ≡ l ++ to_z w64 (of_z w64 n) ∷ [] →
    l ≡ before ++ replicate k n → longer ≡ before ++ replicate (k + 1) n
pushed_again k n before l longer fits e was =
    e ∙ (λ i. was i ++ to_z-of_z w64 n fits i ∷ []) ∙ append_assoc before (replicate k n) (n ∷ []) ∙ ap (λ r. before ++ r) (sym (replicate_more k n))

map-replicate : {A B : Type 0} (f : A → B) (n : ℕ) (x : A) → map f (replicate n x) ≡ replicate n (f x)
map-replicate f zero x = refl
map-replicate f (suc n) x = ap (λ l. f x ∷ l) (map-replicate f n x)

-- the next place, so many times
pub repeated_pushed : (k p : ℕ) (n : ℤ) (ps more : List ℕ) (l longer : List ℤ) → SFits w64 n → longer ≡ l ++ replicate k (to_z w64 (of_z w64 n)) → n ≡ pos p →
    more ≡ ps ++ replicate k p → l ≡ map pos ps → longer ≡ map pos more
repeated_pushed k p n ps more l longer fits e at e2 was =
    e ∙ (λ i. was i ++ replicate k ((to_z-of_z w64 n fits ∙ at) i)) ∙ ap (λ r. map pos ps ++ r) (sym (map-replicate pos k p))
    ∙ sym (map-append pos ps (replicate k p)) ∙ ap (map pos) (sym e2)
