-- Lists that are made of a function of the index, one index more at the end; functions that agree.
use Rattle.std.proofs.Common.{◌≡◌, ℕ, zero, suc, ◌+◌, ◌<◌, ◌≤◌, List, [], ◌∷◌, ◌++◌, refl, sym, ap, ◌∙◌, append-nil, arith}
use Rattle.std.specs.Prelude.{max}
use Rattle.std.specs.List.{range_with_len, flat_map}
use Rattle.std.proofs.lemmas.List.{map-id}
use Rattle.std.proofs.lemmas.List.FromFn.{map-range_with_len_more}
use Rattle.std.proofs.lemmas.List.Concat.{flat_map-append}
use Rattle.jdata.specs.Noun.{greatest}

pub range_more : (a n : ℕ) → range_with_len a (n + 1) ≡ range_with_len a n ++ (a + n) ∷ []
range_more a n = sym (map-id (range_with_len a (n + 1))) ∙ map-range_with_len_more (λ k. k) a n (a + n) refl ∙ ap (λ l. l ++ (a + n) ∷ []) (map-id (range_with_len a n))

pub flat_range_more : {A : Type 0} (f : ℕ → List A) (n : ℕ) → flat_map f (range_with_len 0 (n + 1)) ≡ flat_map f (range_with_len 0 n) ++ f n
flat_range_more f n =
    ap (flat_map f) (range_more 0 n) ∙ flat_map-append f (range_with_len 0 n) ((0 + n) ∷ []) ∙ ap (λ l. flat_map f (range_with_len 0 n) ++ l) (append-nil (f (0 + n)) ∙ ap f (omega arith))

pub greatest_push : (xs : List ℕ) (x : ℕ) → greatest (xs ++ x ∷ []) ≡ max (greatest xs) x
greatest_push [] x = omega arith
greatest_push (y ∷ ys) x = omega (arith, greatest_push ys x)

pub flat_map_agrees : {X : Type 0} (f g : ℕ → List X) (a n : ℕ) → ((k : ℕ) → a ≤ k → k < a + n → f k ≡ g k) → flat_map f (range_with_len a n) ≡ flat_map g (range_with_len a n)
flat_map_agrees f g a zero h = refl
flat_map_agrees f g a (suc n) h =
    ap (λ x. x ++ flat_map f (range_with_len (a + 1) n)) (h a (omega arith) (omega arith)) ∙ ap (λ l. g a ++ l) (flat_map_agrees f g (a + 1) n (λ k p l. h k (omega (arith, p)) (omega (arith, l))))

-- what has been made of n places, and the piece at the next
pub made_more : {X : Type 0} (f : ℕ → List X) (n : ℕ) (made piece more : List X) → made ≡ flat_map f (range_with_len 0 n) → more ≡ made ++ piece → piece ≡ f n → more ≡ flat_map f (range_with_len 0 (n + 1))
made_more f n made piece more e g h = g ∙ ap (λ l. l ++ piece) e ∙ ap (λ l. flat_map f (range_with_len 0 n) ++ l) h ∙ sym (flat_range_more f n)
