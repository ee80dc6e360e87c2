-- A row whose places all have the same value.
use Rattle.std.proofs.Common.{◌≡◌, ℕ, zero, suc, ◌<◌, List, [], ◌∷◌, length, replicate, slice_index_or, refl, arith}

pub all_same : {X : Type 0} (xs : List X) (n : ℕ) (x d : X) → length xs ≡ n → ((k : ℕ) → k < n → slice_index_or xs k d ≡ x) → xs ≡ replicate n x
all_same [] zero x d e h = refl
all_same [] (suc n) x d e h = let e' : 0 ≡ suc n = e in absurd (omega arith)
all_same (y ∷ ys) zero x d e h = let e' : suc (length ys) ≡ 0 = e in absurd (omega arith)
all_same (y ∷ ys) (suc n) x d e h = let e' : suc (length ys) ≡ suc n = e in λ i. h 0 (omega arith) i ∷ all_same ys n x d (omega arith) (λ k lt. h (suc k) (omega arith)) i
