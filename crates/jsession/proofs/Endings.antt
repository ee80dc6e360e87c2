-- The last line end of the bytes that were read.
use Rattle.std.proofs.Common.{◌≡◌, ◌<◌, inl, inr, ◌==◌, ℕ, zero, suc, true, false, List, [], ◌∷◌, take, drop, length, get_or, arith, refl, ap}
use Rattle.std.proofs.lemmas.Bool.{cases_Bool}
use Rattle.jwords.specs.Alphabet.{line_feed}
use Rattle.jsession.specs.Items.{has_end, ended}

has_end_at : (xs : List ℕ) (n : ℕ) → n < length xs → get_or xs n 0 ≡ line_feed → has_end xs ≡ true
has_end_at [] n inside h = absurd (omega (arith, inside))
has_end_at (b ∷ r) zero inside h = rw h refl
has_end_at (b ∷ r) (suc n) inside h = elim (cases_Bool (b == line_feed)) [ inl is ↦ rw is refl | inr not ↦ rw (not, has_end_at r n (omega (arith, inside)) h) refl ]

pub ended_of_none : (xs : List ℕ) → has_end xs ≡ false → ended xs ≡ []
ended_of_none [] h = refl
ended_of_none (b ∷ r) h = rw h refl

-- no line end comes behind this place, and one stands at it
pub ended_at : (xs : List ℕ) (n : ℕ) → n < length xs → has_end (drop (suc n) xs) ≡ false → get_or xs n 0 ≡ line_feed → take (suc n) xs ≡ ended xs
ended_at [] n inside none h = absurd (omega (arith, inside))
ended_at (b ∷ r) zero inside none h =
    let some : has_end (b ∷ r) ≡ true = has_end_at (b ∷ r) zero inside h in
    rw (some, ended_of_none r none) refl
ended_at (b ∷ r) (suc n) inside none h =
    let some : has_end (b ∷ r) ≡ true = has_end_at (b ∷ r) (suc n) inside h in
    rw some (ap (λ l. b ∷ l) (ended_at r n (omega (arith, inside)) none h))
