-- What a guard knows of its seat.
use Rattle.std.proofs.Common.{◌≡◌, ℕ, Bool, true, false, cond, eqb, List, [], ◌∷◌, refl}
use Rattle.std.proofs.lemmas.Bool.{eqb-true}
use Rattle.jturn.specs.declared.board.Slot.{Slot}
use Rattle.jturn.specs.declared.board.Slot.TheVariants.{Away, Same, Added}
use Rattle.jturn.specs.Steps.{is_away, is_bare}

module _ {S N : Type 0} where
  away_is : (y : Slot S N) → is_away y ≡ true → y ≡ Away
  away_is Away e = refl
  away_is (Same x) e = cc
  away_is (Added x n) e = cc

  bare_at : (k : ℕ) (y : Slot S N) (b : Bool) → eqb k 0 ≡ b → cond b (is_away y) false ≡ true → (k ≡ 0) × (y ≡ Away)
  bare_at k y true e h = (eqb-true k 0 e, away_is y h)
  bare_at k y false e h = cc

  pub bare_is : (l : List (ℕ × Slot S N)) → is_bare l ≡ true → l ≡ (0, Away) ∷ []
  bare_is [] h = cc
  bare_is (x ∷ []) h = let b = bare_at x.0 x.1 (eqb x.0 0) refl h in λ i. (b.0 i, b.1 i) ∷ []
  bare_is (x ∷ y ∷ zs) h = cc
