-- The seats that a pass has. Assumes `Logic`.
use Rattle.std.proofs.Common.{ℕ, List, [], ◌∷◌, ◌++◌}
use seplogic.Ra.Ura.{Ura}
use base.Logic.{ent, sep}
use base.Fml.{Fml, ftrue, fsep}
use types.Logic.{Logic, sem}
use types.Kit.{‵, ◌$◌, ◌∵◌, !, qed, by, move, drop, fsplit, fjoin, use2, done}
use denote.Steps.{nothing}
use Rattle.jyard.specs.Logs.{Entry, sitter}
use Rattle.jyard.specs.Units.{BlockId, Spent, sits, spents_own}

module _ {M : Type 1} {𝓤 : Ura M} (𝓛 : Logic 𝓤) where
  pub spents_join : (xs ys : List Spent) → ent 𝓤 (sep 𝓤 (sem 𝓛 (spents_own xs)) (sem 𝓛 (spents_own ys))) (sem 𝓛 (spents_own (xs ++ ys)))
  spents_join [] ys = qed 𝓛 (‵ ftrue ∷ ‵ (spents_own ys) ∷ []) ∵ drop ! $ done !
  spents_join (x ∷ xs) ys = let S : Fml = sits x.id x.seat (sitter 0 0 x.steps) in qed 𝓛 (‵ (fsep S (spents_own xs)) ∷ ‵ (spents_own ys) ∷ []) ∵ fsplit ! $ move ! (1 ∷ 2 ∷ []) $
      use2 𝓛 (‵ (spents_own (xs ++ ys))) (spents_join xs ys) $ move ! (1 ∷ 0 ∷ []) $ fjoin ! $ done !

  pub spents_more : (xs : List Spent) (z : BlockId) (i : ℕ) (steps : List Entry)
      → ent 𝓤 (sep 𝓤 (sem 𝓛 (spents_own xs)) (sem 𝓛 (sits z i (sitter 0 0 steps)))) (sem 𝓛 (spents_own (xs ++ record { id = z; seat = i; steps = steps } ∷ [])))
  spents_more xs z i steps = qed 𝓛 (‵ (spents_own xs) ∷ ‵ (sits z i (sitter 0 0 steps)) ∷ []) ∵ move ! (1 ∷ []) $ nothing ! $ move ! (1 ∷ 0 ∷ []) $ fjoin ! $ move ! (1 ∷ 0 ∷ []) $
      by ! (spents_join xs (record { id = z; seat = i; steps = steps } ∷ []))
