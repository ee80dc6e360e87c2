-- What a step of a pass adds to the seats that it has.
use Rattle.std.specs.Prelude.{◌≡◌, ℕ, ◌+◌, List, [], ◌∷◌, ◌++◌}
use Rattle.jyard.specs.Logs.{Entry, entry, taking, counting, after_take}
use Rattle.jyard.specs.Units.{BlockId, Spent}

-- a seat that has made one step
abbrev pub one_step : BlockId → Entry → Spent
one_step z e = record { id = z; seat = e.seat; steps = e ∷ [] }

-- A take found this word, and left what a take leaves there. Its new seat is the one after that of the pass
pub record HasTaken (before after : List Spent) (z : BlockId) (found new : ℕ) : Type 0 where
  pub seat : ℕ
  pub is_next : new ≡ seat + 1
  pub added : after ≡ before ++ one_step z (entry taking seat found (after_take found) new) ∷ []

-- a count found this word
pub record HasCounted (before after : List Spent) (z : BlockId) (found : ℕ) : Type 0 where
  pub seat : ℕ
  pub added : after ≡ before ++ one_step z (entry counting seat found found 0) ∷ []
