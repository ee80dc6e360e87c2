-- Holds that are brought together have a unit each.
use Rattle.std.proofs.Common.{◌≡◌, ℕ, zero, suc, List, [], ◌∷◌, length, Option, refl, arith}
use Rattle.jyard.specs.Counts.{units_of}
use Rattle.jyard.specs.Units.{BlockId, SeatOf, IsHolding, AllHere, units_in}
use Rattle.jyard.specs.Gathering.{AllHold}

holding_is_one : (r : ℕ) → IsHolding r → units_of r ≡ 1
holding_is_one zero h = absurd (omega (arith, h.0))
holding_is_one (suc zero) h = refl
holding_is_one (suc (suc zero)) h = refl
holding_is_one (suc (suc (suc k))) h = absurd (omega (arith, h.1))

pub all_here : {T : Type 0} (z : BlockId) (ss : List (SeatOf (Option T))) → AllHold z ss → AllHere z ss
all_here z [] h = tt
all_here z (s ∷ ss) h = (h.0.0, all_here z ss h.1)

pub one_each : {T : Type 0} (z : BlockId) (ss : List (SeatOf (Option T))) → AllHold z ss → units_in ss ≡ length ss
one_each z [] h = refl
one_each z (s ∷ ss) h = let here = holding_is_one s.right h.0.1 in let others = one_each z ss h.1 in omega (arith, here, others)
