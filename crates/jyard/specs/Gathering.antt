-- Holds of one block that are brought together.
use Rattle.std.specs.Prelude.{◌≡◌, ℕ, ◌+◌, ◌<◌, List, [], ◌∷◌, length, Option, true, is_some}
use Rattle.jyard.specs.Units.{BlockId, IsHolding, SeatOf, id_at, IsLogWith}
use Rattle.jyard.specs.Logs.{Entry, seats_after, all_units}
use Rattle.jyard.specs.declared.gathered.Gathered.{Gathered}

module _ {T : Type 0} where
  -- each seat has a unit of this block
  abbrev pub AllHold : BlockId → List (SeatOf (Option T)) → Type 0
  AllHold z [] = Unit {0}
  AllHold z (s ∷ ss) = ((s.id ≡ z) × IsHolding s.right × (is_some s.value ≡ true)) × AllHold z ss

  -- they are of the yard's block of that number
  abbrev pub AreHoldsOf : List BlockId → Gathered T → Type 0
  AreHoldsOf ids g = (g.block < length ids) × AllHold (id_at ids g.block) g.seats.all

  -- The plain sum over all seats ever made: a log of the block that leaves the word of this count, in which the gathered seats stand with all their steps, and whose seats have as many units as the count tells
  pub record IsSum (g : Gathered T) (count : ℕ) : Type 0 where
    pub log : List Entry
    pub is_log : IsLogWith g.seats.all (count + 1) log
    pub sum : all_units (seats_after log) ≡ count

  -- how many holds they are
  abbrev pub how_many : Gathered T → ℕ
  how_many g = length g.seats.all
