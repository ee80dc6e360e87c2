-- Which holds and passes are of a yard.
use Rattle.std.specs.Prelude.{◌≡◌, ◌<◌, List, length, true, is_some}
use Rattle.jyard.specs.Units.{BlockId, IsHolding, id_at}
use Rattle.jyard.specs.declared.hold.Hold.{Hold}
use Rattle.jyard.specs.declared.yard.Yard.{Yard}
use Rattle.jyard.specs.declared.yard.YardPass.{YardPass}

module _ {T : Type 0} where
  -- Which yard it is: its blocks, each of them by what no other block shares with it
  abbrev pub blocks_of : Yard T → List BlockId
  blocks_of y = y.shelf.value.table.ids

  -- the hold has one unit of the yard's block of its number
  abbrev pub IsHoldOf : List BlockId → Hold T → Type 0
  IsHoldOf ids h = (h.block < length ids) × (h.seat.id ≡ id_at ids h.block) × IsHolding h.seat.right × (is_some h.seat.value ≡ true)

-- the pass is of the yard, and its next `take` begins at a block of it
abbrev pub IsPassOf : List BlockId → YardPass → Type 0
IsPassOf ids p = (p.view.yard ≡ ids) × (p.next < length ids)
