use Rattle.std.proofs.Common.{◌≡◌, ◌+◌, ◌-◌, ◌%◌, ◌<◌, ◌≤◌, List, length}
use Rattle.jyard.specs.Reads.{EachTaken}
use Rattle.jyard.specs.Units.{BlockId}
use Rattle.jyard.specs.Yards.{blocks_of}
use Rattle.jyard.proofs.yard.Yard.take.Given as goal

abbrev pub invariant-loop-passed : goal.invariant-loop-passed
invariant-loop-passed g l = let ids : List BlockId = blocks_of l.fn.self in (l.value ≡ l.fn.value) × (l.self ≡ l.fn.self) × (l.blocks ≡ length ids) × (l.blocks ≤ 65536) × (l.passed ≤ l.blocks) × (l.block < l.blocks)
    × (l.block ≡ (l.fn.pass.next + l.passed) % length ids) × (l.pass.view.yard ≡ ids) × (l.pass.next ≡ l.fn.pass.next) × EachTaken ids l.fn.pass.next l.passed l.fn.pass.view.spent l.pass.view.spent

abbrev pub decreases-loop-passed : goal.decreases-loop-passed
decreases-loop-passed g l = l.blocks - l.passed
