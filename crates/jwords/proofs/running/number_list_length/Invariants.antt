use Rattle.std.proofs.Common.{◌-◌, ◌≤◌, length}
use Rattle.jwords.specs.Runs.{BeginsNumber}
use Rattle.jwords.proofs.NumberLists.{Listing}
use Rattle.jwords.proofs.running.number_list_length.Given as goal

-- all before the place is of the list, and at the place more of it begins
abbrev pub invariant-loop-rest : goal.invariant-loop-rest
invariant-loop-rest l = record { listed : Listing BeginsNumber l.at l.bytes; within : l.at ≤ length l.bytes }

abbrev pub decreases-loop-rest : goal.decreases-loop-rest
decreases-loop-rest l = length l.bytes - l.at
