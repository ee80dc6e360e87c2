use Rattle.std.proofs.Common.{◌≡◌, [], drop}
use Rattle.jexplicit.specs.Standing.{reads_by}
use Rattle.jexplicit.proofs.checking.reads.Given as goal

abbrev pub invariant-loop-at : goal.invariant-loop-at
invariant-loop-at l = reads_by (drop l.at l.kinds) l.groups.items ≡ reads_by l.kinds []
