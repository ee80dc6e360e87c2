use Rattle.std.proofs.Common.{◌≡◌, drop}
use Rattle.jeval.specs.Queue.{is_plain}
use Rattle.jeval.proofs.queue.is_plain.Given as goal

abbrev pub invariant-loop-i : goal.invariant-loop-i
invariant-loop-i l = is_plain l.name ≡ is_plain (drop l.i l.name)
