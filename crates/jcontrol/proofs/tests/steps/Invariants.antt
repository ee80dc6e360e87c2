use Rattle.std.proofs.Common.{◌<◌, length}
use Rattle.jcontrol.proofs.tests.steps.Given as goal

abbrev pub invariant-loop-place : goal.invariant-loop-place
invariant-loop-place l = l.frame.place < length l.words
