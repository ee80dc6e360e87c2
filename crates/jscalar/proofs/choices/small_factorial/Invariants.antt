use Rattle.std.proofs.Common.{◌≡◌}
use Rattle.jscalar.specs.Choices.{factorial}
use Rattle.jscalar.proofs.choices.small_factorial.Given as goal

abbrev pub invariant-loop-done : goal.invariant-loop-done
invariant-loop-done l = l.product ≡ factorial l.done
