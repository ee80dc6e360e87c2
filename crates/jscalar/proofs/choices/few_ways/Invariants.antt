use Rattle.std.proofs.Common.{◌≡◌, ◌+◌, ◌<◌, ◌^◌}
use Rattle.jscalar.specs.Choices.{ways}
use Rattle.jscalar.proofs.choices.few_ways.Given as goal

-- so far, with as many left
abbrev pub invariant-loop-done : goal.invariant-loop-done
invariant-loop-done l = record { count : l.count ≡ ways l.done (l.left + l.done); small : l.count < 2 ^ 63 }
