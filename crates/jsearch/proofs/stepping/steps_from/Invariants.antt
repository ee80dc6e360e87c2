use Rattle.std.proofs.Common.{◌≡◌, map}
use Rattle.std.specs.List.{range_with_len}
use Rattle.jsearch.specs.Steps.{step}
use Rattle.jsearch.proofs.stepping.steps_from.Given as goal

abbrev pub invariant-loop-place : goal.invariant-loop-place
invariant-loop-place l = l.steps.items ≡ map (step l.number) (range_with_len 0 l.place)
