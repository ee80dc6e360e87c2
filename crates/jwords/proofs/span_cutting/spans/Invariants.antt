use Rattle.std.proofs.Common.{◌-◌, ◌≤◌, length}
use Rattle.jwords.specs.Cuts.{IsCut}
use Rattle.jwords.specs.Spans.{FindsSpan}
use Rattle.jwords.proofs.span_cutting.spans.Given as goal

-- all before the place is cut into the words so far
abbrev pub invariant-loop-at : goal.invariant-loop-at
invariant-loop-at l = record { cut : IsCut FindsSpan l.text l.at l.words.items; within : l.at ≤ length l.text }

abbrev pub decreases-loop-at : goal.decreases-loop-at
decreases-loop-at l = length l.text - l.at
