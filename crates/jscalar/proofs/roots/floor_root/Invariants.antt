use Rattle.std.proofs.Common.{◌-◌, ◌+◌, ◌^◌, ◌<◌, ◌≤◌}
use Rattle.jscalar.proofs.roots.floor_root.Given as goal

-- the root lies between
abbrev pub invariant-loop-high : goal.invariant-loop-high
invariant-loop-high l =
    record {
      order : l.low < l.high;
      bound : l.high ≤ l.value + 1;
      within : l.low ^ l.degree ≤ l.value;
      next : l.value < l.high ^ l.degree;
    }

abbrev pub decreases-loop-high : goal.decreases-loop-high
decreases-loop-high l = l.high - l.low
