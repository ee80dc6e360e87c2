use Rattle.std.proofs.Common.{◌≡◌, map}
use Rattle.std.specs.List.{All, range_with_len}
use Rattle.jcut.specs.Cut.{interval}
use Rattle.jcut.specs.Runs.{run_places, Fits}
use Rattle.jcut.proofs.intervals.intervals.Given as goal

abbrev pub invariant-loop-number : goal.invariant-loop-number
invariant-loop-number l =
    (map run_places l.runs.items ≡ map (interval l.cutting l.frets l.count) (range_with_len 0 l.number)) × All (Fits l.count) l.runs.items
