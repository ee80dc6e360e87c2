use Rattle.std.proofs.Common.{length}
use Rattle.jsearch.proofs.counting.+place_turned.Given as goal

abbrev pub decreases-place_turned : goal.decreases-place_turned
decreases-place_turned l = length l.numbers.now
