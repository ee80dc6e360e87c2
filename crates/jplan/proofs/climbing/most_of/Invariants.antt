use Rattle.std.proofs.Common.{◌≡◌, max, drop}
use Rattle.jdata.specs.Noun.{greatest}
use Rattle.jplan.proofs.climbing.most_of.Given as goal

abbrev pub invariant-loop-count : goal.invariant-loop-count
invariant-loop-count l = max l.most (greatest (drop l.count-index l.counts)) ≡ greatest l.counts
