use Rattle.std.proofs.Common.{◌≡◌, map, take, get_or}
use Rattle.std.specs.Prelude.{pos}
use Rattle.jdata.specs.Noun.{int_atom}
use Rattle.jplan.proofs.climbing.results_of.Given as goal

abbrev pub invariant-loop-count : goal.invariant-loop-count
invariant-loop-count l = l.results ≡ map (λ c. get_or l.values c (int_atom (pos 0))) (take l.count-index l.counts)
