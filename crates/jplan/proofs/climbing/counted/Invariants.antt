use Rattle.std.proofs.Common.{◌≡◌, map, take, drop, true}
use Rattle.std.specs.List.{list_all}
use Rattle.jselect.specs.Arguments.{is_count, count_of}
use Rattle.jplan.proofs.climbing.counted.Given as goal

abbrev pub invariant-loop-number : goal.invariant-loop-number
invariant-loop-number l = (l.counts.items ≡ map count_of (take l.number-index l.numbers)) × (list_all is_count (drop l.number-index l.numbers) ≡ true)
