use Rattle.std.proofs.Common.{◌≡◌, drop}
use Rattle.std.specs.List.{list_all}
use Rattle.jstruct.specs.Arguments.{is_count}
use Rattle.jstruct.proofs.arguments.are_counts.Given as goal

abbrev pub invariant-loop-number : goal.invariant-loop-number
invariant-loop-number l = list_all is_count (drop l.number-index l.numbers) ≡ list_all is_count l.numbers
