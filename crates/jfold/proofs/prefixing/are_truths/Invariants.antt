use Rattle.std.proofs.Common.{◌≡◌, drop}
use Rattle.std.specs.List.{list_all}
use Rattle.jscalar.specs.Truths.{is_truth}
use Rattle.jfold.proofs.prefixing.are_truths.Given as goal

abbrev pub invariant-loop-number : goal.invariant-loop-number
invariant-loop-number l = list_all is_truth (drop l.number-index l.numbers) ≡ list_all is_truth l.numbers
