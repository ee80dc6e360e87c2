use Rattle.std.proofs.Common.{◌≡◌, drop}
use Rattle.jeval.specs.Constants.{all_integers}
use Rattle.jeval.proofs.Splitting.{integers_on}
use Rattle.jeval.proofs.constants.all_integers.Given as goal

abbrev pub invariant-loop-number : goal.invariant-loop-number
invariant-loop-number l = all_integers l.numbers ≡ integers_on l.integers.items (drop l.number-index l.numbers)
