use Rattle.jdyad.proofs.Comparing.{equal_ints}
use Rattle.jdyad.proofs.comparison.I64Kept.equals.Goals as goal

pub returns : goal.returns
returns c = equal_ints _ _ _ c.equal.ensures
