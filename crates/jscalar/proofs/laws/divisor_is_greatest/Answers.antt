use Rattle.jscalar.proofs.LawProofs.{divisor_is_greatest}
use Rattle.jscalar.proofs.laws.divisor_is_greatest.Goals as goal

pub returns : goal.returns
returns c = divisor_is_greatest
