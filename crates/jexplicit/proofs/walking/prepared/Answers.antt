use Rattle.std.proofs.Common.{arith}
use Rattle.jexplicit.proofs.Preparation.{prepared}
use Rattle.jexplicit.proofs.walking.prepared.Goals as goal

pub returns-clause-blocks : goal.returns-clause-blocks
returns-clause-blocks c = grind (arith, prepared c.args.first)
