use Rattle.std.proofs.Common.{subst}
use Rattle.jarray.specs.Placed.{Gives}
use Rattle.jprim.proofs.Rows.{monad_is}
use Rattle.jprim.proofs.verbs.each_atom.Goals as goal

pub returns-clause-answer : goal.returns-clause-answer
returns-clause-answer c = subst (λ r. Gives r c.scalar1.result) (monad_is c.args.verb c.requires c.args.y.noun) c.scalar1.ensures.answer
