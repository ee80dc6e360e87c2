use Rattle.std.proofs.Common.{subst}
use Rattle.jarray.specs.Placed.{Gives}
use Rattle.jprim.proofs.Rows.{dyad_is}
use Rattle.jprim.proofs.verbs.each_pair.Goals as goal

pub returns-clause-answer : goal.returns-clause-answer
returns-clause-answer c = subst (λ r. Gives r c.scalar2.result) (dyad_is c.args.verb c.requires c.args.x.noun c.args.y.noun) c.scalar2.ensures.answer
