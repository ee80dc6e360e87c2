use Rattle.jdyad.proofs.Verbs.{comparison_is, no_comparison}
use Rattle.jdyad.proofs.kinds.is_comparison.Goals as goal

pub returns-in-Equal : goal.returns-in-Equal
returns-in-Equal c = comparison_is c.args.verb c.in-Equal.is

pub returns-in_default : goal.returns-in_default
returns-in_default c = no_comparison c.args.verb c.in_default.not-Equal c.in_default.not-TildeColon
