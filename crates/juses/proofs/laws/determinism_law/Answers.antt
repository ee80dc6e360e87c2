use Rattle.juses.proofs.Traces.{same_uses, same_end}
use Rattle.juses.proofs.laws.determinism_law.Goals as goal

pub returns-clause-uses : goal.returns-clause-uses
returns-clause-uses g c = same_uses

pub returns-clause-answers : goal.returns-clause-answers
returns-clause-answers g c = same_end
