use Rattle.juses.proofs.KeyFacts.{others_stay, changes_alike, replies_alike}
use Rattle.juses.proofs.laws.desk_law.Goals as goal

pub returns-clause-others : goal.returns-clause-others
returns-clause-others c = others_stay

pub returns-clause-changes : goal.returns-clause-changes
returns-clause-changes c = changes_alike

pub returns-clause-replies : goal.returns-clause-replies
returns-clause-replies c = replies_alike
