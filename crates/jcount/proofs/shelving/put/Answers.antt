use Rattle.jturn.proofs.Grown.{grew_added}
use Rattle.jcount.proofs.shelving.put.Goals as goal

pub returns-in-Ok-clause-put : goal.returns-in-Ok-clause-put
returns-in-Ok-clause-put g c = grew_added _ _ _ _ _ c.enter-guard.ensures.pass c.commit.ensures.pass c.commit.ensures.entries
