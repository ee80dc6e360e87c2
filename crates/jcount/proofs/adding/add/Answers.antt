use Rattle.jturn.proofs.Grown.{grew_added}
use Rattle.jcount.proofs.adding.add.Goals as goal

pub returns : goal.returns
returns g c = grew_added _ _ _ _ _ c.enter-guard.ensures.pass c.commit.ensures.pass c.commit.ensures.entries
