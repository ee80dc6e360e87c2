use Rattle.juses.specs.Doings.{told, stuck_by}
use Rattle.juses.proofs.EachActivity.{by_activity}
use Rattle.juses.proofs.activity_laws.activities_law.Goals as goal

pub returns : goal.returns
returns g c meaning who p f s t r (ds, l, d) = (ds, stuck_by ds r, l, by_activity meaning (g.U.Uses.refuses t) (g.U.Uses.delays t) ds who p f r d)
