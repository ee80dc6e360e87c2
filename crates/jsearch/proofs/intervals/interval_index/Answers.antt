use Rattle.std.proofs.Common.{sym, subst}
use Rattle.jdata.specs.Answers.{Answers}
use Rattle.jsearch.specs.Intervals.{interval_index}
use Rattle.jsearch.proofs.intervals.interval_index.Goals as goal

pub returns : goal.returns
returns c = subst (Answers (interval_index c.args.x.noun c.args.y.noun)) (sym c.given.ensures) c.counts_of-counts.ensures
