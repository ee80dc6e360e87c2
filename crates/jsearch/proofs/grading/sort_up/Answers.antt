use Rattle.std.proofs.Common.{sym, subst}
use Rattle.jdata.specs.Answers.{Answers}
use Rattle.jsearch.specs.Grades.{sorted_up}
use Rattle.jsearch.proofs.grading.sort_up.Goals as goal

pub returns : goal.returns
returns c = subst (Answers (sorted_up c.args.x.noun c.args.y.noun)) (sym c.given.ensures) c.sort-items.ensures
