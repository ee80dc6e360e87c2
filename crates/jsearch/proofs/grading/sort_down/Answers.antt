use Rattle.std.proofs.Common.{sym, subst}
use Rattle.jdata.specs.Answers.{Answers}
use Rattle.jsearch.specs.Grades.{sorted_down}
use Rattle.jsearch.proofs.grading.sort_down.Goals as goal

pub returns : goal.returns
returns c = subst (Answers (sorted_down c.args.x.noun c.args.y.noun)) (sym c.given.ensures) c.sort-items.ensures
