use Rattle.std.proofs.Common.{sym, subst}
use Rattle.jdata.specs.Answers.{Answers}
use Rattle.jsearch.specs.Grades.{grade_down}
use Rattle.jsearch.proofs.grading.grade_down.Goals as goal

pub returns : goal.returns
returns c = subst (Answers (grade_down c.args.y.noun)) (sym c.given.ensures) c.grade-places.ensures
