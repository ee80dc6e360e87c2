use Rattle.std.proofs.Common.{sym, subst}
use Rattle.jdata.specs.Answers.{Answers}
use Rattle.jsearch.specs.Grades.{grade_up}
use Rattle.jsearch.proofs.grading.grade_up.Goals as goal

pub returns : goal.returns
returns c = subst (Answers (grade_up c.args.y.noun)) (sym c.given.ensures) c.grade-places.ensures
