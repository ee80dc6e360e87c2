use Rattle.jsearch.proofs.Alike.{rising_has_one, falling_has_one}
use Rattle.jsearch.proofs.laws.each_array_has_one_grade.Goals as goal

pub returns-clause-up : goal.returns-clause-up
returns-clause-up c = rising_has_one

pub returns-clause-down : goal.returns-clause-down
returns-clause-down c = falling_has_one
