use Rattle.jscalar.proofs.LawProofs.{roots_undo_powers}
use Rattle.jscalar.proofs.laws.roots_undo_powers.Goals as goal

pub returns : goal.returns
returns c = roots_undo_powers
