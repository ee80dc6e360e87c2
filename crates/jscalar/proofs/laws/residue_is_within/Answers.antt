use Rattle.jscalar.proofs.LawProofs.{residue_is_within}
use Rattle.jscalar.proofs.laws.residue_is_within.Goals as goal

pub returns : goal.returns
returns c = residue_is_within
