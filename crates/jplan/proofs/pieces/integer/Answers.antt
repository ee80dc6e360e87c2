use Rattle.jplan.proofs.Whole.{integer_is}
use Rattle.jplan.proofs.pieces.integer.Goals as goal

pub returns : goal.returns
returns c = integer_is c.args.value.now.noun c.integer.result c.integer.ensures.some c.integer.ensures.none
