use Rattle.std.proofs.Common.{refl}
use Rattle.jyard.specs.Sole.{word_in}
use Rattle.jyard.proofs.hold.Hold.replace.Goals as goal

pub returns-in-Err-clause-held : goal.returns-in-Err-clause-held
unfolding word_in
returns-in-Err-clause-held g c = (refl, refl, c.in-Err.ensures.held.0, c.in-Err.ensures.held.1)
