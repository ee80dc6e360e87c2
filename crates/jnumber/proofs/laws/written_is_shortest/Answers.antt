use Rattle.jnumber.proofs.Readings.{written_is_shortest}
use Rattle.jnumber.proofs.laws.written_is_shortest.Goals as goal

pub returns : goal.returns
returns c = written_is_shortest
