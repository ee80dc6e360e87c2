use Rattle.jnumber.proofs.Readings.{written_is_read}
use Rattle.jnumber.proofs.laws.written_is_read.Goals as goal

pub returns : goal.returns
returns c = written_is_read
