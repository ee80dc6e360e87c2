use Rattle.jnumber.proofs.Readings.{each_run_has_one_reading}
use Rattle.jnumber.proofs.laws.each_run_has_one_reading.Goals as goal

pub returns : goal.returns
returns c = each_run_has_one_reading
