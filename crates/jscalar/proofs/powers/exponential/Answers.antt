use Rattle.jscalar.proofs.Bounds.{zero_from_bits, not_zero_from_bits}
use Rattle.jscalar.proofs.PowerLaws.{exponential_of_zero, exponential_of_other}
use Rattle.jscalar.proofs.powers.exponential.Goals as goal

pub returns-then-y-eq0 : goal.returns-then-y-eq0
returns-then-y-eq0 c = exponential_of_zero c.args.y (zero_from_bits c.args.y c.ranges.y c.if-y-eq0.true)

pub returns-else-y-eq0 : goal.returns-else-y-eq0
returns-else-y-eq0 c = exponential_of_other c.args.y (not_zero_from_bits c.args.y c.if-y-eq0.false)
