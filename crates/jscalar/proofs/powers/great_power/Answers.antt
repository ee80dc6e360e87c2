use Rattle.std.proofs.Common.{arith}
use Rattle.std.specs.Int.{int_pow}
use Rattle.jscalar.proofs.Bounds.{fitted_none}
use Rattle.jscalar.proofs.PowerLaws.{great_power_beyond}
use Rattle.jscalar.proofs.powers.great_power.Goals as goal

pub returns-in-Err : goal.returns-in-Err
returns-in-Err c =
    let f = c.ranges.base in
    let size = c.requires in
    fitted_none (int_pow c.args.base c.args.exponent) (great_power_beyond c.args.base c.args.exponent size (omega (arith, c.in-Err.ensures)))
