use Rattle.std.proofs.Common.{arith, rules}
use Rattle.std.proofs.lemmas.Int.{ints, quot_is, quot_fits}
use Rattle.std.specs.Prelude.{pos, int_div, FitsSigned, ◌<ℤ◌}
use mir.Syntax.{w128}
use Rattle.jscalar.proofs.Bounds.{fitted_some, fitted_none}
use Rattle.jscalar.proofs.divisors.over_divisor.Goals as goal

pub returns-in-Ok : goal.returns-in-Ok
returns-in-Ok c =
    let above : pos 0 <ℤ pos c.args.divisor = omega (arith, ints) in
    let fd : FitsSigned w128 (pos c.args.divisor) = search rules in
    let exact = quot_is w128 c.args.product (pos c.args.divisor) c.ranges.product fd (quot_fits w128 c.args.product (pos c.args.divisor) c.ranges.product above) in
    fitted_some c.in-Ok.multiple (int_div c.args.product (pos c.args.divisor)) (rw (c.from.ensures, exact) at c.in-Ok.ensures)

pub returns-in-Err : goal.returns-in-Err
returns-in-Err c =
    let above : pos 0 <ℤ pos c.args.divisor = omega (arith, ints) in
    let fd : FitsSigned w128 (pos c.args.divisor) = search rules in
    let exact = quot_is w128 c.args.product (pos c.args.divisor) c.ranges.product fd (quot_fits w128 c.args.product (pos c.args.divisor) c.ranges.product above) in
    fitted_none (int_div c.args.product (pos c.args.divisor)) (rw (c.from.ensures, exact) at c.in-Err.ensures)
