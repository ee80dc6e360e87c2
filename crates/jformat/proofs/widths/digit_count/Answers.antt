use Rattle.std.proofs.Common.{arith}
use Rattle.jformat.proofs.Digits.{first_step, next_step, few}
use Rattle.jformat.proofs.widths.digit_count.Goals as goal

pub loop-rest-init : goal.loop-rest-init
loop-rest-init c = first_step c.args.number c.ranges.number.fits

pub overflow_add-count : goal.overflow_add-count
overflow_add-count c = let f = few c.args.number c.ranges.number.fits in let h = c.loop-rest.invariant in omega (arith, f, h)

pub loop-rest-preserved : goal.loop-rest-preserved
loop-rest-preserved c = let n = next_step c.loop-rest.rest c.loop-rest-test.true in let h = c.loop-rest.invariant in omega (arith, n, h)

pub returns-clause-few : goal.returns-clause-few
returns-clause-few c = let f = few c.args.number c.ranges.number.fits in let h = c.loop-rest.invariant in omega (arith, f, h)
