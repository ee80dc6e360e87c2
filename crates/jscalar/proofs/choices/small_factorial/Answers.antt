use Rattle.std.proofs.Common.{◌≡◌, ◌<◌, ◌+◌, ◌*◌, sym, arith}
use Rattle.jscalar.specs.Choices.{factorial}
use Rattle.jscalar.proofs.ChoiceLaws.{factorial_of_none, factorial_step, factorial_small}
use Rattle.jscalar.proofs.choices.small_factorial.Goals as goal

pub loop-done-init : goal.loop-done-init
loop-done-init c = sym factorial_of_none

pub overflow_mul-product : goal.overflow_mul-product
overflow_mul-product c =
    let next : c.loop-done.product * (c.loop-done.done + 1) ≡ factorial (c.loop-done.done + 1) = factorial_step c.loop-done.product c.loop-done.done c.loop-done.invariant in
    let small : factorial (c.loop-done.done + 1) < 9223372036854775808 = factorial_small (c.loop-done.done + 1) (omega arith) in
    omega (arith, next, small)

pub loop-done-preserved : goal.loop-done-preserved
loop-done-preserved c = factorial_step c.loop-done.product c.loop-done.done c.loop-done.invariant

pub returns-clause-bound : goal.returns-clause-bound
returns-clause-bound c =
    let small : factorial c.loop-done.done < 9223372036854775808 = factorial_small c.loop-done.done (omega arith) in
    omega (arith, c.loop-done.invariant, small)
