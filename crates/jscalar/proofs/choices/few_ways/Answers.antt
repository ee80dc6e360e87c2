use Rattle.std.proofs.Common.{◌≡◌, ◌+◌, sym, ◌∙◌, ap, arith}
use Rattle.std.specs.Prelude.{pos}
use Rattle.jscalar.specs.Choices.{ways}
use Rattle.jscalar.proofs.Bounds.{fitted_natural, fitted_none}
use Rattle.jscalar.proofs.ChoiceLaws.{ways_of_none, ways_step, ways_beyond}
use Rattle.jscalar.proofs.choices.few_ways.Goals as goal

pub loop-done-init : goal.loop-done-init
loop-done-init c = record { count = sym (ways_of_none (c.args.left + 0)); small = omega arith }

pub returns-in-None : goal.returns-in-None
returns-in-None c =
    fitted_none (pos (ways c.args.taken (c.args.left + c.args.taken)))
    (ways_beyond c.loop-done.count c.args.left c.loop-done.done c.args.taken c.loop-done.invariant.count (omega arith) c.in-None.ensures)

pub loop-done-preserved : goal.loop-done-preserved
loop-done-preserved c =
    record {
      count = c.in-Some.ensures.1 ∙ ways_step c.loop-done.count c.args.left c.loop-done.done c.loop-done.invariant.count;
      small = omega (arith, c.in-Some.ensures.0, c.in-Some.ensures.1);
    }

pub returns : goal.returns
returns c =
    let done : c.loop-done.done ≡ c.args.taken = omega arith in
    fitted_natural c.loop-done.count (ways c.args.taken (c.args.left + c.args.taken)) c.loop-done.invariant.small
    (c.loop-done.invariant.count ∙ ap (λ n. ways n (c.args.left + n)) done)
