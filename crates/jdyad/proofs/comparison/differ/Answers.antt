use Rattle.std.proofs.Common.{rules, w64}
use mir.Val.{SFits}
use Rattle.jdyad.proofs.Filling.{gives_pushed, gives_end}
use Rattle.jdyad.proofs.comparison.differ.Goals as goal

pub loop-preserved : goal.loop-preserved
loop-preserved c =
    let fits : SFits w64 c.truth-truth.result = search rules in
    gives_pushed _ _ _ _ _ fits c.in_ok-push.ensures.items c.truth-truth.ensures c.loop.invariant

pub returns : goal.returns
returns c = gives_end _ _ _ _ c.loop-test.false c.loop.auto.counter-end c.loop.invariant
