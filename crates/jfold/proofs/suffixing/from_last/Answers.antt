use Rattle.std.proofs.Common.{arith, ◌<◌, ◌≤◌, rules, ◌-◌, ◌∙◌, ap, pos, get_or, w64}
use mir.Val.{SFits}
use Rattle.jscalar.specs.Flagged.{flagged}
use Rattle.jfold.proofs.Backward.{begins, goes_on, stops, ends}
use Rattle.jfold.proofs.suffixing.from_last.Goals as goal

pub loop-left-init : goal.loop-left-init
loop-left-init g c = begins _ _ _ c.ranges.last c.requires

pub returns-then-refused-clause-none : goal.returns-then-refused-clause-none
returns-then-refused-clause-none g c = λ e.
    let number : SFits w64 (get_or c.loop-left.numbers (c.loop-left.left - 1) (pos 0)) = search rules in
    let some : 0 < c.loop-left.left = omega arith in
    stops _ _ _ g.V.Dyad.fault _ _ some number c.loop-left.invariant (c.raw-next.ensures ∙ ap (flagged g.V.Dyad.fault c.raw-next.result.0) c.if-refused.true)

pub loop-left-preserved : goal.loop-left-preserved
loop-left-preserved g c =
    let number : SFits w64 (get_or c.loop-left.numbers (c.loop-left.left - 1) (pos 0)) = search rules in
    let next : SFits w64 c.raw-next.result.0 = search rules in
    let some : 0 < c.loop-left.left = omega arith in
    goes_on _ _ _ _ _ _ some number next c.loop-left.invariant (c.raw-next.ensures ∙ ap (flagged g.V.Dyad.fault c.raw-next.result.0) c.if-refused.false)

pub returns-clause-some : goal.returns-clause-some
returns-clause-some g c = λ e. let none : c.loop-left.left ≤ 0 = omega arith in ends _ _ _ _ _ none c.loop-left.invariant
