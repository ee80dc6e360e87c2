use Rattle.std.proofs.Common.{rules, ◌∙◌, ap, pos, get_or, w64}
use mir.Val.{SFits}
use Rattle.jscalar.specs.Flagged.{flagged}
use Rattle.jfold.proofs.Forward.{begins, goes_on, stops, ends}
use Rattle.jfold.proofs.prefixing.from_first.Goals as goal

pub loop-at-init : goal.loop-at-init
loop-at-init g c = begins _ _ _ c.ranges.first c.requires

pub returns-then-refused-clause-none : goal.returns-then-refused-clause-none
returns-then-refused-clause-none g c = λ e.
    let number : SFits w64 (get_or c.loop-at.numbers c.loop-at.at (pos 0)) = search rules in
    stops _ _ _ g.V.Dyad.fault _ _ (search rules) number c.loop-at.invariant (c.raw-next.ensures ∙ ap (flagged g.V.Dyad.fault c.raw-next.result.0) c.if-refused.true)

pub loop-at-preserved : goal.loop-at-preserved
loop-at-preserved g c =
    let number : SFits w64 (get_or c.loop-at.numbers c.loop-at.at (pos 0)) = search rules in
    let next : SFits w64 c.raw-next.result.0 = search rules in
    goes_on _ _ _ _ _ _ (search rules) number next c.loop-at.invariant (c.raw-next.ensures ∙ ap (flagged g.V.Dyad.fault c.raw-next.result.0) c.if-refused.false)

pub returns-clause-some : goal.returns-clause-some
returns-clause-some g c = λ e. ends _ _ _ _ _ c.loop-at-test.false c.loop-at.invariant
