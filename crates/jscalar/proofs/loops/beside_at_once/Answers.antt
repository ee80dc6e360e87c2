use Rattle.std.proofs.Common.{get_or, pos, rules, arith, w64, ◌∙◌, ap, sym, length}
use Rattle.std.proofs.lemmas.Int.{to_z-of_z}
use Rattle.jscalar.specs.Places.{by_place}
use mir.Val.{SFits}
use Rattle.jscalar.proofs.Filled.{filled_none, filled_more, flag_all, next_is, as_read_right}
use Rattle.jscalar.proofs.loops.beside_at_once.Goals as goal

pub loop-at-init : goal.loop-at-init
loop-at-init g c = filled_none _ _ _

pub loop-at-preserved : goal.loop-at-preserved
loop-at-preserved g c =
    let y : SFits w64 (get_or c.loop-at.ys c.loop-at.at (pos 0)) = search rules in
    let number : SFits w64 c.raw-number.result.0 = search rules in
    filled_more _ _ _ _ _ _ _ _ (omega arith) number (as_read_right g.V.Dyad.meant _ _ _ _ y (next_is _ _ _ _ _ _ c.loop-at.invariant) c.raw-number.ensures) c.loop-at.invariant

pub returns : goal.returns
returns g c =
    ap (λ x. by_place (λ j. g.V.Dyad.meant x (get_or c.args.ys.now j (pos 0))) (length c.args.ys.now)) (sym (to_z-of_z w64 c.args.x c.ranges.x))
    ∙ flag_all _ _ _ _ _ _ _ c.loop-at.auto.ys c.loop-at-test.false c.loop-at.auto.at-end c.loop-at.invariant
