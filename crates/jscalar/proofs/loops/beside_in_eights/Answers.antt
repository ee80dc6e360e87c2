use Rattle.std.proofs.Common.{arith, length, get_or, pos, w64, sym, ap, ◌∙◌}
use Rattle.std.proofs.lemmas.Int.{to_z-of_z}
use Rattle.jscalar.specs.Places.{by_place}
use Rattle.jscalar.proofs.Filled.{filled_none, flag_all}
use Rattle.jscalar.proofs.Pieces.{beside_more}
use Rattle.jscalar.proofs.loops.beside_in_eights.Goals as goal

pub loop-from-init : goal.loop-from-init
loop-from-init g c = record { filled = filled_none _ _ _; within = omega arith }

pub loop-from-preserved : goal.loop-from-preserved
loop-from-preserved g c = record {
  filled = beside_more g.V.Dyad.fault g.V.Dyad.meant _ _ _ _ _ _ _ _ c.loop-from.invariant.filled (omega arith) c.beside_at_once-any.ensures c.beside_at_once-any.auto.ys;
  within = omega arith;
}

pub returns : goal.returns
returns g c =
    let whole = beside_more g.V.Dyad.fault g.V.Dyad.meant _ _ _ _ _ _ _ _ c.loop-from.invariant.filled (omega arith) c.beside_at_once-any-2.ensures c.beside_at_once-any-2.auto.ys in
    ap (λ x. by_place (λ j. g.V.Dyad.meant x (get_or c.args.ys.now j (pos 0))) (length c.args.ys.now)) (sym (to_z-of_z w64 c.args.x c.ranges.x))
    ∙ flag_all _ _ _ (length c.args.ys.now) _ _ _ (omega (arith, c.loop-from.auto.ys, c.beside_at_once-any-2.auto.ys)) (omega arith) (omega arith) whole
