use Rattle.std.proofs.Common.{arith, length}
use Rattle.jscalar.proofs.Filled.{filled_none, flag_all}
use Rattle.jscalar.proofs.Pieces.{pairs_more}
use Rattle.jscalar.proofs.loops.pairs_in_eights.Goals as goal

pub loop-from-init : goal.loop-from-init
loop-from-init g c = record { filled = filled_none _ _ _; within = omega arith }

pub loop-from-preserved : goal.loop-from-preserved
loop-from-preserved g c = record {
  filled = pairs_more g.V.Dyad.fault g.V.Dyad.meant c.args.xs.now _ _ _ _ _ _ _ c.loop-from.invariant.filled (omega arith) c.pairs_at_once-any.ensures c.pairs_at_once-any.auto.ys;
  within = omega arith;
}

pub returns : goal.returns
returns g c =
    let whole = pairs_more g.V.Dyad.fault g.V.Dyad.meant c.args.xs.now _ _ _ _ _ _ _ c.loop-from.invariant.filled (omega arith) c.pairs_at_once-any-2.ensures c.pairs_at_once-any-2.auto.ys in
    flag_all _ _ _ (length c.args.ys.now) _ _ _ (omega (arith, c.loop-from.auto.ys, c.pairs_at_once-any-2.auto.ys)) (omega arith) (omega arith) whole
