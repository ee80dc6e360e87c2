use Rattle.std.proofs.Common.{arith, rules, w64}
use mir.Val.{SFits}
use Rattle.jdyad.proofs.Comparing.{pair_is}
use Rattle.jdyad.proofs.Filling.{gives_pushed, gives_end}
use Rattle.jdyad.proofs.comparison.compare_each.Goals as goal

pub loop-item-preserved : goal.loop-item-preserved
loop-item-preserved g c =
    let i = c.loop-item.invariant in
    let fits : SFits w64 c.truth.result = search rules in
    let here = pair_is g.L.Kept.atom c.args.verb c.args.shorter.now c.args.longer.now c.args.cell c.loop-item.place.item c.loop-item.place.used c.loop-item.item-index c.index-shorter-place.result c.item-item.result c.equals.result c.truth.result i.count i.within c.requires.whole c.loop-item-test.true c.index-shorter-place.is c.item-item.is c.equals.ensures c.truth.ensures in
    record {
      done = gives_pushed _ _ c.truth.result c.loop-item.truths.items c.push.new.self.items fits c.in_ok-push.ensures.items here i.done;
      count = omega (arith, c.next-place.ensures.count, i.count);
      within = c.next-place.ensures.within;
    }

pub returns : goal.returns
returns g c = gives_end _ _ _ _ c.loop-item-test.false c.loop-item.auto.item-index-end c.loop-item.invariant.done
