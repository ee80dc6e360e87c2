use Rattle.std.proofs.Common.{add-one, sym, ◌∙◌, ap, is_some}
use Rattle.jdata.proofs.FirstPyx.{none_more}
use Rattle.jdata.proofs.tree.pyxes.place_of_pyx.Goals as goal

pub loop-at-preserved : goal.loop-at-preserved
loop-at-preserved c =
    rw add-one (none_more _ _ _ c.loop-at-test.true c.index-cells-at.is c.loop-at.invariant (ap is_some (sym c.first_pyx.ensures) ∙ sym c.is_some.ensures ∙ c.if-is_some.false))
