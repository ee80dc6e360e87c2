use Rattle.std.proofs.lemmas.Int.{to_z-of_z}
use Rattle.jscalar.proofs.Flagging.{sum_or_none, doubled}
use Rattle.jscalar.proofs.monads.DoubleMonad.raw.Goals as goal

pub returns : goal.returns
returns c =
    let g = c.ranges.y in
    doubled c.args.y _ _ (sum_or_none c.args.y c.args.y _ _ g g (simp to_z-of_z at c.overflowing_add.ensures.value) (simp to_z-of_z at c.overflowing_add.ensures.overflow))
