use Rattle.std.proofs.lemmas.Int.{to_z-of_z}
use Rattle.jscalar.proofs.Flagging.{sum_or_none}
use Rattle.jscalar.proofs.dyads.PlusDyad.raw.Goals as goal

pub returns : goal.returns
returns c =
    let f = c.ranges.x in
    let g = c.ranges.y in
    sum_or_none c.args.x c.args.y _ _ f g (simp to_z-of_z at c.overflowing_add.ensures.value) (simp to_z-of_z at c.overflowing_add.ensures.overflow)
