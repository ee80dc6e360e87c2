use Rattle.std.proofs.lemmas.Int.{to_z-of_z}
use Rattle.jscalar.proofs.Flagging.{product_or_none}
use Rattle.jscalar.proofs.dyads.TimesDyad.raw.Goals as goal

pub returns : goal.returns
returns c =
    let f = c.ranges.x in
    let g = c.ranges.y in
    product_or_none c.args.x c.args.y _ _ f g (simp to_z-of_z at c.overflowing_mul.ensures.value) (simp to_z-of_z at c.overflowing_mul.ensures.overflow)
