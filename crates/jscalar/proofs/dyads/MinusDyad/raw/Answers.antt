use Rattle.std.proofs.lemmas.Int.{to_z-of_z}
use Rattle.jscalar.proofs.Flagging.{rest_or_none}
use Rattle.jscalar.proofs.dyads.MinusDyad.raw.Goals as goal

pub returns : goal.returns
returns c =
    let f = c.ranges.x in
    let g = c.ranges.y in
    rest_or_none c.args.x c.args.y _ _ f g (simp to_z-of_z at c.overflowing_sub.ensures.value) (simp to_z-of_z at c.overflowing_sub.ensures.overflow)
