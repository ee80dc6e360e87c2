use Rattle.std.proofs.Common.{◌<◌, ◌^◌, ◌∙◌, arith, pos, w64}
use Rattle.std.specs.Int.{cast_signed}
use Rattle.std.proofs.Math.Facts.{to_z_pos}
use Rattle.jdata.proofs.Lists.{same_map}
use Rattle.jsearch.proofs.counting.counted_up.Goals as goal

pub returns : goal.returns
returns c = c.in_ok-places.ensures ∙ same_map (cast_signed w64) pos c.args.count (pos 0) (λ p below. let small : p < 2 ^ 63 = omega (arith, c.requires) in to_z_pos w64 small)
