use Rattle.std.proofs.Common.{rules, w64}
use mir.Val.{SFits}
use Rattle.jradix.specs.Digits.{bit_of}
use Rattle.jradix.proofs.Widths.{pushed}
use Rattle.jradix.proofs.bits.bits_by_place.Goals as goal

pub loop-place-preserved : goal.loop-place-preserved
loop-place-preserved c =
    let fits : SFits w64 c.bit_of-bit.result = search rules in
    pushed (bit_of c.args.numbers.now c.args.width) c.loop-place.place c.bit_of-bit.result c.loop-place.bits.items c.push.new.self.items fits c.in_ok-push.ensures.items c.bit_of-bit.ensures c.loop-place.invariant
