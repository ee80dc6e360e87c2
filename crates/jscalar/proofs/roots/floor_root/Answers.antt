use Rattle.std.proofs.Common.{◌≡◌, ◌^◌, ◌+◌, ◌≤◌, arith}
use Rattle.jscalar.proofs.PowerLaws.{zero_power}
use Rattle.jscalar.proofs.RootLaws.{at_most_power}
use Rattle.jscalar.proofs.roots.floor_root.Goals as goal

pub loop-high-init : goal.loop-high-init
loop-high-init c =
    let low : 0 ^ c.args.degree ≡ 0 = zero_power c.args.degree (omega arith) in
    let high : c.args.value + 1 ≤ (c.args.value + 1) ^ c.args.degree = at_most_power (c.args.value + 1) c.args.degree c.requires.degree in
    record { order = omega arith; bound = omega arith; within = omega (arith, low); next = omega (arith, high) }
