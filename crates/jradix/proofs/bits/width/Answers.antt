use Rattle.std.proofs.Common.{rules, ◌≡◌, ◌∙◌, ap, arith}
use Rattle.std.specs.Prelude.{max}
use Rattle.jradix.specs.Digits.{bits}
use Rattle.jradix.proofs.Widths.{wider_by}
use Rattle.jradix.proofs.bits.width.Goals as goal

pub loop-place-preserved : goal.loop-place-preserved
loop-place-preserved c =
    let larger : c.max-width.result ≡ max c.loop-place.width c.bits.result = first_of (search rules, omega arith, grind arith) in
    record {
      value = wider_by c.args.numbers.now c.loop-place.place c.loop-place.width c.bits.result c.max-width.result c.loop-place-test.true c.loop-place.invariant.value (c.bits.ensures.value ∙ ap bits c.count_at.ensures) larger;
      at_most = omega (arith, larger, c.loop-place.invariant.at_most, c.bits.ensures.at_most);
    }
