use Rattle.std.proofs.Common.{sym, ◌∙◌}
use Rattle.std.proofs.lemmas.Int.{to_z-of_z}
use mir.Syntax.{w64}
use Rattle.jscalar.proofs.PowerLaws.{even_power, odd_power, small_square_kept}
use Rattle.jscalar.proofs.powers.small_power.Goals as goal

pub returns-then-exponent-eq0-2 : goal.returns-then-exponent-eq0-2
returns-then-exponent-eq0-2 c =
    let f = c.ranges.base in
    let size = c.requires in
    simp to_z-of_z (small_square_kept c.args.base size ∙ sym (even_power c.args.base c.args.exponent size c.if-exponent-eq0.false c.if-exponent-eq0-2.true))

pub returns-else-exponent-eq0-2 : goal.returns-else-exponent-eq0-2
returns-else-exponent-eq0-2 c =
    let f = c.ranges.base in
    let size = c.requires in
    to_z-of_z w64 c.args.base f ∙ sym (odd_power c.args.base c.args.exponent size c.if-exponent-eq0.false c.if-exponent-eq0-2.false)
