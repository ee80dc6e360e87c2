use Rattle.std.proofs.lemmas.Int.{to_z-of_z}
use Rattle.std.specs.Prelude.{int_div}
use Rattle.jscalar.proofs.Bounds.{wide_zero_from_bits}
use Rattle.jradix.proofs.LastFirst.{wide_quotient}
use Rattle.jradix.proofs.taking.quotient.Goals as goal

pub returns : goal.returns
returns c =
    let fits = c.ranges.base in
    let fits_whole = c.ranges.whole in
    let divided = simp to_z-of_z at c.checked_div.ensures in
    c.narrow.ensures (int_div c.args.whole c.args.base) (wide_quotient c.checked_div.result c.args.whole c.args.base (λ e. c.requires (wide_zero_from_bits c.args.base fits e)) divided)
