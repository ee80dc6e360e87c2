use Rattle.std.proofs.Common.{sym, ◌∙◌, rules}
use Rattle.std.proofs.lemmas.Int.{to_z-of_z}
use Rattle.std.specs.Prelude.{int_div}
use Rattle.jscalar.proofs.Bounds.{zero_from_bits, not_zero_from_bits}
use Rattle.jscalar.proofs.Fractions.{zero_over_zero, over_zero, not_whole, is_whole, quotient_checked}
use Rattle.jscalar.proofs.quotients.whole_quotient.Goals as goal

pub returns-then-x-eq0 : goal.returns-then-x-eq0
returns-then-x-eq0 c =
    zero_over_zero c.args.x c.args.y (zero_from_bits c.args.x c.ranges.x c.if-x-eq0.true) (zero_from_bits c.args.y c.ranges.y c.if-y-eq0.true)

pub returns-else-x-eq0 : goal.returns-else-x-eq0
returns-else-x-eq0 c =
    over_zero c.args.x c.args.y (not_zero_from_bits c.args.x c.if-x-eq0.false) (zero_from_bits c.args.y c.ranges.y c.if-y-eq0.true)

pub returns-then-wrapping_rem-ne0 : goal.returns-then-wrapping_rem-ne0
returns-then-wrapping_rem-ne0 c =
    let fx = c.ranges.x in
    let fy = c.ranges.y in
    let rest = simp to_z-of_z at c.wrapping_rem.ensures in
    not_whole c.args.x c.args.y (not_zero_from_bits c.args.y c.if-y-eq0.false)
    (λ e. not_zero_from_bits c.wrapping_rem.result c.if-wrapping_rem-ne0.true (rest ∙ e))

pub returns : goal.returns
returns c =
    let fx = c.ranges.x in
    let fy = c.ranges.y in
    let rest = simp to_z-of_z at c.wrapping_rem.ensures in
    let quotient = simp to_z-of_z at c.checked_div.ensures in
    c.fitted.ensures (int_div c.args.x c.args.y) (quotient_checked c.checked_div.result c.args.x c.args.y c.if-y-eq0.false quotient)
    ∙ is_whole c.args.x c.args.y (not_zero_from_bits c.args.y c.if-y-eq0.false)
    (sym rest ∙ zero_from_bits c.wrapping_rem.result (search rules) c.if-wrapping_rem-ne0.false)
