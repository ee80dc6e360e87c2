use Rattle.std.proofs.Common.{sym, ◌∙◌, ap, rules, ◌≢◌}
use Rattle.std.proofs.lemmas.Int.{to_z-of_z}
use Rattle.std.specs.Prelude.{pos, ◌*ℤ◌, unsigned_abs, FitsSigned}
use mir.Syntax.{w128}
use mir.Val.{of_z}
use Rattle.jscalar.specs.Fitted.{fitted}
use Rattle.jscalar.proofs.Bounds.{wide_zero_from_bits}
use Rattle.jscalar.proofs.DivisorLaws.{multiple_of_zero, multiple_is, gcd_positive, left_of_product}
use Rattle.jscalar.proofs.divisors.common_multiple.Goals as goal

pub returns-then-product-eq0 : goal.returns-then-product-eq0
returns-then-product-eq0 c =
    let fx = c.ranges.x in
    let fy = c.ranges.y in
    let fp : FitsSigned w128 c.whole_product-product.result = search rules in
    let product = simp to_z-of_z at c.whole_product-product.ensures in
    multiple_of_zero c.args.x c.args.y (sym product ∙ wide_zero_from_bits c.whole_product-product.result fp c.if-product-eq0.true)

pub over_divisor-requires : goal.over_divisor-requires
over_divisor-requires c =
    let fx = c.ranges.x in
    let fy = c.ranges.y in
    let product = simp to_z-of_z at c.whole_product-product.ensures in
    let left = simp to_z-of_z at c.unsigned_abs.ensures.value in
    let other : c.args.x *ℤ c.args.y ≢ pos 0 = λ e. c.if-product-eq0.false (ap (of_z w128) (product ∙ e)) in
    rw (c.greatest_common_divisor.ensures, left) (gcd_positive (unsigned_abs c.args.x) c.unsigned_abs-2.result (left_of_product c.args.x c.args.y other))

pub returns : goal.returns
returns c =
    let fx = c.ranges.x in
    let fy = c.ranges.y in
    let fp : FitsSigned w128 c.whole_product-product.result = search rules in
    let product = simp to_z-of_z at c.whole_product-product.ensures in
    let left = simp to_z-of_z at c.unsigned_abs.ensures.value in
    let right = simp to_z-of_z at c.unsigned_abs-2.ensures.value in
    let other : c.args.x *ℤ c.args.y ≢ pos 0 = λ e. c.if-product-eq0.false (ap (of_z w128) (product ∙ e)) in
    let given = simp to_z-of_z at c.over_divisor.ensures in
    simp (product, c.greatest_common_divisor.ensures, left, right) at given
    ∙ ap fitted (multiple_is c.args.x c.args.y other)
