use Rattle.std.proofs.Common.{sym, ◌∙◌, ap, rules, refl, Ok}
use Rattle.std.proofs.lemmas.Int.{to_z-of_z}
use Rattle.std.specs.Prelude.{FitsSigned}
use mir.Syntax.{w64}
use Rattle.jscalar.specs.Fitted.{fitted}
use Rattle.jscalar.proofs.Bounds.{given_on, fitted_some}
use Rattle.jscalar.proofs.PowerLaws.{power_of_unit, no_power, whole_power}
use Rattle.jscalar.proofs.powers.power.Goals as goal

pub returns-then-size-eq1 : goal.returns-then-size-eq1
returns-then-size-eq1 c =
    let fx = c.ranges.x in
    let fy = c.ranges.y in
    let size = simp to_z-of_z at c.unsigned_abs-size.ensures.value in
    let exponent = simp to_z-of_z at c.unsigned_abs-exponent.ensures.value in
    let below = simp to_z-of_z at c.if-y-lt0.true in
    let value = simp (to_z-of_z, exponent) at c.small_power.ensures in
    let fits : FitsSigned w64 c.small_power.result = search rules in
    given_on c.small_power.result c.small_power.result fits refl
    ∙ ap Ok value
    ∙ power_of_unit c.args.x c.args.y below (sym size ∙ c.if-size-eq1.true)

pub returns-else-size-eq1 : goal.returns-else-size-eq1
returns-else-size-eq1 c =
    let fx = c.ranges.x in
    let fy = c.ranges.y in
    let size = simp to_z-of_z at c.unsigned_abs-size.ensures.value in
    let below = simp to_z-of_z at c.if-y-lt0.true in
    no_power c.args.x c.args.y below (λ e. c.if-size-eq1.false (size ∙ e))

pub returns-then-size-lt2 : goal.returns-then-size-lt2
returns-then-size-lt2 c =
    let fx = c.ranges.x in
    let fy = c.ranges.y in
    let exponent = simp to_z-of_z at c.unsigned_abs-exponent.ensures.value in
    let above = simp to_z-of_z at c.if-y-lt0.false in
    let value = simp (to_z-of_z, exponent) at c.small_power-then-size-lt2.ensures in
    let fits : FitsSigned w64 c.small_power-then-size-lt2.result = search rules in
    fitted_some c.small_power-then-size-lt2.result c.small_power-then-size-lt2.result (fits, refl)
    ∙ ap fitted value
    ∙ whole_power c.args.x c.args.y above

pub returns-else-size-lt2 : goal.returns-else-size-lt2
returns-else-size-lt2 c =
    let fx = c.ranges.x in
    let fy = c.ranges.y in
    let exponent = simp to_z-of_z at c.unsigned_abs-exponent.ensures.value in
    let above = simp to_z-of_z at c.if-y-lt0.false in
    let value = simp (to_z-of_z, exponent) at c.great_power.ensures in
    value ∙ whole_power c.args.x c.args.y above
