use Rattle.std.proofs.Common.{◌∙◌, arith}
use Rattle.std.proofs.lemmas.Int.{to_z-of_z}
use Rattle.std.specs.Prelude.{pos, unsigned_abs}
use Rattle.jscalar.specs.Choices.{factorial}
use Rattle.jscalar.proofs.Bounds.{fitted_natural, fitted_none}
use Rattle.jscalar.proofs.ChoiceLaws.{no_factorial, whole_factorial, factorial_great}
use Rattle.jscalar.proofs.choices.factorial.Goals as goal

pub returns-then-y-lt0 : goal.returns-then-y-lt0
returns-then-y-lt0 c =
    let fy = c.ranges.y in
    no_factorial c.args.y (simp to_z-of_z at c.if-y-lt0.true)

pub returns-then-n-gt-GREATEST : goal.returns-then-n-gt-GREATEST
returns-then-n-gt-GREATEST c =
    let fy = c.ranges.y in
    let n = simp to_z-of_z at c.unsigned_abs-n.ensures.value in
    fitted_none (pos (factorial (unsigned_abs c.args.y))) (factorial_great (unsigned_abs c.args.y) (omega (arith, n, c.if-n-gt-GREATEST.true)))
    ∙ whole_factorial c.args.y (simp to_z-of_z at c.if-y-lt0.false)

pub returns : goal.returns
returns c =
    let fy = c.ranges.y in
    let n = simp to_z-of_z at c.unsigned_abs-n.ensures.value in
    fitted_natural c.small_factorial.result (factorial (unsigned_abs c.args.y)) c.small_factorial.ensures.bound (simp n at c.small_factorial.ensures.value)
    ∙ whole_factorial c.args.y (simp to_z-of_z at c.if-y-lt0.false)
