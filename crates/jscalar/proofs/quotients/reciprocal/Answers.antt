use Rattle.std.proofs.Common.{sym, ◌∙◌, refl}
use Rattle.std.proofs.lemmas.Int.{to_z-of_z}
use Rattle.jscalar.proofs.Fractions.{own_reciprocal, no_reciprocal}
use Rattle.jscalar.proofs.Bounds.{given_on}
use Rattle.jscalar.proofs.quotients.reciprocal.Goals as goal

pub returns-then-unsigned_abs-eq1 : goal.returns-then-unsigned_abs-eq1
returns-then-unsigned_abs-eq1 c =
    let f = c.ranges.y in
    let size = simp to_z-of_z at c.unsigned_abs.ensures.value in
    given_on c.args.y c.args.y f refl ∙ own_reciprocal c.args.y (sym size ∙ c.if-unsigned_abs-eq1.true)

pub returns-else-unsigned_abs-eq1 : goal.returns-else-unsigned_abs-eq1
returns-else-unsigned_abs-eq1 c =
    let f = c.ranges.y in
    let size = simp to_z-of_z at c.unsigned_abs.ensures.value in
    no_reciprocal c.args.y (λ e. c.if-unsigned_abs-eq1.false (size ∙ e))
