use Rattle.std.proofs.Common.{◌<◌, ◌∙◌, sym, arith}
use Rattle.jparse.proofs.Classes.{row_below}
use Rattle.jparse.proofs.table.step.Goals as goal

pub overflow_cast-result : goal.overflow_cast-result
overflow_cast-result c =
    let few : c.in-Some.row < 9 = row_below _ c.in-Some.row (sym c.row_of.ensures ∙ c.in-Some.is) in
    omega (arith, few)
