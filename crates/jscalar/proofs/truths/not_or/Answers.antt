use Rattle.std.proofs.Common.{sym, ◌∙◌}
use Rattle.std.proofs.lemmas.Int.{to_z-of_z}
use Rattle.jscalar.proofs.TruthValues.{truth_kept, not_or_told, not_or_untold}
use Rattle.jscalar.proofs.truths.not_or.Goals as goal

pub returns-then-are_truths : goal.returns-then-are_truths
returns-then-are_truths c =
    let fx = c.ranges.x in
    let fy = c.ranges.y in
    let both = simp to_z-of_z at c.are_truths.ensures in
    let one = simp to_z-of_z at c.is_either_one.ensures in
    truth_kept _ c.truth.result c.truth.ensures ∙ not_or_told c.args.x c.args.y c.is_either_one.result (sym both ∙ c.if-are_truths.true) one

pub returns-else-are_truths : goal.returns-else-are_truths
returns-else-are_truths c =
    let fx = c.ranges.x in
    let fy = c.ranges.y in
    let both = simp to_z-of_z at c.are_truths.ensures in
    not_or_untold c.args.x c.args.y (sym both ∙ c.if-are_truths.false)
