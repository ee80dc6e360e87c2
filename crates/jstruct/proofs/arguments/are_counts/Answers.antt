use Rattle.std.proofs.Common.{◌∙◌, sym, refl, rules, get_or}
use Rattle.std.specs.Prelude.{pos, FitsSigned}
use Rattle.std.proofs.lemmas.Int.{to_z-of_z}
use mir.Syntax.{w64}
use Rattle.jstruct.proofs.Counting.{count_some, count_none, all_more, all_none}
use Rattle.jstruct.proofs.arguments.are_counts.Goals as goal

pub loop-number-preserved : goal.loop-number-preserved
loop-number-preserved c =
    let i = c.loop-number.number-index in
    let fits : FitsSigned w64 (get_or c.args.numbers.now i (pos 0)) = search rules in
    let test = simp to_z-of_z at c.if-number-lt0.false in
    sym (all_more c.args.numbers.now i (get_or c.args.numbers.now i (pos 0)) (pos 0) c.loop-number-test.true refl (count_some _ test)) ∙ c.loop-number.invariant

pub returns-then-number-lt0 : goal.returns-then-number-lt0
returns-then-number-lt0 c =
    let i = c.loop-number.number-index in
    let fits : FitsSigned w64 (get_or c.args.numbers.now i (pos 0)) = search rules in
    let test = simp to_z-of_z at c.if-number-lt0.true in
    sym (sym c.loop-number.invariant ∙ all_none c.args.numbers.now i (get_or c.args.numbers.now i (pos 0)) (pos 0) c.loop-number-test.true refl (count_none _ test))
