use Rattle.std.proofs.Common.{rules, ◌∙◌, ap, sym, Ok, FitsSigned}
use Rattle.std.proofs.lemmas.Int.{to_z-of_z}
use mir.Syntax.{w64, w128}
use Rattle.jdata.specs.Firsts.{and_then}
use Rattle.jradix.specs.Digits.{whole_part}
use Rattle.jradix.proofs.LastFirst.{digit_by, digit_never}
use Rattle.jradix.proofs.taking.next_digit.Goals as goal

pub returns-in-Ok : goal.returns-in-Ok
returns-in-Ok c =
    let fits_base = c.ranges.base in
    let fits_rest = c.ranges.rest in
    let fits : FitsSigned w64 c.in-Ok.digit = search rules in
    let wide : FitsSigned w128 c.difference.result = search rules in
    let made = simp to_z-of_z at c.with_digit.ensures in
    let left = simp to_z-of_z at c.left_over.ensures in
    let whole = simp to_z-of_z at c.difference.ensures in
    let two = simp to_z-of_z at c.two.ensures in
    made ∙ ap (λ l. and_then l (λ left. Ok (left, c.in-Ok.digit))) (left ∙ ap (whole_part c.args.base) whole) ∙ digit_by c.args.base c.args.rest c.in-Ok.digit (sym two ∙ c.in-Ok.is)

pub returns-in-Err : goal.returns-in-Err
returns-in-Err c =
    let fits_base = c.ranges.base in
    let fits_rest = c.ranges.rest in
    let two = simp to_z-of_z at c.two.ensures in
    absurd (digit_never c.args.base c.args.rest c.in-Err.fault (sym two ∙ c.in-Err.is))
