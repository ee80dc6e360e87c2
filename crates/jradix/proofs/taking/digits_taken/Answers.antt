use Rattle.std.proofs.Common.{rules, ◌∙◌, ◌++◌, ◌∷◌, [], ap, sym, Ok, FitsSigned}
use Rattle.std.specs.Prelude.{reverse}
use Rattle.std.proofs.lemmas.Int.{to_z-of_z}
use mir.Syntax.{w64}
use mir.Val.{to_z, of_z}
use Rattle.jradix.specs.Digits.{digits_taken, digit_and_rest}
use Rattle.jradix.proofs.LastFirst.{next_taken, none_taken}
use Rattle.jradix.proofs.taking.digits_taken.Goals as goal

pub loop-done-preserved : goal.loop-done-preserved
loop-done-preserved c =
    let bases = c.args.bases.now in
    let rest = to_z w64 c.loop-done.rest-bits in
    let fits_left : FitsSigned w64 c.in-Ok.left = search rules in
    let fits_digit : FitsSigned w64 c.in-Ok.digit = search rules in
    let fits_base : FitsSigned w64 c.base_at-base.result = search rules in
    let left = to_z-of_z w64 c.in-Ok.left fits_left in
    let digit = to_z-of_z w64 c.in-Ok.digit fits_digit in
    let base = to_z-of_z w64 c.base_at-base.result fits_base in
    next_taken bases (to_z w64 (of_z w64 c.args.number)) rest c.in-Ok.left c.in-Ok.digit c.base_at-base.result c.loop-done.digits.items c.push.new.self.items c.loop-done.done
    c.loop-done-test.true c.base_at-base.ensures c.loop-done.invariant
    (ap (λ b. digit_and_rest b rest) (sym base) ∙ sym c.next_digit.ensures ∙ c.in-Ok.is)
    (c.in_ok-push-in-Ok.ensures.items ∙ ap (λ d. c.loop-done.digits.items ++ d ∷ []) digit)
    ∙ ap (λ z. Ok (z, reverse c.push.new.self.items)) (sym left)

pub returns-in-Err : goal.returns-in-Err
returns-in-Err c =
    let rest = to_z w64 c.loop-done.rest-bits in
    let fits_base : FitsSigned w64 c.base_at-base.result = search rules in
    let base = to_z-of_z w64 c.base_at-base.result fits_base in
    ap (digits_taken c.args.bases.now) (sym (to_z-of_z w64 c.args.number c.ranges.number))
    ∙ none_taken c.args.bases.now (to_z w64 (of_z w64 c.args.number)) rest c.base_at-base.result c.in-Err.fault c.loop-done.digits.items c.loop-done.done
    c.loop-done-test.true c.base_at-base.ensures c.loop-done.invariant
    (ap (λ b. digit_and_rest b rest) (sym base) ∙ sym c.next_digit.ensures ∙ c.in-Err.is)
