use Rattle.std.proofs.Common.{arith, rules, w64, ap, sym, ◌∙◌, pos}
use mir.Val.{SFits}
use Rattle.std.proofs.lemmas.Int.{to_z-of_z}
use Rattle.std.specs.Prelude.{int_lt, count_by}
use Rattle.jselect.proofs.Choices.{chosen, otherwise}
use Rattle.jsearch.specs.Intervals.{is_turned}
use Rattle.jsearch.proofs.Between.{turned_falls, straight_rises}
use Rattle.std.proofs.lemmas.List.Sums.{count_by-le-length}
use Rattle.jsearch.proofs.intervals.before.Goals as goal

pub greater-requires : goal.greater-requires
greater-requires c = turned_falls c.args.bounds.now c.requires.order (sym c.is_turned.ensures ∙ c.if-is_turned.true)

pub less-requires : goal.less-requires
less-requires c = straight_rises c.args.bounds.now c.requires.order (sym c.is_turned.ensures ∙ c.if-is_turned.false)

pub integer-requires : goal.integer-requires
integer-requires c = omega (arith, c.greater.ensures, count_by-le-length (λ a. int_lt c.args.number.now a) c.args.bounds.now, c.requires.few)

pub integer-requires-else-is_turned : goal.integer-requires-else-is_turned
integer-requires-else-is_turned c = omega (arith, c.less.ensures, count_by-le-length (λ a. int_lt a c.args.number.now) c.args.bounds.now, c.requires.few)

pub returns-then-is_turned : goal.returns-then-is_turned
returns-then-is_turned c =
    let fits : SFits w64 c.integer.result = search rules in
    to_z-of_z w64 c.integer.result fits ∙ c.integer.ensures
    ∙ ap pos (c.greater.ensures ∙ sym (chosen (is_turned c.args.bounds.now) (count_by (λ a. int_lt c.args.number.now a) c.args.bounds.now) (count_by (λ a. int_lt a c.args.number.now) c.args.bounds.now) (sym c.is_turned.ensures ∙ c.if-is_turned.true)))

pub returns-else-is_turned : goal.returns-else-is_turned
returns-else-is_turned c =
    let fits : SFits w64 c.integer-else-is_turned.result = search rules in
    to_z-of_z w64 c.integer-else-is_turned.result fits ∙ c.integer-else-is_turned.ensures
    ∙ ap pos (c.less.ensures ∙ sym (otherwise (is_turned c.args.bounds.now) (count_by (λ a. int_lt c.args.number.now a) c.args.bounds.now) (count_by (λ a. int_lt a c.args.number.now) c.args.bounds.now) (sym c.is_turned.ensures ∙ c.if-is_turned.false)))
