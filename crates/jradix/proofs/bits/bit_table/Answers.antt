use Rattle.std.proofs.Common.{◌∙◌, ap, sym, subst}
use Rattle.jdata.specs.Answers.{Answers}
use Rattle.jdata.specs.Limits.{limited}
use Rattle.jdata.specs.Noun.{product}
use Rattle.jradix.specs.Digits.{bit_of, width}
use Rattle.jradix.proofs.Widths.{table_made, table_whole, table_count}
use Rattle.jradix.proofs.bits.bit_table.Goals as goal

pub bits_by_place-requires-clause-count : goal.bits_by_place-requires-clause-count
bits_by_place-requires-clause-count c =
    table_count c.args.axes.now c.args.numbers.now c.width-width.result c.in-Some.count c.in_ok-shape.shape.items c.in_ok-shape.ensures (c.in-Some.ensures.0 ∙ ap product c.as_slice.ensures.value) c.requires.whole

pub limited-requires : goal.limited-requires
limited-requires c =
    table_whole (bit_of c.args.numbers.now c.width-width.result) c.in-Some.count c.in_ok-shape.shape.items c.of.result (c.in-Some.ensures.0 ∙ ap product c.as_slice.ensures.value) (c.of.ensures ∙ c.in_ok-bits.ensures)

pub returns : goal.returns
returns c =
    let numbers = c.args.numbers.now in
    subst (λ v. Answers (limited v) c.limited.result)
    (sym (table_made c.args.axes.now numbers (width numbers) c.width-width.result c.in-Some.count c.in_ok-shape.shape.items c.of.result
    c.width-width.ensures.value c.in_ok-shape.ensures (c.in-Some.ensures.0 ∙ ap product c.as_slice.ensures.value) (c.of.ensures ∙ c.in_ok-bits.ensures)))
    c.limited.ensures
