use Rattle.std.proofs.Common.{◌∙◌, sym, subst}
use Rattle.jdata.specs.Answers.{Answers}
use Rattle.jradix.proofs.Widths.{binary_by, no_counts, no_binary, numbers_whole}
use Rattle.jradix.proofs.bits.binary_of.Goals as goal

pub returns-in-None : goal.returns-in-None
returns-in-None c = no_binary c.args.y.now.noun c.in-None.ensures.none

pub returns-then-not-are_counts : goal.returns-then-not-are_counts
returns-then-not-are_counts c =
    no_counts c.args.y.now.noun c.in-Some.numbers.now c.in-Some.ensures.integers c.in-Some.ensures.some (sym c.are_counts.ensures ∙ c.if-not-are_counts.true)

pub bit_table-requires-clause-whole : goal.bit_table-requires-clause-whole
bit_table-requires-clause-whole c = numbers_whole c.args.y.now.noun c.in-Some.numbers.now c.shape.result.now c.in-Some.ensures.some c.shape.ensures.array.whole c.shape.ensures.value

pub returns : goal.returns
returns c =
    subst (λ meant. Answers meant c.bit_table.result)
    (binary_by c.args.y.now.noun c.in-Some.numbers.now c.shape.result.now c.in-Some.ensures.integers c.in-Some.ensures.some (sym c.are_counts.ensures ∙ c.if-not-are_counts.false) c.shape.ensures.value)
    c.bit_table.ensures
