use Rattle.std.proofs.Common.{sym, ap, ◌∙◌, Ok}
use Rattle.jstruct.proofs.Counting.{they_count, they_count_not}
use Rattle.jstruct.proofs.arguments.counts.Goals as goal

pub returns-then-not-are_counts : goal.returns-then-not-are_counts
returns-then-not-are_counts c =
    they_count_not c.args.x.now.noun c.in-Some.numbers.now c.in-Some.ensures.some c.in-Some.ensures.integers (sym c.are_counts.ensures ∙ c.if-not-are_counts.true)

pub returns-in-Ok : goal.returns-in-Ok
returns-in-Ok c =
    they_count c.args.x.now.noun c.in-Some.numbers.now c.in-Some.ensures.some c.in-Some.ensures.integers (sym c.are_counts.ensures ∙ c.if-not-are_counts.false)
    ∙ ap Ok (sym c.in-Ok.ensures)
