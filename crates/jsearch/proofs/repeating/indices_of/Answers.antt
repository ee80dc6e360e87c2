use Rattle.std.proofs.Common.{sym, subst, ◌∙◌}
use Rattle.jdata.specs.Answers.{Answers}
use Rattle.jsearch.proofs.Made.{indices_by, no_indices, no_counts}
use Rattle.jsearch.proofs.repeating.indices_of.Goals as goal

pub returns-in-None : goal.returns-in-None
returns-in-None c = no_indices c.args.y.now.noun c.in-None.ensures.none

pub returns-then-not-are_counts : goal.returns-then-not-are_counts
returns-then-not-are_counts c = no_counts c.args.y.now.noun c.in-Some.numbers.now c.in-Some.ensures.some (sym c.are_counts.ensures ∙ c.if-not-are_counts.true)

pub returns : goal.returns
returns c =
    subst (λ m. Answers m c.place_list.result)
    (indices_by c.args.y.now.noun c.in-Some.numbers.now c.in-Some.ensures.integers c.in-Some.ensures.some (sym c.are_counts.ensures ∙ c.if-not-are_counts.false)) c.place_list.ensures
