use Rattle.std.proofs.Common.{sym, ◌∙◌, subst}
use Rattle.jdata.specs.Limits.{IsShape}
use Rattle.jsearch.proofs.Placing.{no_numbers, no_bounds, counts_made}
use Rattle.jsearch.proofs.intervals.counts_of.Goals as goal

pub returns-in-None : goal.returns-in-None
returns-in-None c = no_bounds c.args.x.now.noun c.args.y.now.noun c.in-None.ensures.no

pub integers-requires-clause-shape : goal.integers-requires-clause-shape
integers-requires-clause-shape c = subst IsShape (sym (c.in_ok-shape.ensures.items ∙ c.shape.ensures.value)) c.shape.ensures.array.within

pub returns-in-None-numbers : goal.returns-in-None-numbers
returns-in-None-numbers c = no_numbers c.args.x.now.noun c.args.y.now.noun c.in-None-numbers.ensures.none

pub returns : goal.returns
returns c =
    counts_made c.args.x.now.noun c.args.y.now.noun c.integers.result c.in-Some.bounds.now c.in-Some-numbers.numbers.now c.of.result c.in_ok-shape.shape.items c.in-Some.ensures.yes c.in-Some-numbers.ensures.integers
    c.in-Some.ensures.some c.in-Some-numbers.ensures.some (c.in_ok-shape.ensures.items ∙ c.shape.ensures.value) (c.of.ensures ∙ c.in_ok-counts.ensures) c.integers.ensures
