use Rattle.std.proofs.Common.{rules}
use Rattle.std.specs.Prelude.{int_le}
use Rattle.std.proofs.lemmas.List.Sorted.{answers_always}
use Rattle.jsearch.proofs.Between.{each_answer}
use Rattle.jsearch.proofs.intervals.rises.Goals as goal

pub returns : goal.returns
returns c = each_answer int_le c.args.numbers.now c.is_sorted_by.result (c.is_sorted_by.ensures.cases int_le (answers_always _ _ _ (λ f a r f' h. search rules)))
