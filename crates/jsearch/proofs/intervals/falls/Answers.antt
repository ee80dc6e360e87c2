use Rattle.std.proofs.Common.{rules}
use Rattle.std.specs.Prelude.{int_le}
use Rattle.std.proofs.lemmas.List.Sorted.{answers_always}
use Rattle.jsearch.proofs.Between.{each_answer}
use Rattle.jsearch.proofs.intervals.falls.Goals as goal

pub returns : goal.returns
returns c = each_answer (λ a b. int_le b a) c.args.numbers.now c.is_sorted_by.result (c.is_sorted_by.ensures.cases (λ a b. int_le b a) (answers_always _ _ _ (λ f a r f' h. search rules)))
