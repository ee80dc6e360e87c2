use Rattle.std.proofs.Common.{arith, sym, ap, ◌∙◌, ◌≡◌, length}
use Rattle.std.specs.Prelude.{Ok}
use Rattle.jscalar.specs.Places.{by_place}
use Rattle.jdyad.proofs.Filling.{left_at, written_back, when_done, when_faulty}
use Rattle.jdyad.proofs.Verbs.{left_ints}
use Rattle.jdyad.proofs.buffers.number_left.Goals as goal

pub returns-in-Ok-clause-answer : goal.returns-in-Ok-clause-answer
returns-in-Ok-clause-answer c =
    let verb = c.args.verb in let ys = c.args.ys.now in let cell = c.args.cell in
    let old = c.as_mut_slice.result.now in
    let same : old ≡ c.args.xs = c.as_mut_slice.ensures.value ∙ c.into_items-numbers.ensures in
    left_ints verb c.args.xs ys cell (length c.args.xs)
    ∙ ap (λ xs. by_place (left_at verb xs ys cell) (length xs)) (sym same)
    ∙ when_done _ _ _ _ c.in-Ok.is c.into_left.ensures
    ∙ ap (λ l. Ok l) (sym (c.of.ensures ∙ written_back _ _ _ (c.into_left.auto.xs ∙ ap length c.as_mut_slice.ensures.value) (omega (arith, c.into_items-numbers.result.ok.0))))

pub returns-in-Err-clause-answer : goal.returns-in-Err-clause-answer
returns-in-Err-clause-answer c =
    let verb = c.args.verb in let ys = c.args.ys.now in let cell = c.args.cell in
    let old = c.as_mut_slice.result.now in
    let same : old ≡ c.args.xs = c.as_mut_slice.ensures.value ∙ c.into_items-numbers.ensures in
    left_ints verb c.args.xs ys cell (length c.args.xs)
    ∙ ap (λ xs. by_place (left_at verb xs ys cell) (length xs)) (sym same)
    ∙ when_faulty _ _ _ _ c.in-Err.is c.into_left.ensures
