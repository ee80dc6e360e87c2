use Rattle.std.proofs.Common.{arith, sym, ap, ◌∙◌, ◌≡◌, length}
use Rattle.std.specs.Prelude.{Ok}
use Rattle.jscalar.specs.Places.{by_place}
use Rattle.jdyad.proofs.Filling.{right_at, written_back, when_done, when_faulty}
use Rattle.jdyad.proofs.Verbs.{right_ints}
use Rattle.jdyad.proofs.buffers.number_right.Goals as goal

pub returns-in-Ok-clause-answer : goal.returns-in-Ok-clause-answer
returns-in-Ok-clause-answer c =
    let verb = c.args.verb in let xs = c.args.xs.now in let cell = c.args.cell in
    let old = c.as_mut_slice.result.now in
    let same : old ≡ c.args.ys = c.as_mut_slice.ensures.value ∙ c.into_items-numbers.ensures in
    right_ints verb xs cell c.args.ys (length c.args.ys)
    ∙ ap (λ ys. by_place (right_at verb xs cell ys) (length ys)) (sym same)
    ∙ when_done _ _ _ _ c.in-Ok.is c.into_right.ensures
    ∙ ap (λ l. Ok l) (sym (c.of.ensures ∙ written_back _ _ _ (c.into_right.auto.ys ∙ ap length c.as_mut_slice.ensures.value) (omega (arith, c.into_items-numbers.result.ok.0))))

pub returns-in-Err-clause-answer : goal.returns-in-Err-clause-answer
returns-in-Err-clause-answer c =
    let verb = c.args.verb in let xs = c.args.xs.now in let cell = c.args.cell in
    let old = c.as_mut_slice.result.now in
    let same : old ≡ c.args.ys = c.as_mut_slice.ensures.value ∙ c.into_items-numbers.ensures in
    right_ints verb xs cell c.args.ys (length c.args.ys)
    ∙ ap (λ ys. by_place (right_at verb xs cell ys) (length ys)) (sym same)
    ∙ when_faulty _ _ _ _ c.in-Err.is c.into_right.ensures
