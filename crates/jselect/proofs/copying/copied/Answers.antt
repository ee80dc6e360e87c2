use Rattle.std.proofs.Common.{ap, sym, ◌∙◌, subst, length}
use Rattle.jdata.specs.Answers.{Answers}
use Rattle.jselect.specs.Copies.{shared_count}
use Rattle.jselect.specs.Picking.{is_alone}
use Rattle.jselect.proofs.Copied.{copied_by, not_copied, no_integers, no_counts}
use Rattle.jselect.proofs.copying.copied.Goals as goal

pub returns-in-None : goal.returns-in-None
returns-in-None c = no_integers c.args.x.now.noun c.args.y.now.noun c.in-None.ensures.none

pub returns-then-not-are_counts : goal.returns-then-not-are_counts
returns-then-not-are_counts c =
    no_counts c.args.x.now.noun c.args.y.now.noun c.in-Some.numbers.now c.in-Some.ensures.some (sym c.are_counts.ensures ∙ c.if-not-are_counts.true)

pub returns-in-Ok : goal.returns-in-Ok
returns-in-Ok c =
    let number = sym (c.shared_count.ensures ∙ ap (shared_count c.is_alone-one_count.result (length c.in-Some.numbers.now)) c.shape-2.ensures.value) ∙ c.in-Ok.is in
    let meant =
    copied_by c.args.x.now.noun c.args.y.now.noun c.in-Some.numbers.now c.is_alone-one_count.result c.in-Ok.number
    c.in-Some.ensures.integers c.in-Some.ensures.some (sym c.are_counts.ensures ∙ c.if-not-are_counts.false)
    (c.is_alone-one_count.ensures ∙ ap is_alone c.shape.ensures.value) number in
    subst (λ m. Answers m c.copied_items.result) (sym meant) c.copied_items.ensures

pub returns-in-Err : goal.returns-in-Err
returns-in-Err c =
    let why = sym (c.shared_count.ensures ∙ ap (shared_count c.is_alone-one_count.result (length c.in-Some.numbers.now)) c.shape-2.ensures.value) ∙ c.in-Err.is in
    not_copied c.args.x.now.noun c.args.y.now.noun c.in-Some.numbers.now c.is_alone-one_count.result c.in-Err.fault
    c.in-Some.ensures.integers c.in-Some.ensures.some (sym c.are_counts.ensures ∙ c.if-not-are_counts.false)
    (c.is_alone-one_count.ensures ∙ ap is_alone c.shape.ensures.value) why
