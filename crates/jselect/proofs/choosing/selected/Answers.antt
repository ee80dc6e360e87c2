use Rattle.std.proofs.Common.{ap, sym, ◌∙◌, subst}
use Rattle.jdata.specs.Answers.{Answers}
use Rattle.jselect.specs.From.{selected, named_by_first}
use Rattle.jselect.specs.Views.{noun_or}
use Rattle.jselect.proofs.choosing.selected.Goals as goal

pub returns-in-Ok : goal.returns-in-Ok
unfolding selected
returns-in-Ok c =
    let meant = ap noun_or (sym c.in-Ok.is) ∙ c.named_by_first.ensures.value ∙ (λ i. named_by_first (c.leaf.ensures.atoms i) (c.view_of.ensures.value i)) in
    subst (λ m. Answers m c.copied.result) meant c.copied.ensures

pub returns-in-Err : goal.returns-in-Err
unfolding selected
returns-in-Err c =
    sym (ap noun_or (sym c.in-Err.is) ∙ c.named_by_first.ensures.value ∙ (λ i. named_by_first (c.leaf.ensures.atoms i) (c.view_of.ensures.value i)))
