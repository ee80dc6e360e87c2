use Rattle.std.proofs.Common.{ap, sym, ◌∙◌, subst}
use Rattle.jdata.specs.Answers.{Answers}
use Rattle.jselect.specs.From.{fetched_by}
use Rattle.jselect.specs.Views.{noun_or}
use Rattle.jselect.proofs.Fetched.{fetched_is, nothing_fetched}
use Rattle.jselect.proofs.fetching.fetched.Goals as goal

pub returns-in-None : goal.returns-in-None
returns-in-None c = nothing_fetched c.args.x.now.noun c.args.y.now.noun c.in-None.ensures.none

pub returns-in-Ok : goal.returns-in-Ok
returns-in-Ok c =
    let meant = fetched_is c.args.x.now.noun c.args.y.now.noun c.in-Some.numbers.now c.in-Some.ensures.integers c.in-Some.ensures.some in
    let made = ap noun_or (sym c.in-Ok.is) ∙ c.fetched_by.ensures.value ∙ ap (fetched_by c.in-Some.numbers.now) c.view_of.ensures.value in
    subst (λ m. Answers m c.copied.result) (made ∙ sym meant) c.copied.ensures

pub returns-in-Err : goal.returns-in-Err
returns-in-Err c =
    let meant = fetched_is c.args.x.now.noun c.args.y.now.noun c.in-Some.numbers.now c.in-Some.ensures.integers c.in-Some.ensures.some in
    let made = ap noun_or (sym c.in-Err.is) ∙ c.fetched_by.ensures.value ∙ ap (fetched_by c.in-Some.numbers.now) c.view_of.ensures.value in
    meant ∙ sym made
