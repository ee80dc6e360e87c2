use Rattle.std.proofs.Common.{sym, subst, ap, ◌∙◌, Ok}
use Rattle.jdata.specs.Answers.{Answers}
use Rattle.jarray.specs.Placed.{noun_in}
use Rattle.jboxes.specs.Worded.{words_boxed}
use Rattle.jboxes.proofs.texts.words_in.Goals as goal

pub returns-in-Ok : goal.returns-in-Ok
returns-in-Ok c =
    subst (λ m. Answers (words_boxed c.args.text.now m) (noun_in c.boxed.result)) (ap Ok c.as_slice.ensures.value ∙ sym c.in-Ok.ensures.formed) c.boxed.ensures
