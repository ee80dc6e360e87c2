use Rattle.std.proofs.Common.{subst, ap, ◌∙◌}
use Rattle.jdata.specs.Answers.{Answers}
use Rattle.jarray.specs.Placed.{noun_in}
use Rattle.jselect.specs.Copies.{copied}
use Rattle.jsearch.proofs.finding.less.Goals as goal

pub returns-in-Ok : goal.returns-in-Ok
returns-in-Ok c =
    subst (λ f. Answers (copied f c.args.x.noun) (noun_in c.copy.result)) (ap (λ p. p.noun) c.of.ensures ∙ c.in-Ok.ensures) c.copy.ensures
