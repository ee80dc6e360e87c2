use Rattle.std.proofs.Common.{sym, subst}
use Rattle.jdata.specs.Answers.{Answers}
use Rattle.jdata.specs.Firsts.{and_then}
use Rattle.jarray.specs.Placed.{noun_in}
use Rattle.jboxes.specs.Dyads.{appended}
use Rattle.jboxes.proofs.Linked.{first_fails}
use Rattle.jboxes.proofs.verbs.link_boxes.Goals as goal

pub returns-in-Ok : goal.returns-in-Ok
returns-in-Ok c =
    subst (λ m. Answers (and_then m (λ first. appended first c.args.y.noun)) (noun_in c.join.result)) (sym c.in-Ok.ensures) c.join.ensures

pub returns-in-Err : goal.returns-in-Err
returns-in-Err c = first_fails _ _ c.in-Err.trouble c.in-Err.ensures
