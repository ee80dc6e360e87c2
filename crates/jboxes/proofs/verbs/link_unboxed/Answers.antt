use Rattle.std.proofs.Common.{sym, subst}
use Rattle.jdata.specs.Answers.{Answers}
use Rattle.jdata.specs.Firsts.{and_then}
use Rattle.jarray.specs.Placed.{noun_in}
use Rattle.jboxes.specs.Dyads.{appended}
use Rattle.jboxes.specs.Monads.{enclosed}
use Rattle.jboxes.proofs.Linked.{first_fails}
use Rattle.jboxes.proofs.verbs.link_unboxed.Goals as goal

pub returns-in-Ok : goal.returns-in-Ok
returns-in-Ok c =
    subst (λ m. Answers (and_then m (λ first. and_then (enclosed c.args.y.noun) (appended first))) (noun_in c.link_second.result)) (sym c.in-Ok.ensures) c.link_second.ensures

pub returns-in-Err : goal.returns-in-Err
returns-in-Err c = first_fails _ _ c.in-Err.trouble c.in-Err.ensures
