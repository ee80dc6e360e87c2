use Rattle.std.proofs.Common.{◌≡◌, ◌∙◌, Some, sym}
use Rattle.juses.proofs.Doing.{Relations}
use Rattle.jeval.specs.Queue.{queue_of}
use Rattle.jeval.specs.Showing.{shown}
use Rattle.jeval.proofs.Making.{makes_on, stops_by, answered}
use Rattle.jeval.proofs.activity.Activity.run_words.Goals as goal

pub returns-in_err-parts : goal.returns-in_err-parts
returns-in_err-parts g c =
    let uses : Relations g.row.U.Denot = record { leads = g.U.Uses.leads; refuses = g.U.Uses.refuses; stays = g.met.U.Uses.stays; joins = g.met.U.Uses.joins } in
    let waits : queue_of c.args.line.now c.args.words.now ≡ Some c.in-Some.waiting = sym c.in-Ok.ensures ∙ c.in-Some.is in
    rw waits (stops_by uses _ c.from_residual.ensures c.in_err-parts.ensures)

pub returns : goal.returns
returns g c =
    let uses : Relations g.row.U.Denot = record { leads = g.U.Uses.leads; refuses = g.U.Uses.refuses; stays = g.met.U.Uses.stays; joins = g.met.U.Uses.joins } in
    let waits : queue_of c.args.line.now c.args.words.now ≡ Some c.in-Some.waiting = sym c.in-Ok.ensures ∙ c.in-Some.is in
    rw waits (makes_on uses _ c.in_ok-parts.ensures (answered uses (shown (c.in_ok-parts.parts, c.in_ok-parts.assigned)) c.shown.result c.shown.ensures))
