use Rattle.std.proofs.Common.{◌∙◌, sym, Ok}
use Rattle.juses.proofs.Doing.{Relations}
use Rattle.jeval.specs.Applying.{verb_replied}
use Rattle.jeval.proofs.Making.{makes_on, stops_by, answered, fails_if}
use Rattle.jeval.proofs.activity.Activity.sought.Goals as goal

pub returns-in_err-reply : goal.returns-in_err-reply
returns-in_err-reply g c =
    let uses : Relations g.row.U.Denot = record { leads = g.U.Uses.leads; refuses = g.U.Uses.refuses; stays = g.met.U.Uses.stays; joins = g.met.U.Uses.joins } in
    stops_by uses _ c.from_residual.ensures c.in_err-reply.ensures

pub returns-in-Ok : goal.returns-in-Ok
returns-in-Ok g c =
    let uses : Relations g.row.U.Denot = record { leads = g.U.Uses.leads; refuses = g.U.Uses.refuses; stays = g.met.U.Uses.stays; joins = g.met.U.Uses.joins } in
    makes_on uses _ c.in_ok-reply.ensures (answered uses (verb_replied c.in_ok-reply.reply) (Ok c.in-Ok.verb) (sym c.verb_replied.ensures ∙ c.in-Ok.is))

pub returns-in-Err : goal.returns-in-Err
returns-in-Err g c =
    let uses : Relations g.row.U.Denot = record { leads = g.U.Uses.leads; refuses = g.U.Uses.refuses; stays = g.met.U.Uses.stays; joins = g.met.U.Uses.joins } in
    makes_on uses _ c.in_ok-reply.ensures (fails_if uses (sym c.verb_replied.ensures ∙ c.in-Err.is))
