use Rattle.std.proofs.Common.{◌∷◌, subst}
use Rattle.juses.proofs.Doing.{Relations}
use Rattle.jeval.specs.Execution.{value_of}
use Rattle.jeval.specs.Made.{Gives}
use Rattle.jterm.specs.declared.part.Part.{Part}
use Rattle.jeval.proofs.Making.{makes_on, stops_by, given}
use Rattle.jeval.proofs.activity.Activity.move_value.Goals as goal

pub returns-in_err-reply : goal.returns-in_err-reply
returns-in_err-reply g c =
    let uses : Relations g.row.U.Denot = record { leads = g.U.Uses.leads; refuses = g.U.Uses.refuses; stays = g.met.U.Uses.stays; joins = g.met.U.Uses.joins } in
    stops_by uses _ c.from_residual.ensures c.in_err-reply.ensures

pub returns : goal.returns
returns g c =
    let uses : Relations g.row.U.Denot = record { leads = g.U.Uses.leads; refuses = g.U.Uses.refuses; stays = g.met.U.Uses.stays; joins = g.met.U.Uses.joins } in
    let P : Part → Type 0 = λ part. Gives (part ∷ c.args.parts) c.pushed.result in
    makes_on uses _ c.in_ok-reply.ensures (given uses (value_of c.args.name c.in_ok-reply.reply ∷ c.args.parts) c.pushed.result (subst P c.value_of.ensures c.pushed.ensures))
