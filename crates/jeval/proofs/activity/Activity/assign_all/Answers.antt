use Rattle.std.proofs.Common.{◌∷◌, Ok}
use Rattle.juses.proofs.Doing.{Relations}
use Rattle.jeval.specs.Execution.{all_written}
use Rattle.jeval.specs.Targets.{spread}
use Rattle.jeval.proofs.Making.{makes_on, stops_by, answered}
use Rattle.jeval.proofs.activity.Activity.assign_all.Goals as goal

pub returns-in_err-names : goal.returns-in_err-names
returns-in_err-names g c =
    let uses : Relations g.row.U.Denot = record { leads = g.U.Uses.leads; refuses = g.U.Uses.refuses; stays = g.met.U.Uses.stays; joins = g.met.U.Uses.joins } in
    stops_by uses _ c.from_residual.ensures (answered uses (spread c.args.target.now.noun c.args.value) _ c.in_err-names.ensures)

pub returns : goal.returns
returns g c =
    let uses : Relations g.row.U.Denot = record { leads = g.U.Uses.leads; refuses = g.U.Uses.refuses; stays = g.met.U.Uses.stays; joins = g.met.U.Uses.joins } in
    makes_on uses (λ share. all_written share.0 share.1 (c.args.value ∷ c.args.rest)) (answered uses (spread c.args.target.now.noun c.args.value) (Ok (c.in_ok-names.names, c.in_ok-names.values)) c.in_ok-names.ensures) c.write_all.ensures
