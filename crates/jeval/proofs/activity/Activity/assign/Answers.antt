use Rattle.std.proofs.Common.{◌≡◌, ◌∷◌, Some, rules}
use Rattle.juses.proofs.Doing.{Relations}
use Rattle.jeval.specs.Makings.{term_of}
use Rattle.jeval.proofs.Making.{makes_on, stops_by, given}
use Rattle.jeval.proofs.activity.Activity.assign.Goals as goal

pub returns-in_err-write-in-Ok-Some : goal.returns-in_err-write-in-Ok-Some
returns-in_err-write-in-Ok-Some g c =
    let uses : Relations g.row.U.Denot = record { leads = g.U.Uses.leads; refuses = g.U.Uses.refuses; stays = g.met.U.Uses.stays; joins = g.met.U.Uses.joins } in
    let is : term_of c.args.value ≡ Some c.in-Ok-Some.term = search rules in
    rw is (stops_by uses _ c.from_residual.ensures c.in_err-write-in-Ok-Some.ensures)

pub returns-in_ok-write-in-Ok-Some : goal.returns-in_ok-write-in-Ok-Some
returns-in_ok-write-in-Ok-Some g c =
    let uses : Relations g.row.U.Denot = record { leads = g.U.Uses.leads; refuses = g.U.Uses.refuses; stays = g.met.U.Uses.stays; joins = g.met.U.Uses.joins } in
    let is : term_of c.args.value ≡ Some c.in-Ok-Some.term = search rules in
    rw is (makes_on uses _ c.in_ok-write-in-Ok-Some.ensures (given uses (c.args.value ∷ c.args.rest) c.pushed.result c.pushed.ensures))
