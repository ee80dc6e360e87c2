use Rattle.juses.proofs.Doing.{Relations}
use Rattle.jeval.proofs.Making.{printed}
use Rattle.jeval.proofs.activity.Activity.print.Goals as goal

pub returns : goal.returns
returns g c =
    let uses : Relations g.row.U.Denot = record { leads = g.U.Uses.leads; refuses = g.U.Uses.refuses; stays = g.met.U.Uses.stays; joins = g.met.U.Uses.joins } in
    printed uses c.args.self.now c.call.new.self (g.U.Uses.thread c.args.self.now.uses) c.args.bytes c.args.shown c.in_ok-call.field-0 c.in_ok-call.ensures.ok
