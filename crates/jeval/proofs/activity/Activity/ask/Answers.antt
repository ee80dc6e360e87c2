use Rattle.juses.proofs.Doing.{Relations}
use Rattle.jeval.proofs.Making.{asks_once}
use Rattle.jeval.proofs.activity.Activity.ask.Goals as goal

pub returns-in-Ok : goal.returns-in-Ok
returns-in-Ok g c =
    let uses : Relations g.row.U.Denot = record { leads = g.U.Uses.leads; refuses = g.U.Uses.refuses; stays = g.met.U.Uses.stays; joins = g.met.U.Uses.joins } in
    asks_once uses c.args.self.now c.call.new.self (g.U.Uses.thread c.args.self.now.uses) c.args.asked c.in-Ok.reply c.requires c.in-Ok.ensures.ok
