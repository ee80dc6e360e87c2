use Rattle.juses.proofs.Doing.{Relations}
use Rattle.jeval.proofs.Making.{called}
use Rattle.jeval.proofs.activity.Activity.call.Goals as goal

pub returns-clause-made : goal.returns-clause-made
returns-clause-made g c =
    let uses : Relations g.row.U.Denot = record { leads = g.U.Uses.leads; refuses = g.U.Uses.refuses; stays = g.met.U.Uses.stays; joins = g.met.U.Uses.joins } in
    called uses c.args.self.now.who c.args.self.now.uses c.call.new.self (g.U.Uses.thread c.args.self.now.uses) c.args.asked c.call.result c.requires c.call.ensures.ok c.call.ensures.err c.call.ensures.halts
