use Rattle.std.proofs.Common.{◌∙◌}
use Rattle.juses.proofs.Doing.{Relations}
use Rattle.jeval.specs.Sentence.{line_sentence}
use Rattle.jeval.proofs.Making.{closes_told, same_who}
use Rattle.jeval.proofs.activity.Activity.run_whole.Goals as goal

pub returns-in-Err-clause-same : goal.returns-in-Err-clause-same
returns-in-Err-clause-same g c =
    let uses : Relations g.row.U.Denot = record { leads = g.U.Uses.leads; refuses = g.U.Uses.refuses; stays = g.met.U.Uses.stays; joins = g.met.U.Uses.joins } in
    same_who uses c.run.new.self c.close_after.new.self c.in-Err.halt c.close_after.ensures ∙ c.in-Err.ensures.same

pub returns-in-Err-clause-made : goal.returns-in-Err-clause-made
returns-in-Err-clause-made g c =
    let uses : Relations g.row.U.Denot = record { leads = g.U.Uses.leads; refuses = g.U.Uses.refuses; stays = g.met.U.Uses.stays; joins = g.met.U.Uses.joins } in
    closes_told uses c.args.self.now c.run.new.self c.close_after.new.self (line_sentence c.args.turns c.args.line.now) c.in-Err.halt c.in-Err.ensures c.close_after.ensures
