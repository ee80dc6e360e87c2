use Rattle.std.proofs.Common.{◌∙◌, Err, subst}
use Rattle.juses.proofs.Doing.{Relations}
use Rattle.jeval.specs.Applying.{applied, most_levels}
use Rattle.jeval.specs.Made.{Makes}
use Rattle.jeval.specs.declared.end.EvalEnd.{EvalEnd}
use Rattle.jeval.proofs.Making.{closes_made, same_who}
use Rattle.jeval.proofs.activity.Activity.apply_whole.Goals as goal

pub returns-in-Err-Halt-clause-same : goal.returns-in-Err-Halt-clause-same
returns-in-Err-Halt-clause-same g c =
    let uses : Relations g.row.U.Denot = record { leads = g.U.Uses.leads; refuses = g.U.Uses.refuses; stays = g.met.U.Uses.stays; joins = g.met.U.Uses.joins } in
    same_who uses c.apply.new.self c.close_after.new.self c.in-Err-Halt.halt c.close_after.ensures ∙ c.in-Err-Halt.ensures.same

pub returns-in-Err-Halt-clause-made : goal.returns-in-Err-Halt-clause-made
returns-in-Err-Halt-clause-made g c =
    let uses : Relations g.row.U.Denot = record { leads = g.U.Uses.leads; refuses = g.U.Uses.refuses; stays = g.met.U.Uses.stays; joins = g.met.U.Uses.joins } in
    let P : EvalEnd → Type 0 = λ e. Makes g.U.Uses.leads g.U.Uses.refuses c.args.self.now c.apply.new.self (applied most_levels c.args.verb.now c.args.x c.args.y) (Err e) in
    closes_made uses c.args.self.now c.apply.new.self c.close_after.new.self (applied most_levels c.args.verb.now c.args.x c.args.y) c.in-Err-Halt.halt (subst P c.in-Err-Halt.field-0-is c.in-Err-Halt.ensures) c.close_after.ensures
