use Rattle.std.proofs.Common.{refl, Ok, Err, subst}
use Rattle.juses.proofs.Doing.{Relations}
use Rattle.jeval.specs.Action.{with_left}
use Rattle.jeval.specs.Made.{Makes}
use Rattle.jeval.specs.Sentence.{run_line, tells}
use Rattle.jeval.specs.declared.end.EvalEnd.{EvalEnd}
use Rattle.jeval.proofs.Making.{tells_on, tells_halt, told_at}
use Rattle.jeval.proofs.activity.Activity.run.Goals as goal

pub returns-in-Ok : goal.returns-in-Ok
returns-in-Ok g c =
    let uses : Relations g.row.U.Denot = record { leads = g.U.Uses.leads; refuses = g.U.Uses.refuses; stays = g.met.U.Uses.stays; joins = g.met.U.Uses.joins } in
    told_at uses {t = with_left c.args.turns c.args.self.now.state} refl (tells_on uses {came = Ok c.in-Ok.bytes} (tells c.args.line.now) refl c.in-Ok.ensures c.tell.ensures)

pub returns-in-Err-Fault : goal.returns-in-Err-Fault
returns-in-Err-Fault g c =
    let uses : Relations g.row.U.Denot = record { leads = g.U.Uses.leads; refuses = g.U.Uses.refuses; stays = g.met.U.Uses.stays; joins = g.met.U.Uses.joins } in
    let P : EvalEnd → Type 0 = λ e. Makes g.U.Uses.leads g.U.Uses.refuses (record c.args.self.now { state = with_left c.args.turns c.args.self.now.state }) c.run_line.new.self (run_line c.args.line.now) (Err e) in
    told_at uses {t = with_left c.args.turns c.args.self.now.state} refl (tells_on uses {came = Err c.in-Err-Fault.fault} (tells c.args.line.now) refl (subst P c.in-Err-Fault.field-0-is c.in-Err-Fault.ensures) c.tell-in-Err-Fault.ensures)

pub returns-in-Err-Halt : goal.returns-in-Err-Halt
returns-in-Err-Halt g c =
    let uses : Relations g.row.U.Denot = record { leads = g.U.Uses.leads; refuses = g.U.Uses.refuses; stays = g.met.U.Uses.stays; joins = g.met.U.Uses.joins } in
    let P : EvalEnd → Type 0 = λ e. Makes g.U.Uses.leads g.U.Uses.refuses (record c.args.self.now { state = with_left c.args.turns c.args.self.now.state }) c.run_line.new.self (run_line c.args.line.now) (Err e) in
    told_at uses {t = with_left c.args.turns c.args.self.now.state} refl (tells_halt uses (tells c.args.line.now) (subst P c.in-Err-Halt.field-0-is c.in-Err-Halt.ensures))
