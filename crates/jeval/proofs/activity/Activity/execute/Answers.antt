use Rattle.std.proofs.Common.{◌≡◌, ◌∙◌, ap, sym, refl, subst, arith, length, Ok, Err, [], false, None, Some, Bool}
use Rattle.jdata.specs.declared.fault.Fault.TheVariants.{Syntax}
use Rattle.jeval.specs.declared.end.EvalEnd.TheVariants as end
use Rattle.juses.proofs.Doing.{Relations}
use Rattle.jeval.specs.Execution.{executed, is_assignment}
use Rattle.jparse.specs.Parsing.{row_at}
use Rattle.jeval.proofs.Executing.{executed_reads, executed_acts, reads_next, acts_next, is_done, is_unmeant}
use Rattle.jeval.proofs.Making.{fails_at_once, given, made_at}
use Rattle.jeval.proofs.Stages.{Stage, stage_on, stage_stops, moved_turns, acted_turns}
use Rattle.jeval.proofs.activity.Activity.execute.Goals as goal

pub returns-in_err-parts-in-Shift : goal.returns-in_err-parts-in-Shift
returns-in_err-parts-in-Shift g c =
    let uses : Relations g.row.U.Denot = record { leads = g.U.Uses.leads; refuses = g.U.Uses.refuses; stays = g.met.U.Uses.stays; joins = g.met.U.Uses.joins } in
    let none : row_at c.loop-queue.parts ≡ None = reads_next c.loop-queue.parts c.len.result c.in-Shift.ensures.value in
    stage_stops uses (λ more. executed c.args.levels c.pop.new.self more c.loop-queue.assigned)
    (ap (λ q. executed c.args.levels q c.loop-queue.parts c.loop-queue.assigned c.loop-queue.self.state) c.in-Some.ensures ∙ executed_reads c.args.levels c.in-Some.item c.pop.new.self c.loop-queue.parts c.loop-queue.assigned c.loop-queue.self.state none)
    c.from_residual.ensures c.in_err-parts-in-Shift.ensures c.loop-queue.invariant

pub loop-queue-smaller-in-Shift : goal.loop-queue-smaller-in-Shift
loop-queue-smaller-in-Shift g c =
    let uses : Relations g.row.U.Denot = record { leads = g.U.Uses.leads; refuses = g.U.Uses.refuses; stays = g.met.U.Uses.stays; joins = g.met.U.Uses.joins } in
    let fewer = moved_turns uses c.in-Some.item c.loop-queue.parts c.in_ok-parts-in-Shift.parts c.in_ok-parts-in-Shift.ensures in
    let one = ap length c.in-Some.ensures in
    omega (arith, fewer, one)

pub loop-queue-preserved-in-Shift : goal.loop-queue-preserved-in-Shift
loop-queue-preserved-in-Shift g c =
    let uses : Relations g.row.U.Denot = record { leads = g.U.Uses.leads; refuses = g.U.Uses.refuses; stays = g.met.U.Uses.stays; joins = g.met.U.Uses.joins } in
    let none : row_at c.loop-queue.parts ≡ None = reads_next c.loop-queue.parts c.len.result c.in-Shift.ensures.value in
    stage_on uses (λ more. executed c.args.levels c.pop.new.self more c.loop-queue.assigned)
    (ap (λ q. executed c.args.levels q c.loop-queue.parts c.loop-queue.assigned c.loop-queue.self.state) c.in-Some.ensures ∙ executed_reads c.args.levels c.in-Some.item c.pop.new.self c.loop-queue.parts c.loop-queue.assigned c.loop-queue.self.state none)
    c.in_ok-parts-in-Shift.ensures c.loop-queue.invariant

pub returns-in_err-parts-in-Row : goal.returns-in_err-parts-in-Row
returns-in_err-parts-in-Row g c =
    let uses : Relations g.row.U.Denot = record { leads = g.U.Uses.leads; refuses = g.U.Uses.refuses; stays = g.met.U.Uses.stays; joins = g.met.U.Uses.joins } in
    let acts : row_at c.loop-queue.parts ≡ Some c.in-Row.row = acts_next c.loop-queue.parts c.len.result c.in-Row.row c.in-Row.ensures.value in
    stage_stops uses (λ more. executed c.args.levels c.loop-queue.queue more (is_assignment c.in-Row.row))
    (executed_acts c.args.levels c.in-Row.row c.loop-queue.queue c.loop-queue.parts c.loop-queue.assigned c.loop-queue.self.state acts)
    c.from_residual-in_err-parts-in-Row.ensures c.in_err-parts-in-Row.ensures c.loop-queue.invariant

pub loop-queue-smaller : goal.loop-queue-smaller
loop-queue-smaller g c =
    let uses : Relations g.row.U.Denot = record { leads = g.U.Uses.leads; refuses = g.U.Uses.refuses; stays = g.met.U.Uses.stays; joins = g.met.U.Uses.joins } in
    let fewer = acted_turns uses c.args.levels c.in-Row.row c.loop-queue.parts c.in_ok-parts-in-Row.parts c.in_ok-parts-in-Row.ensures in
    omega (arith, fewer)

pub loop-queue-preserved : goal.loop-queue-preserved
loop-queue-preserved g c =
    let uses : Relations g.row.U.Denot = record { leads = g.U.Uses.leads; refuses = g.U.Uses.refuses; stays = g.met.U.Uses.stays; joins = g.met.U.Uses.joins } in
    let acts : row_at c.loop-queue.parts ≡ Some c.in-Row.row = acts_next c.loop-queue.parts c.len.result c.in-Row.row c.in-Row.ensures.value in
    let P : Bool → Type 0 = λ b. Stage uses c.args.self.now (executed c.args.levels c.args.queue [] false) c.act.new.self (executed c.args.levels c.loop-queue.queue c.in_ok-parts-in-Row.parts b) in
    subst P (sym c.is_assignment-assigned.ensures) (stage_on uses (λ more. executed c.args.levels c.loop-queue.queue more (is_assignment c.in-Row.row))
    (executed_acts c.args.levels c.in-Row.row c.loop-queue.queue c.loop-queue.parts c.loop-queue.assigned c.loop-queue.self.state acts)
    c.in_ok-parts-in-Row.ensures c.loop-queue.invariant)

pub returns-in-Done : goal.returns-in-Done
returns-in-Done g c =
    let uses : Relations g.row.U.Denot = record { leads = g.U.Uses.leads; refuses = g.U.Uses.refuses; stays = g.met.U.Uses.stays; joins = g.met.U.Uses.joins } in
    c.loop-queue.invariant c.loop-queue.self (Ok (c.loop-queue.parts, c.loop-queue.assigned))
    (made_at uses {t = c.loop-queue.self.state} (is_done c.args.levels c.loop-queue.queue c.loop-queue.parts c.loop-queue.assigned c.len.result c.loop-queue.self.state c.len.ensures c.in-Done.ensures.value)
    (given uses (c.loop-queue.parts, c.loop-queue.assigned) (Ok (c.loop-queue.parts, c.loop-queue.assigned)) refl))

pub returns-in-Syntax : goal.returns-in-Syntax
returns-in-Syntax g c =
    let uses : Relations g.row.U.Denot = record { leads = g.U.Uses.leads; refuses = g.U.Uses.refuses; stays = g.met.U.Uses.stays; joins = g.met.U.Uses.joins } in
    c.loop-queue.invariant c.loop-queue.self (Err (end.Fault Syntax))
    (made_at uses {t = c.loop-queue.self.state} (is_unmeant c.args.levels c.loop-queue.queue c.loop-queue.parts c.loop-queue.assigned c.len.result c.loop-queue.self.state c.len.ensures c.in-Syntax.ensures.value) (fails_at_once uses Syntax))
