use Rattle.std.proofs.Common.{◌∷◌, Ok, ap, length, arith}
use Rattle.juses.proofs.Doing.{Relations}
use Rattle.jeval.specs.Execution.{all_written}
use Rattle.jeval.proofs.Executing.{all_are_written, one_is_written}
use Rattle.jeval.proofs.Making.{given, made_at, wants}
use Rattle.jeval.proofs.Stages.{stage_on, stage_stops}
use Rattle.jeval.proofs.activity.Activity.write_all.Goals as goal

pub returns-in-Err : goal.returns-in-Err
returns-in-Err g c =
    let uses : Relations g.row.U.Denot = record { leads = g.U.Uses.leads; refuses = g.U.Uses.refuses; stays = g.met.U.Uses.stays; joins = g.met.U.Uses.joins } in
    wants uses (c.args.value ∷ c.args.rest) (all_written c.args.names c.args.values (c.args.value ∷ c.args.rest)) c.in-Err.end c.in-Err.ensures

pub returns-in_err-write : goal.returns-in_err-write
returns-in_err-write g c =
    let uses : Relations g.row.U.Denot = record { leads = g.U.Uses.leads; refuses = g.U.Uses.refuses; stays = g.met.U.Uses.stays; joins = g.met.U.Uses.joins } in
    let after = c.args.value ∷ c.args.rest in
    stage_stops uses (λ reply. all_written c.next_share.new.names c.next_share.new.values after)
    (one_is_written c.loop-name.names c.next_share.new.names c.loop-name.values c.next_share.new.values c.in-Some.name c.in-Some.share after c.loop-name.self.state c.in-Some.ensures.0 c.in-Some.ensures.1)
    c.from_residual.ensures c.in_err-write.ensures c.loop-name.invariant

pub loop-name-preserved : goal.loop-name-preserved
loop-name-preserved g c =
    let uses : Relations g.row.U.Denot = record { leads = g.U.Uses.leads; refuses = g.U.Uses.refuses; stays = g.met.U.Uses.stays; joins = g.met.U.Uses.joins } in
    let after = c.args.value ∷ c.args.rest in
    stage_on uses (λ reply. all_written c.next_share.new.names c.next_share.new.values after)
    (one_is_written c.loop-name.names c.next_share.new.names c.loop-name.values c.next_share.new.values c.in-Some.name c.in-Some.share after c.loop-name.self.state c.in-Some.ensures.0 c.in-Some.ensures.1)
    c.in_ok-write.ensures c.loop-name.invariant

pub loop-name-smaller : goal.loop-name-smaller
loop-name-smaller g c =
    let one = ap length c.in-Some.ensures.0 in
    omega (arith, one)

pub returns : goal.returns
returns g c =
    let uses : Relations g.row.U.Denot = record { leads = g.U.Uses.leads; refuses = g.U.Uses.refuses; stays = g.met.U.Uses.stays; joins = g.met.U.Uses.joins } in
    let after = c.args.value ∷ c.args.rest in
    c.loop-name.invariant c.loop-name.self (Ok c.in-Ok.after)
    (made_at uses {t = c.loop-name.self.state} (all_are_written c.loop-name.names c.loop-name.values after c.loop-name.self.state c.in_default.ensures) (given uses after (Ok c.in-Ok.after) c.in-Ok.ensures))
