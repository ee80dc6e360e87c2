use Rattle.std.proofs.Common.{◌≡◌, false, nat_lt, length, arith}
use Rattle.std.proofs.lemmas.Bool.Decides.{nat_tests}
use Rattle.juses.proofs.Doing.{Relations}
use Rattle.jeval.proofs.Lines.{not_cut}
use Rattle.jeval.proofs.activity.Activity.run_line.Goals as goal

pub returns-in-Err : goal.returns-in-Err
returns-in-Err g c =
    let uses : Relations g.row.U.Denot = record { leads = g.U.Uses.leads; refuses = g.U.Uses.refuses; stays = g.met.U.Uses.stays; joins = g.met.U.Uses.joins } in
    let limit = c.if-line-gt-LINE_LIMIT.false in
    let short : nat_lt 65536 (length c.args.line.now) ≡ false = grind (arith, nat_tests, limit) in
    not_cut uses c.args.self.now c.args.line.now c.in-Err.why c.fault_of.result short c.in-Err.ensures.formed_fault c.fault_of.ensures
