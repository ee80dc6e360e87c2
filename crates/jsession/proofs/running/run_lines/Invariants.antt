use Rattle.std.proofs.Common.{◌≡◌, ◌≤◌, ◌+◌, length}
use Rattle.juses.proofs.Doing.{Relations}
use Rattle.jeval.specs.Eval.{moved_on}
use Rattle.jsession.specs.Items.{sentences}
use Rattle.jsession.specs.Sessions.{at}
use Rattle.jsession.proofs.Sessions.{Stage}
use Rattle.jsession.proofs.running.run_lines.Given as goal

abbrev pub invariant-loop-rest : goal.invariant-loop-rest
invariant-loop-rest g l =
    let u : Relations g.row.U.Denot = record { leads = g.U.Uses.leads; refuses = g.U.Uses.refuses; stays = g.met.U.Uses.stays; joins = g.met.U.Uses.joins } in
    record {
      stage : Stage u g.U.Uses.drained l.fn.eval.turns (sentences l.lines) (at l.fn.eval (g.K.Sink.writes l.fn.out)) (sentences l.rest) (at l.eval (g.K.Sink.writes l.out));
      heads : g.U.Uses.heads l.eval.uses;
      pieces : (g.K.Sink.writes l.out).calls + length (sentences l.rest) ≤ (g.K.Sink.writes l.fn.out).calls + length (sentences l.lines);
      same : l.eval ≡ moved_on l.fn.eval l.eval.uses l.eval.state;
      count : (g.K.Sink.writes l.fn.out).faults ≤ (g.K.Sink.writes l.out).faults;
    }

abbrev pub decreases-loop-rest : goal.decreases-loop-rest
decreases-loop-rest g l = length l.rest
