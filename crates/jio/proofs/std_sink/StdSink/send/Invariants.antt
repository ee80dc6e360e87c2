use Rattle.std.proofs.Common.{◌≡◌, length}
use Rattle.jio.proofs.Writing.{SoFar}
use Rattle.jio.proofs.std_sink.StdSink.send.Given as goal

abbrev pub invariant-loop-rest : goal.invariant-loop-rest
invariant-loop-rest g l = record {
  taken : SoFar (g.W.Write.contents l.initial.self.to) (g.W.Write.contents l.self.to) l.fn.piece l.rest;
  faults : l.self.faults ≡ l.initial.self.faults;
  whole : l.self.whole ≡ l.initial.self.whole;
  calls : l.self.calls ≡ l.initial.self.calls;
}

abbrev pub decreases-loop-rest : goal.decreases-loop-rest
decreases-loop-rest g l = length l.rest
