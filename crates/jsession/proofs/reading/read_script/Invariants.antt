use Rattle.std.proofs.Common.{◌≤◌, ◌-◌, vec_len}
use Rattle.jsession.proofs.Pieces.{ReadSoFar}
use Rattle.jsession.proofs.reading.read_script.Given as goal

abbrev pub invariant-loop-bytes : goal.invariant-loop-bytes
invariant-loop-bytes g l = record {
  within : vec_len l.bytes ≤ 16777216;
  read : ReadSoFar (g.S.Source.reads l.initial.script) (g.S.Source.reads l.script) l.bytes.items;
  count : (g.S.Source.reads l.initial.script).faults ≤ (g.S.Source.reads l.script).faults;
}

abbrev pub decreases-loop-bytes : goal.decreases-loop-bytes
decreases-loop-bytes g l = 16777217 - vec_len l.bytes
