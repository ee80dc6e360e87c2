use Rattle.std.proofs.Common.{rules}
use Rattle.jio.proofs.Writing.{one_more, whole_rest}
use Rattle.jio.proofs.std_sink.StdSink.send.Goals as goal

pub loop-rest-preserved : goal.loop-rest-preserved
loop-rest-preserved g c = record {
  taken = one_more _ _ _ _ c.loop-rest.rest.now _ c.in-Ok.count c.loop-rest.invariant.taken c.in-Ok.ensures.bytes (whole_rest c.in-Ok.count c.loop-rest.rest.now);
  faults = search rules;
  whole = search rules;
  calls = search rules;
}
