use Rattle.std.proofs.Common.{arith}
use Rattle.jsearch.proofs.KeyLists.{run_within, next_run}
use Rattle.jsearch.proofs.ordering.runs_of.Goals as goal

pub overflow_mul-place : goal.overflow_mul-place
overflow_mul-place g c = omega (arith, run_within c.args.size c.args.count c.loop-place.place _ c.requires.whole c.loop-place-test.true, c.requires.few)

pub range-run-requires : goal.range-run-requires
range-run-requires g c = run_within c.args.size c.args.count c.loop-place.place _ c.requires.whole c.loop-place-test.true

pub loop-place-preserved : goal.loop-place-preserved
loop-place-preserved g c =
    next_run c.args.atoms.now c.args.size c.loop-place.place c.range-run.result c.loop-place.runs.items _ c.range-run.ensures c.in_ok-push.ensures.items c.loop-place.invariant
