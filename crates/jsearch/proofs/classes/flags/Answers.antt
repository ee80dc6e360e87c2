use Rattle.std.proofs.Common.{map}
use Rattle.std.specs.Prelude.{◌==◌}
use Rattle.jsearch.specs.Finding.{truth}
use Rattle.jsearch.proofs.Classed.{next_row}
use Rattle.jsearch.proofs.classes.flags.Goals as goal

pub loop-row-preserved : goal.loop-row-preserved
loop-row-preserved c = next_row (λ r. map (λ p. truth (p == r)) c.args.places.now) c.args.rows.now c.loop-row.row-index c.loop-row.flags.items _ c.loop-row-test.true c.in_ok-push_row.ensures c.loop-row.invariant
