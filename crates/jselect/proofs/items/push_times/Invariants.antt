use Rattle.std.proofs.Common.{◌≡◌, ◌++◌, replicate}
use Rattle.jselect.specs.Picking.{runs}
use Rattle.jselect.proofs.items.push_times.Given as goal

abbrev pub invariant-loop : goal.invariant-loop
invariant-loop g l = l.into.items ≡ l.fn.into.items ++ runs l.cell l.items (replicate l.counter l.place)
