use Rattle.std.proofs.Common.{◌≡◌}
use Rattle.jselect.specs.Copies.{count_at}
use Rattle.jselect.specs.Picking.{runs, repeated, served}
use Rattle.jselect.proofs.items.copies_of.Given as goal

abbrev pub invariant-loop-place : goal.invariant-loop-place
invariant-loop-place g l = l.copies.items ≡ runs l.plan.cell l.items (repeated (count_at l.plan.one_count l.plan.counts.now) (served l.plan.one_item) l.place)
