use Rattle.std.proofs.Common.{◌≡◌, ◌++◌, []}
use Rattle.jstruct.proofs.Weighing.{rows_picked}
use Rattle.jstruct.proofs.transposing.pick_run.Given as goal

-- the items so far
abbrev pub invariant-loop-i : goal.invariant-loop-i
invariant-loop-i g l = l.into.items ≡ l.initial.into.items ++ rows_picked g.T.Item.blank l.weight [] [] l.start l.items l.i
