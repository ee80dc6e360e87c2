use Rattle.jcut.proofs.Grouping.{Owned}
use Rattle.jcut.proofs.key.own_lists.Given as goal

abbrev pub invariant-loop-place : goal.invariant-loop-place
invariant-loop-place l = Owned l.numbers l.fn.lists l.lists l.own l.place
