use Rattle.std.proofs.Common.{◌≡◌, ◌++◌, replicate}
use Rattle.jdata.proofs.item.push_fills.Given as goal

abbrev pub invariant-loop : goal.invariant-loop
invariant-loop g l = l.items.items ≡ l.initial.items.items ++ replicate l.counter g.T.Item.blank
