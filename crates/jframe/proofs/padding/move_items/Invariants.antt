use Rattle.std.proofs.Common.{◌≡◌, ◌++◌, take, drop}
use Rattle.jframe.proofs.padding.move_items.Given as goal

abbrev pub invariant-loop : goal.invariant-loop
invariant-loop g l = (l.into.items ≡ l.initial.into.items ++ take l.counter l.initial.from.items) × (l.from.items ≡ drop l.counter l.initial.from.items)
