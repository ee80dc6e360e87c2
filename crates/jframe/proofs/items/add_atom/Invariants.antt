use Rattle.std.proofs.Common.{◌≡◌, ◌++◌, map}
use Rattle.std.specs.List.{flat_map, range_with_len}
use Rattle.jdata.specs.Noun.{atoms}
use Rattle.jframe.proofs.items.add_atom.Given as goal

abbrev pub invariant-loop : goal.invariant-loop
invariant-loop g l = map g.T.Item.atom l.items.items ≡ map g.T.Item.atom l.fn.items.items ++ flat_map (λ p. atoms l.fn.tree) (range_with_len 0 l.counter)
