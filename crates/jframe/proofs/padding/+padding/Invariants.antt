use Rattle.std.proofs.Common.{◌≡◌, ◌+◌, ◌*◌, ◌∷◌, ◌++◌, length, drop}
use Rattle.jdata.specs.Noun.{product}
use Rattle.jframe.specs.Padding.{spread}
use Rattle.jframe.proofs.padding.+padding.Given as goal

abbrev pub decreases-pad : goal.decreases-pad
decreases-pad g l = 2 * length l.whole.now

abbrev pub decreases-pad_rows : goal.decreases-pad_rows
decreases-pad_rows g l = 2 * length l.whole.now + 1

-- the arrays so far
abbrev pub invariant-pad_rows-loop : goal.invariant-pad_rows-loop
invariant-pad_rows-loop g l =
    (l.into.items ≡ l.initial.into.items ++ spread g.T.Item.blank (l.counter ∷ l.whole) (l.counter ∷ l.part) l.initial.from.items)
    × (l.from.items ≡ drop (l.counter * product l.part) l.initial.from.items)
