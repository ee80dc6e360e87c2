use Rattle.std.specs.Prelude.{false}
use Rattle.jdyad.specs.Atoms.{compared}
use Rattle.jdyad.proofs.Filling.{Gives}
use Rattle.jdyad.proofs.comparison.differ.Given as goal

abbrev pub invariant-loop : goal.invariant-loop
invariant-loop l = Gives (λ j. compared l.fn.verb false) l.counter l.truths.items
