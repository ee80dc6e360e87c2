use Rattle.std.proofs.Common.{◌≡◌, ℕ, List}
use Rattle.juses.specs.Told.{nothing}
use Rattle.jpass.specs.Used.{Used}
use Rattle.jpass.proofs.turns.take.Given as goal

abbrev pub invariant-loop : goal.invariant-loop
invariant-loop g l = record {
  still : (helped : List (List ℕ)) → Used l.fn.thread helped l.initial.pass nothing l.pass;
  of : l.pass.turn ≡ l.turn.name;
}
