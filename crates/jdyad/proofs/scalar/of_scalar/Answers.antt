use Rattle.jdyad.proofs.scalar.of_scalar.Goals as goal
use Rattle.jdyad.proofs.scalar.of_scalar.Goals.{in_default-via-in-Some+in_default, in_default-via-in_default}
use Rattle.jdyad.proofs.Wholes.{none_alone}

pub returns-in_default-clause-alone : goal.returns-in_default-clause-alone
returns-in_default-clause-alone c = λ m n x y e. elim c.in_default.branch [
  | in_default-via-in-Some+in_default w ↦ none_alone _ _ n w.in_default.is-1 c.integer-2.ensures.none y
  | in_default-via-in_default w ↦ none_alone _ _ m w.in_default.is-0 c.integer.ensures.none x
]
