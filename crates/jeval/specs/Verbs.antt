-- The primitive verbs by the table of primitives: with a left argument or without.
use Rattle.std.specs.Prelude.{Option, Some, None, Result}
use Rattle.jdata.specs.declared.noun.Noun.{Noun}
use Rattle.jdata.specs.declared.primitive.Primitive.{Primitive}
use Rattle.jdata.specs.declared.fault.Fault.{Fault}
use Rattle.jprim.specs.Monads as monads
use Rattle.jprim.specs.Dyads as dyads

abbrev pub monad : Primitive → Noun → Result Noun Fault
monad verb y = monads.given (monads.monad_of verb) y

abbrev pub dyad : Primitive → Noun → Noun → Result Noun Fault
dyad verb x y = dyads.given (dyads.dyad_of verb) x y

abbrev pub primitive : Primitive → Option Noun → Noun → Result Noun Fault
primitive verb None y = monad verb y
primitive verb (Some x) y = dyad verb x y
