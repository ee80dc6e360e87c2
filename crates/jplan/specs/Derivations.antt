-- What derived verbs do, as programs over applications of the verbs that they are made of, in the order in which these are
-- applied (J Dictionary, "Adverbs and Conjunctions", "Trains").
use Rattle.std.specs.Prelude.{Bool, true, false, Option, None, Result, Ok, Err}
use Rattle.jdata.specs.declared.fault.Fault.{Fault}
use Rattle.jdata.specs.declared.noun.Noun.{Noun}
use Rattle.jterm.specs.declared.term.Term.{Term}
use Rattle.juses.specs.Program.{Program, Return, Ask}

-- a verb on its arguments, and whether that is a repetition
pub record Application : Type 0 where
  pub verb : Term
  pub x : Option Noun
  pub y : Noun
  pub repeats : Bool

-- what comes of it: a value or a fault
abbrev pub Answer : Type 0
Answer = Result Noun Fault

-- a derived verb asks for applications, and gives an answer
abbrev pub Derivation : Type 0
Derivation = Program Application Answer Answer

abbrev pub on : Term → Option Noun → Noun → Application
on u x y = record { verb = u; x = x; y = y; repeats = false }

-- once more
abbrev pub again : Term → Noun → Application
again u y = record { verb = u; x = None; y = y; repeats = true }

-- goes on with the value; a fault is the answer
abbrev pub on_value : (Noun → Derivation) → Answer → Derivation
on_value next (Ok value) = next value
on_value next (Err fault) = Return (Err fault)

-- goes on by something else where there is a fault
abbrev pub on_fault : Derivation → Answer → Derivation
on_fault other (Ok value) = Return (Ok value)
on_fault other (Err fault) = other

-- a verb on its arguments, and what is done with its value
abbrev pub applying : Term → Option Noun → Noun → (Noun → Derivation) → Derivation
applying u x y next = Ask (on u x y) (on_value next)

-- that answer is the last
abbrev pub applying_last : Term → Option Noun → Noun → Derivation
applying_last u x y = Ask (on u x y) Return

abbrev pub refused : Fault → Derivation
refused fault = Return (Err fault)

-- goes on with what there is; a fault is the answer
abbrev pub given : {Thing : Type 0} → Result Thing Fault → (Thing → Derivation) → Derivation
given (Ok thing) next = next thing
given (Err fault) next = refused fault
