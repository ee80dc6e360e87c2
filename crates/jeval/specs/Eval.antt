-- What contracts see of an evaluator.
use Rattle.std.specs.Prelude.{ℕ, List, Option, Some, None, Result, Ok, Err}
use Rattle.jarray.specs.Placed.{Placed}
use Rattle.jdata.specs.declared.noun.Noun.{Noun}
use Rattle.jterm.specs.declared.term.Term.{Term}
use Rattle.jterm.specs.declared.term.Term.TheVariants as term
use Rattle.juses.specs.Keys.{base_locale}
use Rattle.jeval.specs.declared.end.EvalEnd.{EvalEnd}
use Rattle.jeval.specs.declared.state.State.{State}

pub record Evaluator (S : Type 0) : Type 0 where
  pub uses : S
  -- whose evaluator it is, and on which thread
  pub who : List ℕ
  pub thread : ℕ
  -- how many turns a sentence has
  pub turns : ℕ
  pub state : State

-- a new evaluator has taken no turns, and is in the first locale
abbrev pub begun : {S : Type 0} → S → List ℕ → ℕ → ℕ → Evaluator S
begun uses who thread turns = record { uses = uses; who = who; thread = thread; turns = turns; state = record { here = base_locale; left = turns } }

-- the same evaluator, whose uses and state have moved on
abbrev pub moved_on : {S : Type 0} → Evaluator S → S → State → Evaluator S
moved_on e uses state = record e { uses = uses; state = state }

abbrev pub IsVerb : Term → Type 0
IsVerb (term.Noun v) = ⊥
IsVerb (term.Ranks numbers) = ⊥
IsVerb (term.Adverb word) = ⊥
IsVerb (term.Conj word) = ⊥
IsVerb verb = Unit {0}

-- the noun of an argument, and of a result
abbrev pub noun_of : Option Placed → Option Noun
noun_of (Some x) = Some x.noun
noun_of None = None

abbrev pub given : Result Placed EvalEnd → Result Noun EvalEnd
given (Ok a) = Ok a.noun
given (Err end) = Err end
