-- The application of a verb to its arguments (J Dictionary, "Verbs"; NuVoc, "Nouns, verbs and names": a verb's name is
-- a reference, which is looked up each time it is run).
use Rattle.std.specs.Prelude.{ℕ, zero, suc, Bool, true, false, List, Option, Some, None, Result, Ok, Err}
use Rattle.jdata.specs.Noun.{int_atom}
use Rattle.jdata.specs.declared.noun.Noun.{Noun}
use Rattle.jdata.specs.declared.fault.Fault.{Fault}
use Rattle.jdata.specs.declared.fault.Fault.TheVariants.{Domain, Value, Nonce, Stack}
use Rattle.jterm.specs.declared.term.Locative.{Locative}
use Rattle.jterm.specs.declared.term.Term.{Term}
use Rattle.jterm.specs.declared.term.Term.TheVariants as term
use Rattle.juses.specs.declared.uses.Reply.{Reply}
use Rattle.juses.specs.declared.uses.Reply.TheVariants.{Named}
use Rattle.jeval.specs.declared.applying.Way.{Way}
use Rattle.jeval.specs.declared.applying.Way.TheVariants as way
use Rattle.juses.specs.Program.{Return, Ask}
use Rattle.jeval.specs.Action.{Action, gives, fails, answers, ◌then◌, ◌hears◌, with_turn}
use Rattle.jeval.specs.Activity.{read}
use Rattle.jeval.specs.Cells.{at_ranks, limits}
use Rattle.jplan.specs.Derivations.{Derivation}
use Rattle.jplan.specs.Modifiers.{derived}
use Rattle.jeval.specs.Verbs.{primitive}

-- how many applications of verbs that aren't primitive may be nested
abbrev pub most_levels : ℕ
most_levels = 200

-- the verb that a name has as its value
abbrev pub verb_replied : Reply → Result Term Fault
verb_replied (Named (term.Noun v)) = Err Domain
verb_replied (Named (term.Ranks numbers)) = Err Domain
verb_replied (Named (term.Adverb word)) = Err Domain
verb_replied (Named (term.Conj word)) = Err Domain
verb_replied (Named verb) = Ok verb
verb_replied _ = Err Value

-- the verb that a name has as its value when it is run
abbrev pub sought : List ℕ → Action Term
sought name = read name then (λ reply. answers (verb_replied reply))

-- the verb that a reference stands for; a name in a locale isn't built
abbrev pub sought_in : Option (List ℕ) → List ℕ → Action Term
sought_in None name = sought name
sought_in (Some place) name = fails Nonce

abbrev pub referred : Locative → Action Term
referred reference = sought_in reference.place reference.name

-- how a term is applied: a reference, a train and a modifier with its operands are derived
abbrev pub way_of : Term → Way
way_of (term.Verb verb) = way.Primitive verb
way_of (term.Const n) = way.Constant n
way_of (term.Noun v) = way.Refused Domain
way_of (term.Ranks numbers) = way.Refused Domain
way_of (term.Adverb word) = way.Refused Domain
way_of (term.Conj word) = way.Refused Domain
way_of other = way.Derived

-- how a verb is applied one level further down
abbrev pub Part : Type 0
Part = Term → Option Noun → Noun → Action Noun

-- a repetition takes a turn of its own
abbrev pub asked : Bool → Action Noun → Action Noun
asked true action = with_turn action
asked false action = action

-- the applications that a derivation asks for, in their order
abbrev pub ran : Part → Derivation → Action Noun
ran part (Return answer) = answers answer
ran part (Ask a next) = asked a.repeats (part a.verb a.x a.y) hears (λ answer. ran part (next answer))

abbrev pub reference_in : Term → Option Locative
reference_in (term.Name name) = Some name
reference_in other = None

-- a reference is what it stands for; another verb does what it is made of
abbrev pub layer_by : Part → Option Locative → Term → Option Noun → Noun → Action Noun
layer_by part (Some name) t x y = referred name then (λ verb. part verb x y)
layer_by part None t x y = ran part (derived t x y)

abbrev pub layer : Part → Term → Option Noun → Noun → Action Noun
layer part t x y = layer_by part (reference_in t) t x y

-- how a term is applied, given how a derived verb is applied to one cell. A primitive or constant verb is applied at once.
abbrev pub applied_with : Part → Way → Term → Option Noun → Noun → Action Noun
applied_with one (way.Primitive verb) t x y = answers (primitive verb x y)
applied_with one (way.Constant n) t x y = gives (int_atom n)
applied_with one (way.Refused fault) t x y = fails fault
applied_with one way.Derived t x y = at_ranks (one t) (limits t x) x y

-- a derived verb on one cell, with so many levels left: it takes a turn and a level
unfoldable pub nested : ℕ → Part
nested zero t x y = with_turn (fails Stack)
nested (suc levels) t x y = with_turn (layer (λ verb. applied_with (nested levels) (way_of verb) verb) t x y)

-- a verb on its arguments, with so many levels left
abbrev pub applied : ℕ → Part
applied levels verb x y = applied_with (nested levels) (way_of verb) verb x y
