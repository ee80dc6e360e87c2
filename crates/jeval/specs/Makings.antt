-- What parts stand for, and what modifiers and trains make of them (J Dictionary, "Parsing and Execution", rows 3 to 6).
use Rattle.std.specs.Prelude.{Option, Some, None, Result, Ok, Err}
use Rattle.jdata.specs.declared.fault.Fault.{Fault}
use Rattle.jdata.specs.declared.fault.Fault.TheVariants.{Syntax}
use Rattle.jterm.specs.Acts.{adverb_of, conj_of, fork_of, hook_of}
use Rattle.jterm.specs.declared.part.Part.{Part}
use Rattle.jterm.specs.declared.part.Part.TheVariants as part
use Rattle.jterm.specs.declared.term.Term.{Term}
use Rattle.jterm.specs.declared.term.Term.TheVariants as term
use Rattle.jeval.specs.declared.building.Making.{Making}
use Rattle.jeval.specs.declared.building.Making.TheVariants as making

-- what a name can stand for: the value of a part
abbrev pub term_of : Part → Option Term
term_of (part.Noun value) = Some (term.Noun value)
term_of (part.Ranks numbers) = Some (term.Ranks numbers)
term_of (part.Verb verb found) = Some verb
term_of (part.Adverb word) = Some (term.Adverb word)
term_of (part.Conj word) = Some (term.Conj word)
term_of other = None

abbrev pub or_syntax : Option Term → Result Term Fault
or_syntax (Some stands) = Ok stands
or_syntax None = Err Syntax

-- an operand
abbrev pub operand : Part → Result Term Fault
operand p = or_syntax (term_of p)

-- goes on with the operand, where there is one
abbrev pub with_operand : Result Term Fault → (Term → Result Term Fault) → Result Term Fault
with_operand (Ok stands) make = make stands
with_operand (Err fault) make = Err fault

-- the verb that is made, or the fault for which the operands are refused
abbrev pub made_of : Making → Result Term Fault
made_of (making.Adverb word left) = with_operand (operand left) (adverb_of word)
made_of (making.Conj word left right) = with_operand (operand left) (λ l. with_operand (operand right) (conj_of word l))
made_of (making.Fork left mid right) = with_operand (operand left) (λ l. with_operand (operand mid) (λ m. with_operand (operand right) (fork_of l m)))
made_of (making.Hook left right) = with_operand (operand left) (λ l. with_operand (operand right) (hook_of l))
