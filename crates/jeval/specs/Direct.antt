-- Derived verbs that apply primitive verbs alone: these make no use and take no turn, so the value can be had directly. And such
-- verbs on the pieces of a list (NuVoc, "\" and "\."): each piece is a turn and no use, so the values can be had at once.
use Rattle.std.specs.Prelude.{◌≡◌, ◌+◌, ℕ, ℤ, suc, List, length, Bool, true, false, Option, Some, None, Result, Ok, Err}
use Rattle.jdata.specs.declared.fault.Fault.{Fault}
use Rattle.jdata.specs.declared.noun.Noun.{Noun}
use Rattle.jdata.specs.declared.primitive.Primitive.{Primitive}
use Rattle.juses.specs.Program.{Return, Ask}
use Rattle.jterm.specs.declared.term.Term.{Term, Term-F, out-Term}
use Rattle.jterm.specs.declared.term.Term.TheOpen as one
use Rattle.jterm.specs.declared.words.Adv.{Adv}
use Rattle.jterm.specs.declared.words.Adv.TheVariants as adv
use Rattle.jterm.specs.declared.term.Term.TheVariants as term
use Rattle.jplan.specs.Derivations.{Derivation, Application}
use Rattle.jfold.specs.Folded.{each_prefix, each_suffix}
use Rattle.jstruct.specs.Shaping.{integer_list}
use Rattle.jeval.specs.Action.{gives, with_left}
use Rattle.jeval.specs.Applying.{applied, ran}
use Rattle.jeval.specs.Verbs.{primitive}
use Rattle.jeval.specs.declared.direct.Scan.{Scan}
use Rattle.jeval.specs.declared.direct.Scan.TheVariants as scan
use Rattle.jeval.specs.declared.state.State.{State}

abbrev pub primitive_in : Term → Option Primitive
primitive_in (term.Verb verb) = Some verb
primitive_in other = None

-- the verb of an application that is no repetition
abbrev pub plain_verb : Bool → Term → Option Primitive
plain_verb false verb = primitive_in verb
plain_verb true verb = None

abbrev pub on_value : (Noun → Option Noun) → Result Noun Fault → Option Noun
on_value next (Ok value) = next value
on_value next (Err fault) = None

abbrev pub by_verb : (Noun → Option Noun) → Option Primitive → Option Noun → Noun → Option Noun
by_verb next (Some verb) x y = on_value next (primitive verb x y)
by_verb next None x y = None

-- the value of a derivation that applies primitive verbs alone, where none of them has a fault
abbrev pub direct : Derivation → Option Noun
direct (Return (Ok value)) = Some value
direct (Return (Err fault)) = None
direct (Ask a next) = by_verb (λ value. direct (next (Ok value))) (plain_verb a.repeats a.verb) a.x a.y

-- the primitive verb that is inserted between items
abbrev pub inserted_verb_of : Term-F Term → Option Primitive
inserted_verb_of (one.With1 adv.Slash u) = primitive_in u
inserted_verb_of other = None

abbrev pub inserted_verb : Term → Option Primitive
inserted_verb t = inserted_verb_of (out-Term t)

-- such a verb on prefixes or on suffixes
abbrev pub scan_by : Adv → Option Primitive → Option Scan
scan_by adv.Backslash (Some verb) = Some (scan.Prefixes verb)
scan_by adv.BackslashDot (Some verb) = Some (scan.Suffixes verb)
scan_by word verb = None

abbrev pub scan_of : Term-F Term → Option Scan
scan_of (one.With1 word u) = scan_by word (inserted_verb u)
scan_of other = None

abbrev pub scan_in : Term → Option Scan
scan_in t = scan_of (out-Term t)

-- what the verb gives of each piece, where it has no fault
abbrev pub values_of : Scan → List ℤ → List (Option ℤ)
values_of (scan.Prefixes verb) numbers = each_prefix verb numbers
values_of (scan.Suffixes verb) numbers = each_suffix verb numbers

-- where there is a level, the derivation takes a turn for each of these values, and gives their list
abbrev pub TakesTurns : Derivation → List ℤ → Type 0
TakesTurns d values = (levels left : ℕ) (s : State) → ran (applied (suc levels)) d (with_left (length values + left) s) ≡ gives (integer_list values) (with_left left s)
