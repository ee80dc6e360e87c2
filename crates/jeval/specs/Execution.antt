-- The execution of a sentence, from right to left (J Dictionary, "Parsing and Execution").
use Rattle.std.specs.Prelude.{ℕ, zero, suc, ◌==◌, Bool, true, false, if◌then◌else◌, List, [], ◌∷◌, Option, Some, None, Result}
use Rattle.jdata.specs.declared.fault.Fault.{Fault}
use Rattle.jdata.specs.declared.fault.Fault.TheVariants.{Syntax, TimeLimit}
use Rattle.jterm.specs.declared.term.Locative.{Locative}
use Rattle.jterm.specs.declared.term.Term.{Term}
use Rattle.jterm.specs.declared.term.Term.TheVariants as term
use Rattle.juses.specs.Program.{◌>>=◌}
use Rattle.juses.specs.declared.uses.Reply.{Reply}
use Rattle.juses.specs.declared.uses.Reply.TheVariants as reply
use Rattle.jterm.specs.declared.part.Part.{Part}
use Rattle.jterm.specs.declared.part.Part.TheVariants as part
use Rattle.jeval.specs.declared.queue.Queued.{Queued}
use Rattle.jeval.specs.declared.queue.Queued.TheVariants.{Ready, Named}
use Rattle.jeval.specs.declared.rows.Deed.{Deed}
use Rattle.jeval.specs.declared.rows.Deed.TheVariants.{Apply, Make, Assign, Spread, Leave, Refuse}
use Rattle.jeval.specs.Action.{Action, Rest, gives, fails, answers, going_on, ◌then◌, with_turn}
use Rattle.jeval.specs.Activity.{read, written}
use Rattle.jeval.specs.Applying.{applied}
use Rattle.jparse.specs.Parsing.{row_at, top_of, is_whole, awaits_target}
use Rattle.jeval.specs.Makings.{term_of, made_of}
use Rattle.jeval.specs.Targets.{spread}
use Rattle.jeval.specs.Rows.{filled, deed_of}

abbrev pub plain_reference : List ℕ → Locative
plain_reference name = record { name = name; place = None }

-- a reference to a verb, of which it is known whether it had a value when it was moved
abbrev pub reference_part : List ℕ → Bool → Part
reference_part name found = part.Verb (term.Name (plain_reference name)) found

-- what a name is as it is moved: a noun, an adverb or a conjunction by value, or a reference
abbrev pub value_of : List ℕ → Reply → Part
value_of name (reply.Named (term.Noun v)) = part.Noun v
value_of name (reply.Named (term.Ranks numbers)) = part.Ranks numbers
value_of name (reply.Named (term.Adverb word)) = part.Adverb word
value_of name (reply.Named (term.Conj word)) = part.Conj word
value_of name (reply.Named verb) = reference_part name true
value_of name _ = reference_part name false

abbrev pub moved_value : List ℕ → List Part → Action (List Part)
moved_value name parts = read name then (λ reply. gives (value_of name reply ∷ parts))

-- a name in front of these parts: a target, where a copula comes next
abbrev pub moved_name : List ℕ → List Part → Action (List Part)
moved_name name parts = if awaits_target parts then gives (part.Target (plain_reference name) ∷ parts) else moved_value name parts

-- a word is read
abbrev pub moved_in : Queued → List Part → Action (List Part)
moved_in (Ready part) parts = gives (part ∷ parts)
moved_in (Named name) parts = moved_name name parts

abbrev pub assigned : List ℕ → Option Term → Part → List Part → Action (List Part)
assigned name (Some stands) value rest = written name stands then (λ reply. gives (value ∷ rest))
assigned name None value rest = fails Syntax

-- the names get their values one after another, until there are no more of either
abbrev pub all_written : List (List ℕ) → List Term → List Part → Action (List Part)
all_written [] values after = gives after
all_written (name ∷ names) [] after = gives after
all_written (name ∷ names) (value ∷ values) after = written name value then (λ reply. all_written names values after)

abbrev pub all_assigned : Result (List (List ℕ) × List Term) Fault → List Part → Action (List Part)
all_assigned shares after = answers shares then (λ share. all_written share.0 share.1 after)

-- what a row asks for, with so many levels left
abbrev pub done : ℕ → Deed → Action (List Part)
done levels (Apply verb x y around) = applied levels verb x y then (λ value. gives (filled around (part.Noun value)))
done levels (Make making around) = answers (made_of making) then (λ verb. gives (filled around (part.Verb verb true)))
done levels (Assign name value rest) = assigned name (term_of value) value rest
done levels (Spread target value rest) = all_assigned (spread target value) (value ∷ rest)
done levels (Leave value rest) = gives (value ∷ rest)
done levels (Refuse fault) = fails fault

-- a row acts, with a turn
unfoldable pub acted : ℕ → ℕ → List Part → Action (List Part)
acted levels row parts = with_turn (done levels (deed_of row parts))

-- what is left at the end, and whether the last act was an assignment
abbrev pub Ending : Type 0
Ending = List Part × Bool

-- where no row acts and no word is left
abbrev pub ended : List Part → Bool → Action Ending
ended parts assigned = if is_whole (top_of parts) then gives (parts, assigned) else fails Syntax

abbrev pub by_row : Option ℕ → (ℕ → Rest Ending) → Rest Ending → Rest Ending
by_row (Some row) acts other = acts row
by_row None acts other = other

-- how a row acts, given the words that wait and the parts that were read
abbrev pub Acts : Type 0
Acts = ℕ → List Queued → List Part → Action Ending

-- reads words until a row acts or none is left
abbrev pub read_on : Acts → List Queued → List Part → Bool → Action Ending
read_on acts [] parts assigned s = by_row (row_at parts) (λ row. acts row [] parts s) (ended parts assigned s)
read_on acts (next ∷ queue) parts assigned s =
    by_row (row_at parts) (λ row. acts row (next ∷ queue) parts s) (moved_in next parts s >>= going_on (λ more. read_on acts queue more assigned))

abbrev pub is_assignment : ℕ → Bool
is_assignment row = row == 7

-- the sentence from here on, with at most so many rows. Each row that acts takes a turn.
unfoldable pub executed_within : ℕ → ℕ → List Queued → List Part → Bool → Action Ending
executed_within levels zero = read_on (λ row queue parts. fails TimeLimit)
executed_within levels (suc rows) = read_on (λ row queue parts. acted levels row parts then (λ more. executed_within levels rows queue more (is_assignment row)))

-- the sentence from here on: as many rows may act as there are turns
unfoldable pub executed : ℕ → List Queued → List Part → Bool → Action Ending
executed levels queue parts assigned s = executed_within levels s.left queue parts assigned s
