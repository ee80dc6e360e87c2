-- What a text means as a definition (J Dictionary, "Explicit Definition" and "Control Structures"; NuVoc, "Direct
-- Definition"): its lines with their words, and for each valence its control words and sentences with the prepared words
-- that a frame runs. The control words and sentences of the dyad are numbered behind those of the monad.
use Rattle.std.specs.Prelude.{ℕ, ◌≡◌, ◌<◌, ◌≤◌, All, ◌-◌, nat_lt, Bool, true, false, if◌then◌else◌, List, [], ◌∷◌, ◌++◌, length, take, drop, map, slice_get, Option, Some, None, Result, Ok, Err}
use Rattle.jdata.specs.declared.fault.Fault.{Fault}
use Rattle.jdata.specs.declared.fault.Fault.TheVariants as fault
use Rattle.jcontrol.specs.Machine.{IsSound}
use Rattle.jwords.specs.declared.word.Word.{Word}
use Rattle.jexplicit.specs.Body.{all_paired, cut_lines, dyad_lines, is_refused, monad_lines, parts_of, split_of}
use Rattle.jexplicit.specs.Parting.{item_name, written}
use Rattle.jexplicit.specs.Preparing.{IsPrepared, prepares}
use Rattle.jexplicit.specs.Reading.{reads}
use Rattle.jexplicit.specs.declared.body.CutLine.{CutLine}
use Rattle.jexplicit.specs.declared.body.Form.{Form}
use Rattle.jexplicit.specs.declared.body.Split.{Split}
use Rattle.jexplicit.specs.declared.kind.Kind.{Kind}
use Rattle.jexplicit.specs.declared.kind.Kind.TheVariants as kind
use Rattle.jexplicit.specs.declared.kind.Looping.TheVariants as looping
use Rattle.jexplicit.specs.declared.stretch.Stretch.{Stretch}
use Rattle.jexplicit.specs.declared.valence.Valence.{Valence}

pub record Meaning : Type 0 where
  pub lines : List CutLine
  pub split : Split
  pub monad : Valence
  pub dyad : Valence

abbrev pub kinds : List Stretch → List Kind
kinds parts = map (λ part. part.kind) parts

-- a valence, the first of whose words has this number; none where its words aren't those of a body
abbrev pub valence_of : ℕ → List Stretch → Option Valence
valence_of first parts = if reads (kinds parts) [] then Some (record { parts = parts; words = prepares first (kinds parts) }) else None

abbrev pub both : List CutLine → Split → Option Valence → Option Valence → Result Meaning Fault
both lines s (Some monad) (Some dyad) = Ok (record { lines = lines; split = s; monad = monad; dyad = dyad })
both lines s (Some monad) None = Err fault.Control
both lines s None dyad = Err fault.Control

abbrev pub of_parts : List CutLine → Split → List Stretch → List Stretch → Result Meaning Fault
of_parts lines s monad dyad = both lines s (valence_of 0 monad) (valence_of (length monad) dyad)

abbrev pub of_split : List CutLine → Split → Result Meaning Fault
of_split lines s =
    if all_paired lines
    then of_parts lines s (parts_of 0 (monad_lines s lines)) (parts_of s.dyad_from (dyad_lines s lines))
    else Err fault.Control

abbrev pub of_lines : Form → List ℕ → Result (List CutLine) Fault → Result Meaning Fault
of_lines form text (Ok lines) = if is_refused form text lines then Err fault.Nonce else of_split lines (split_of form lines)
of_lines form text (Err why) = Err why

-- the definition of a text, or its fault: that of the first line that isn't cut, then what a direct definition may not
-- have, then braces and control words that don't match
abbrev pub definition_of : Form → List ℕ → Result Meaning Fault
definition_of form text = of_lines form text (cut_lines text)

-- whether a valence has lines
abbrev pub has : Bool → Meaning → Bool
has false m = nat_lt 0 m.split.monad_to
has true m = nat_lt m.split.dyad_from (length m.lines)

abbrev pub valence : Bool → Meaning → Valence
valence false m = m.monad
valence true m = m.dyad

-- the number of the first word of a valence
abbrev pub first_of : Bool → Meaning → ℕ
first_of false m = 0
first_of true m = length m.monad.parts

-- the prepared words are those of the valence's blocks
pub record Agrees (first : ℕ) (v : Valence) : Type 0 where
  pub blocks : IsPrepared first (kinds v.parts) v.words
  pub sound : IsSound v.words
  pub some : 0 < length v.words

abbrev pub AgreeBoth : Meaning → Type 0
AgreeBoth m = Agrees 0 m.monad × Agrees (length m.monad.parts) m.dyad

-- the control word or sentence with this number
abbrev pub part_of : ℕ → Meaning → Option Stretch
part_of number m = slice_get (m.monad.parts ++ m.dyad.parts) number

abbrev pub line_at : Option Stretch → List CutLine → Option CutLine
line_at (Some part) lines = slice_get lines part.line
line_at None lines = None

abbrev pub text_in : Option CutLine → List ℕ
text_in (Some line) = line.text
text_in None = []

-- the line in which the sentence with this number stands
abbrev pub line_of : ℕ → Meaning → List ℕ
line_of number m = text_in (line_at (part_of number m) m.lines)

abbrev pub words_between : Option Stretch → Option CutLine → List Word
words_between (Some part) (Some line) = take (part.to - part.from) (drop part.from line.words)
words_between _ _ = []

-- the words of the sentence with this number, with their places in its line
abbrev pub words_of : ℕ → Meaning → List Word
words_of number m = words_between (part_of number m) (line_at (part_of number m) m.lines)

abbrev pub is_for_kind : Kind → Bool
is_for_kind (kind.Loop looping.For) = true
is_for_kind _ = false

abbrev pub is_for : Option Stretch → Bool
is_for (Some part) = is_for_kind part.kind
is_for None = false

abbrev pub named_by : List ℕ → List Word → Option (List ℕ)
named_by line (w ∷ ws) = item_name (written line w)
named_by line [] = None

-- the name of the `for_name.` with this number; none for another word
abbrev pub item_name_of : ℕ → Meaning → Option (List ℕ)
item_name_of number m = if is_for (part_of number m) then named_by (line_of number m) (words_of number m) else None

-- the line of a control word or sentence is there, and its words are some of that line
pub record Stands (lines : List CutLine) (part : Stretch) : Type 0 where
  pub line : CutLine
  pub there : slice_get lines part.line ≡ Some line
  pub some : part.from < part.to
  pub within : part.to ≤ length line.words

-- so it is with each of a definition
abbrev pub EachPartStands : Type 0
EachPartStands = (f : Form) (text : List ℕ) (m : Meaning) → definition_of f text ≡ Ok m → All (Stands m.lines) (m.monad.parts ++ m.dyad.parts)
