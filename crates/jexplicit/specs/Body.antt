-- The lines of a body, each with its words, and which of them are the monad and which the dyad (J Dictionary, "Explicit
-- Definition"; NuVoc, "Direct Definition").
use Rattle.std.specs.Prelude.{ℕ, ◌+◌, ◌==◌, ◌||◌, nat_lt, Bool, false, if◌then◌else◌, List, [], ◌∷◌, ◌++◌, length, take, drop, codes, Result, Ok, Err}
use Rattle.std.specs.List.{slice_split, list_any, list_all, position_or_len, sum_by}
use Rattle.std.specs.Str.{bytes_eq}
use Rattle.jdata.specs.declared.fault.Fault.{Fault}
use Rattle.jdata.specs.declared.fault.Fault.TheVariants as fault
use Rattle.jdata.specs.declared.fault.Trouble.{Trouble}
use Rattle.jdata.specs.declared.fault.Trouble.TheVariants as trouble
use Rattle.jwords.specs.Alphabet.{first, line_feed}
use Rattle.jwords.specs.Formed.{words_of}
use Rattle.jwords.specs.Trim.{trimmed}
use Rattle.jwords.specs.declared.word.Word.{Word}
use Rattle.jwords.specs.declared.word.WordFault.{WordFault}
use Rattle.jwords.specs.declared.word.WordFault.TheVariants as cut_fault
use Rattle.jexplicit.specs.Parting.{names_one, are_paired, stretches}
use Rattle.jexplicit.specs.declared.body.CutLine.{CutLine}
use Rattle.jexplicit.specs.declared.body.Form.{Form}
use Rattle.jexplicit.specs.declared.body.Form.TheVariants as form
use Rattle.jexplicit.specs.declared.body.Split.{Split}
use Rattle.jexplicit.specs.declared.stretch.Stretch.{Stretch}

-- how many bytes a line may have
abbrev pub line_limit : ℕ
line_limit = 65536

-- the lines, which line feeds part; an empty text has none
abbrev pub ends_line : ℕ → Bool
ends_line byte = byte == line_feed

abbrev pub lines_of : List ℕ → List (List ℕ)
lines_of text = slice_split ends_line text

abbrev pub lines_in : List ℕ → List (List ℕ)
lines_in text = if length text == 0 then [] else lines_of text

-- why a line isn't cut
abbrev pub trouble_of : WordFault → Trouble
trouble_of (cut_fault.OpenQuote at) = trouble.Fault fault.OpenQuote
trouble_of (cut_fault.Spelling at) = trouble.Fault fault.Spelling
trouble_of (cut_fault.IllFormed at) = trouble.Fault fault.IllFormed
trouble_of cut_fault.NoMemory = trouble.NoMemory

-- the same as a fault of the language. `words_of` never wants memory, so the last case doesn't come
abbrev pub fault_of : WordFault → Fault
fault_of (cut_fault.OpenQuote at) = fault.OpenQuote
fault_of (cut_fault.Spelling at) = fault.Spelling
fault_of (cut_fault.IllFormed at) = fault.IllFormed
fault_of cut_fault.NoMemory = fault.Spelling

abbrev pub with_words : List ℕ → Result (List Word) WordFault → Result CutLine Fault
with_words line (Ok words) = Ok (record { text = line; words = words })
with_words line (Err why) = Err (fault_of why)

-- a line with its words; one that is too long is refused in place of its words' fault
abbrev pub cut_line : List ℕ → Result CutLine Fault
cut_line line = if nat_lt line_limit (length line) then Err fault.Limit else with_words line (words_of line)

abbrev pub before : Result CutLine Fault → Result (List CutLine) Fault → Result (List CutLine) Fault
before (Err why) rest = Err why
before (Ok line) (Err why) = Err why
before (Ok line) (Ok lines) = Ok (line ∷ lines)

-- all lines with their words, or the fault of the first line that has one
abbrev pub cut_all : List (List ℕ) → Result (List CutLine) Fault
cut_all [] = Ok []
cut_all (line ∷ rest) = before (cut_line line) (cut_all rest)

abbrev pub cut_lines : List ℕ → Result (List CutLine) Fault
cut_lines text = cut_all (lines_in text)

-- how many words these lines have
abbrev pub words_in : List CutLine → ℕ
words_in lines = sum_by (λ line. length line.words) lines

-- one of these letters is a name in the lines, outside of pairs
abbrev pub names : List ℕ → List CutLine → Bool
names letters lines = list_any (λ line. names_one letters line.text line.words 0) lines

-- the line holds only a colon and blanks
abbrev pub is_colon : CutLine → Bool
is_colon line = bytes_eq (trimmed line.text) (codes ":")

abbrev pub split : ℕ → ℕ → Split
split behind first_dyad = record { monad_to = behind; dyad_from = first_dyad }

-- where the monad ends and where the dyad begins: the first line of a colon alone parts them in a `3` body; a direct
-- definition is a dyad where it names `x`
abbrev pub split_of : Form → List CutLine → Split
split_of form.Monad lines = split (position_or_len is_colon lines) (position_or_len is_colon lines + 1)
split_of form.Dyad lines = split 0 0
split_of form.Direct lines = if names (codes "x") lines then split 0 0 else split (length lines) (length lines)

abbrev pub monad_lines : Split → List CutLine → List CutLine
monad_lines s lines = take s.monad_to lines

abbrev pub dyad_lines : Split → List CutLine → List CutLine
dyad_lines s lines = drop s.dyad_from lines

-- what a direct definition may not have: operands, and a parenthesis directly behind its opening
abbrev pub is_refused : Form → List ℕ → List CutLine → Bool
is_refused form.Direct text lines = first text == 41 || names (codes "uvmn") lines
is_refused form.Monad text lines = false
is_refused form.Dyad text lines = false

-- each brace has its partner in its line
abbrev pub all_paired : List CutLine → Bool
all_paired lines = list_all (λ line. are_paired line.text line.words 0) lines

-- the control words and sentences of lines, of which the first has this number
abbrev pub parts_of : ℕ → List CutLine → List Stretch
parts_of number [] = []
parts_of number (line ∷ rest) = stretches number line.text line.words ++ parts_of (number + 1) rest
