-- What a sentence does: its uses, and then the Print of its value or of its fault.
use Rattle.std.specs.Prelude.{◌≡◌, ℕ, nat_lt, false, if◌then◌else◌, List, [], ◌∷◌, length, Option, Some, None, Result, Ok, Err}
use Rattle.jdata.specs.declared.fault.Fault.{Fault}
use Rattle.jdata.specs.declared.fault.Fault.TheVariants as fault
use Rattle.juses.specs.Program.{Program, Return, Ask, ◌>>=◌}
use Rattle.juses.specs.Wishes.{Wish, Print}
use Rattle.juses.specs.declared.uses.Halt.TheVariants as halts
use Rattle.juses.specs.declared.uses.Reply.{Reply}
use Rattle.jwords.specs.Formed.{words_of}
use Rattle.jwords.specs.declared.word.Word.{Word}
use Rattle.jwords.specs.declared.word.WordFault.{WordFault}
use Rattle.jwords.specs.declared.word.WordFault.TheVariants as cut
use Rattle.jeval.specs.Action.{Action, fails, answers, ◌then◌, with_left}
use Rattle.jeval.specs.Applying.{most_levels}
use Rattle.jeval.specs.Execution.{executed}
use Rattle.jeval.specs.Queue.{queue_of}
use Rattle.jeval.specs.Showing.{shown, fault_lines}
use Rattle.jeval.specs.declared.end.EvalEnd.{EvalEnd}
use Rattle.jeval.specs.declared.end.EvalEnd.TheVariants as end
use Rattle.jeval.specs.declared.queue.Queued.{Queued}
use Rattle.jeval.specs.declared.sentence.Shown.{Shown}
use Rattle.jeval.specs.declared.sentence.Shown.TheVariants.{Silent, Printed, Faulted}
use Rattle.jeval.specs.declared.state.State.{State}

-- how many bytes a line may have
abbrev pub line_limit : ℕ
line_limit = 65536

-- the words as they wait are executed, and what is left is shown
abbrev pub run_queue : Option (List Queued) → Action (Option (List ℕ))
run_queue None = fails fault.Nonce
run_queue (Some queue) = executed most_levels queue [] false then (λ ending. answers (shown ending))

-- the fault of a line that can't be cut. `words_of` never wants memory, so the last case doesn't come
abbrev pub fault_of : WordFault → Fault
fault_of (cut.OpenQuote at) = fault.OpenQuote
fault_of (cut.Spelling at) = fault.Spelling
fault_of (cut.IllFormed at) = fault.IllFormed
fault_of cut.NoMemory = fault.Spelling

abbrev pub run_words : List ℕ → Result (List Word) WordFault → Action (Option (List ℕ))
run_words line (Ok words) = run_queue (queue_of line words)
run_words line (Err why) = fails (fault_of why)

-- a line that is too long is refused before its words are cut
abbrev pub run_line : List ℕ → Action (Option (List ℕ))
run_line line = if nat_lt line_limit (length line) then fails fault.Limit else run_words line (words_of line)

abbrev pub prints : List ℕ → Shown → State → Program Wish Reply (Shown × State)
prints bytes shown s = Ask (Print bytes) (λ reply. Return (shown, s))

-- what came of a sentence is printed
abbrev pub tells : List ℕ → Result (Option (List ℕ)) Fault × State → Program Wish Reply (Shown × State)
tells line (Ok None, s) = Return (Silent, s)
tells line (Ok (Some bytes), s) = prints bytes Printed s
tells line (Err why, s) = prints (fault_lines why line) (Faulted why) s

-- a sentence of one line, with so many turns
abbrev pub line_sentence : ℕ → List ℕ → State → Program Wish Reply (Shown × State)
line_sentence turns line s = run_line line (with_left turns s) >>= tells line

-- the line of a sentence; no word takes further lines yet
abbrev pub first_line : List (List ℕ) → List ℕ
first_line [] = []
first_line (line ∷ lines) = line

-- a sentence with its lines
unfoldable pub sentence : ℕ → List (List ℕ) → State → Program Wish Reply (Shown × State)
sentence turns lines s = line_sentence turns (first_line lines) s

-- why a line can't be cut, as the fault of its sentence; want of memory is none
abbrev pub IsWhy : WordFault → EvalEnd → Type 0
IsWhy (cut.OpenQuote at) why = why ≡ end.Fault fault.OpenQuote
IsWhy (cut.Spelling at) why = why ≡ end.Fault fault.Spelling
IsWhy (cut.IllFormed at) why = why ≡ end.Fault fault.IllFormed
IsWhy cut.NoMemory why = why ≡ end.Halt halts.NoMemory
