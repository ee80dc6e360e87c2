-- The session of a script on one thread: what it read, and what it wrote, which is the prints of a history of its sentences.
use Rattle.std.specs.Prelude.{ℕ, ◌≡◌, ◌≤◌, ◌+◌, ◌⊎◌, List, [], ◌∷◌, ◌++◌, length, Bool, true, false, Option, IfSome}
use Rattle.std.specs.Io.KnownBytes.{Appends, Consumes}
use Rattle.jeval.specs.declared.state.State.{State}
use Rattle.jio.specs.Counts.{Rises}
use Rattle.jio.specs.Sink.{Writes, TookPart}
use Rattle.jio.specs.Source.{Reads}
use Rattle.jsession.specs.Items.{sentences, ended}
use Rattle.jsession.specs.Reads.{ReadWhole, ReadBroken, ReadOn, ReadPastLimit}
use Rattle.jsession.specs.Script.{script_of}
use Rattle.jsession.specs.declared.status.Status.{Status}
use Rattle.jsession.specs.declared.status.Status.TheVariants as status
use Rattle.juses.specs.Histories.{Once, OneThreadRun, prints}
use Rattle.juses.specs.Program.{Program}
use Rattle.juses.specs.Wishes.{Wish}
use Rattle.juses.specs.declared.uses.Entry.{Entry}
use Rattle.juses.specs.declared.uses.Reply.{Reply}

-- what main runs: these sentences, with 10,000,000 turns each
abbrev pub main_program : List (List ℕ) → Program Wish Reply State
main_program items = script_of 10000000 items

-- the sink took the prints of the one-thread run of these sentences
abbrev pub WroteRun : (took took' : Option (List ℕ)) → List (List ℕ) → Type 0
WroteRun took took' items = (h : List Entry) × OneThreadRun (main_program items) 0 h × Appends took took' (prints h)

-- the sink took a beginning of what the one-thread run had printed at some time, and all of that where the sink says that
-- each write was answered All
abbrev pub WrotePart : (took took' : Option (List ℕ)) → Bool → List (List ℕ) → Type 0
WrotePart took took' whole items =
    (run : List Entry) × OneThreadRun (main_program items) 0 run × (h : List Entry) × Once h run
    × TookPart took took' (prints h) × (whole ≡ true → Appends took took' (prints h))

-- where the session broke off: the prints of the one-thread run of the first sentences were written, and a beginning of
-- what was printed since, in the run of these sentences and of the one in progress, if there was one
pub record BrokeOff (took took' : Option (List ℕ)) (items : List (List ℕ)) : Type 0 where
  pub first : List (List ℕ)
  pub now : List (List ℕ)
  pub later : List (List ℕ)
  pub split : items ≡ first ++ (now ++ later)
  pub one : length now ≤ 1
  pub run : List Entry
  pub is_run : OneThreadRun (main_program first) 0 run
  pub further : List Entry
  pub is_further : OneThreadRun (main_program (first ++ now)) 0 further
  -- the history when it broke off
  pub history : List Entry
  pub since : Once run history
  pub until : Once history further
  -- what was printed since the first sentences, and what the sink took of all
  pub late : List ℕ
  pub printed : prints history ≡ prints run ++ late
  pub between : Option (List ℕ)
  pub whole : Appends took between (prints run)
  pub part : TookPart between took' late

-- what a session that broke off wrote
abbrev pub WroteSome : (took took' : Option (List ℕ)) → Bool → List (List ℕ) → Type 0
WroteSome took took' whole items = WrotePart took took' whole items × BrokeOff took took' items

-- these bytes were read, from the front of the script where the source tells it
pub record WereRead (source source' : Reads) (bytes : List ℕ) : Type 0 where
  pub left : Consumes source.left source'.left bytes
  pub given : source'.given ≡ source.given + length bytes

-- this is the whole script: all that was left, where the source tells it, and it was read to its end
pub record IsScript (source source' : Reads) (script : List ℕ) : Type 0 where
  pub were_read : WereRead source source' script
  pub whole : IfSome source.left (λ bytes. bytes ≡ script)
  pub read : ReadWhole source source'

-- no write failed, or was answered otherwise than All
pub record AllTaken (sink sink' : Writes) : Type 0 where
  pub faults : sink'.faults ≡ sink.faults
  pub whole : sink'.whole ≡ sink.whole

-- the prints of the one-thread run of these sentences were written, in order, one piece a sentence
pub record WroteWhole (sink sink' : Writes) (items : List (List ℕ)) : Type 0 where
  pub wrote : WroteRun sink.took sink'.took items
  pub all : AllTaken sink sink'
  pub pieces : sink'.calls ≤ sink.calls + length items + 1

-- Done: the script was read to its end, and all of it was run
pub record IsDone (source source' : Reads) (sink sink' : Writes) : Type 0 where
  pub script : List ℕ
  pub is_script : IsScript source source' script
  pub wrote : WroteWhole sink sink' (sentences script)

-- a read fault: what had been read by then was run, up to its last line end, and nothing was read after it
pub record IsReadFault (source source' : Reads) (sink sink' : Writes) : Type 0 where
  pub front : List ℕ
  pub were_read : WereRead source source' front
  pub read : ReadBroken source source'
  pub wrote : WroteWhole sink sink' (sentences (ended front))

-- a script too long: its first 16,777,216 bytes were run, up to their last line end, and one more was read
pub record IsTooLong (source source' : Reads) (sink sink' : Writes) : Type 0 where
  pub front : List ℕ
  pub last : ℕ
  pub long : length front ≡ 16777216
  pub were_read : WereRead source source' (front ++ last ∷ [])
  pub past_limit : ReadPastLimit source source'
  pub on : ReadOn source source'
  pub wrote : WroteWhole sink sink' (sentences (ended front))

-- the sentences of the whole script, or of the front of what was read, up to its last line end
pub record AreOfScript (source source' : Reads) (items : List (List ℕ)) : Type 0 where
  pub script : List ℕ
  pub is_script : IsScript source source' script
  pub are : items ≡ sentences script

pub record AreOfFront (source source' : Reads) (items : List (List ℕ)) : Type 0 where
  pub front : List ℕ
  pub more : List ℕ
  pub were_read : WereRead source source' (front ++ more)
  pub are : items ≡ sentences (ended front)

-- a session that broke off: a beginning of what its sentences print was written, one piece a sentence
pub record BrokeInside (source source' : Reads) (sink sink' : Writes) : Type 0 where
  pub items : List (List ℕ)
  pub are_items : AreOfScript source source' items ⊎ AreOfFront source source' items
  pub wrote : WroteSome sink.took sink'.took sink'.whole items
  pub pieces : sink'.calls ≤ sink.calls + length items + 1

-- it broke off at a failed write
pub record IsWriteFault (source source' : Reads) (sink sink' : Writes) : Type 0 where
  pub broke : BrokeInside source source' sink sink'
  pub faults : Rises sink.faults sink'.faults
  pub whole : sink'.whole ≡ false

-- or for want of memory, and no write failed
pub record IsShort (source source' : Reads) (sink sink' : Writes) : Type 0 where
  pub broke : BrokeInside source source' sink sink'
  pub faults : sink'.faults ≡ sink.faults

-- what a session over a new desk did, by its status
abbrev pub Told : Reads → Reads → Writes → Writes → Status → Type 0
Told source source' sink sink' status.Done = IsDone source source' sink sink'
Told source source' sink sink' status.ReadFault = IsReadFault source source' sink sink'
Told source source' sink sink' status.TooLong = IsTooLong source source' sink sink'
Told source source' sink sink' status.WriteFault = IsWriteFault source source' sink sink'
Told source source' sink sink' status.NoMemory = IsShort source source' sink sink'
Told source source' sink sink' status.Usage = ⊥

-- no more bytes were given than were left
abbrev pub GivesWhatIsLeft : Reads → Reads → Type 0
GivesWhatIsLeft source source' = IfSome source.left (λ script. source'.given ≤ source.given + length script)
