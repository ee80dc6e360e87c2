-- What a session did of its sentences: their uses, and the prints that it wrote.
use Rattle.std.specs.Prelude.{ℕ, ◌≡◌, List, [], ◌∷◌, Result, Ok, Err}
use Rattle.jeval.specs.Sentence.{sentence}
use Rattle.jeval.specs.declared.sentence.Shown.{Shown}
use Rattle.jeval.specs.declared.state.State.{State}
use Rattle.jio.specs.Counts.{counted}
use Rattle.jio.specs.Sink.{Writes, TookAll, TookNothing, FailedToWrite}
use Rattle.jsession.specs.Script.{script, DidAll}
use Rattle.jsession.specs.declared.reading.Reading.{Reading}
use Rattle.jsession.specs.declared.reading.Reading.TheVariants as how
use Rattle.jsession.specs.declared.status.Status.{Status}
use Rattle.jsession.specs.declared.status.Status.TheVariants as status
use Rattle.juses.specs.Events.{Events, told}
use Rattle.juses.specs.Told.{Passed}
use Rattle.juses.specs.declared.uses.Cause.{Cause}
use Rattle.juses.specs.declared.uses.Cause.TheVariants as cause

-- it went well, or the session has to end with this status
abbrev pub Answer : Type 0
Answer = Result (Unit {0}) Status

abbrev pub well : Answer
well = Ok tt

abbrev pub ill : Status → Answer
ill why = Err why

-- what became of a piece
abbrev pub Wrote : Writes → List ℕ → Answer → Writes → Type 0
Wrote old piece (Ok done) new = TookAll old piece new
Wrote old piece (Err status.WriteFault) new = FailedToWrite old piece new
Wrote old piece (Err status.NoMemory) new = TookNothing old new
Wrote old piece (Err status.Done) new = ⊥
Wrote old piece (Err status.Usage) new = ⊥
Wrote old piece (Err status.ReadFault) new = ⊥
Wrote old piece (Err status.TooLong) new = ⊥

-- a piece is one write, and none where there is nothing in it
abbrev pub calls_after : List ℕ → ℕ → ℕ
calls_after [] calls = calls
calls_after (byte ∷ piece) calls = counted calls

-- why the session is closed at this status, where it is
abbrev pub cause_of : Status → Cause
cause_of status.WriteFault = cause.WriteFault
cause_of status.NoMemory = cause.NoMemory
cause_of status.Done = cause.NoMemory
cause_of status.Usage = cause.NoMemory
cause_of status.ReadFault = cause.NoMemory
cause_of status.TooLong = cause.NoMemory

-- the session is closed where a piece isn't written whole
abbrev pub closing_of : Answer → List Cause
closing_of (Ok done) = []
closing_of (Err why) = cause_of why ∷ []

-- prints were handed out, and the session was perhaps closed
abbrev pub handing : List ℕ → List Cause → Passed
handing bytes closed = record { told = []; handed = bytes; closed = closed }

-- uses were made and prints handed out, and the session was not closed
abbrev pub doing : Events → List ℕ → Passed
doing events bytes = record { told = told events; handed = bytes; closed = [] }

-- the uses, main's state and the sink at some moment of a script
pub record Moment (S : Type 0) : Type 0 where
  pub uses : S
  pub state : State
  pub sink : Writes

abbrev pub moment : {S : Type 0} → S → State → Writes → Moment S
moment uses state sink = record { uses = uses; state = state; sink = sink }

-- a sentence was run to its end, refused or not, its prints were written, and the session was not closed
pub record RanSentence {S : Type 0} (leads : S → Passed → S → Type 0) (turns : ℕ) (line : List ℕ) (old new : Moment S) : Type 0 where
  pub shown : Shown
  pub events : Events
  pub bytes : List ℕ
  pub led : leads old.uses (doing events bytes) new.uses
  pub did : DidAll (sentence turns (line ∷ []) old.state) events (shown, new.state)
  pub wrote : TookAll old.sink bytes new.sink

-- so were these, one after another
pub record RanThrough {S : Type 0} (leads : S → Passed → S → Type 0) (turns : ℕ) (lines : List (List ℕ)) (old new : Moment S) : Type 0 where
  pub events : Events
  pub bytes : List ℕ
  pub led : leads old.uses (doing events bytes) new.uses
  pub did : DidAll (script turns lines old.state) events new.state
  pub wrote : TookAll old.sink bytes new.sink

abbrev pub status_after : Reading → Status
status_after how.Whole = status.Done
status_after how.Broken = status.ReadFault
status_after how.Long = status.TooLong
status_after how.Short = status.NoMemory

-- the status of a session that read its script so, and ran it so
abbrev pub final : Reading → Answer → Status
final how (Ok done) = status_after how
final how (Err why) = why
