-- Histories of a session: what was asked and replied, in one order for all activities. The newest entry stands in
-- front, so that what was before an entry is what stands behind it.
use Rattle.std.specs.Prelude.{◌≡◌, ◌⊎◌, ℕ, List, [], ◌∷◌, ◌++◌, if◌then◌else◌, Some, None}
use Rattle.juses.specs.Program.{Program, next, main_of}
use Rattle.juses.specs.Keys.{same}
use Rattle.juses.specs.Desk.{State, first, reply, moved, bytes_of}
use Rattle.juses.specs.Wishes.{Wish}
use Rattle.juses.specs.declared.uses.Entry.{Entry}
use Rattle.juses.specs.declared.uses.Use.{Use}
use Rattle.juses.specs.declared.uses.Reply.{Reply}

-- the history `h` was once `p`: it is `p` with perhaps newer entries
abbrev pub Once : List Entry → List Entry → Type 0
Once p [] = p ≡ []
Once p (e ∷ h) = (p ≡ (e ∷ h)) ⊎ Once p h

-- the state after a history, with so many workers
abbrev pub after : ℕ → List Entry → State
after workers [] = first workers
after workers (e ∷ h) = moved (after workers h) e

-- whether an entry of the activity may have the thread: main's have thread 0, and no other activity has begun
abbrev pub Fits : List ℕ → ℕ → Type 0
Fits [] thread = thread ≡ 0
Fits (k ∷ path) thread = ⊥

-- each entry's reply is the desk's at that point
abbrev pub Legal : ℕ → List Entry → Type 0
Legal workers [] = Unit {0}
Legal workers (e ∷ h) = Legal workers h × Fits e.who e.thread × (reply (after workers h) e.who e.thread e.asked ≡ Some e.reply)

-- the entries of an activity
abbrev pub own : List ℕ → List Entry → List Entry
own who [] = []
own who (e ∷ h) = if same who e.who then e ∷ own who h else own who h

-- the replies to these entries, the oldest first
abbrev pub replies : List Entry → List Reply
replies [] = []
replies (e ∷ h) = replies h ++ e.reply ∷ []

-- the bytes that were printed, in order
abbrev pub prints : List Entry → List ℕ
prints [] = []
prints (e ∷ h) = prints h ++ bytes_of e.asked

module _ {A : Type 0} (script : Program Wish Reply A) where
  -- after this history the activity runs this program: main runs the script, and no other activity was started
  abbrev pub Works : List Entry → List ℕ → Program Use Reply (Unit {0}) → Type 0
  Works h who program = (who ≡ []) × (program ≡ main_of script)

  -- the activity's next use after this history
  abbrev pub Asks : List Entry → List ℕ → Use → Type 0
  Asks h who asked = (program : Program Use Reply (Unit {0})) × Works h who program × (next program (replies (own who h)) ≡ Some asked)

  -- each entry's use is the next of its activity
  abbrev pub Faithful : List Entry → Type 0
  Faithful [] = Unit {0}
  Faithful (e ∷ h) = Faithful h × Asks h e.who e.asked

  -- main has nothing left to ask
  abbrev pub Complete : List Entry → Type 0
  Complete h = next (main_of script) (replies (own [] h)) ≡ None

  -- the activity that goes on where one thread runs all: the last that was started and hasn't ended, so main
  abbrev pub going : List Entry → List ℕ
  going h = []

  -- the history of one thread: each entry is the one that those before it determine
  abbrev pub OneThread : ℕ → List Entry → Type 0
  OneThread workers [] = Unit {0}
  OneThread workers (e ∷ h) =
      OneThread workers h × (e.who ≡ going h) × (e.thread ≡ 0) × Asks h (going h) e.asked
      × (reply (after workers h) (going h) 0 e.asked ≡ Some e.reply)

  -- the one-thread run: the history of one thread that can't go on
  abbrev pub OneThreadRun : ℕ → List Entry → Type 0
  OneThreadRun workers h = OneThread workers h × ((e : Entry) → OneThread workers (e ∷ h) → ⊥)

  -- it can't go on since the next use has no reply
  abbrev pub Stuck : ℕ → List Entry → Type 0
  Stuck workers h = (asked : Use) × Asks h (going h) asked × (reply (after workers h) (going h) 0 asked ≡ None)
