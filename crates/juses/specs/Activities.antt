-- Histories of many activities: main runs the script, and each started task the work of its start. The newest entry
-- stands in front.
use Rattle.std.specs.Prelude.{◌≡◌, ◌⊎◌, ◌≤◌, ℕ, List, [], ◌∷◌, if◌then◌else◌, length, Some, None}
use Rattle.juses.specs.Desk.{reply}
use Rattle.juses.specs.Entries.{pyx_of, started_by}
use Rattle.juses.specs.Histories.{after, own, replies}
use Rattle.juses.specs.Keys.{Threads, same}
use Rattle.juses.specs.Program.{Program, Return, Ask, next, before, main_of}
use Rattle.juses.specs.Wishes.{Wish}
use Rattle.juses.specs.declared.uses.Ended.{Ended}
use Rattle.juses.specs.declared.uses.Entry.{Entry}
use Rattle.juses.specs.declared.uses.Use.{Use}
use Rattle.juses.specs.declared.uses.Use.TheVariants.{Start, Begin, End}
use Rattle.juses.specs.declared.uses.Reply.{Reply}
use Rattle.juses.specs.declared.uses.Reply.TheVariants.{Pyx}
use Rattle.juses.specs.declared.uses.Work.{Work}

-- one of the entries is this activity's and asks this on the thread
abbrev pub HasAsked : List Entry → List ℕ → ℕ → Use → Type 0
HasAsked [] who thread asked = ⊥
HasAsked (e ∷ h) who thread asked = ((e.who ≡ who) × (e.thread ≡ thread) × (e.asked ≡ asked)) ⊎ HasAsked h who thread asked

-- whether an entry of the activity may have the thread: main's have thread 0; a Begin has it or a thread that was made
-- before, of which the first has the number 1; and each other entry of a task has the thread of its Begin
abbrev pub Fits : ℕ → List Entry → List ℕ → ℕ → Use → Type 0
Fits workers h [] thread asked = thread ≡ 0
Fits workers h (k ∷ path) thread Begin = thread ≤ length ((after workers h).at Threads)
Fits workers h (k ∷ path) thread asked = HasAsked h (k ∷ path) thread Begin

-- each entry's reply is the desk's at that point
abbrev pub Legal : ℕ → List Entry → Type 0
Legal workers [] = Unit {0}
Legal workers (e ∷ h) = Legal workers h × Fits workers h e.who e.thread e.asked × (reply (after workers h) e.who e.thread e.asked ≡ Some e.reply)

-- a task was started with this work
abbrev pub WasStarted : List Entry → List ℕ → Work → Type 0
WasStarted [] task work = ⊥
WasStarted (e ∷ h) task work = ((pool : ℕ) × (e.asked ≡ Start pool work) × (e.reply ≡ Pyx (pyx_of task))) ⊎ WasStarted h task work

-- no task was started in it
abbrev pub StartsNone : List Entry → Type 0
StartsNone [] = Unit {0}
StartsNone (e ∷ h) = StartsNone h × (started_by e.asked e.reply ≡ None)

abbrev pub HasEnded : List Entry → List ℕ → Type 0
HasEnded h task = (outcome : Ended) × (thread : ℕ) × HasAsked h task thread (End outcome)

-- a task's uses: its Begin, its work's, and its End with what came of it
abbrev pub ending : Ended → Program Use Reply (Unit {0})
ending outcome = Ask (End outcome) (λ r. Return tt)

abbrev pub task_of : Program Wish Reply Ended → Program Use Reply (Unit {0})
task_of work = Ask Begin (λ r. before ending work)

-- the tasks that were started and haven't ended, the last started in front
abbrev pub without : List ℕ → List (List ℕ) → List (List ℕ)
without task [] = []
without task (t ∷ ts) = if same task t then ts else t ∷ without task ts

abbrev pub left_open : List ℕ → Use → Reply → List (List ℕ) → List (List ℕ)
left_open who (Start pool work) (Pyx pyx) ts = pyx.path ∷ ts
left_open who (End outcome) r ts = without who ts
left_open who _ _ ts = ts

abbrev pub open_tasks : List Entry → List (List ℕ)
open_tasks [] = []
open_tasks (e ∷ h) = left_open e.who e.asked e.reply (open_tasks h)

-- the first of these, else main
abbrev pub first_of_all : List (List ℕ) → List ℕ
first_of_all [] = []
first_of_all (t ∷ ts) = t

-- the activity that goes on where one thread runs all: the last that was started and hasn't ended, else main
abbrev pub going : List Entry → List ℕ
going h = first_of_all (open_tasks h)

-- what each work does, and what main does
module _ {A : Type 0} (meaning : Work → Program Wish Reply Ended) (script : Program Wish Reply A) where
  -- after this history the activity runs this program
  abbrev pub Works : List Entry → List ℕ → Program Use Reply (Unit {0}) → Type 0
  Works h who program = ((who ≡ []) × (program ≡ main_of script)) ⊎ ((work : Work) × WasStarted h who work × (program ≡ task_of (meaning work)))

  -- the activity's next use after this history
  abbrev pub Asks : List Entry → List ℕ → Use → Type 0
  Asks h who asked = (program : Program Use Reply (Unit {0})) × Works h who program × (next program (replies (own who h)) ≡ Some asked)

  -- each entry's use is the next of its activity
  abbrev pub Faithful : List Entry → Type 0
  Faithful [] = Unit {0}
  Faithful (e ∷ h) = Faithful h × Asks h e.who e.asked

  -- main has nothing left to ask, and each started task has ended
  abbrev pub Complete : List Entry → Type 0
  Complete h = (next (main_of script) (replies (own [] h)) ≡ None) × ((task : List ℕ) (work : Work) → WasStarted h task work → HasEnded h task)

  -- the history of one thread: each entry is the one that those before it determine
  abbrev pub OneThread : ℕ → List Entry → Type 0
  OneThread workers [] = Unit {0}
  OneThread workers (e ∷ h) =
      OneThread workers h × (e.who ≡ going h) × (e.thread ≡ 0) × Asks h (going h) e.asked
      × (reply (after workers h) (going h) 0 e.asked ≡ Some e.reply)

  -- the one-thread run: the history of one thread that can't go on
  abbrev pub OneThreadRun : ℕ → List Entry → Type 0
  OneThreadRun workers h = OneThread workers h × ((e : Entry) → OneThread workers (e ∷ h) → ⊥)

  -- it can't go on since the next use has no reply
  abbrev pub Stuck : ℕ → List Entry → Type 0
  Stuck workers h = (asked : Use) × Asks h (going h) asked × (reply (after workers h) (going h) 0 asked ≡ None)
