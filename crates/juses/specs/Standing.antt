-- What a desk keeps, and the states for which it stands.
use Rattle.std.specs.Prelude.{◌≡◌, ◌≤◌, ◌+◌, ℕ, List, [], map, length, take, drop, ◌++◌, true, Option, Some, None, Result, Ok, Err, ⊤, unwrap_or}
use Rattle.std.specs.Map.{lookup, keys_of}
use Rattle.jterm.specs.declared.term.Term.{Term}
use Rattle.juses.specs.Keys.{Key, NameIn, NamesOf, Locales, PyxBy, MutexBy, Threads, same}
use Rattle.juses.specs.Desk.{State, At, has_unended, class_of, reply, moved}
use Rattle.juses.specs.Entries.{entry}
use Rattle.juses.specs.Tables.{made_in, numbered, front, last_number}
use Rattle.juses.specs.declared.kept.Holding.{Holding}
use Rattle.juses.specs.declared.kept.Phase.{Phase}
use Rattle.juses.specs.declared.kept.Setting.{Setting}
use Rattle.juses.specs.declared.uses.Cause.{Cause}
use Rattle.juses.specs.declared.uses.Cause.TheVariants as cause
use Rattle.juses.specs.declared.uses.Use.{Use}
use Rattle.juses.specs.declared.uses.Reply.{Reply}
use Rattle.juses.specs.declared.uses.Halt.{Halt}
use Rattle.juses.specs.declared.uses.Halt.TheVariants.{Wait, NoMemory, Closed}
use Rattle.juses.specs.declared.uses.Why.{Why}
use Rattle.juses.specs.declared.uses.Why.TheVariants.{Ending}

-- the names of a locale with their values, and the locales with their names, in order of bytes
abbrev pub NameTable : Type 0
NameTable = List (List ℕ × Term)

abbrev pub LocaleTable : Type 0
LocaleTable = List (List ℕ × List (List ℕ × Term))

-- what each activity has made, in order of paths
abbrev pub MadeTable : Type 0 → Type 0
MadeTable X = List (List ℕ × List X)

pub record Kept : Type 0 where
  pub locales : LocaleTable
  pub tasks : MadeTable Phase
  pub pyxes : MadeTable Setting
  pub mutexes : MadeTable Holding
  -- the started tasks, the first in front
  pub order : List (List ℕ)
  -- the pools of the made threads
  pub threads : List ℕ
  -- the printed bytes that weren't handed out, and how many were
  pub waiting : List ℕ
  pub handed : ℕ
  -- why the desk was closed, if it was
  pub closed : Option Cause
  pub workers : ℕ

-- the names of a locale; none where there is no such locale
abbrev pub names_in : LocaleTable → List ℕ → NameTable
names_in l place = unwrap_or (lookup (same place) l) []

abbrev pub value_in : LocaleTable → List ℕ → List ℕ → Option Term
value_in l place name = lookup (same name) (names_in l place)

-- what stands at a key
abbrev pub kept_at : Kept → (k : Key) → At k
kept_at d (NameIn place name) = value_in d.locales place name
kept_at d (NamesOf place) = map (λ e. (e.0, class_of e.1)) (names_in d.locales place)
kept_at d Locales = keys_of d.locales
kept_at d (PyxBy maker number) = numbered (made_in d.pyxes maker) number
kept_at d (MutexBy maker number) = numbered (made_in d.mutexes maker) number
kept_at d Threads = d.threads

-- how far a task has come: it is the last number of its path among the tasks of the activity that started it
abbrev pub phase_in : MadeTable Phase → List ℕ → Option Phase
phase_in l task = numbered (made_in l (front task)) (last_number task)

-- a desk stands for each state that has at each key what the desk keeps, and of whose printed bytes the desk keeps
-- those that weren't handed out. That it was closed is no part of the state.
pub record Stands (d : Kept) (s : State) : Type 0 where
  pub at : (k : Key) → s.at k ≡ kept_at d k
  pub phase : (task : List ℕ) → s.phase task ≡ phase_in d.tasks task
  pub tasks : s.tasks ≡ d.order
  pub tasks_of : (who : List ℕ) → s.tasks_of who ≡ length (made_in d.tasks who)
  pub pyxes_of : (who : List ℕ) → s.pyxes_of who ≡ length (made_in d.pyxes who)
  pub mutexes_of : (who : List ℕ) → s.mutexes_of who ≡ length (made_in d.mutexes who)
  pub waiting : d.waiting ≡ drop d.handed s.printed
  pub handed : d.handed ≤ length s.printed
  pub workers : d.workers ≡ s.workers

-- the reply to the use is the definition's, and the desk afterwards stands for the state after it
abbrev pub Answers : Kept → List ℕ → ℕ → Use → Reply → Kept → Type 0
Answers d who thread asked replied d' = (s : State) → Stands d s → (reply s who thread asked ≡ Some replied) × Stands d' (moved s (entry who thread asked replied))

-- there is no reply to this use now
abbrev pub WaitsOn : ℕ → Kept → List ℕ → Use → Type 0
WaitsOn thread d who asked = (s : State) → Stands d s → reply s who thread asked ≡ None

abbrev pub Waits : Kept → List ℕ → Use → Type 0
Waits d who asked = WaitsOn 0 d who asked

-- a closed desk answers its cause; an open one has no reply where the definition has none, or for want of memory
abbrev pub HaltsOpen : ℕ → Kept → List ℕ → Use → Result Reply Halt → Type 0
HaltsOpen thread d who asked (Ok replied) = ⊤
HaltsOpen thread d who asked (Err NoMemory) = ⊤
HaltsOpen thread d who asked (Err Wait) = WaitsOn thread d who asked
HaltsOpen thread d who asked (Err (Closed cause)) = ⊥

abbrev pub HaltsBy : ℕ → Kept → List ℕ → Use → Option Cause → Result Reply Halt → Type 0
HaltsBy thread d who asked (Some cause) answer = answer ≡ Err (Closed cause)
HaltsBy thread d who asked None answer = HaltsOpen thread d who asked answer

abbrev pub HaltsRightly : ℕ → Kept → List ℕ → Use → Result Reply Halt → Type 0
HaltsRightly thread d who asked answer = HaltsBy thread d who asked d.closed answer

-- what a refusal of a use on thread 0 says of the desk that refused: it was closed with this cause, or the use has to wait
abbrev pub Refuses : Kept → List ℕ → Use → Halt → Type 0
Refuses d who asked (Closed cause) = d.closed ≡ Some cause
Refuses d who asked NoMemory = Unit {0}
Refuses d who asked Wait = Waits d who asked

-- not each started task has ended
abbrev pub IsUnfinished : Kept → Type 0
IsUnfinished d = (s : State) → Stands d s → has_unended s.phase s.tasks ≡ true

-- what it says of the desk that it hands out no task: it was closed with this cause, or main has to wait for a task
abbrev pub Delays : Kept → Why → Halt → Type 0
Delays d why (Closed cause) = d.closed ≡ Some cause
Delays d why NoMemory = Unit {0}
Delays d why Wait = (why ≡ Ending) × IsUnfinished d

-- nothing was handed out, and the desk wasn't closed
pub record OnlyMoves (d d' : Kept) : Type 0 where
  pub handed : d'.handed ≡ d.handed
  pub closed : d'.closed ≡ d.closed

-- the desk once its printed bytes were handed out
abbrev pub emptied : Kept → Kept
emptied d = record d { waiting = []; handed = d.handed + length d.waiting }

-- the bytes end all that was printed, and what was handed out before begins it
abbrev pub HandsOut : Kept → List ℕ → Kept → Type 0
HandsOut d bytes d' = (s : State) → Stands d s → (s.printed ≡ take d.handed s.printed ++ bytes) × (d'.handed ≡ length s.printed) × Stands d' s

-- the desk once it was closed: the first cause counts
abbrev pub first_cause : Option Cause → Cause → Option Cause
first_cause (Some earlier) cause = Some earlier
first_cause None cause = Some cause

abbrev pub closed_by : Kept → Cause → Kept
closed_by d cause = record d { closed = first_cause d.closed cause }

-- a desk on one thread is closed at a use that has no reply
abbrev pub refused_by : Kept → Halt → Kept
refused_by d Wait = closed_by d cause.Stuck
refused_by d NoMemory = d
refused_by d (Closed cause) = d
