-- The desk: the session's state, its reply to each use, and the state after an entry. A name is sought in the locale
-- that it is read from, and then along that locale's path (J Dictionary, "Locatives"). Pyxes, mutexes and threads are
-- those of J's "T." (NuVoc, "T.").
use Rattle.std.specs.Prelude.{ℕ, zero, suc, ℤ, pos, List, [], ◌∷◌, ◌++◌, map, length, Bool, true, false, ◌&&◌, if◌then◌else◌, nat_eq, nat_lt, Option, Some, None}
use Rattle.std.specs.BTreeMap.{insert_entry}
use Rattle.std.specs.Cmp.Lexicographic.{slice_cmp}
use Rattle.std.specs.List.{list_any}
use Rattle.std.specs.Ordering.{match_ordering, nat_cmp}
use Rattle.jdata.specs.declared.fault.Fault.TheVariants.{Domain, Limit, Concurrency}
use Rattle.jdata.specs.declared.path.PyxId.{PyxId}
use Rattle.jterm.specs.declared.term.Term.{Term}
use Rattle.jterm.specs.declared.term.Term.TheVariants as term
use Rattle.juses.specs.Keys.{Key, NameIn, NamesOf, Locales, PyxBy, MutexBy, Threads, same, base_locale, z_locale, changed_by}
use Rattle.juses.specs.declared.kept.Holding.{Holding}
use Rattle.juses.specs.declared.kept.Holding.TheVariants.{Free, Held}
use Rattle.juses.specs.declared.kept.Phase.{Phase}
use Rattle.juses.specs.declared.kept.Phase.TheVariants.{Waiting, Running, Over}
use Rattle.juses.specs.declared.kept.Setting.{Setting}
use Rattle.juses.specs.declared.kept.Setting.TheVariants.{Unset, Set}
use Rattle.juses.specs.declared.uses.Ended.{Ended}
use Rattle.juses.specs.declared.uses.Ended.TheVariants as ended
use Rattle.juses.specs.declared.uses.Entry.{Entry}
use Rattle.juses.specs.declared.uses.Use.{Use}
use Rattle.juses.specs.declared.uses.Use.TheVariants as asked
use Rattle.juses.specs.declared.uses.Reply.{Reply}
use Rattle.juses.specs.declared.uses.Work.{Work}
use Rattle.juses.specs.declared.uses.Reply.TheVariants as says

-- ---- the state

-- the class of a name by its value, as the names of a locale are listed (NuVoc, "4!:1"): 0 for nouns, 1 for adverbs,
-- 2 for conjunctions, 3 for verbs
abbrev pub class_of : Term → ℕ
class_of (term.Noun v) = 0
class_of (term.Ranks numbers) = 0
class_of (term.Adverb word) = 1
class_of (term.Conj word) = 2
class_of verb = 3

-- what stands at a key: a name's value where it has one, the names of a locale with their classes in order of bytes,
-- and the locales in order of bytes; a pyx and a mutex where they were made; the pools of the made threads, the first
-- thread's in front
abbrev pub At : Key → Type 0
At (NameIn place name) = Option Term
At (NamesOf place) = List (List ℕ × ℕ)
At Locales = List (List ℕ)
At (PyxBy maker number) = Option Setting
At (MutexBy maker number) = Option Holding
At Threads = List ℕ

pub record State : Type 0 where
  pub at : (k : Key) → At k
  -- how far each started task has come
  pub phase : List ℕ → Option Phase
  -- the started tasks, the first in front
  pub tasks : List (List ℕ)
  -- how many tasks, pyxes and mutexes each activity has made
  pub tasks_of : List ℕ → ℕ
  pub pyxes_of : List ℕ → ℕ
  pub mutexes_of : List ℕ → ℕ
  -- all bytes that were printed, in order
  pub printed : List ℕ
  -- how many workers the session has
  pub workers : ℕ

-- at first there are two locales and no names
abbrev pub first_at : (k : Key) → At k
first_at (NameIn place name) = None
first_at (NamesOf place) = []
first_at Locales = base_locale ∷ z_locale ∷ []
first_at (PyxBy maker number) = None
first_at (MutexBy maker number) = None
first_at Threads = []

abbrev pub first : ℕ → State
first workers = record {
  at = first_at;
  phase = λ task. None;
  tasks = [];
  tasks_of = λ who. 0;
  pyxes_of = λ who. 0;
  mutexes_of = λ who. 0;
  printed = [];
  workers = workers;
}

-- ---- replies

-- the locales in which a search goes on after this one: each locale's path is `z`
abbrev pub path_of : State → List ℕ → List (List ℕ)
path_of s place = z_locale ∷ []

abbrev pub first_of : Option Term → Option Term → Option Term
first_of (Some v) w = Some v
first_of None w = w

-- the first value along these locales
abbrev pub found : (List ℕ → Option Term) → List (List ℕ) → Option Term
found value [] = None
found value (place ∷ path) = first_of (value place) (found value path)

abbrev pub named : Option Term → Reply
named (Some v) = says.Named v
named None = says.Nothing

-- a million tasks are started at most, and none by a task that is four deep
abbrev pub most_tasks : ℕ
most_tasks = 1000000

abbrev pub most_made : ℕ
most_made = 4294967295

abbrev pub may_start : List (List ℕ) → List ℕ → Bool
may_start tasks who = nat_lt (length tasks) most_tasks && nat_lt (length who) 4

-- the k-th task of an activity has the activity's path and k behind it
abbrev pub start_reply : List (List ℕ) → ℕ → List ℕ → Reply
start_reply tasks made who = if may_start tasks who then says.Pyx (record { path = who ++ suc made ∷ []; number = 0 }) else says.Refused Limit

abbrev pub begin_reply : Option Phase → Option Reply
begin_reply (Some (Waiting pool work)) = Some says.Done
begin_reply _ = None

-- the work of a task that waits
abbrev pub waiting_work : Option Phase → Option Work
waiting_work (Some (Waiting pool work)) = Some work
waiting_work _ = None

-- the work of a pyx's task, if that waits
abbrev pub pyx_work : ℕ → Option Phase → Option Work
pyx_work zero phase = waiting_work phase
pyx_work (suc n) phase = None

abbrev pub end_reply : Option Phase → Option Reply
end_reply (Some (Running pool thread)) = Some says.Done
end_reply _ = None

abbrev pub opened : Ended → Reply
opened (ended.Value v) = says.Value v
opened (ended.Raised fault) = says.Refused fault

abbrev pub task_reply : Option Phase → Option Reply
task_reply (Some (Over outcome)) = Some (opened outcome)
task_reply _ = None

abbrev pub pyx_reply : Option Setting → Option Reply
pyx_reply (Some (Set outcome)) = Some (opened outcome)
pyx_reply _ = None

-- a pyx with the number 0 is a task's
abbrev pub open_reply : ℕ → Option Phase → Option Setting → Option Reply
open_reply zero phase setting = task_reply phase
open_reply (suc n) phase setting = pyx_reply setting

abbrev pub make_pyx_reply : ℕ → List ℕ → Reply
make_pyx_reply made who = if nat_lt made most_made then says.Pyx (record { path = who; number = suc made }) else says.Refused Limit

abbrev pub set_reply : Option Setting → Reply
set_reply (Some Unset) = says.Done
set_reply (Some (Set outcome)) = says.Refused Concurrency
set_reply None = says.Refused Domain

abbrev pub make_mutex_reply : ℕ → List ℕ → Reply
make_mutex_reply made who = if nat_lt made most_made then says.Mutex (record { path = who; number = suc made }) else says.Refused Limit

abbrev pub lock_reply : List ℕ → Option Holding → Option Reply
lock_reply who (Some Free) = Some says.Done
lock_reply who (Some (Held holder)) = if same who holder then Some (says.Refused Concurrency) else None
lock_reply who None = Some (says.Refused Domain)

abbrev pub unlock_reply : List ℕ → Option Holding → Reply
unlock_reply who (Some Free) = says.Refused Concurrency
unlock_reply who (Some (Held holder)) = if same who holder then says.Done else says.Refused Concurrency
unlock_reply who None = says.Refused Domain

abbrev pub thread_reply : ℕ → List ℕ → Reply
thread_reply workers pools = if nat_lt (length pools) workers then says.Number (pos (suc (length pools))) else says.Refused Limit

-- whether a task is one of the pool and hasn't ended, and whether it has begun on the thread and hasn't ended
abbrev pub is_unfinished : ℕ → Option Phase → Bool
is_unfinished pool (Some (Waiting p work)) = nat_eq p pool
is_unfinished pool (Some (Running p thread)) = nat_eq p pool
is_unfinished pool _ = false

abbrev pub is_unended : Option Phase → Bool
is_unended (Some (Waiting pool work)) = true
is_unended (Some (Running pool thread)) = true
is_unended _ = false

-- whether one of these tasks hasn't ended
abbrev pub has_unended : (List ℕ → Option Phase) → List (List ℕ) → Bool
has_unended phase tasks = list_any (λ task. is_unended (phase task)) tasks

abbrev pub is_running : ℕ → Option Phase → Bool
is_running thread (Some (Running p t)) = nat_eq t thread
is_running thread _ = false

abbrev pub count_of : {X : Type 0} → (X → Bool) → List X → ℕ
count_of test [] = 0
count_of test (x ∷ xs) = if test x then suc (count_of test xs) else count_of test xs

-- the threads of the pool that pass the test, where these are the pools of the threads from this number on
abbrev pub threads_of : (ℕ → Bool) → ℕ → ℕ → List ℕ → ℕ
threads_of test pool number [] = 0
threads_of test pool number (p ∷ pools) =
    if nat_eq p pool && test number then suc (threads_of test pool (suc number) pools) else threads_of test pool (suc number) pools

-- whether no begun task on the thread is unfinished
abbrev pub is_idle : (List ℕ → Option Phase) → List (List ℕ) → ℕ → Bool
is_idle phase tasks thread = if list_any (λ task. is_running thread (phase task)) tasks then false else true

abbrev pub pool_reply : (List ℕ → Option Phase) → List (List ℕ) → List ℕ → ℕ → Reply
pool_reply phase tasks pools pool =
    says.Pool (threads_of (is_idle phase tasks) pool 1 pools) (count_of (λ task. is_unfinished pool (phase task)) tasks) (count_of (nat_eq pool) pools)

-- the reply to the use that an activity makes on a thread; none where it has to wait
abbrev pub reply : State → List ℕ → ℕ → Use → Option Reply
reply s who thread (asked.Read from name) = Some (named (found (λ place. s.at (NameIn place name)) (from ∷ path_of s from)))
reply s who thread (asked.Write place name value) = Some says.Done
reply s who thread (asked.Print bytes) = Some says.Done
reply s who thread (asked.Start pool work) = Some (start_reply s.tasks (s.tasks_of who) who)
reply s who thread asked.Begin = begin_reply (s.phase who)
reply s who thread (asked.End outcome) = end_reply (s.phase who)
reply s who thread (asked.Open pyx) = open_reply pyx.number (s.phase pyx.path) (s.at (PyxBy pyx.path pyx.number))
reply s who thread asked.MakePyx = Some (make_pyx_reply (s.pyxes_of who) who)
reply s who thread (asked.SetPyx pyx outcome) = Some (set_reply (s.at (PyxBy pyx.path pyx.number)))
reply s who thread asked.MakeMutex = Some (make_mutex_reply (s.mutexes_of who) who)
reply s who thread (asked.Lock mutex) = lock_reply who (s.at (MutexBy mutex.path mutex.number))
reply s who thread (asked.Unlock mutex) = Some (unlock_reply who (s.at (MutexBy mutex.path mutex.number)))
reply s who thread (asked.MakeThread pool) = Some (thread_reply s.workers (s.at Threads))
reply s who thread asked.Threads = Some (says.Number (pos (length (s.at Threads))))
reply s who thread (asked.PoolState pool) = Some (pool_reply s.phase s.tasks (s.at Threads) pool)
reply s who thread asked.Current = Some (says.Number (pos thread))

-- the keys of which the reply to a use is a function
abbrev pub opened_key : List ℕ → ℕ → List Key
opened_key path zero = []
opened_key path (suc n) = PyxBy path (suc n) ∷ []

abbrev pub depends_on : State → Use → List Key
depends_on s (asked.Read from name) = map (λ place. NameIn place name) (from ∷ path_of s from)
depends_on s (asked.Open pyx) = opened_key pyx.path pyx.number
depends_on s (asked.SetPyx pyx outcome) = PyxBy pyx.path pyx.number ∷ []
depends_on s (asked.Lock mutex) = MutexBy mutex.path mutex.number ∷ []
depends_on s (asked.Unlock mutex) = MutexBy mutex.path mutex.number ∷ []
depends_on s (asked.MakeThread pool) = Threads ∷ []
depends_on s asked.Threads = Threads ∷ []
depends_on s (asked.PoolState pool) = Threads ∷ []
depends_on s _ = []

-- ---- what an entry leaves

-- the locales in order of bytes, with this one among them
abbrev pub with_locale : List ℕ → List (List ℕ) → List (List ℕ)
with_locale p [] = p ∷ []
with_locale p (q ∷ l) = match_ordering (slice_cmp nat_cmp p q) (p ∷ q ∷ l) (q ∷ l) (q ∷ with_locale p l)

-- what a use leaves at a key of each kind that it changes
abbrev pub left_name : Use → Option Term → Option Term
left_name (asked.Write place name value) old = Some value
left_name _ old = old

abbrev pub left_names : Use → List (List ℕ × ℕ) → List (List ℕ × ℕ)
left_names (asked.Write place name value) old = insert_entry (slice_cmp nat_cmp) old name (class_of value)
left_names _ old = old

abbrev pub left_locales : Use → List (List ℕ) → List (List ℕ)
left_locales (asked.Write place name value) old = with_locale place old
left_locales _ old = old

abbrev pub left_pyx : Use → Reply → Option Setting → Option Setting
left_pyx asked.MakePyx (says.Pyx pyx) old = Some Unset
left_pyx (asked.SetPyx pyx outcome) says.Done old = Some (Set outcome)
left_pyx _ _ old = old

abbrev pub left_mutex : List ℕ → Use → Reply → Option Holding → Option Holding
left_mutex who asked.MakeMutex (says.Mutex mutex) old = Some Free
left_mutex who (asked.Lock mutex) says.Done old = Some (Held who)
left_mutex who (asked.Unlock mutex) says.Done old = Some Free
left_mutex who _ _ old = old

abbrev pub left_threads : Use → Reply → List ℕ → List ℕ
left_threads (asked.MakeThread pool) (says.Number n) old = old ++ pool ∷ []
left_threads _ _ old = old

-- what an entry leaves at a key that it changes, in the state before
abbrev pub left_at : (k : Key) → Entry → State → At k
left_at (NameIn place name) e s = left_name e.asked (s.at (NameIn place name))
left_at (NamesOf place) e s = left_names e.asked (s.at (NamesOf place))
left_at Locales e s = left_locales e.asked (s.at Locales)
left_at (PyxBy maker number) e s = left_pyx e.asked e.reply (s.at (PyxBy maker number))
left_at (MutexBy maker number) e s = left_mutex e.who e.asked e.reply (s.at (MutexBy maker number))
left_at Threads e s = left_threads e.asked e.reply (s.at Threads)

-- a waiting task that begins runs in its pool
abbrev pub begun : ℕ → Option Phase → Option Phase
begun thread (Some (Waiting pool work)) = Some (Running pool thread)
begun thread phase = phase

-- how far an entry leaves a task
abbrev pub left_phase : List ℕ → ℕ → Use → Reply → List ℕ → Option Phase → Option Phase
left_phase who thread (asked.Start pool work) (says.Pyx pyx) task old = if same task pyx.path then Some (Waiting pool work) else old
left_phase who thread asked.Begin r task old = if same task who then begun thread old else old
left_phase who thread (asked.End outcome) r task old = if same task who then Some (Over outcome) else old
left_phase who thread _ _ task old = old

abbrev pub left_tasks : Use → Reply → List (List ℕ) → List (List ℕ)
left_tasks (asked.Start pool work) (says.Pyx pyx) old = old ++ pyx.path ∷ []
left_tasks _ _ old = old

-- one more for the maker
abbrev pub one_more : List ℕ → List ℕ → ℕ → ℕ
one_more who maker old = if same maker who then suc old else old

abbrev pub left_tasks_of : List ℕ → Use → Reply → List ℕ → ℕ → ℕ
left_tasks_of who (asked.Start pool work) (says.Pyx pyx) maker old = one_more who maker old
left_tasks_of who _ _ maker old = old

abbrev pub left_pyxes_of : List ℕ → Use → Reply → List ℕ → ℕ → ℕ
left_pyxes_of who asked.MakePyx (says.Pyx pyx) maker old = one_more who maker old
left_pyxes_of who _ _ maker old = old

abbrev pub left_mutexes_of : List ℕ → Use → Reply → List ℕ → ℕ → ℕ
left_mutexes_of who asked.MakeMutex (says.Mutex mutex) maker old = one_more who maker old
left_mutexes_of who _ _ maker old = old

-- the bytes that a use prints
abbrev pub bytes_of : Use → List ℕ
bytes_of (asked.Print bytes) = bytes
bytes_of _ = []

-- the state after an entry
abbrev pub moved : State → Entry → State
moved s e = record {
  at = λ k. if changed_by e k then left_at k e s else s.at k;
  phase = λ task. left_phase e.who e.thread e.asked e.reply task (s.phase task);
  tasks = left_tasks e.asked e.reply s.tasks;
  tasks_of = λ maker. left_tasks_of e.who e.asked e.reply maker (s.tasks_of maker);
  pyxes_of = λ maker. left_pyxes_of e.who e.asked e.reply maker (s.pyxes_of maker);
  mutexes_of = λ maker. left_mutexes_of e.who e.asked e.reply maker (s.mutexes_of maker);
  printed = s.printed ++ bytes_of e.asked;
  workers = s.workers;
}
