-- How the code keeps a desk: tables in order of their keys, and what each use does to them.
use Rattle.std.specs.Prelude.{ℕ, suc, ◌-◌, pos, List, [], ◌∷◌, ◌++◌, length, if◌then◌else◌, nat_lt, Option, Some, None, slice_set}
use Rattle.std.specs.BTreeMap.{insert_entry}
use Rattle.std.specs.Cmp.Lexicographic.{slice_cmp}
use Rattle.std.specs.Ordering.{nat_cmp}
use Rattle.jterm.specs.declared.term.Term.{Term}
use Rattle.juses.specs.Keys.{base_locale, z_locale, same}
use Rattle.juses.specs.Desk as desk
use Rattle.juses.specs.Desk.{found, named, may_start, most_made}
use Rattle.juses.specs.Standing.{Kept, LocaleTable, MadeTable, names_in, value_in, phase_in}
use Rattle.juses.specs.Tables.{made_in, with_made, numbered, front, last_number}
use Rattle.juses.specs.declared.kept.Holding.{Holding}
use Rattle.juses.specs.declared.kept.Holding.TheVariants.{Free, Held}
use Rattle.juses.specs.declared.kept.Phase.{Phase}
use Rattle.juses.specs.declared.kept.Phase.TheVariants.{Waiting, Running, Over}
use Rattle.juses.specs.declared.kept.Setting.{Setting}
use Rattle.juses.specs.declared.kept.Setting.TheVariants.{Unset, Set}
use Rattle.juses.specs.declared.uses.Ended.{Ended}
use Rattle.juses.specs.declared.uses.Use.{Use}
use Rattle.juses.specs.declared.uses.Use.TheVariants as asked
use Rattle.juses.specs.declared.uses.Reply.{Reply}
use Rattle.juses.specs.declared.uses.Reply.TheVariants as says
use Rattle.juses.specs.declared.uses.Work.{Work}

-- what a search from the locale finds
abbrev pub sought : LocaleTable → List ℕ → List ℕ → Option Term
sought l from name = found (λ place. value_in l place name) (from ∷ z_locale ∷ [])

-- the tables with this value of the name in the locale
abbrev pub with_value : LocaleTable → List ℕ → List ℕ → Term → LocaleTable
with_value l place name value = insert_entry (slice_cmp nat_cmp) l place (insert_entry (slice_cmp nat_cmp) (names_in l place) name value)

abbrev pub first_tables : LocaleTable
first_tables = (base_locale, []) ∷ (z_locale, []) ∷ []

abbrev pub first_kept : ℕ → Kept
first_kept workers = record {
  locales = first_tables;
  tasks = [];
  pyxes = [];
  mutexes = [];
  order = [];
  threads = [];
  waiting = [];
  handed = 0;
  closed = None;
  workers = workers;
}

-- one more of a maker, and another in the place of the one with this number
abbrev pub added : {X : Type 0} → MadeTable X → List ℕ → X → MadeTable X
added l maker x = with_made l maker (made_in l maker ++ x ∷ [])

abbrev pub replaced : {X : Type 0} → MadeTable X → List ℕ → ℕ → X → MadeTable X
replaced l maker number x = with_made l maker (slice_set (made_in l maker) (number - 1) x)

-- a task that has come so far
abbrev pub with_phase : Kept → List ℕ → Phase → Kept
with_phase d task phase = record d { tasks = replaced d.tasks (front task) (last_number task) phase }

abbrev pub next_task : Kept → List ℕ → List ℕ
next_task d who = who ++ suc (length (made_in d.tasks who)) ∷ []

abbrev pub with_task : Kept → List ℕ → List ℕ → Phase → Kept
with_task d who task phase = record d { tasks = added d.tasks who phase; order = d.order ++ task ∷ [] }

abbrev pub after_start : Kept → List ℕ → ℕ → Work → Kept
after_start d who pool work = if may_start d.order who then with_task d who (next_task d who) (Waiting pool work) else d

abbrev pub after_begin : Kept → List ℕ → ℕ → Option Phase → Kept
after_begin d who thread (Some (Waiting pool work)) = with_phase d who (Running pool thread)
after_begin d who thread _ = d

abbrev pub after_end : Kept → List ℕ → Ended → Option Phase → Kept
after_end d who outcome (Some (Running pool thread)) = with_phase d who (Over outcome)
after_end d who outcome _ = d

abbrev pub after_make_pyx : Kept → List ℕ → Kept
after_make_pyx d who = if nat_lt (length (made_in d.pyxes who)) most_made then (record d { pyxes = added d.pyxes who Unset }) else d

abbrev pub after_set : Kept → List ℕ → ℕ → Ended → Option Setting → Kept
after_set d maker number outcome (Some Unset) = record d { pyxes = replaced d.pyxes maker number (Set outcome) }
after_set d maker number outcome _ = d

abbrev pub after_make_mutex : Kept → List ℕ → Kept
after_make_mutex d who = if nat_lt (length (made_in d.mutexes who)) most_made then (record d { mutexes = added d.mutexes who Free }) else d

abbrev pub with_holding : Kept → List ℕ → ℕ → Holding → Kept
with_holding d maker number holding = record d { mutexes = replaced d.mutexes maker number holding }

abbrev pub after_lock : Kept → List ℕ → List ℕ → ℕ → Option Holding → Kept
after_lock d who maker number (Some Free) = with_holding d maker number (Held who)
after_lock d who maker number _ = d

abbrev pub after_unlock : Kept → List ℕ → List ℕ → ℕ → Option Holding → Kept
after_unlock d who maker number (Some (Held holder)) = if same who holder then with_holding d maker number Free else d
after_unlock d who maker number _ = d

abbrev pub after_make_thread : Kept → ℕ → Kept
after_make_thread d pool = if nat_lt (length d.threads) d.workers then (record d { threads = d.threads ++ pool ∷ [] }) else d

abbrev pub pyx_at : Kept → List ℕ → ℕ → Option Setting
pyx_at d maker number = numbered (made_in d.pyxes maker) number

abbrev pub mutex_at : Kept → List ℕ → ℕ → Option Holding
mutex_at d maker number = numbered (made_in d.mutexes maker) number

abbrev pub kept_reply : Kept → List ℕ → ℕ → Use → Option Reply
kept_reply d who thread (asked.Read from name) = Some (named (sought d.locales from name))
kept_reply d who thread (asked.Write place name value) = Some says.Done
kept_reply d who thread (asked.Print bytes) = Some says.Done
kept_reply d who thread (asked.Start pool work) = Some (desk.start_reply d.order (length (made_in d.tasks who)) who)
kept_reply d who thread asked.Begin = desk.begin_reply (phase_in d.tasks who)
kept_reply d who thread (asked.End outcome) = desk.end_reply (phase_in d.tasks who)
kept_reply d who thread (asked.Open pyx) = desk.open_reply pyx.number (phase_in d.tasks pyx.path) (pyx_at d pyx.path pyx.number)
kept_reply d who thread asked.MakePyx = Some (desk.make_pyx_reply (length (made_in d.pyxes who)) who)
kept_reply d who thread (asked.SetPyx pyx outcome) = Some (desk.set_reply (pyx_at d pyx.path pyx.number))
kept_reply d who thread asked.MakeMutex = Some (desk.make_mutex_reply (length (made_in d.mutexes who)) who)
kept_reply d who thread (asked.Lock mutex) = desk.lock_reply who (mutex_at d mutex.path mutex.number)
kept_reply d who thread (asked.Unlock mutex) = Some (desk.unlock_reply who (mutex_at d mutex.path mutex.number))
kept_reply d who thread (asked.MakeThread pool) = Some (desk.thread_reply d.workers d.threads)
kept_reply d who thread asked.Threads = Some (says.Number (pos (length d.threads)))
kept_reply d who thread (asked.PoolState pool) = Some (desk.pool_reply (phase_in d.tasks) d.order d.threads pool)
kept_reply d who thread asked.Current = Some (says.Number (pos thread))

abbrev pub kept_after : Kept → List ℕ → ℕ → Use → Kept
kept_after d who thread (asked.Write place name value) = record d { locales = with_value d.locales place name value }
kept_after d who thread (asked.Print bytes) = record d { waiting = d.waiting ++ bytes }
kept_after d who thread (asked.Start pool work) = after_start d who pool work
kept_after d who thread asked.Begin = after_begin d who thread (phase_in d.tasks who)
kept_after d who thread (asked.End outcome) = after_end d who outcome (phase_in d.tasks who)
kept_after d who thread asked.MakePyx = after_make_pyx d who
kept_after d who thread (asked.SetPyx pyx outcome) = after_set d pyx.path pyx.number outcome (pyx_at d pyx.path pyx.number)
kept_after d who thread asked.MakeMutex = after_make_mutex d who
kept_after d who thread (asked.Lock mutex) = after_lock d who mutex.path mutex.number (mutex_at d mutex.path mutex.number)
kept_after d who thread (asked.Unlock mutex) = after_unlock d who mutex.path mutex.number (mutex_at d mutex.path mutex.number)
kept_after d who thread (asked.MakeThread pool) = after_make_thread d pool
kept_after d who thread _ = d
