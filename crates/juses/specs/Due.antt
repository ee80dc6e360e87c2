-- Which waiting task is handed out where one is asked for (NuVoc, "t."): a task that was just started in a pool without
-- threads, one that is about to be opened, one of a thread's pool, and at the end any.
use Rattle.std.specs.Prelude.{◌≡◌, ◌≤◌, ℕ, zero, suc, List, [], ◌∷◌, Bool, true, false, if◌then◌else◌, nat_eq, length, Option, Some, None, Result, Ok, Err}
use Rattle.std.specs.List.{find, list_any}
use Rattle.juses.specs.Desk.{State, reply, moved, waiting_work, has_unended}
use Rattle.juses.specs.Entries.{entry}
use Rattle.juses.specs.Keeping.{after_begin}
use Rattle.juses.specs.Keys.{Threads}
use Rattle.juses.specs.Standing.{Kept, Stands, phase_in}
use Rattle.juses.specs.Tables.{numbered}
use Rattle.juses.specs.declared.kept.Phase.{Phase}
use Rattle.juses.specs.declared.kept.Phase.TheVariants.{Waiting}
use Rattle.juses.specs.declared.uses.Cause.{Cause}
use Rattle.juses.specs.declared.uses.Halt.{Halt}
use Rattle.juses.specs.declared.uses.Halt.TheVariants.{Wait, Closed}
use Rattle.juses.specs.declared.uses.Reply.TheVariants.{Done}
use Rattle.juses.specs.declared.uses.Use.TheVariants.{Begin}
use Rattle.juses.specs.declared.uses.Why.{Why}
use Rattle.juses.specs.declared.uses.Why.TheVariants.{Started, Opening, Working, Ending}
use Rattle.juses.specs.declared.uses.Work.{Work}

-- whether a task waits: at all, in a pool without threads, in the pool of a thread
abbrev pub is_waiting : Option Phase → Bool
is_waiting (Some (Waiting pool work)) = true
is_waiting _ = false

abbrev pub waits_alone : List ℕ → Option Phase → Bool
waits_alone threads (Some (Waiting pool work)) = if list_any (nat_eq pool) threads then false else true
waits_alone threads _ = false

abbrev pub waits_in : Option ℕ → Option Phase → Bool
waits_in (Some own) (Some (Waiting pool work)) = nat_eq own pool
waits_in _ _ = false

-- the task of a pyx, if that is a task's and the task passes the test
abbrev pub own_task : ℕ → List ℕ → Bool → Option (List ℕ)
own_task zero path test = if test then Some path else None
own_task (suc number) path test = None

-- the task that is handed out, of these that were started, the first in front, with these pools of the made threads
abbrev pub due_task : (List ℕ → Option Phase) → List (List ℕ) → List ℕ → Why → Option (List ℕ)
due_task phase tasks threads (Started pyx) = own_task pyx.number pyx.path (waits_alone threads (phase pyx.path))
due_task phase tasks threads (Opening pyx) = own_task pyx.number pyx.path (is_waiting (phase pyx.path))
due_task phase tasks threads (Working thread) = find (λ task. waits_in (numbered threads thread) (phase task)) tasks
due_task phase tasks threads Ending = find (λ task. is_waiting (phase task)) tasks

-- the task with the work of its start
abbrev pub with_that : List ℕ → Option Work → Option (List ℕ × Work)
with_that task (Some work) = Some (task, work)
with_that task None = None

abbrev pub with_work : (List ℕ → Option Phase) → Option (List ℕ) → Option (List ℕ × Work)
with_work phase (Some task) = with_that task (waiting_work (phase task))
with_work phase None = None

-- where none is due at the end, main has to wait unless each started task has ended
abbrev pub none_due : Why → Bool → Result (Option (List ℕ × Work)) Halt
none_due Ending true = Err Wait
none_due _ _ = Ok None

abbrev pub due_open : Why → Bool → Option (List ℕ × Work) → Result (Option (List ℕ × Work)) Halt
due_open why unended (Some given) = Ok (Some given)
due_open why unended None = none_due why unended

-- a closed desk answers its cause
abbrev pub due_by : Option Cause → Result (Option (List ℕ × Work)) Halt → Result (Option (List ℕ × Work)) Halt
due_by (Some cause) answer = Err (Closed cause)
due_by None answer = answer

abbrev pub kept_due : Kept → Why → Option (List ℕ)
kept_due d why = due_task (phase_in d.tasks) d.order d.threads why

abbrev pub due_answer : Kept → Why → Result (Option (List ℕ × Work)) Halt
due_answer d why = due_by d.closed (due_open why (has_unended (phase_in d.tasks) d.order) (with_work (phase_in d.tasks) (kept_due d why)))

-- the task that is handed out begins on the thread
abbrev pub begun_task : Kept → ℕ → Option (List ℕ) → Kept
begun_task d thread (Some task) = after_begin d task thread (phase_in d.tasks task)
begun_task d thread None = d

abbrev pub begun_open : Kept → ℕ → Why → Option Cause → Kept
begun_open d thread why (Some cause) = d
begun_open d thread why None = begun_task d thread (kept_due d why)

abbrev pub after_due : Kept → ℕ → Why → Kept
after_due d thread why = begun_open d thread why d.closed

-- The task is the one that is due in each state for which the desk stands, with its work; its Begin has a reply; and
-- the desk afterwards stands for the state after that.
abbrev pub HandsTask : Kept → ℕ → Why → Option (List ℕ × Work) → Kept → Type 0
HandsTask d thread why (Some given) d' =
    (s : State) → Stands d s → (due_task s.phase s.tasks (s.at Threads) why ≡ Some given.0) × (waiting_work (s.phase given.0) ≡ Some given.1)
    × (reply s given.0 thread Begin ≡ Some Done) × Stands d' (moved s (entry given.0 thread Begin Done))
HandsTask d thread why None d' = (s : State) → Stands d s → (due_task s.phase s.tasks (s.at Threads) why ≡ None) × Stands d' s
