-- What a reply depends on beside keys.
use Rattle.std.specs.Prelude.{◌≡◌, ℕ, List, zero, suc, length, nat_lt}
use Rattle.jdata.specs.declared.path.PyxId.{PyxId}
use Rattle.juses.specs.Desk.{State, most_tasks}
use Rattle.juses.specs.Keys.{Key, MutexBy}
use Rattle.juses.specs.declared.uses.Use.{Use}
use Rattle.juses.specs.declared.uses.Use.TheVariants.{Start, Begin, End, Open, MakePyx, MakeMutex, MakeThread, PoolState, Current}

-- of the pyx of a task: how far that has come
abbrev pub AgreeOnTask : State → State → List ℕ → ℕ → Type 0
AgreeOnTask s t path zero = s.phase path ≡ t.phase path
AgreeOnTask s t path (suc n) = Unit {0}

-- two states agree on how far tasks have come, on what the activity has made and on the number of workers, as far as a
-- reply depends on these; and for the number of a thread the threads are the same
abbrev pub AgreeBeside : State → State → List ℕ → ℕ → ℕ → Use → Type 0
AgreeBeside s t who thread thread' (Start pool work) = (s.tasks_of who ≡ t.tasks_of who) × (nat_lt (length s.tasks) most_tasks ≡ nat_lt (length t.tasks) most_tasks)
AgreeBeside s t who thread thread' Begin = s.phase who ≡ t.phase who
AgreeBeside s t who thread thread' (End outcome) = s.phase who ≡ t.phase who
AgreeBeside s t who thread thread' (Open pyx) = AgreeOnTask s t pyx.path pyx.number
AgreeBeside s t who thread thread' MakePyx = s.pyxes_of who ≡ t.pyxes_of who
AgreeBeside s t who thread thread' MakeMutex = s.mutexes_of who ≡ t.mutexes_of who
AgreeBeside s t who thread thread' (MakeThread pool) = s.workers ≡ t.workers
AgreeBeside s t who thread thread' (PoolState pool) = (s.phase ≡ t.phase) × (s.tasks ≡ t.tasks)
AgreeBeside s t who thread thread' Current = thread ≡ thread'
AgreeBeside s t who thread thread' _ = Unit {0}

-- who asked counts at a mutex alone
abbrev pub AgreeOnHolder : Key → List ℕ → List ℕ → Type 0
AgreeOnHolder (MutexBy maker number) who who' = who ≡ who'
AgreeOnHolder _ who who' = Unit {0}
