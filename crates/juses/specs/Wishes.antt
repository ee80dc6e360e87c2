-- What a piece of work may ask of the session: each use but the Begin and the End of a task.
use Rattle.std.specs.Prelude.{ℕ, List}
use Rattle.jdata.specs.declared.path.PyxId.{PyxId}
use Rattle.jterm.specs.declared.term.Term.{Term}
use Rattle.juses.specs.declared.uses.Ended.{Ended}
use Rattle.juses.specs.declared.uses.MutexId.{MutexId}
use Rattle.juses.specs.declared.uses.Use.{Use}
use Rattle.juses.specs.declared.uses.Use.TheVariants as asked
use Rattle.juses.specs.declared.uses.Work.{Work}

pub data Wish : Type 0 where
  Read : List ℕ → List ℕ → Wish
  Write : List ℕ → List ℕ → Term → Wish
  Print : List ℕ → Wish
  Start : ℕ → Work → Wish
  Open : PyxId → Wish
  MakePyx : Wish
  SetPyx : PyxId → Ended → Wish
  MakeMutex : Wish
  Lock : MutexId → Wish
  Unlock : MutexId → Wish
  MakeThread : ℕ → Wish
  Threads : Wish
  PoolState : ℕ → Wish
  Current : Wish

abbrev pub use_of : Wish → Use
use_of (Read from name) = asked.Read from name
use_of (Write place name value) = asked.Write place name value
use_of (Print bytes) = asked.Print bytes
use_of (Start pool work) = asked.Start pool work
use_of (Open pyx) = asked.Open pyx
use_of MakePyx = asked.MakePyx
use_of (SetPyx pyx outcome) = asked.SetPyx pyx outcome
use_of MakeMutex = asked.MakeMutex
use_of (Lock mutex) = asked.Lock mutex
use_of (Unlock mutex) = asked.Unlock mutex
use_of (MakeThread pool) = asked.MakeThread pool
use_of Threads = asked.Threads
use_of (PoolState pool) = asked.PoolState pool
use_of Current = asked.Current
