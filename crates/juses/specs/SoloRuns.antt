-- What came of a script on one thread.
use Rattle.std.specs.Prelude.{◌≡◌, ℕ, List, Result, Ok, Err, Some}
use Rattle.juses.specs.Activities.{Legal, Faithful, Complete, OneThread, OneThreadRun, Stuck}
use Rattle.juses.specs.Histories.{after}
use Rattle.juses.specs.Program.{Program}
use Rattle.juses.specs.Standing.{Kept, Stands}
use Rattle.juses.specs.Wishes.{Wish}
use Rattle.juses.specs.declared.uses.Ended.{Ended}
use Rattle.juses.specs.declared.uses.Entry.{Entry}
use Rattle.juses.specs.declared.uses.Halt.{Halt}
use Rattle.juses.specs.declared.uses.Halt.TheVariants.{Wait, NoMemory, Closed}
use Rattle.juses.specs.declared.uses.Reply.{Reply}
use Rattle.juses.specs.declared.uses.Work.{Work}

module _ {A : Type 0} (meaning : Work → Program Wish Reply Ended) (script : Program Wish Reply A) (workers : ℕ) where
  -- a script that ended was run wholly, one that waits can't go on, and any other was broken off: for want of memory, or
  -- since the desk had been closed
  abbrev pub ComesAs : {B : Type 0} → Kept → Result B Halt → List Entry → Type 0
  ComesAs d (Ok a) h = OneThreadRun meaning script workers h × Complete meaning script h
  ComesAs d (Err Wait) h = OneThreadRun meaning script workers h × Stuck meaning script workers h
  ComesAs d (Err NoMemory) h = OneThread meaning script workers h
  ComesAs d (Err (Closed cause)) h = OneThread meaning script workers h × (d.closed ≡ Some cause)

  -- the history is that of one thread, the desk stands for it, and it is legal and faithful
  pub record SoloRun {B : Type 0} (d : Kept) (h : List Entry) (r : Result B Halt) : Type 0 where
    pub stands : Stands d (after workers h)
    pub legal : Legal workers h
    pub faithful : Faithful meaning script h
    pub comes : ComesAs d r h
