-- What passes between two states of a session's `Uses`, as those tell it.
use Rattle.std.specs.Prelude.{◌≡◌, ℕ, List, [], ◌∷◌, ◌++◌, Option, Some, None}
use Rattle.juses.specs.Entries.{pyx_of}
use Rattle.juses.specs.declared.uses.Cause.{Cause}
use Rattle.juses.specs.declared.uses.Cause.TheVariants as cause
use Rattle.juses.specs.declared.uses.Entry.{Entry}
use Rattle.juses.specs.declared.uses.Halt.{Halt}
use Rattle.juses.specs.declared.uses.Halt.TheVariants.{Wait, NoMemory, Closed}
use Rattle.juses.specs.declared.uses.Why.{Why}
use Rattle.juses.specs.declared.uses.Why.TheVariants.{Started, Opening, Working, Ending}
use Rattle.juses.specs.declared.uses.Work.{Work}

pub data Told : Type 0 where
  -- a use that was replied to
  Replied : Entry → Told
  -- a task that was asked for so was begun on the thread, and handed out with its work
  Handed : Why → List ℕ → ℕ → Work → Told
  -- a task was asked for so, and none was due
  NoneDue : Why → Told

pub record Passed : Type 0 where
  -- the oldest in front
  pub told : List Told
  -- the printed bytes that were handed out
  pub handed : List ℕ
  -- the causes with which the session was closed, the earliest in front
  pub closed : List Cause

abbrev pub nothing : Passed
nothing = record { told = []; handed = []; closed = [] }

abbrev pub replied : Entry → Passed
replied e = record { told = Replied e ∷ []; handed = []; closed = [] }

-- what is told of a task that was asked for
abbrev pub told_due : ℕ → Why → Option (List ℕ × Work) → Told
told_due thread why (Some given) = Handed why given.0 thread given.1
told_due thread why None = NoneDue why

abbrev pub asked_for : ℕ → Why → Option (List ℕ × Work) → Passed
asked_for thread why given = record { told = told_due thread why given ∷ []; handed = []; closed = [] }

abbrev pub handed_out : List ℕ → Passed
handed_out bytes = record { told = []; handed = bytes; closed = [] }

abbrev pub closed_with : Cause → Passed
closed_with cause = record { told = []; handed = []; closed = cause ∷ [] }

-- a session in which a use has no reply is closed at that use
abbrev pub closing_at : Halt → List Cause
closing_at Wait = cause.Stuck ∷ []
closing_at NoMemory = []
closing_at (Closed cause) = []

abbrev pub refusing : Halt → Passed
refusing halt = record { told = []; handed = []; closed = closing_at halt }

-- the task is one of those that are asked for
abbrev pub IsDue : Why → List ℕ → Type 0
IsDue (Started pyx) task = pyx ≡ pyx_of task
IsDue (Opening pyx) task = pyx ≡ pyx_of task
IsDue (Working thread) task = Unit {0}
IsDue Ending task = Unit {0}

-- one after the other
infixl 10 ◌followed_by◌
abbrev pub ◌followed_by◌ : Passed → Passed → Passed
p followed_by q = record { told = p.told ++ q.told; handed = p.handed ++ q.handed; closed = p.closed ++ q.closed }
