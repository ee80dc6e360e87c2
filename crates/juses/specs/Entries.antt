-- Entries of a history, and the tasks that they start.
use Rattle.std.specs.Prelude.{◌≡◌, ℕ, suc, List, length, Option, Some, None}
use Rattle.jdata.specs.declared.path.PyxId.{PyxId}
use Rattle.juses.specs.declared.uses.Entry.{Entry}
use Rattle.juses.specs.declared.uses.Use.{Use}
use Rattle.juses.specs.declared.uses.Use.TheVariants as asked
use Rattle.juses.specs.declared.uses.Reply.{Reply}
use Rattle.juses.specs.declared.uses.Reply.TheVariants as reply

abbrev pub entry : List ℕ → ℕ → Use → Reply → Entry
entry who thread asked reply = record { who = who; thread = thread; asked = asked; reply = reply }

-- the pyx of a task
abbrev pub pyx_of : List ℕ → PyxId
pyx_of task = record { path = task; number = 0 }

-- the task that a use with this reply starts
abbrev pub started_by : Use → Reply → Option (List ℕ)
started_by (asked.Start pool work) (reply.Pyx pyx) = Some pyx.path
started_by _ _ = None

-- a started task's path is one number longer than its starter's
abbrev pub IsLonger : List ℕ → Option (List ℕ) → Type 0
IsLonger who (Some task) = length task ≡ suc (length who)
IsLonger who None = Unit {0}
