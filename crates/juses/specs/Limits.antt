-- What a desk keeps within bounds.
use Rattle.std.specs.Prelude.{ℕ, ◌+◌, ◌≤◌, ◌<◌, ◌^◌, List, length}
use Rattle.juses.specs.Desk.{most_tasks}
use Rattle.juses.specs.Standing.{MadeTable}
use Rattle.juses.specs.Tables.{made_in}
use Rattle.juses.specs.declared.kept.Phase.{Phase}

pub record IsWithin (tasks : MadeTable Phase) (order : List (List ℕ)) (threads waiting : List ℕ) (handed workers : ℕ) : Type 0 where
  pub printed : handed + length waiting < 2 ^ 64
  pub started : length order ≤ most_tasks
  -- no activity has started more tasks than were started
  pub each : (who : List ℕ) → length (made_in tasks who) ≤ length order
  pub made : length threads ≤ workers
