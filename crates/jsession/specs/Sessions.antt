-- The session of a script: what was read of it, its items, what came of them, and the status.
use Rattle.std.specs.Prelude.{ℕ, ◌≡◌, ◌≤◌, ◌+◌, List, length}
use Rattle.jeval.specs.Eval.{Evaluator}
use Rattle.jio.specs.Sink.{Writes}
use Rattle.jio.specs.Source.{Reads}
use Rattle.jsession.specs.Items.{items_of}
use Rattle.jsession.specs.Broke.{Went}
use Rattle.jsession.specs.Ran.{Answer, Moment, moment, final}
use Rattle.jsession.specs.Reads.{IsRead}
use Rattle.jsession.specs.declared.reading.Reading.{Reading}
use Rattle.jsession.specs.declared.status.Status.{Status}
use Rattle.juses.specs.Told.{Passed}
use Rattle.juses.specs.declared.uses.Halt.{Halt}
use Rattle.juses.specs.declared.uses.Use.{Use}

-- where an evaluator and a sink are
abbrev pub at : {S : Type 0} → Evaluator S → Writes → Moment S
at eval sink = moment eval.uses eval.state sink

pub record SessionRan {S : Type 0} (leads : S → Passed → S → Type 0) (refuses : S → List ℕ → Use → Halt → Type 0) (drained : S → Type 0) (turns : ℕ)
    (source source' : Reads) (old new : Moment S) (status : Status) : Type 0 where
  -- what was read, and how its reading ended
  pub bytes : List ℕ
  pub how : Reading
  pub read : IsRead source source' how bytes
  -- the items were run, and the prints of each were written in one piece
  pub answer : Answer
  pub went : Went leads refuses drained turns (items_of how bytes) old new answer
  pub pieces : new.sink.calls ≤ old.sink.calls + length (items_of how bytes) + 1
  pub ends : status ≡ final how answer
