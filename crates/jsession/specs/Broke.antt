-- Where a session broke off, why, and how far what it printed was written.
use Rattle.std.specs.Prelude.{ℕ, ◌≡◌, ◌≤◌, ◌⊎◌, true, List, [], ◌++◌, length, Result, Ok, Err}
use Rattle.jeval.specs.declared.state.State.{State}
use Rattle.jsession.specs.Ran.{Answer, Moment, Wrote, RanThrough, handing, closing_of}
use Rattle.jsession.specs.Script.{script}
use Rattle.jsession.specs.declared.status.Status.{Status}
use Rattle.jsession.specs.declared.status.Status.TheVariants as status
use Rattle.juses.specs.Events.{RunsWhole}
use Rattle.juses.specs.Told.{Passed}
use Rattle.juses.specs.declared.uses.Halt.{Halt}
use Rattle.juses.specs.declared.uses.Use.{Use}

-- prints weren't written whole, or they were and a sentence has halted
abbrev pub IsWhy : {A : Type 0} → Result A Halt → Answer → Status → Type 0
IsWhy halted (Err why) said = said ≡ why
IsWhy (Err halt) (Ok done) said = said ≡ status.NoMemory
IsWhy (Ok a) (Ok done) said = ⊥

-- These sentences, at most one, were run to their end or to a halt, what was printed by then was handed out in one
-- piece, and that was written or not. Want of memory closes the session where it halts, and a piece that wasn't written
-- whole closes it with its cause.
pub record Stopped {S : Type 0} (leads : S → Passed → S → Type 0) (refuses : S → List ℕ → Use → Halt → Type 0) (turns : ℕ) (now : List (List ℕ)) (old new : Moment S) (why : Status) : Type 0 where
  pub halted : Result State Halt
  pub mid : S
  pub ran : RunsWhole leads refuses [] old.uses mid (script turns now old.state) halted
  pub bytes : List ℕ
  pub written : Answer
  pub led : leads mid (handing bytes (closing_of written)) new.uses
  pub wrote : Wrote old.sink bytes written new.sink
  pub is_why : IsWhy halted written why

-- the first sentences came to their end, and all that was printed until then was written; the one in progress, if
-- there was one, or the writing of what it printed didn't come to an end, and no later sentence was begun
pub record Broke {S : Type 0} (leads : S → Passed → S → Type 0) (refuses : S → List ℕ → Use → Halt → Type 0) (drained : S → Type 0) (turns : ℕ) (lines : List (List ℕ)) (old new : Moment S) (why : Status) : Type 0 where
  pub first : List (List ℕ)
  pub now : List (List ℕ)
  pub later : List (List ℕ)
  pub split : lines ≡ first ++ (now ++ later)
  pub one : length now ≤ 1
  -- when the first had come to their end
  pub between : Moment S
  pub ran : RanThrough leads turns first old between
  pub all_out : ((first ≡ []) × (between.uses ≡ old.uses)) ⊎ drained between.uses
  pub stopped : Stopped leads refuses turns now between new why
  -- nothing that was printed is left where each write was answered All
  pub none_left : new.sink.whole ≡ true → drained new.uses

-- the sentences were run to their end and all was written, or the session broke off
abbrev pub Went : {S : Type 0} → (S → Passed → S → Type 0) → (S → List ℕ → Use → Halt → Type 0) → (S → Type 0) → ℕ → List (List ℕ) → Moment S → Moment S → Answer → Type 0
Went leads refuses drained turns lines old new (Ok done) = RanThrough leads turns lines old new × drained new.uses
Went leads refuses drained turns lines old new (Err why) = Broke leads refuses drained turns lines old new why
