-- What contracts see of a sink, and what a write does to it.
use Rattle.std.specs.Prelude.{ℕ, ◌≡◌, List, Option, Bool, false}
use Rattle.std.specs.Io.{StartsWith}
use Rattle.std.specs.Io.KnownBytes.{Appends, Keeps}
use Rattle.jio.specs.Counts.{Rises}
use Rattle.jio.specs.declared.sink.Sent.{Sent}
use Rattle.jio.specs.declared.sink.Sent.TheVariants as sent

pub record Writes : Type 0 where
  -- the bytes that it took, where the sink tells them
  pub took : Option (List ℕ)
  -- how many of its writes failed
  pub faults : ℕ
  -- whether each write so far was answered All
  pub whole : Bool
  -- how many writes there were
  pub calls : ℕ

-- the whole piece was taken
pub record TookAll (old : Writes) (piece : List ℕ) (new : Writes) : Type 0 where
  pub took : Appends old.took new.took piece
  pub faults : new.faults ≡ old.faults
  pub whole : new.whole ≡ old.whole

-- there was no memory, nothing was taken, and nothing failed
pub record TookNothing (old new : Writes) : Type 0 where
  pub took : Keeps old.took new.took
  pub faults : new.faults ≡ old.faults
  pub whole : new.whole ≡ false

-- a beginning of the piece was taken
abbrev pub TookPart : (took took' : Option (List ℕ)) → List ℕ → Type 0
TookPart took took' piece = (part : List ℕ) × StartsWith piece part × Appends took took' part

-- a fault, perhaps after a beginning of the piece
pub record FailedToWrite (old : Writes) (piece : List ℕ) (new : Writes) : Type 0 where
  pub took : TookPart old.took new.took piece
  pub faults : Rises old.faults new.faults
  pub whole : new.whole ≡ false

abbrev pub OnAll : Sent → Type 0 → Type 0
OnAll sent.All P = P
OnAll sent.NoMemory P = Unit {0}
OnAll sent.Failed P = Unit {0}

abbrev pub OnNoMemory : Sent → Type 0 → Type 0
OnNoMemory sent.All P = Unit {0}
OnNoMemory sent.NoMemory P = P
OnNoMemory sent.Failed P = Unit {0}

abbrev pub OnFailed : Sent → Type 0 → Type 0
OnFailed sent.All P = Unit {0}
OnFailed sent.NoMemory P = Unit {0}
OnFailed sent.Failed P = P
