-- What contracts see of a source, and what a read does to it.
use Rattle.std.specs.Prelude.{ℕ, ◌≡◌, ◌+◌, List, length, Option, Some, None}
use Rattle.std.specs.Io.KnownBytes.{Consumes, Keeps, IsAtEnd}
use Rattle.jio.specs.Counts.{Rises}
use Rattle.jio.specs.declared.source.Got.{Got}
use Rattle.jio.specs.declared.source.Got.TheVariants as got

pub record Reads : Type 0 where
  -- the bytes that are left, where the source tells them
  pub left : Option (List ℕ)
  -- how many bytes it gave
  pub given : ℕ
  -- how many of its reads failed
  pub faults : ℕ
  -- how many bytes it had given before its first read that failed, if one did
  pub broken : Option ℕ
  -- how many bytes it had given before its first read that met the end, if one did
  pub ended : Option ℕ

-- the number at the first time counts
abbrev pub first_at : Option ℕ → ℕ → Option ℕ
first_at (Some earlier) now = Some earlier
first_at None now = Some now

-- the next bytes of what is left were given, and counted
pub record GaveBytes (old : Reads) (bytes : List ℕ) (new : Reads) : Type 0 where
  pub left : Consumes old.left new.left bytes
  pub given : new.given ≡ old.given + length bytes
  pub faults : new.faults ≡ old.faults
  pub broken : new.broken ≡ old.broken
  pub ended : new.ended ≡ old.ended

-- nothing is left, and no byte was given
pub record MetTheEnd (old new : Reads) : Type 0 where
  pub left : Keeps old.left new.left
  pub at_end : IsAtEnd new.left
  pub given : new.given ≡ old.given
  pub faults : new.faults ≡ old.faults
  pub broken : new.broken ≡ old.broken
  pub ended : new.ended ≡ first_at old.ended old.given

-- a fault, and no byte was given
pub record FailedToRead (old new : Reads) : Type 0 where
  pub left : Keeps old.left new.left
  pub given : new.given ≡ old.given
  pub faults : Rises old.faults new.faults
  pub broken : new.broken ≡ first_at old.broken old.given
  pub ended : new.ended ≡ old.ended

abbrev pub OnBytes : Got → (ℕ → Type 0) → Type 0
OnBytes (got.Bytes n) P = P n
OnBytes got.End P = Unit {0}
OnBytes got.Failed P = Unit {0}

abbrev pub OnEnd : Got → Type 0 → Type 0
OnEnd (got.Bytes n) P = Unit {0}
OnEnd got.End P = P
OnEnd got.Failed P = Unit {0}

abbrev pub OnFailed : Got → Type 0 → Type 0
OnFailed (got.Bytes n) P = Unit {0}
OnFailed got.End P = Unit {0}
OnFailed got.Failed P = P
