-- How a script is read, and why its reading breaks off.
use Rattle.std.specs.Prelude.{ℕ, ◌≡◌, ◌≤◌, ◌+◌, List, [], ◌∷◌, ◌++◌, length, Option, Some, None}
use Rattle.std.specs.Io.KnownBytes.{Consumes, IsAtEnd}
use Rattle.jio.specs.Counts.{Rises}
use Rattle.jio.specs.Source.{Reads, first_at}
use Rattle.jsession.specs.declared.reading.Reading.{Reading}
use Rattle.jsession.specs.declared.reading.Reading.TheVariants.{Whole, Broken, Long, Short}

-- byte 16,777,217 of the script was read
abbrev pub ReadPastLimit : Reads → Reads → Type 0
ReadPastLimit old new = old.given + 16777217 ≤ new.given

-- no read failed
pub record NoneFailed (old new : Reads) : Type 0 where
  pub faults : new.faults ≡ old.faults
  pub broken : new.broken ≡ old.broken

-- the source came to its end without a failed read, and nothing was taken after that
pub record ReadWhole (old new : Reads) : Type 0 where
  pub at_end : IsAtEnd new.left
  pub none_failed : NoneFailed old new
  pub ended : new.ended ≡ first_at old.ended new.given
  pub within : new.given ≤ old.given + 16777216

-- a read failed before the end was met, and nothing was taken after the first that did
pub record ReadBroken (old new : Reads) : Type 0 where
  pub faults : Rises old.faults new.faults
  pub broken : new.broken ≡ first_at old.broken new.given
  pub ended : new.ended ≡ old.ended
  pub within : new.given ≤ old.given + 16777216

-- neither happened
pub record ReadOn (old new : Reads) : Type 0 where
  pub none_failed : NoneFailed old new
  pub ended : new.ended ≡ old.ended

-- the source came to its end, a read failed, one byte too many was read, or there was no memory
abbrev pub IsHow : Reads → Reads → List ℕ → Reading → List ℕ → Type 0
IsHow old new all Whole bytes = (bytes ≡ all) × ReadWhole old new
IsHow old new all Broken bytes = (bytes ≡ all) × ReadBroken old new
IsHow old new all Long bytes = (last : ℕ) × (all ≡ bytes ++ last ∷ []) × (length bytes ≡ 16777216) × ReadPastLimit old new × ReadOn old new
IsHow old new all Short bytes = ReadOn old new

-- these bytes of the script were read
pub record IsRead (old new : Reads) (how : Reading) (bytes : List ℕ) : Type 0 where
  pub all : List ℕ
  pub consumed : Consumes old.left new.left all
  pub given : new.given ≡ old.given + length all
  pub reason : IsHow old new all how bytes

-- a piece was kept, all of it or without the last byte, which is one beyond the limit
abbrev pub IsKept : List ℕ → List ℕ → List ℕ → Option Reading → Type 0
IsKept old piece new None = (new ≡ old ++ piece) × (length new ≤ 16777216)
IsKept old piece new (Some Long) = (last : ℕ) × (old ++ piece ≡ new ++ last ∷ []) × (length new ≡ 16777216)
IsKept old piece new (Some Short) = Unit {0}
IsKept old piece new (Some Whole) = ⊥
IsKept old piece new (Some Broken) = ⊥
