-- What contracts see of a source and a sink in memory.
use Rattle.std.specs.Prelude.{ℕ, ◌+◌, ◌-◌, ◌^◌, ◌<◌, List, Contains}
use Rattle.jio.specs.Sink.{Writes}
use Rattle.jio.specs.Source.{Reads}

pub record MemoryReads : Type 0 where
  pub reads : Reads
  -- the most bytes that a call gives
  pub most : ℕ
  -- the numbers of the calls that fail, from 1
  pub failing : List ℕ
  -- how many calls were made
  pub calls : ℕ

pub record MemoryWrites : Type 0 where
  pub writes : Writes
  -- the numbers of the calls that fail, from 1
  pub failing : List ℕ

-- the call after this many is one of those that fail; no call has a number past the greatest
abbrev pub NextFails : ℕ → List ℕ → Type 0
NextFails calls failing = (calls < 2 ^ 64 - 1) × Contains failing (calls + 1)
