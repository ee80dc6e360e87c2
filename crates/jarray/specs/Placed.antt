-- What contracts see of an array: its noun, and the block that it stands in, where it stands in one. Two arrays are of one
-- yard where their blocks' yards are equal, and in the same block where their blocks are.
use Rattle.std.specs.Prelude.{ℕ, Option, None, Result, Ok, Err}
use Rattle.jdata.specs.Answers.{Answers}
use Rattle.jdata.specs.declared.fault.Fault.{Fault}
use Rattle.jdata.specs.declared.fault.Trouble.{Trouble}
use Rattle.jdata.specs.declared.noun.Noun.{Noun}

pub record Block : Type 0 where
  pub yard : ℕ
  pub number : ℕ

pub record Placed : Type 0 where
  pub noun : Noun
  pub block : Option Block

-- an array in memory of its own
abbrev pub own : Noun → Placed
own v = record { noun = v; block = None }

-- the noun, wherever it stands
abbrev pub noun_in : Result Placed Trouble → Result Noun Trouble
noun_in (Ok a) = Ok a.noun
noun_in (Err trouble) = Err trouble

-- the noun or the fault that is meant; want of memory may come in place of either
abbrev pub Gives : Result Noun Fault → Result Placed Trouble → Type 0
Gives meant result = Answers meant (noun_in result)
