-- What the kernels of numbers share: arrays of integers, and results that are numbers or faults.
use Rattle.std.specs.Prelude.{ℕ, Bool, ℤ, Result, Ok, Err, List, map}
use Rattle.jdata.specs.Kinds.{is_of_kind}
use Rattle.jdata.specs.Noun.{noun}
use Rattle.jdata.specs.declared.fault.Fault.{Fault}
use Rattle.jdata.specs.declared.noun.Noun.{Noun}
use Rattle.jdata.specs.declared.noun.Kind.TheVariants as sort
use Rattle.jdata.specs.declared.noun.Atom.TheVariants as atom

-- an array without atoms counts as one of integers
abbrev pub is_integers : Noun → Bool
is_integers = is_of_kind sort.Int

-- the integers of this shape
abbrev pub integers : List ℕ → Result (List ℤ) Fault → Result Noun Fault
integers axes (Ok numbers) = Ok (noun axes sort.Int (map atom.Int numbers))
integers axes (Err fault) = Err fault

-- a list that was changed in place, or the fault that ended it
abbrev pub in_place : {Done : Type 0} → Result Done Fault → List ℤ → Result (List ℤ) Fault
in_place (Ok done) numbers = Ok numbers
in_place (Err fault) numbers = Err fault
