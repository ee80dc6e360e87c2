-- Axes that are wanted of an array, and whether an array can have them.
use Rattle.std.specs.Prelude.{ℕ, ◌≡◌, List, Result, Ok, Err}
use Rattle.jdata.specs.Limits.{limited, IsShape}
use Rattle.jdata.specs.Noun.{noun, product}
use Rattle.jdata.specs.declared.fault.Fault.TheVariants as fault
use Rattle.jdata.specs.declared.fault.Trouble.{Trouble}
use Rattle.jdata.specs.declared.fault.Trouble.TheVariants as trouble
use Rattle.jdata.specs.declared.noun.Atom.{Atom}
use Rattle.jdata.specs.declared.noun.Kind.{Kind}

-- no array has these axes
abbrev pub IsBeyond : List ℕ → Type 0
IsBeyond axes = (k : Kind) (l : List Atom) → limited (noun axes k l) ≡ Err fault.Limit

-- how many atoms an array of these axes has, or the fault of axes that are beyond the limits
abbrev pub IsSize : List ℕ → Result ℕ Trouble → Type 0
IsSize axes (Ok n) = (n ≡ product axes) × IsShape axes
IsSize axes (Err why) = (why ≡ trouble.Fault fault.Limit) × IsBeyond axes
