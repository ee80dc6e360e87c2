-- Same, Left, Right and Cap (NuVoc "[", "]" and "[:").
use Rattle.std.specs.Prelude.{Result, Ok, Err}
use Rattle.jdata.specs.declared.fault.Fault.{Fault}
use Rattle.jdata.specs.declared.fault.Fault.TheVariants as fault
use Rattle.jdata.specs.declared.noun.Noun.{Noun}

abbrev pub same : Noun → Result Noun Fault
same y = Ok y

abbrev pub left : Noun → Noun → Result Noun Fault
left x y = Ok x

abbrev pub right : Noun → Noun → Result Noun Fault
right x y = Ok y

-- a cap is applied to nothing
abbrev pub capped : Noun → Result Noun Fault
capped y = Err fault.Domain

abbrev pub capped_dyad : Noun → Noun → Result Noun Fault
capped_dyad x y = Err fault.Domain
