-- What a call that is made of memory answers, beside what is meant.
use Rattle.std.specs.Prelude.{◌≡◌, Result, Ok, Err}
use Rattle.jdata.specs.declared.fault.Fault.{Fault}
use Rattle.jdata.specs.declared.fault.Trouble.{Trouble}
use Rattle.jdata.specs.declared.fault.Trouble.TheVariants as trouble

-- the value or the fault that is meant; want of memory may come in place of either
abbrev pub Answers : {Value : Type 0} → Result Value Fault → Result Value Trouble → Type 0
Answers meant (Ok value) = meant ≡ Ok value
Answers meant (Err (trouble.Fault fault)) = meant ≡ Err fault
Answers meant (Err trouble.NoMemory) = Unit {0}
