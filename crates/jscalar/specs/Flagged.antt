-- A value beside a flag that says that there is none. The verbs on numbers have one fault each.
use Rattle.std.specs.Prelude.{◌≡◌, ℤ, Bool, true, false, Result, Ok, Err}
use Rattle.jdata.specs.declared.fault.Fault.{Fault}

abbrev pub flagged : {A : Type 0} → Fault → A → Bool → Result A Fault
flagged fault value false = Ok value
flagged fault value true = Err fault

-- its fault, if it has one, is this one
pub record IsOnly (fault : Fault) (answer : Result ℤ Fault) : Type 0 where
  pub tells : (other : Fault) → answer ≡ Err other → other ≡ fault
