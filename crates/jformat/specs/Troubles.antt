-- What is said of a trouble that can only be the limit.
use Rattle.std.specs.Prelude.{◌≡◌, ⊤}
use Rattle.jdata.specs.declared.fault.Fault.TheVariants as fault
use Rattle.jdata.specs.declared.fault.Trouble.{Trouble}
use Rattle.jdata.specs.declared.fault.Trouble.TheVariants as trouble

-- a fault comes only as the limit, where P holds
abbrev pub IsLimitWhere : Trouble → Type 0 → Type 0
IsLimitWhere (trouble.Fault f) P = (f ≡ fault.Limit) × P
IsLimitWhere trouble.NoMemory P = ⊤
