-- Places along an axis (NuVoc "From"): a negative number counts from the end, where _1 is the last.
use Rattle.std.specs.Prelude.{ℕ, suc, ◌-◌, nat_lt, ℤ, pos, negsuc, if◌then◌else◌, List, [], ◌∷◌, Result, Ok, Err}
use Rattle.jdata.specs.Firsts.{in_front, and_then}
use Rattle.jdata.specs.declared.fault.Fault.{Fault}
use Rattle.jdata.specs.declared.fault.Fault.TheVariants as fault

-- the place that an integer names among so many
abbrev pub place_in : ℕ → ℤ → Result ℕ Fault
place_in n (pos i) = if nat_lt i n then Ok i else Err fault.Index
place_in n (negsuc i) = if nat_lt i n then Ok (n - suc i) else Err fault.Index

-- the places that integers name, one for each axis from the first
abbrev pub places_in : List ℕ → List ℤ → Result (List ℕ) Fault
places_in (n ∷ ns) (i ∷ is) = and_then (place_in n i) (λ p. in_front p (places_in ns is))
places_in axes is = Ok []
