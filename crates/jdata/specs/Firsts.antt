-- What is done to one thing after another, where the first fault counts.
use Rattle.std.specs.Prelude.{List, [], ◌∷◌, Result, Ok, Err}
use Rattle.jdata.specs.declared.fault.Fault.{Fault}

abbrev pub in_front : {A : Type 0} → A → Result (List A) Fault → Result (List A) Fault
in_front x (Ok rest) = Ok (x ∷ rest)
in_front x (Err fault) = Err fault

-- all the values, or the first fault
abbrev pub all_or_first : {A : Type 0} → List (Result A Fault) → Result (List A) Fault
all_or_first [] = Ok []
all_or_first (Ok x ∷ rest) = in_front x (all_or_first rest)
all_or_first (Err fault ∷ rest) = Err fault

-- and what is done with it, where there is no fault
abbrev pub and_then : {A B : Type 0} → Result A Fault → (A → Result B Fault) → Result B Fault
and_then (Ok x) next = next x
and_then (Err fault) next = Err fault
