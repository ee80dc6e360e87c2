-- A running value: a verb between numbers from the first on, each next number on its right.
use Rattle.std.specs.Prelude.{ℕ, ℤ, ◌+◌, List, length, map, take, Option, Result, unsigned_abs}
use Rattle.std.specs.List.{range_with_len, sum_by}
use Rattle.jdata.specs.declared.fault.Fault.{Fault}
use Rattle.jfold.specs.Folded.{of_back}

abbrev pub turned : (ℤ → ℤ → Result ℤ Fault) → ℤ → ℤ → Result ℤ Fault
turned meant x y = meant y x

-- `(n_0 v n_1) v n_2 ..`
abbrev pub onward : (ℤ → ℤ → Result ℤ Fault) → List ℤ → Option ℤ
onward meant numbers = of_back (turned meant) numbers

-- the running value at each number
abbrev pub running : (ℤ → ℤ → Result ℤ Fault) → List ℤ → List (Option ℤ)
running meant numbers = map (λ n. onward meant (take (n + 1) numbers)) (range_with_len 0 (length numbers))

-- no sum of some of the numbers is further from 0
abbrev pub magnitudes : List ℤ → ℕ
magnitudes numbers = sum_by unsigned_abs numbers
