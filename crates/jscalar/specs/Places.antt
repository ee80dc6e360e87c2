-- What is at the first places of a list, each by itself, or the first fault.
use Rattle.std.specs.Prelude.{ℕ, ℤ, Result, List, map}
use Rattle.std.specs.List.{range_with_len}
use Rattle.jdata.specs.Firsts.{all_or_first}
use Rattle.jdata.specs.declared.fault.Fault.{Fault}

-- what is at so many places, from the first on
unfoldable pub by_place : (ℕ → Result ℤ Fault) → ℕ → Result (List ℤ) Fault
by_place at count = all_or_first (map at (range_with_len 0 count))
