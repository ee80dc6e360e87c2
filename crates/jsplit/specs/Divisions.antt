-- How many pieces a list of n items is divided into, and which items each has: the first, and how many (NuVoc "\" and "\.").
use Rattle.std.specs.Prelude.{ℕ, suc, ◌+◌, ◌-◌, ◌*◌, ◌/◌, ◌<◌, ◌≤◌, ◌^◌, min, ℤ, pos, negsuc, List, map}
use Rattle.std.specs.List.{range_with_len}
use Rattle.jcut.specs.declared.run.Run.{Run}
use Rattle.jsplit.specs.declared.division.Division.{Division}
use Rattle.jsplit.specs.declared.division.Division.TheVariants as division

-- a number that isn't negative asks for windows of so many items, a negative one for blocks
abbrev pub division_of : ℤ → Division
division_of (pos w) = division.Windows w
division_of (negsuc b) = division.Blocks (suc b)

-- a window begins at each item from which on there are enough, and the last block may be shorter
abbrev pub how_many : Division → ℕ → ℕ
how_many division.Prefixes n = n
how_many division.Suffixes n = n
how_many (division.Windows w) n = n + 1 - w
how_many (division.Blocks b) n = (n + (b - 1)) / b

abbrev pub run_from : ℕ → ℕ → Run
run_from start count = record { start = start; count = count }

-- piece i
abbrev pub run_of : Division → ℕ → ℕ → Run
run_of division.Prefixes n i = run_from 0 (i + 1)
run_of division.Suffixes n i = run_from i (n - i)
run_of (division.Windows w) n i = run_from i w
run_of (division.Blocks b) n i = run_from (i * b) (min b (n - i * b))

unfoldable pub runs : Division → ℕ → List Run
runs d n = map (run_of d n) (range_with_len 0 (how_many d n))

-- blocks have an item or more
abbrev pub IsSound : Division → Type 0
IsSound (division.Blocks b) = (0 < b) × (b ≤ 2 ^ 63)
IsSound other = Unit {0}
