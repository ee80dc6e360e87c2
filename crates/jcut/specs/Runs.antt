-- Items that stand together, and the items of an array outside them.
use Rattle.std.specs.Prelude.{ℕ, ◌+◌, ◌-◌, ◌≤◌, List, ◌++◌}
use Rattle.std.specs.List.{range_with_len}
use Rattle.jcut.specs.declared.run.Run.{Run}

-- the places from one up to before another: none, where the other isn't behind it
abbrev pub between : ℕ → ℕ → List ℕ
between a b = range_with_len a (b - a)

abbrev pub run_places : Run → List ℕ
run_places r = range_with_len r.start r.count

-- among n places, those before a run and those behind it
abbrev pub outside : ℕ → Run → List ℕ
outside n r = range_with_len 0 r.start ++ between (r.start + r.count) n

-- a run within n places
abbrev pub Fits : ℕ → Run → Type 0
Fits n r = r.start + r.count ≤ n
