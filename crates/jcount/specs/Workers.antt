-- A worker's pass.
use Rattle.std.specs.Prelude.{◌≡◌, ℕ, List}
use Rattle.jturn.specs.Pass.{Pass, Terms, entries}

-- it is of this turn, has one part, and has made these entries
abbrev pub IsWorker : Terms → List ℕ → Pass ℕ → Type 0
IsWorker terms made pass = (pass.turn ≡ terms.name) × (pass.parts ≡ 1) × (entries pass ≡ made)
