-- Places of an array with n items, no more than there are items.
use Rattle.std.specs.Prelude.{ℕ, ◌<◌, ◌≤◌, List, length}
use Rattle.std.specs.List.{All}

pub record Picks (n : ℕ) (places : List ℕ) : Type 0 where
  pub within : All (λ p. p < n) places
  pub few : length places ≤ n
