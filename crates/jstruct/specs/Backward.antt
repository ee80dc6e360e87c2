-- Ranges of a list, the last first.
use Rattle.std.specs.Prelude.{ℕ, suc, ◌-◌, ◌*◌, List, take, drop}
use Rattle.std.specs.List.{range_with_len, flat_map}

unfoldable pub backward : {A : Type 0} → ℕ → ℕ → List A → List A
backward count size l = flat_map (λ i. take size (drop ((count - suc i) * size) l)) (range_with_len 0 count)
