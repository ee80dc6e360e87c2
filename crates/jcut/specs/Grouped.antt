-- Numbers, and the places where they stand among others.
use Rattle.std.specs.Prelude.{ℕ, ◌==◌, List, filter, get_or}
use Rattle.std.specs.List.{range_with_len}

-- of the first n places those where a number stands
abbrev pub places_with : List ℕ → ℕ → ℕ → List ℕ
places_with numbers n number = filter (λ j. number == get_or numbers j 0) (range_with_len 0 n)

-- of the first n places those of the numbers that stand in their own place
abbrev pub own_places : List ℕ → ℕ → List ℕ
own_places numbers n = filter (λ i. get_or numbers i 0 == i) (range_with_len 0 n)
