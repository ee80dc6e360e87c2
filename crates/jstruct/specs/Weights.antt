-- Places by weights: the place of an index is the sum of its numbers, each times the weight of its axis.
use Rattle.std.specs.Prelude.{ℕ, ◌+◌, ◌*◌, List, [], ◌∷◌, map, get_or}
use Rattle.std.specs.List.{range_with_len}
use Rattle.jdata.specs.Indexes.{index_at}
use Rattle.jdata.specs.Noun.{product}

-- how far apart two neighbours along each axis are in ravel order
abbrev pub weights_of : List ℕ → List ℕ
weights_of [] = []
weights_of (n ∷ ns) = product ns ∷ weights_of ns

abbrev pub weighed : List ℕ → List ℕ → ℕ
weighed (w ∷ ws) (i ∷ is) = i * w + weighed ws is
weighed ws is = 0

-- the items at the places of all the indexes of these axes, from a place on
unfoldable pub picked : {A : Type 0} → A → List ℕ → List ℕ → ℕ → List A → List A
picked f ns ws s items = map (λ p. get_or items (s + weighed ws (index_at ns p)) f) (range_with_len 0 (product ns))
