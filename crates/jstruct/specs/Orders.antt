-- Orders of axes: each stands once, and is an axis.
use Rattle.std.specs.Prelude.{◌≡◌, ℕ, ◌<◌, suc, false, List, [], ◌∷◌, drop}
use Rattle.jdata.specs.Noun.{product}
use Rattle.jstruct.specs.Axes.{is_among}

abbrev pub IsOrder : ℕ → List ℕ → Type 0
IsOrder n [] = Unit {0}
IsOrder n (p ∷ ps) = (is_among ps p ≡ false) × (p < n) × IsOrder n ps

-- how far apart two neighbours along an axis are in ravel order
abbrev pub weight_of : List ℕ → ℕ → ℕ
weight_of axes a = product (drop (suc a) axes)
