-- Indexes and places (J Dictionary, "Nouns"): an atom is named by its index, one number for each axis, or by its place in
-- ravel order, in which the last number of the index runs fastest.
use Rattle.std.specs.Prelude.{ℕ, ◌+◌, ◌*◌, ◌/◌, ◌%◌, nat_lt, ◌&&◌, Bool, true, false, if◌then◌else◌, List, [], ◌∷◌, get_or}
use Rattle.jdata.specs.Noun.{product}

-- the index at a place of an array of this shape
abbrev pub index_at : List ℕ → ℕ → List ℕ
index_at [] place = []
index_at (n ∷ ns) place = place / product ns ∷ index_at ns (place % product ns)

-- the place of an index
abbrev pub place_at : List ℕ → List ℕ → ℕ
place_at (n ∷ ns) (i ∷ is) = i * product ns + place_at ns is
place_at axes index = 0

-- whether an array of this shape has the index
abbrev pub has_index : List ℕ → List ℕ → Bool
has_index [] [] = true
has_index (n ∷ ns) (i ∷ is) = nat_lt i n && has_index ns is
has_index axes index = false

-- of the items of an array of this shape the one at the index, or the filler where there is no such index
abbrev pub at_or : {A : Type 0} → A → List ℕ → List A → List ℕ → A
at_or filler axes items index = if has_index axes index then get_or items (place_at axes index) filler else filler
