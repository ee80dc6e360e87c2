-- An array's items in a greater shape of the same rank, with a filler at each index that the array lacks.
use Rattle.std.specs.Prelude.{◌≡◌, ℕ, ◌≤◌, ◌⊎◌, List, [], ◌∷◌, length, map}
use Rattle.std.specs.List.{range_with_len}
use Rattle.jdata.specs.Fills.{fill_of}
use Rattle.jdata.specs.Indexes.{index_at, at_or}
use Rattle.jdata.specs.Noun.{shape, kind, atoms, product}
use Rattle.jdata.specs.declared.noun.Noun.{Noun}
use Rattle.jdata.specs.declared.noun.Kind.{Kind}
use Rattle.jdata.specs.declared.noun.Atom.{Atom}
use Rattle.jframe.specs.Assembly.{raised}

-- of as many axes, and none of them longer
abbrev pub FitsIn : List ℕ → List ℕ → Type 0
FitsIn [] [] = Unit {0}
FitsIn (m ∷ ms) (n ∷ ns) = (m ≤ n) × FitsIn ms ns
FitsIn part whole = ⊥

unfoldable pub spread : {A : Type 0} → A → List ℕ → List ℕ → List A → List A
spread filler whole part items = map (λ place. at_or filler part items (index_at whole place)) (range_with_len 0 (product whole))

-- a noun that can be put in a shape among atoms of a kind: it is of the kind or has no atoms
pub record Joins (k : Kind) (whole : List ℕ) (v : Noun) : Type 0 where
  pub fits : FitsIn (raised (length whole) (shape v)) whole
  pub of_kind : (kind v ≡ k) ⊎ (atoms v ≡ [])

-- its atoms in the shape, with the fill of the kind
abbrev pub joined : Kind → List ℕ → Noun → List Atom
joined k whole v = spread (fill_of k) whole (raised (length whole) (shape v)) (atoms v)
