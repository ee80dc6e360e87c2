-- How the numbers along changed axes are laid: in up to two stretches, each of numbers of the old axis that stand together.
-- A stretch that begins at the end of the axis is of fills.
use Rattle.std.specs.Prelude.{ℕ, ◌+◌, ◌-◌, ◌*◌, ◌<◌, ◌≤◌, ◌≡◌, ◌⊎◌, nat_lt, ℤ, if◌then◌else◌, List, [], ◌∷◌, map, drop, replicate}
use Rattle.std.specs.List.{range_with_len, flat_map}
use Rattle.jdata.specs.Indexes.{index_at, at_or}
use Rattle.jdata.specs.Noun.{product}
use Rattle.jstruct.specs.Laying.{length_after, number_before}
use Rattle.jstruct.specs.declared.change.Change.{Change}
use Rattle.jstruct.specs.declared.change.Stretch.{Stretch}
use Rattle.jstruct.specs.declared.change.Layout.{Layout}

-- the stretch lies within an axis of n numbers, or beyond it
abbrev pub Lies : Stretch → ℕ → Type 0
Lies s n = (s.start + s.count ≤ n) ⊎ (n ≤ s.start)

abbrev pub laid_length : Layout → ℕ
laid_length l = l.first.count + l.second.count

-- the number of the old axis
abbrev pub number_at : Layout → ℕ → ℕ
number_at l i = if nat_lt i l.first.count then l.first.start + i else l.second.start + (i - l.first.count)

-- an axis of so many numbers from a on, and then so many from b on
abbrev pub two_stretches : ℕ → ℕ → ℕ → ℕ → Layout
two_stretches a m b n = record { first = record { start = a; count = m }; second = record { start = b; count = n } }

pub record IsLayout (c : Change) (x : ℤ) (n : ℕ) (l : Layout) : Type 0 where
  pub long : laid_length l ≡ length_after c x n
  pub numbers : (i : ℕ) → i < laid_length l → number_at l i ≡ number_before c x n i
  pub first : Lies l.first n
  pub second : Lies l.second n

-- a layout for each number
abbrev pub ArePlanned : Change → List ℤ → List ℕ → List Layout → Type 0
ArePlanned c [] ns [] = Unit {0}
ArePlanned c (x ∷ xs) (n ∷ ns) (l ∷ ls) = IsLayout c x n l × ArePlanned c xs ns ls
ArePlanned c xs ns ls = ⊥

-- each layout lies on its axis
abbrev pub AllLie : List Layout → List ℕ → Type 0
AllLie [] ns = Unit {0}
AllLie (l ∷ ls) (n ∷ ns) = (Lies l.first n × Lies l.second n) × AllLie ls ns
AllLie ls ns = ⊥

abbrev pub laid_axes : List Layout → List ℕ → List ℕ
laid_axes (l ∷ ls) (n ∷ ns) = laid_length l ∷ laid_axes ls ns
laid_axes ls ns = ns

abbrev pub laid_index : List Layout → List ℕ → List ℕ
laid_index (l ∷ ls) (i ∷ is) = number_at l i ∷ laid_index ls is
laid_index ls is = is

-- the items of an array in these axes, laid anew
unfoldable pub laid : {A : Type 0} → A → List Layout → List ℕ → List A → List A
laid f ls ns items = map (λ p. at_or f ns items (laid_index ls (index_at (laid_axes ls ns) p))) (range_with_len 0 (product (laid_axes ls ns)))

-- what stands at number s of the first of the axes, laid anew
unfoldable pub laid_row : {A : Type 0} → A → List Layout → ℕ → List ℕ → List A → ℕ → List A
laid_row f ls n ns items s = if nat_lt s n then laid f ls ns (drop (s * product ns) items) else replicate (product (laid_axes ls ns)) f

-- what stands along a stretch of the first axis
abbrev pub stretch_laid : {A : Type 0} → A → Stretch → List Layout → List ℕ → List A → List A
stretch_laid f s (l ∷ ls) (n ∷ ns) items = flat_map (laid_row f ls n ns items) (range_with_len s.start s.count)
stretch_laid f s ls ns items = []
