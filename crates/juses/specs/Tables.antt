-- Tables with keys that are lists of numbers, and what makers have made, numbered from 1 on.
use Rattle.std.specs.Prelude.{ℕ, zero, suc, List, [], ◌∷◌, map, Option, None, slice_get, unwrap_or}
use Rattle.std.specs.BTreeMap.{insert_entry}
use Rattle.std.specs.Cmp.Lexicographic.{slice_cmp}
use Rattle.std.specs.Map.{lookup}
use Rattle.std.specs.Ordering.{nat_cmp}
use Rattle.juses.specs.Keys.{same}

-- the entries, with the items in place of each key's buffer
abbrev pub by_items : {K X : Type 0} → (K → List ℕ) → List (K × X) → List (List ℕ × X)
by_items items es = map (λ e. (items e.0, e.1)) es

-- the list at a key; none where there is no such key
abbrev pub made_in : {X : Type 0} → List (List ℕ × List X) → List ℕ → List X
made_in l maker = unwrap_or (lookup (same maker) l) []

abbrev pub with_made : {X : Type 0} → List (List ℕ × List X) → List ℕ → List X → List (List ℕ × List X)
with_made l maker made = insert_entry (slice_cmp nat_cmp) l maker made

-- the one with this number, where the first has the number 1
abbrev pub numbered : {X : Type 0} → List X → ℕ → Option X
numbered made zero = None
numbered made (suc n) = slice_get made n

-- the maker and the number that the path of a task has
abbrev pub front : List ℕ → List ℕ
front [] = []
front (n ∷ []) = []
front (n ∷ m ∷ l) = n ∷ front (m ∷ l)

abbrev pub last_number : List ℕ → ℕ
last_number [] = 0
last_number (n ∷ []) = n
last_number (n ∷ m ∷ l) = last_number (m ∷ l)
