-- Parts of a list, one after another.
use Rattle.std.proofs.Common.{◌≡◌, ℕ, ◌+◌, ◌<◌, ◌≤◌, min, List, [], ◌∷◌, length, take, drop, ◌++◌, Some, sym, subst, refl, arith}
use Rattle.std.proofs.lemmas.List.{take-append-drop, drop-drop}

-- what is left begins with what is given next
pub next_part : (bytes : List ℕ) (at n : ℕ) → drop at bytes ≡ take n (drop at bytes) ++ drop (at + n) bytes
next_part bytes at n = let P : List ℕ → Type 0 = λ rest. drop at bytes ≡ take n (drop at bytes) ++ rest in subst P (drop-drop n at bytes) (sym (take-append-drop n (drop at bytes)))

-- where no byte was copied, though there was room and leave for one, none is left
pub nothing_left : (left : List ℕ) (room most count : ℕ) → count ≡ min (min (length left) room) most → 0 < room → 1 ≤ most → count ≡ 0 → left ≡ []
nothing_left [] room most count is some leave none = refl
nothing_left (byte ∷ left) room most count is some leave none = absurd (omega (arith, is, some, leave, none))

-- the same, of the front that was lent
pub kept_left : (left front : List ℕ) → Some left ≡ Some front → front ≡ [] → left ≡ []
kept_left left front is none = cc
