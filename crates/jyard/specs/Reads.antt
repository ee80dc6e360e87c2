-- What the calls of a yard leave behind: the entries of their own steps, in the seats of the pass and of the hold. A seat's entries are just those that its block's log has of it, so what a call says that it read or wrote stands in that log.
use Rattle.std.specs.Prelude.{◌≡◌, ◌≢◌, ℕ, zero, suc, ◌+◌, ◌-◌, ◌%◌, ◌<◌, ◌≤◌, List, [], ◌∷◌, ◌++◌, length, Result, Ok, Err, Option, Some, None}
use Rattle.jyard.specs.Counts.{most}
use Rattle.jyard.specs.Logs.{Entry, entry, taking, looking, sharing, leaving, clearing}
use Rattle.jyard.specs.Taken.{HasTaken, one_step}
use Rattle.jyard.specs.Units.{BlockId, Spent, id_at}
use Rattle.jyard.specs.declared.hold.Hold.{Hold}
use Rattle.jyard.specs.declared.hold.NoShare.{NoShare}
use Rattle.jyard.specs.declared.hold.NoShare.TheVariants.{Many, Moved}

-- one more take found its block taken, and left the word as it was
pub record ReadTaken (before after : List Spent) (z : BlockId) : Type 0 where
  pub word : ℕ
  pub taken : 1 ≤ word
  pub seat : ℕ
  pub read : after ≡ before ++ one_step z (entry taking seat word word (seat + 1)) ∷ []

-- of a yard's blocks the one that comes k after number start, where number 0 comes after the last
abbrev pub round_from : List BlockId → ℕ → ℕ → BlockId
round_from ids start k = id_at ids ((start + k) % length ids)

-- the words of k blocks, from number start on, were read, each of them once and as 1 or more
unfoldable pub EachTaken : List BlockId → ℕ → ℕ → List Spent → List Spent → Type 0
EachTaken ids start zero before after = after ≡ before
EachTaken ids start (suc k) before after = (mid : List Spent) × EachTaken ids start k before mid × ReadTaken mid after (round_from ids start k)

-- the same of each of the yard's words
abbrev pub AllTaken : List BlockId → ℕ → List Spent → List Spent → Type 0
AllTaken ids start before after = EachTaken ids start (length ids) before after

-- the blocks from number start on were read as taken, and after them number b was found free and taken, for this seat
pub record FoundFree (ids : List BlockId) (start b seat : ℕ) (before after : List Spent) : Type 0 where
  pub passed : ℕ
  pub fewer : passed < length ids
  pub is_next : b ≡ (start + passed) % length ids
  pub mid : List Spent
  pub taken : EachTaken ids start passed before mid
  pub free : HasTaken mid after (id_at ids b) 0 seat

-- Shared: the word was found twice as the same number below the largest, and left as the next one, for the new hold's seat. Many: it was found as the largest. Moved: it was found, and then another, which was left as it was
abbrev pub SharedBy : {T : Type 0} → Result (Hold T) NoShare → (seat : ℕ) → List Entry → List Entry → Type 0
SharedBy (Ok h) i before after = (n : ℕ) × (2 ≤ n) × (n < most) × (after ≡ (before ++ entry looking i n n 0 ∷ []) ++ entry sharing i n (n + 1) h.seat.seat ∷ [])
SharedBy (Err (Many count)) i before after = (count + 1 ≡ most) × (after ≡ before ++ entry looking i most most 0 ∷ [])
SharedBy (Err (Moved expected found)) i before after =
    (2 ≤ expected) × (expected < most) × (2 ≤ found) × (found ≢ expected) × ((j : ℕ) × (after ≡ (before ++ entry looking i expected expected 0 ∷ []) ++ entry sharing i found found j ∷ []))

-- The unit was the last one where 2 was found: the hold emptied the block, and then freed it. Otherwise n was found, and n - 1 left
abbrev pub LeftBy : {V : Type 0} → Option V → (z : BlockId) (seat : ℕ) → List Entry → List Spent → List Spent → Type 0
LeftBy (Some v) z i steps before after = after ≡ before ++ record { id = z; seat = i; steps = (steps ++ entry leaving i 2 1 0 ∷ []) ++ entry clearing i 1 0 0 ∷ [] } ∷ []
LeftBy None z i steps before after = (n : ℕ) × (2 < n) × (n ≤ most) × (after ≡ before ++ record { id = z; seat = i; steps = steps ++ entry leaving i n (n - 1) 0 ∷ [] } ∷ [])
