-- What a share by a hold that keeps its yard adds to its steps.
use Rattle.std.specs.Prelude.{◌≡◌, ℕ, ◌+◌, ◌<◌, ◌≤◌, List, [], ◌∷◌, ◌++◌, Result, Ok, Err}
use Rattle.jyard.specs.Counts.{most}
use Rattle.jyard.specs.Keeping.{Keeping}
use Rattle.jyard.specs.Logs.{Entry, entry, looking, sharing}
use Rattle.jyard.specs.Reads.{SharedBy}
use Rattle.jyard.specs.declared.hold.NotShared.{NotShared}
use Rattle.jyard.specs.declared.hold.NotShared.TheVariants.{NoMemory, Refused}

-- as of any hold; where the yard had no room for another owner, no word was touched
abbrev pub SharedKept : {T : Type 0} → Result (Keeping T) NotShared → (seat : ℕ) → List Entry → List Entry → Type 0
SharedKept (Ok k) i before after = (n : ℕ) × (2 ≤ n) × (n < most) × (after ≡ (before ++ entry looking i n n 0 ∷ []) ++ entry sharing i n (n + 1) k.seat ∷ [])
SharedKept (Err NoMemory) i before after = after ≡ before
SharedKept {T} (Err (Refused why)) i before after = SharedBy {T = T} (Err why) i before after
