-- Quiet scripts: those whose one-thread run shows that no task and nobody beside it get into each other's way. The keys
-- are those of the desk: each name in each locale, the names of each locale, the locales, each pyx that is set by hand,
-- each mutex, and the threads. The pyx of a task is none of them.
use Rattle.std.specs.Prelude.{◌≡◌, ◌≢◌, ℕ, List, ◌∷◌, true, Some}
use Rattle.juses.specs.Activities.{Complete}
use Rattle.juses.specs.Desk.{depends_on}
use Rattle.juses.specs.Entries.{started_by}
use Rattle.juses.specs.Histories.{Once, after}
use Rattle.juses.specs.Keys.{Key, is_among, changed_by}
use Rattle.juses.specs.Program.{Program}
use Rattle.juses.specs.Wishes.{Wish}
use Rattle.juses.specs.declared.uses.Ended.{Ended}
use Rattle.juses.specs.declared.uses.Entry.{Entry}
use Rattle.juses.specs.declared.uses.Use.{Use}
use Rattle.juses.specs.declared.uses.Use.TheVariants.{Start, Print, PoolState, Current}
use Rattle.juses.specs.declared.uses.Reply.{Reply}
use Rattle.juses.specs.declared.uses.Reply.TheVariants.{Refused}
use Rattle.juses.specs.declared.uses.Work.{Work}

-- the entry starts the task
abbrev pub Starts : Entry → List ℕ → Type 0
Starts e task = started_by e.asked e.reply ≡ Some task

-- a Start that isn't refused, or another use
abbrev pub IsGranted : Use → Reply → Type 0
IsGranted (Start pool work) (Refused fault) = ⊥
IsGranted _ _ = Unit {0}

-- no task prints or asks for its thread, and nobody asks for the state of a pool
abbrev pub IsSilent : List ℕ → Use → Type 0
IsSilent who (PoolState pool) = ⊥
IsSilent (k ∷ path) (Print bytes) = ⊥
IsSilent (k ∷ path) Current = ⊥
IsSilent _ _ = Unit {0}

-- the reply to the entry's use, made after these entries, depends on what stands at the key
abbrev pub DependsOn : ℕ → Entry → List Entry → Key → Type 0
DependsOn workers e h k = is_among (depends_on (after workers h) e.asked) k ≡ true

abbrev pub Changes : Entry → Key → Type 0
Changes e k = changed_by e k ≡ true

-- of two entries, made after these, neither changes what the other depends on
pub record AreApart (workers : ℕ) (e : Entry) (h : List Entry) (f : Entry) (g : List Entry) : Type 0 where
  pub undisturbed : (k : Key) → DependsOn workers e h k → Changes f k → ⊥
  pub unseen : (k : Key) → DependsOn workers f g k → Changes e k → ⊥

module _ {A : Type 0} (meaning : Work → Program Wish Reply Ended) (script : Program Wish Reply A) where
  -- The run is complete, and no Start in it is refused. No task prints or asks for its thread, and nobody asks for the
  -- state of a pool. What others do after the start of a task changes nothing that a use of the task depends on, and
  -- depends on nothing that one changes.
  pub record Quiet (workers : ℕ) (r : List Entry) : Type 0 where
    pub complete : Complete meaning script r
    pub granted : (e : Entry) (p : List Entry) → Once (e ∷ p) r → IsGranted e.asked e.reply
    pub silent : (e : Entry) (p : List Entry) → Once (e ∷ p) r → IsSilent e.who e.asked
    pub apart : (start e f : Entry) (h p q : List Entry) (task : List ℕ) → Starts start task → Once (e ∷ p) r → e.who ≡ task → Once (f ∷ q) r → f.who ≢ task → Once (start ∷ h) q → AreApart workers e p f q
