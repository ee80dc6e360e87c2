-- When what a pass was told was so: between two histories of the session, whose newest entries stand in front.
use Rattle.std.specs.Prelude.{◌≡◌, ◌⊎◌, ◌<◌, ℕ, List, [], ◌∷◌, ◌++◌, length, Bool, true, false, if◌then◌else◌, Some, None}
use Rattle.juses.specs.Activities.{without}
use Rattle.juses.specs.Desk.{State, reply, waiting_work, has_unended}
use Rattle.juses.specs.Due.{due_task}
use Rattle.juses.specs.Entries.{entry}
use Rattle.juses.specs.Histories.{after, Once}
use Rattle.juses.specs.Keys.{Threads}
use Rattle.juses.specs.Told.{Told, Replied, Handed, NoneDue}
use Rattle.juses.specs.declared.uses.Entry.{Entry}
use Rattle.juses.specs.declared.uses.Use.{Use}
use Rattle.juses.specs.declared.uses.Use.TheVariants.{Begin, End}
use Rattle.juses.specs.declared.uses.Reply.TheVariants.{Done}
use Rattle.juses.specs.declared.uses.Why.{Why}
use Rattle.juses.specs.declared.uses.Why.TheVariants.{Started, Opening, Working, Ending}
use Rattle.juses.specs.declared.uses.Work.{Work}

-- the entries of what was told, the oldest in front
abbrev pub made : List Told → List Entry
made [] = []
made (Replied e ∷ xs) = e ∷ made xs
made (Handed why task thread work ∷ xs) = entry task thread Begin Done ∷ made xs
made (NoneDue why ∷ xs) = made xs

-- ---- helping

-- so many tasks that were to be opened a pass runs at most, one inside another
abbrev pub most_helped : ℕ
most_helped = 8

abbrev pub is_end : Use → Bool
is_end (End outcome) = true
is_end _ = false

abbrev pub is_opening : Why → Bool
is_opening (Opening pyx) = true
is_opening (Started pyx) = false
is_opening (Working thread) = false
is_opening Ending = false

-- the tasks that a pass helps, the first in front: it helps one from where it is handed out before its opening, up to
-- its End
abbrev pub helped_by : List (List ℕ) → Told → List (List ℕ)
helped_by helped (Replied e) = if is_end e.asked then without e.who helped else helped
helped_by helped (Handed (Opening pyx) task thread work) = helped ++ task ∷ []
helped_by helped (Handed (Started pyx) task thread work) = helped
helped_by helped (Handed (Working number) task thread work) = helped
helped_by helped (Handed Ending task thread work) = helped
helped_by helped (NoneDue why) = helped

abbrev pub helped_after : List (List ℕ) → List Told → List (List ℕ)
helped_after helped [] = helped
helped_after helped (x ∷ xs) = helped_after (helped_by helped x) xs

abbrev pub MayHelp : List (List ℕ) → Why → Type 0
MayHelp helped (Opening pyx) = length helped < most_helped
MayHelp helped (Started pyx) = Unit {0}
MayHelp helped (Working thread) = Unit {0}
MayHelp helped Ending = Unit {0}

abbrev pub HelpsAll : List (List ℕ) → Why → Type 0
HelpsAll helped (Opening pyx) = length helped ≡ most_helped
HelpsAll helped (Started pyx) = ⊥
HelpsAll helped (Working thread) = ⊥
HelpsAll helped Ending = ⊥

-- ---- what was so

-- a use was made on the thread, and replied to as the desk does there
abbrev pub IsReplied : ℕ → State → Entry → Type 0
IsReplied thread s e = (e.thread ≡ thread) × (reply s e.who thread e.asked ≡ Some e.reply)

-- a task was handed out: the one that was due, with the work of its start, and no more were helped than may be
abbrev pub IsHanded : ℕ → State → List (List ℕ) → Why → List ℕ → ℕ → Work → Type 0
IsHanded thread s helped why task on work =
    (on ≡ thread) × (due_task s.phase s.tasks (s.at Threads) why ≡ Some task) × (waiting_work (s.phase task) ≡ Some work) × MayHelp helped why

-- at the end each started task has ended
abbrev pub HasEnded : State → Why → Type 0
HasEnded s Ending = has_unended s.phase s.tasks ≡ false
HasEnded s (Started pyx) = Unit {0}
HasEnded s (Opening pyx) = Unit {0}
HasEnded s (Working thread) = Unit {0}

-- no task was due; or, before an opening, as many were helped as may be
abbrev pub IsNoneDue : State → List (List ℕ) → Why → Type 0
IsNoneDue s helped why = ((due_task s.phase s.tasks (s.at Threads) why ≡ None) × HasEnded s why) ⊎ HelpsAll helped why

-- What a pass on this thread was told, after the history `from` and before `to`. Each entry was made at one of these
-- positions, in this order. Each reply, each task that was handed out and each answer that none was due was so after
-- the history that there was then; at first these tasks were helped.
module _ (workers thread : ℕ) where
  abbrev pub Timed : List Entry → List (List ℕ) → List Told → List ℕ → List Entry → Type 0
  Timed from helped [] places to = (places ≡ []) × Once from to
  Timed from helped (Replied e ∷ xs) places to =
      (h : List Entry) × (rest : List ℕ) × (places ≡ length h ∷ rest) × Once from h × IsReplied thread (after workers h) e
      × Timed (e ∷ h) (helped_by helped (Replied e)) xs rest to
  Timed from helped (Handed why task on work ∷ xs) places to =
      (h : List Entry) × (rest : List ℕ) × (places ≡ length h ∷ rest) × Once from h × IsHanded thread (after workers h) helped why task on work
      × Timed (entry task on Begin Done ∷ h) (helped_by helped (Handed why task on work)) xs rest to
  Timed from helped (NoneDue why ∷ xs) places to =
      (h : List Entry) × Once from h × IsNoneDue (after workers h) helped why × Timed h helped xs places to
