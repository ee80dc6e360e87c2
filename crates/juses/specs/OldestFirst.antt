-- What is told, the oldest in front, and how it becomes a history.
use Rattle.std.specs.Prelude.{◌≡◌, ℕ, false, List, [], ◌∷◌, ◌++◌, Some, None}
use Rattle.juses.specs.Desk.{State, reply, moved, bytes_of, waiting_work, pyx_work, has_unended}
use Rattle.juses.specs.Entries.{entry, pyx_of}
use Rattle.juses.specs.Told.{Told, Replied, Handed, NoneDue}
use Rattle.juses.specs.declared.uses.Entry.{Entry}
use Rattle.juses.specs.declared.uses.Use.TheVariants.{Begin}
use Rattle.juses.specs.declared.uses.Reply.TheVariants.{Done}
use Rattle.juses.specs.declared.uses.Why.TheVariants.{Started, Opening, Working, Ending}

-- the state after what is told
abbrev pub moved_by : State → Told → State
moved_by s (Replied e) = moved s e
moved_by s (Handed why task thread work) = moved s (entry task thread Begin Done)
moved_by s (NoneDue why) = s

abbrev pub taken : State → List Told → State
taken s [] = s
taken s (x ∷ xs) = taken (moved_by s x) xs

-- what is told where all is done on this thread: each reply is the desk's; a task that was just started is handed out
-- with its work, if it waits, and no other task is; and main hears that none is due where each started task has ended
abbrev pub TellsOne : ℕ → State → Told → Type 0
TellsOne thread s (Replied e) = (e.thread ≡ thread) × (reply s e.who e.thread e.asked ≡ Some e.reply)
TellsOne thread s (Handed (Started pyx) task own work) = (own ≡ thread) × (pyx ≡ pyx_of task) × (waiting_work (s.phase task) ≡ Some work)
TellsOne thread s (Handed (Opening pyx) task own work) = ⊥
TellsOne thread s (Handed (Working number) task own work) = ⊥
TellsOne thread s (Handed Ending task own work) = ⊥
TellsOne thread s (NoneDue (Started pyx)) = pyx_work pyx.number (s.phase pyx.path) ≡ None
TellsOne thread s (NoneDue (Opening pyx)) = Unit {0}
TellsOne thread s (NoneDue (Working number)) = Unit {0}
TellsOne thread s (NoneDue Ending) = has_unended s.phase s.tasks ≡ false

abbrev pub Tells : ℕ → State → List Told → Type 0
Tells thread s [] = Unit {0}
Tells thread s (x ∷ xs) = TellsOne thread s x × Tells thread (moved_by s x) xs

-- the bytes that are printed, in order
abbrev pub written : List Told → List ℕ
written [] = []
written (Replied e ∷ xs) = bytes_of e.asked ++ written xs
written (Handed why task thread work ∷ xs) = written xs
written (NoneDue why ∷ xs) = written xs

-- the entries, one after another, put on a history
abbrev pub onto : List Told → List Entry → List Entry
onto [] h = h
onto (Replied e ∷ xs) h = onto xs (e ∷ h)
onto (Handed why task thread work ∷ xs) h = onto xs (entry task thread Begin Done ∷ h)
onto (NoneDue why ∷ xs) h = onto xs h

-- the entries as a history
abbrev pub history : List Told → List Entry
history xs = onto xs []
