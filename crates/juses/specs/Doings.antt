-- What an activity did between two states of its `Uses`: its own entries, and between them whole tasks that it ran; and
-- how it came to an answer or a halt.
use Rattle.std.specs.Prelude.{◌≡◌, ◌⊎◌, ℕ, List, [], ◌∷◌, ◌++◌, Option, Some, None, Result, Ok, Err}
use Rattle.juses.specs.Entries.{pyx_of, started_by}
use Rattle.juses.specs.Program.{Program, Return, Ask}
use Rattle.juses.specs.Told.{Told, Replied, Handed, NoneDue, Passed, IsDue, closing_at}
use Rattle.juses.specs.Wishes.{Wish, use_of}
use Rattle.juses.specs.declared.uses.Cause.{Cause}
use Rattle.juses.specs.declared.uses.Cause.TheVariants as cause
use Rattle.juses.specs.declared.uses.Ended.{Ended}
use Rattle.juses.specs.declared.uses.Entry.{Entry}
use Rattle.juses.specs.declared.uses.Halt.{Halt}
use Rattle.juses.specs.declared.uses.Halt.TheVariants.{Wait, NoMemory, Closed}
use Rattle.juses.specs.declared.uses.Reply.{Reply}
use Rattle.juses.specs.declared.uses.Use.{Use}
use Rattle.juses.specs.declared.uses.Use.TheVariants.{End}
use Rattle.juses.specs.declared.uses.Why.{Why}
use Rattle.juses.specs.declared.uses.Why.TheVariants.{Started, Opening, Working, Ending}
use Rattle.juses.specs.declared.uses.Work.{Work}

pub data Doings : Type 0 where
  NoMore : Doings
  -- an entry of its own
  Did : Entry → Doings → Doings
  -- a task that was handed out on the thread, with its work; what it did; its End; and what was done afterwards
  Ran : Why → List ℕ → ℕ → Work → Doings → Entry → Doings → Doings
  -- a task that was handed out, and halted before its End
  Broke : Why → List ℕ → ℕ → Work → Doings → Doings
  -- a task was asked for, and none was due
  Asked : Why → Doings → Doings
  -- a task was asked for, and that was refused
  Delayed : Why → Doings

-- as its `Uses` tell it, the oldest in front
abbrev pub told : Doings → List Told
told NoMore = []
told (Did e rest) = Replied e ∷ told rest
told (Ran why task thread work inside end rest) = Handed why task thread work ∷ told inside ++ Replied end ∷ told rest
told (Broke why task thread work inside) = Handed why task thread work ∷ told inside
told (Asked why rest) = NoneDue why ∷ told rest
told (Delayed why) = []

-- A task that was just started is asked for at once, and no other is then. Before an opening, and by a worker, one may be
-- asked for whenever none was just started; and by main alone so that nothing is left.
abbrev pub MayAsk : Option (List ℕ) → List ℕ → Why → Type 0
MayAsk None who (Started pyx) = ⊥
MayAsk None who (Opening pyx) = Unit {0}
MayAsk None who (Working thread) = Unit {0}
MayAsk None who Ending = who ≡ []
MayAsk (Some started) who (Started pyx) = pyx ≡ pyx_of started
MayAsk (Some started) who (Opening pyx) = ⊥
MayAsk (Some started) who (Working thread) = ⊥
MayAsk (Some started) who Ending = ⊥

-- what each work does, and what is refused to whom, and how, at the end
module _ (meaning : Work → Program Wish Reply Ended) (refuses : List ℕ → Use → Halt → Type 0) (delays : Why → Halt → Type 0) where
  -- why there is no answer: the next use is refused so, or there was no memory
  abbrev pub HaltsAt : {A : Type 0} → Halt → List ℕ → Program Wish Reply A → Type 0
  HaltsAt NoMemory who p = Unit {0}
  HaltsAt Wait who (Return a) = ⊥
  HaltsAt Wait who (Ask q k) = refuses who (use_of q) Wait
  HaltsAt (Closed cause) who (Return a) = ⊥
  HaltsAt (Closed cause) who (Ask q k) = refuses who (use_of q) (Closed cause)

  -- the same at the End of a task
  abbrev pub HaltsAtEnd : Halt → List ℕ → Ended → Type 0
  HaltsAtEnd NoMemory task outcome = Unit {0}
  HaltsAtEnd Wait task outcome = refuses task (End outcome) Wait
  HaltsAtEnd (Closed cause) task outcome = refuses task (End outcome) (Closed cause)

  -- the same where a task is asked for
  abbrev pub IsDelayed : Halt → Why → Type 0
  IsDelayed NoMemory why = Unit {0}
  IsDelayed Wait why = delays why Wait
  IsDelayed (Closed cause) why = delays why (Closed cause)

  -- nothing ends between a start and the asking for the task
  abbrev pub ComesTo : {A : Type 0} → Option (List ℕ) → List ℕ → Program Wish Reply A → Result A Halt → Type 0
  ComesTo None who p (Ok a) = p ≡ Return a
  ComesTo None who p (Err halt) = HaltsAt halt who p
  ComesTo (Some started) who p r = ⊥

  -- The activity did this by the program, and the tasks that it ran did what their works say; and this came of it. Where
  -- a task was just started, that is asked for before anything else.
  abbrev pub Does : {A : Type 0} → Option (List ℕ) → List ℕ → Program Wish Reply A → Doings → Result A Halt → Type 0
  Does owed who p NoMore r = ComesTo owed who p r
  Does None who (Return a) (Did e rest) r = ⊥
  Does None who (Ask q k) (Did e rest) r = (e.who ≡ who) × (e.asked ≡ use_of q) × Does (started_by e.asked e.reply) who (k e.reply) rest r
  Does (Some started) who p (Did e rest) r = ⊥
  Does owed who p (Ran why task thread work inside end rest) r =
      (MayAsk owed who why × IsDue why task)
      × ((outcome : Ended) × Does None task (meaning work) inside (Ok outcome) × (end.who ≡ task) × (end.asked ≡ End outcome))
      × Does None who p rest r
  Does owed who p (Broke why task thread work inside) (Ok a) = ⊥
  Does owed who p (Broke why task thread work inside) (Err halt) =
      (MayAsk owed who why × IsDue why task)
      × (Does None task (meaning work) inside (Err halt) ⊎ ((outcome : Ended) × Does None task (meaning work) inside (Ok outcome) × HaltsAtEnd halt task outcome))
  Does owed who p (Asked why rest) r = MayAsk owed who why × Does None who p rest r
  Does owed who p (Delayed why) (Ok a) = ⊥
  Does owed who p (Delayed why) (Err halt) = MayAsk owed who why × IsDelayed halt why

-- what is done without a use of its own, as where tasks alone are run
abbrev pub no_use : Program Wish Reply (Unit {0})
no_use = Return tt

-- the session was closed at a use that has no reply; where a task was refused it wasn't
abbrev pub closed_at : Doings → Halt → List Cause
closed_at NoMore halt = closing_at halt
closed_at (Did e rest) halt = closed_at rest halt
closed_at (Ran why task thread work inside end rest) halt = closed_at rest halt
closed_at (Broke why task thread work inside) halt = closed_at inside halt
closed_at (Asked why rest) halt = closed_at rest halt
closed_at (Delayed why) halt = []

abbrev pub stuck_by : {A : Type 0} → Doings → Result A Halt → List Cause
stuck_by ds (Ok a) = []
stuck_by ds (Err halt) = closed_at ds halt

-- it is closed for want of memory too, where a halt tells of that
abbrev pub closed_whole : Doings → Halt → List Cause
closed_whole ds NoMemory = cause.NoMemory ∷ []
closed_whole ds Wait = closed_at ds Wait
closed_whole ds (Closed cause) = []

abbrev pub closings : {A : Type 0} → Doings → Result A Halt → List Cause
closings ds (Ok a) = []
closings ds (Err halt) = closed_whole ds halt

-- what was told, with nothing handed out, and these closings
abbrev pub passing : Doings → List Cause → Passed
passing ds closed = record { told = told ds; handed = []; closed = closed }

-- the relations of some `Uses`, as clauses speak of them
module _ {S : Type 0} (leads : S → Passed → S → Type 0) (refuses : S → List ℕ → Use → Halt → Type 0) (delays : S → Why → Halt → Type 0) (meaning : Work → Program Wish Reply Ended) where
  -- The clause of evaluation: between the two states the activity did what the program says, the tasks that it ran did
  -- what their works say, and this came of it. A task that was just started may be owed at the first.
  abbrev pub RunsOwing : {A : Type 0} → Option (List ℕ) → List ℕ → S → S → Program Wish Reply A → Result A Halt → Type 0
  RunsOwing owed who old new program result = (ds : Doings) × leads old (passing ds (stuck_by ds result)) new × Does meaning (refuses new) (delays new) owed who program ds result

  abbrev pub Runs : {A : Type 0} → List ℕ → S → S → Program Wish Reply A → Result A Halt → Type 0
  Runs who old new program result = RunsOwing None who old new program result

  -- the same of a call that closes the session for want of memory
  abbrev pub RunsWhole : {A : Type 0} → List ℕ → S → S → Program Wish Reply A → Result A Halt → Type 0
  RunsWhole who old new program result = (ds : Doings) × leads old (passing ds (closings ds result)) new × Does meaning (refuses new) (delays new) None who program ds result

  -- what a task that was handed out did after its Begin: all up to its End, or it halted
  abbrev pub Tasked : List ℕ → S → S → Work → Result (Unit {0}) Halt → Type 0
  Tasked task old new work (Ok done) =
      (ds : Doings) × (end : Entry) × (outcome : Ended) × leads old (record { told = told ds ++ Replied end ∷ []; handed = []; closed = [] }) new
      × Does meaning (refuses new) (delays new) None task (meaning work) ds (Ok outcome) × (end.who ≡ task) × (end.asked ≡ End outcome)
  Tasked task old new work (Err halt) =
      (ds : Doings) × leads old (passing ds (closed_at ds halt)) new
      × (Does meaning (refuses new) (delays new) None task (meaning work) ds (Err halt)
      ⊎ ((outcome : Ended) × Does meaning (refuses new) (delays new) None task (meaning work) ds (Ok outcome) × HaltsAtEnd meaning (refuses new) (delays new) halt task outcome))
