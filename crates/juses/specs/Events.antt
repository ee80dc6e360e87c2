-- What an activity did by a program between two states of its `Uses`, and how it came to an answer or a halt.
use Rattle.std.specs.Prelude.{◌≡◌, ℕ, List, [], ◌∷◌, Result, Ok, Err}
use Rattle.juses.specs.Program.{Program, Return, Ask}
use Rattle.juses.specs.Told.{Told, Replied, Passed, closing_at}
use Rattle.juses.specs.Wishes.{Wish, use_of}
use Rattle.juses.specs.declared.uses.Cause.{Cause}
use Rattle.juses.specs.declared.uses.Cause.TheVariants as cause
use Rattle.juses.specs.declared.uses.Entry.{Entry}
use Rattle.juses.specs.declared.uses.Halt.{Halt}
use Rattle.juses.specs.declared.uses.Halt.TheVariants.{Wait, NoMemory, Closed}
use Rattle.juses.specs.declared.uses.Reply.{Reply}
use Rattle.juses.specs.declared.uses.Use.{Use}

pub data Events : Type 0 where
  NoMore : Events
  -- an entry of its own
  Did : Entry → Events → Events

-- as its `Uses` tell it, the oldest in front
abbrev pub told : Events → List Told
told NoMore = []
told (Did e rest) = Replied e ∷ told rest

-- what is refused to whom, and how, at the end
module _ (refuses : List ℕ → Use → Halt → Type 0) where
  -- why there is no answer: the next use is refused so, or there was no memory
  abbrev pub HaltsAt : {A : Type 0} → Halt → List ℕ → Program Wish Reply A → Type 0
  HaltsAt NoMemory who p = Unit {0}
  HaltsAt Wait who (Return a) = ⊥
  HaltsAt Wait who (Ask q k) = refuses who (use_of q) Wait
  HaltsAt (Closed cause) who (Return a) = ⊥
  HaltsAt (Closed cause) who (Ask q k) = refuses who (use_of q) (Closed cause)

  -- the activity did this by the program, and this came of it
  abbrev pub Does : {A : Type 0} → List ℕ → Program Wish Reply A → Events → Result A Halt → Type 0
  Does who p NoMore (Ok a) = p ≡ Return a
  Does who p NoMore (Err halt) = HaltsAt halt who p
  Does who (Return a) (Did e rest) r = ⊥
  Does who (Ask q k) (Did e rest) r = (e.who ≡ who) × (e.asked ≡ use_of q) × Does who (k e.reply) rest r

-- what was told, with nothing handed out, and these closings
abbrev pub passing : Events → List Cause → Passed
passing es closed = record { told = told es; handed = []; closed = closed }

-- The clause of evaluation: between the two states the activity did what the program says, this came of it, and the
-- session was closed with these causes.
abbrev pub RunsClosing : {S A : Type 0} → List Cause → (S → Passed → S → Type 0) → (S → List ℕ → Use → Halt → Type 0) → List ℕ → S → S → Program Wish Reply A → Result A Halt → Type 0
RunsClosing closed leads refuses who old new program result = (es : Events) × leads old (passing es closed) new × Does (refuses new) who program es result

-- it was closed at a use that has no reply, and for nothing else
abbrev pub stuck_by : {A : Type 0} → Result A Halt → List Cause
stuck_by (Ok a) = []
stuck_by (Err halt) = closing_at halt

abbrev pub Runs : {S A : Type 0} → (S → Passed → S → Type 0) → (S → List ℕ → Use → Halt → Type 0) → List ℕ → S → S → Program Wish Reply A → Result A Halt → Type 0
Runs leads refuses who old new program result = RunsClosing (stuck_by result) leads refuses who old new program result

-- it is closed for want of memory too, where a halt tells of that
abbrev pub closings : {A : Type 0} → Result A Halt → List Cause
closings (Ok a) = []
closings (Err NoMemory) = cause.NoMemory ∷ []
closings (Err Wait) = closing_at Wait
closings (Err (Closed cause)) = []

abbrev pub RunsWhole : {S A : Type 0} → (S → Passed → S → Type 0) → (S → List ℕ → Use → Halt → Type 0) → List ℕ → S → S → Program Wish Reply A → Result A Halt → Type 0
RunsWhole leads refuses who old new program result = RunsClosing (closings result) leads refuses who old new program result
