-- What uses make of a pass.
use Rattle.std.specs.Prelude.{◌≡◌, ◌⊎◌, ◌≤◌, ℕ, List, [], ◌∷◌, ◌++◌, length, take, drop, Bool, true, false, Option, Some, None, Result, Ok, Err, IfSome}
use Rattle.jturn.specs.Pass.{Pass, Grew}
use Rattle.juses.specs.Entries.{entry, IsLonger, started_by}
use Rattle.juses.specs.Histories.{prints}
use Rattle.juses.specs.Told.{Passed, nothing, replied, asked_for, handed_out, closed_with, IsDue}
use Rattle.juses.specs.declared.uses.Cause.{Cause}
use Rattle.juses.specs.declared.uses.Cause.TheVariants as cause
use Rattle.juses.specs.declared.uses.Entry.{Entry}
use Rattle.juses.specs.declared.uses.Halt.{Halt}
use Rattle.juses.specs.declared.uses.Halt.TheVariants.{Wait, NoMemory, Closed}
use Rattle.juses.specs.declared.uses.Reply.{Reply}
use Rattle.juses.specs.declared.uses.Use.{Use}
use Rattle.juses.specs.declared.uses.Why.{Why}
use Rattle.juses.specs.declared.uses.Work.{Work}
use Rattle.jpass.specs.Stood.{newest, closed_as}
use Rattle.jpass.specs.Timed.{Timed, MayHelp, made, helped_after}

-- the number of workers, which is the constant of the desk
abbrev pub workers_of : List ℕ → ℕ
workers_of [] = 0
workers_of (n ∷ ns) = n

-- all bytes printed in what the pass has seen
abbrev pub printed_in : Pass Entry → List ℕ
printed_in p = prints (newest p.seen)

-- those of them that were handed out, by the marker's mark
abbrev pub out_of : Pass Entry → List ℕ
out_of p = take p.mark.0 (printed_in p)

abbrev pub IsCounted : Pass Entry → Type 0
IsCounted p = p.mark.0 ≤ length (printed_in p)

-- one of these causes is a failed write
abbrev pub ForWriteFault : List Cause → Type 0
ForWriteFault [] = ⊥
ForWriteFault (c ∷ causes) = (c ≡ cause.WriteFault) ⊎ ForWriteFault causes

-- how the session was closed is as before, unless it wasn't and these causes have a failed write
abbrev pub IsClosedBy : ℕ → List Cause → ℕ → Type 0
IsClosedBy old causes new = (new ≡ old) ⊎ ((old ≡ 0) × ForWriteFault causes × (new ≡ 1))

-- What passed made of the pass: its own entries are those before and then these, each at the place and with the reply
-- that `Timed` says. The marker handed these bytes out, after those that it had handed out, and no other pass did; and
-- the marker's mark tells of closing for a failed write by this pass alone.
pub record Used (thread : ℕ) (helped : List (List ℕ)) (p : Pass Entry) (passed : Passed) (q : Pass Entry) : Type 0 where
  pub grew : Grew p (made passed.told) q
  pub timed : (places : List ℕ) × (q.own ≡ p.own ++ places) × Timed (workers_of p.constant) thread (newest p.seen) helped passed.told places (newest q.seen)
  pub out : p.is_marker ≡ true → IsCounted p → IsCounted q × (out_of q ≡ out_of p ++ passed.handed)
  pub none_out : p.is_marker ≡ false → passed.handed ≡ []
  pub closing : p.is_marker ≡ true → IsClosedBy p.mark.1 passed.closed q.mark.1

-- No use has to wait. That the session was closed for a failed write or since a use had no reply is told only where the
-- mark says so; want of memory is free.
abbrev pub Refused : Pass Entry → Halt → Type 0
Refused p Wait = ⊥
Refused p NoMemory = Unit {0}
Refused p (Closed cause.NoMemory) = Unit {0}
Refused p (Closed cause.WriteFault) = p.mark.1 ≡ closed_as (Some cause.WriteFault)
Refused p (Closed cause.Stuck) = p.mark.1 ≡ closed_as (Some cause.Stuck)

-- the same of one look, after which it may be asked again
abbrev pub AsksAgain : Pass Entry → Halt → Type 0
AsksAgain p Wait = Unit {0}
AsksAgain p NoMemory = Unit {0}
AsksAgain p (Closed cause) = Refused p (Closed cause)

-- the session is closed so; where no use can have no reply it is closed for want of memory
abbrev pub closing_cause : Cause → Cause
closing_cause cause.NoMemory = cause.NoMemory
closing_cause cause.WriteFault = cause.WriteFault
closing_cause cause.Stuck = cause.NoMemory

-- it is closed with this cause, or it had been with another
abbrev pub ClosedAs : Pass Entry → Cause → Pass Entry → Type 0
ClosedAs p cause q = Refused q (Closed cause) ⊎ ((first : Cause) × Refused p (Closed first) × Refused q (Closed first))

-- ---- a pass on a thread

pub record Taken : Type 0 where
  pub pass : Pass Entry
  pub thread : ℕ
  -- the tasks that it helps
  pub helped : List (List ℕ)

abbrev pub Leads : Taken → Passed → Taken → Type 0
Leads s passed t = Used s.thread s.helped s.pass passed t.pass × (t.thread ≡ s.thread) × (t.helped ≡ helped_after s.helped passed.told)

-- the pass, which is away only while it has its turn
abbrev pub is_here : {P : Type 0} → Option P → Bool
is_here (Some p) = true
is_here None = false

abbrev pub nobody : Pass Entry
nobody = record { turn = record { words = 0; slots = 0; views_name = 0; atom = 0; block = 0; offset = 0; slot_names = [] }; seen = []; own = []; parts = 0; is_marker = false; mark = (0, 0); constant = [] }

abbrev pub the_pass : Option (Pass Entry) → Pass Entry
the_pass (Some p) = p
the_pass None = nobody

-- ---- what came of one turn, or of several

-- it asked: the reply to this use was told; or nothing, and it was refused so
abbrev pub Asked : ℕ → Pass Entry → List ℕ → Use → Pass Entry → Result Reply Halt → Type 0
Asked thread p who asked q (Ok reply) =
    ((helped : List (List ℕ)) → Used thread helped p (replied (entry who thread asked reply)) q) × IsLonger who (started_by asked reply)
Asked thread p who asked q (Err halt) = ((helped : List (List ℕ)) → Used thread helped p nothing q) × Refused q halt

-- the same of one turn, where there may be no reply now: then the use is given back
abbrev pub AskedOnce : ℕ → Pass Entry → List ℕ → Use → Pass Entry → Result (Result Reply Halt) Use → Type 0
AskedOnce thread p who asked q (Ok answer) = Asked thread p who asked q answer
AskedOnce thread p who asked q (Err given) = (given ≡ asked) × ((helped : List (List ℕ)) → Used thread helped p nothing q)

-- it asked for a task, where no more are helped than may be
abbrev pub Sought : (Pass Entry → Halt → Type 0) → ℕ → Pass Entry → Why → Pass Entry → Result (Option (List ℕ × Work)) Halt → Type 0
Sought refused thread p why q (Ok given) =
    ((helped : List (List ℕ)) → MayHelp helped why → Used thread helped p (asked_for thread why given) q) × IfSome given (λ g. IsDue why g.0)
Sought refused thread p why q (Err halt) = ((helped : List (List ℕ)) → Used thread helped p nothing q) × refused q halt

-- it handed these bytes out: all that were printed in what it has seen, from those on that had been handed out
abbrev pub HandedOut : Pass Entry → Pass Entry → List ℕ → Type 0
HandedOut p q bytes =
    ((thread : ℕ) (helped : List (List ℕ)) → Used thread helped p (handed_out bytes) q) × (out_of q ≡ printed_in q) × (bytes ≡ drop p.mark.0 (printed_in q))

-- it closed the session
abbrev pub Shut : Pass Entry → Cause → Pass Entry → Type 0
Shut p cause q = ((thread : ℕ) (helped : List (List ℕ)) → Used thread helped p (closed_with cause) q) × ClosedAs p cause q
