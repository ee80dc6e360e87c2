-- For which histories a desk in a turn stands, and what of it a turn keeps for passes.
use Rattle.std.specs.Prelude.{◌≡◌, ℕ, List, [], ◌∷◌, Option, Some, None, Result, Ok, Err}
use Rattle.juses.specs.Desk.{reply}
use Rattle.juses.specs.Due.{HandsTask, due_answer}
use Rattle.juses.specs.Entries.{IsLonger, started_by}
use Rattle.juses.specs.Histories.{after}
use Rattle.juses.specs.Standing.{Kept, Stands, Answers, OnlyMoves}
use Rattle.juses.specs.declared.uses.Cause.{Cause}
use Rattle.juses.specs.declared.uses.Cause.TheVariants as cause
use Rattle.juses.specs.declared.uses.Entry.{Entry}
use Rattle.juses.specs.declared.uses.Halt.{Halt}
use Rattle.juses.specs.declared.uses.Halt.TheVariants.{Wait, NoMemory, Closed}
use Rattle.juses.specs.declared.uses.Reply.{Reply}
use Rattle.juses.specs.declared.uses.Use.{Use}
use Rattle.juses.specs.declared.uses.Why.{Why}
use Rattle.juses.specs.declared.uses.Work.{Work}

-- these entries, the oldest in front, put on a history, whose newest stands in front
abbrev pub put_on : List Entry → List Entry → List Entry
put_on [] h = h
put_on (e ∷ log) h = put_on log (e ∷ h)

abbrev pub newest : List Entry → List Entry
newest log = put_on log []

-- each reply is the desk's at that point. Which threads fit is no part of it: that comes of what activities do.
abbrev pub Replies : ℕ → List Entry → Type 0
Replies workers [] = Unit {0}
Replies workers (e ∷ h) = Replies workers h × (reply (after workers h) e.who e.thread e.asked ≡ Some e.reply)

-- each reply of the list, the oldest in front, is the desk's, and the desk stands for the state after it: it has what
-- stands at each key, how far each task has come, with the work of each that waits, and the prints not handed out
abbrev pub StoodFor : Kept → List Entry → Type 0
StoodFor d log = Replies d.workers (newest log) × Stands d (after d.workers (newest log))

-- how it was closed, where only the marker closes so
abbrev pub closed_as : Option Cause → ℕ
closed_as None = 0
closed_as (Some cause.NoMemory) = 0
closed_as (Some cause.WriteFault) = 1
closed_as (Some cause.Stuck) = 2

-- how many printed bytes were handed out, and how it was closed
abbrev pub mark_of : Kept → ℕ × ℕ
mark_of d = (d.handed, closed_as d.closed)

-- ---- what a desk does in a turn

-- it answers so only where it was closed so
abbrev pub HaltsFor : Kept → Halt → Type 0
HaltsFor d Wait = Unit {0}
HaltsFor d NoMemory = Unit {0}
HaltsFor d (Closed cause) = d.closed ≡ Some cause

abbrev pub IsAnswered : Kept → List ℕ → ℕ → Use → Result Reply Halt → Kept → Type 0
IsAnswered d who thread asked (Ok reply) d' = Answers d who thread asked reply d' × OnlyMoves d d' × IsLonger who (started_by asked reply)
IsAnswered d who thread asked (Err halt) d' = HaltsFor d halt

-- a task was begun; or none was due, or it isn't known whether one is
abbrev pub IsBegun : Kept → ℕ → Why → Result (List ℕ × Work) (Option Halt) → Kept → Type 0
IsBegun d thread why (Ok given) d' = HandsTask d thread why (Some given) d' × OnlyMoves d d'
IsBegun d thread why (Err None) d' = HandsTask d thread why None d' × (Ok None ≡ due_answer d why)
IsBegun d thread why (Err (Some halt)) d' = HaltsFor d halt
