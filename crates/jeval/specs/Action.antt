-- The copying interpreter does its work by actions: from the state of an activity an action asks its uses, takes the
-- replies, and ends with a value or a fault and with the state that is then the activity's. This file has the words
-- that the interpreter's definitions are written in.
use Rattle.std.specs.Prelude.{ℕ, zero, suc, Bool, true, false, if◌then◌else◌, Result, Ok, Err}
use Rattle.jdata.specs.declared.fault.Fault.{Fault}
use Rattle.jdata.specs.declared.fault.Fault.TheVariants.{TimeLimit}
use Rattle.juses.specs.Program.{Program, Return, Ask, ◌>>=◌}
use Rattle.juses.specs.Wishes.{Wish}
use Rattle.juses.specs.declared.uses.Reply.{Reply}
use Rattle.jeval.specs.declared.state.State.{State}

-- what is left to do: it gives an A, or ends with a fault
abbrev pub Rest : Type 0 → Type 0
Rest A = Program Wish Reply (Result A Fault × State)

abbrev pub Action : Type 0 → Type 0
Action A = State → Rest A

-- no use is left: the value, or the fault
abbrev pub gives : {A : Type 0} → A → Action A
gives a s = Return (Ok a, s)

abbrev pub fails : {A : Type 0} → Fault → Action A
fails fault s = Return (Err fault, s)

abbrev pub answers : {A : Type 0} → Result A Fault → Action A
answers outcome s = Return (outcome, s)

-- one use, and its reply
abbrev pub asks : Wish → Action Reply
asks asked s = Ask asked (λ reply. gives reply s)

-- goes on with the value; a fault is the end
abbrev pub going_on : {A B : Type 0} → (A → Action B) → Result A Fault × State → Rest B
going_on next (Ok a, s) = next a s
going_on next (Err fault, s) = fails fault s

-- one action after another
infixl 10 ◌then◌
unfoldable pub ◌then◌ : {A B : Type 0} → Action A → (A → Action B) → Action B
(first then next) s = first s >>= going_on next

abbrev pub is_time_limit : Fault → Bool
is_time_limit TimeLimit = true
is_time_limit other = false

-- goes on with the answer, whether it is a value or a fault. TimeLimit is the end: nothing catches it.
abbrev pub hearing : {A B : Type 0} → (Result A Fault → Action B) → Result A Fault × State → Rest B
hearing next (Ok a, s) = next (Ok a) s
hearing next (Err fault, s) = if is_time_limit fault then fails fault s else next (Err fault) s

infixl 10 ◌hears◌
unfoldable pub ◌hears◌ : {A B : Type 0} → Action A → (Result A Fault → Action B) → Action B
(first hears next) s = first s >>= hearing next

abbrev pub with_left : ℕ → State → State
with_left turns s = record s { left = turns }

-- takes a turn first, and is refused where none is left
abbrev pub turn_of : {A : Type 0} → ℕ → Action A → Action A
turn_of zero action s = fails TimeLimit s
turn_of (suc left) action s = action (with_left left s)

unfoldable pub with_turn : {A : Type 0} → Action A → Action A
with_turn action s = turn_of s.left action s
