-- What the answer of a call says of what passed between two states of an activity: it did what the copying interpreter
-- does there, and this came of it. All that the evaluator's contracts mean by `Makes` and `Tells` stands here.
use Rattle.std.specs.Prelude.{◌≡◌, ℕ, if◌then◌else◌, List, Result, Ok, Err}
use Rattle.jdata.specs.declared.fault.Fault.{Fault}
use Rattle.jarray.specs.Placed.{Placed}
use Rattle.jdata.specs.declared.noun.Noun.{Noun}
use Rattle.jdata.specs.declared.fault.Trouble.{Trouble}
use Rattle.jdata.specs.declared.fault.Trouble.TheVariants as trouble
use Rattle.juses.specs.Events.{Runs}
use Rattle.juses.specs.Program.{Program}
use Rattle.juses.specs.Told.{Passed, closed_with}
use Rattle.juses.specs.Wishes.{Wish}
use Rattle.juses.specs.declared.uses.Cause.TheVariants as cause
use Rattle.juses.specs.declared.uses.Halt.{Halt}
use Rattle.juses.specs.declared.uses.Halt.TheVariants as halts
use Rattle.juses.specs.declared.uses.Reply.{Reply}
use Rattle.juses.specs.declared.uses.Use.{Use}
use Rattle.jeval.specs.declared.activity.Activity.{Activity}
use Rattle.jeval.specs.declared.end.EvalEnd.{EvalEnd}
use Rattle.jeval.specs.declared.end.EvalEnd.TheVariants as end
use Rattle.jeval.specs.declared.state.State.{State}
use Rattle.jeval.specs.Action.{Action, is_time_limit}

-- an answer with the state after it: a value, a fault, or a halt
abbrev pub settled : {A : Type 0} → Result A EvalEnd → State → Result (Result A Fault × State) Halt
settled (Ok a) s = Ok (Ok a, s)
settled (Err (end.Fault fault)) s = Ok (Err fault, s)
settled (Err (end.Halt halt)) s = Err halt

-- an answer, and the state after it
abbrev pub beside : {A : Type 0} → Result A Halt → State → Result (A × State) Halt
beside (Ok a) s = Ok (a, s)
beside (Err halt) s = Err halt

-- an answer as the end of an evaluation
abbrev pub end_of : {A : Type 0} → Result A Fault → Result A EvalEnd
end_of (Ok a) = Ok a
end_of (Err fault) = Err (end.Fault fault)

-- the answer that is heard: a value, or a fault but TimeLimit
abbrev pub heard_of : {A : Type 0} → Result A EvalEnd → Result (Result A Fault) EvalEnd
heard_of (Ok a) = Ok (Ok a)
heard_of (Err (end.Fault fault)) = if is_time_limit fault then Err (end.Fault fault) else Ok (Err fault)
heard_of (Err (end.Halt halt)) = Err (end.Halt halt)

-- between the two states the activity did the action, and this came of it
pub record Makes {S A : Type 0} (leads : S → Passed → S → Type 0) (refuses : S → List ℕ → Use → Halt → Type 0) (before after : Activity S) (action : Action A) (result : Result A EvalEnd) : Type 0 where
  pub same : after.who ≡ before.who
  pub made : Runs leads refuses before.who before.uses after.uses (action before.state) (settled result after.state)

-- the same of what ends with an answer and no fault
pub record Tells {S A : Type 0} (leads : S → Passed → S → Type 0) (refuses : S → List ℕ → Use → Halt → Type 0) (before after : Activity S) (telling : State → Program Wish Reply (A × State)) (result : Result A Halt) : Type 0 where
  pub same : after.who ≡ before.who
  pub made : Runs leads refuses before.who before.uses after.uses (telling before.state) (beside result after.state)

-- a value that is made without a use: it is this one, or there was no memory
abbrev pub Gives : {A : Type 0} → A → Result A EvalEnd → Type 0
Gives value (Ok a) = a ≡ value
Gives value (Err (end.Fault fault)) = ⊥
Gives value (Err (end.Halt halt)) = halt ≡ halts.NoMemory

-- the same where a fault may be the answer
abbrev pub Answers : {A : Type 0} → Result A Fault → Result A EvalEnd → Type 0
Answers outcome (Ok a) = outcome ≡ Ok a
Answers outcome (Err (end.Fault fault)) = outcome ≡ Err fault
Answers outcome (Err (end.Halt halt)) = halt ≡ halts.NoMemory

-- what a kernel gave, as the end of an evaluation
abbrev pub Ends : Result Placed Trouble → Result Noun EvalEnd → Type 0
Ends (Ok array) result = result ≡ Ok array.noun
Ends (Err (trouble.Fault fault)) result = result ≡ Err (end.Fault fault)
Ends (Err trouble.NoMemory) result = result ≡ Err (end.Halt halts.NoMemory)

-- the session is closed for want of memory, and for no other halt
abbrev pub Closes : {S : Type 0} → (S → Passed → S → Type 0) → Activity S → Activity S → Halt → Type 0
Closes leads before after halts.NoMemory = leads before.uses (closed_with cause.NoMemory) after.uses × (after ≡ record before { uses = after.uses })
Closes leads before after halts.Wait = after ≡ before
Closes leads before after (halts.Closed why) = after ≡ before
