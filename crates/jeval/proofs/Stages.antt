-- How the loop of an execution goes on: what comes of the rest from here comes of the whole.
use Rattle.std.proofs.Common.{◌≡◌, ◌≤◌, ◌<◌, ℕ, List, Result, Ok, Err, IsErr, IsErrAnd}
use Rattle.juses.specs.Events.{Events, NoMore, Did, Does}
use Rattle.juses.specs.Program.{Program, Return, Ask}
use Rattle.juses.specs.Wishes.{Wish}
use Rattle.juses.specs.declared.uses.Halt.{Halt}
use Rattle.juses.specs.declared.uses.Reply.{Reply}
use Rattle.juses.specs.declared.uses.Use.{Use}
use Rattle.juses.proofs.Doing.{Relations}
use Rattle.jeval.specs.declared.activity.Activity.{Activity}
use Rattle.jeval.specs.declared.end.EvalEnd.{EvalEnd}
use Rattle.jterm.specs.declared.part.Part.{Part}
use Rattle.jeval.specs.declared.queue.Queued.{Queued}
use Rattle.jdata.specs.declared.fault.Fault.{Fault}
use Rattle.jeval.specs.Action.{Action, ◌then◌, ◌hears◌}
use Rattle.jeval.specs.Execution.{acted, moved_in}
use Rattle.jeval.specs.Made.{Makes, heard_of}
use Rattle.jeval.proofs.Making.{from_same, makes_on, stops_by, makes_heard, stops_unheard, made_at}
use Rattle.jeval.proofs.Turning.{AllEnd, Within, Fewer, keeps_moved_in, falls_acted}

return_is : {A : Type 0} {a b : A} → (let p : Program Wish Reply A = Return b in p ≡ Return a) → a ≡ b
return_is h = cc

no_return : {A : Type 0} {a : A} {q : Wish} {k : Reply → Program Wish Reply A} → Ask q k ≡ Return a → ⊥
no_return h = cc

-- an end that came about is one of those that can
all_end_came : {A : Type 0} (P : A → Type 0) (refuses : List ℕ → Use → Halt → Type 0) (who : List ℕ) (p : Program Wish Reply A) (es : Events) (a : A) → AllEnd P p → Does refuses who p es (Ok a) → P a
all_end_came P refuses who (Return b) NoMore a h is = rw (return_is is) h
all_end_came P refuses who (Ask q k) NoMore a h is = absurd (no_return is)
all_end_came P refuses who (Return b) (Did e rest) a h is = absurd is
all_end_came P refuses who (Ask q k) (Did e rest) a h is = all_end_came P refuses who (k e.reply) rest a (h e.reply) is.2

module _ {S : Type 0} (uses : Relations S) where
  abbrev pub Stage : {A : Type 0} → Activity S → Action A → Activity S → Action A → Type 0
  Stage first whole now rest = (t : Activity S) (r : Result _ EvalEnd) → Makes uses.leads uses.refuses now t rest r → Makes uses.leads uses.refuses first t whole r

  pub stage_on : {A B : Type 0} {first a b : Activity S} {whole rest : Action B} {p : Action A} {v : A} (f : A → Action B) → rest a.state ≡ (p then f) a.state
      → Makes uses.leads uses.refuses a b p (Ok v) → Stage first whole a rest → Stage first whole b (f v)
  stage_on {a = a} f is made on t r later = on t r (made_at uses {t = a.state} is (makes_on uses f made later))

  pub stage_stops : {A B : Type 0} {first a b : Activity S} {whole rest : Action B} {p : Action A} {why : EvalEnd} {r : Result B EvalEnd} (f : A → Action B) → rest a.state ≡ (p then f) a.state
      → IsErr r × IsErrAnd r (λ w. w ≡ why) → Makes uses.leads uses.refuses a b p (Err why) → Stage first whole a rest → Makes uses.leads uses.refuses first b whole r
  stage_stops {a = a} {b = b} {r = r} f is said made on = on b r (made_at uses {t = a.state} is (stops_by uses f said made))

  pub stage_heard : {A B : Type 0} {first a b : Activity S} {whole rest : Action B} {p : Action A} {came : Result A EvalEnd} {answer : Result A Fault} (f : Result A Fault → Action B) → rest a.state ≡ (p hears f) a.state
      → heard_of came ≡ Ok answer → Makes uses.leads uses.refuses a b p came → Stage first whole a rest → Stage first whole b (f answer)
  stage_heard {a = a} f is heard made on t r later = on t r (made_at uses {t = a.state} is (makes_heard uses f heard made later))

  pub stage_unheard : {A B : Type 0} {first a b : Activity S} {whole rest : Action B} {p : Action A} {came : Result A EvalEnd} {why : EvalEnd} {r : Result B EvalEnd} (f : Result A Fault → Action B) → rest a.state ≡ (p hears f) a.state
      → IsErr r × IsErrAnd r (λ w. w ≡ why) → heard_of came ≡ Err why → Makes uses.leads uses.refuses a b p came → Stage first whole a rest → Makes uses.leads uses.refuses first b whole r
  stage_unheard {a = a} {b = b} {r = r} f is said unheard made on = on b r (made_at uses {t = a.state} is (stops_unheard uses f said unheard made))

  pub stage_same : {A : Type 0} {first a b : Activity S} {whole rest : Action A} → b.who ≡ a.who → b.uses ≡ a.uses → b.state ≡ a.state → Stage first whole a rest → Stage first whole b rest
  stage_same w u s on t r later = on t r (from_same uses w u s later)

  pub moved_turns : {a b : Activity S} (next : Queued) (parts more : List Part) → Makes uses.leads uses.refuses a b (moved_in next parts) (Ok more) → b.state.left ≤ a.state.left
  moved_turns {a = a} {b = b} next parts more h = all_end_came (Within a.state.left) (uses.refuses b.uses) a.who (moved_in next parts a.state) h.made.0 (Ok more, b.state) (keeps_moved_in next parts a.state) h.made.2

  pub acted_turns : {a b : Activity S} (levels row : ℕ) (parts more : List Part) → Makes uses.leads uses.refuses a b (acted levels row parts) (Ok more) → b.state.left < a.state.left
  acted_turns {a = a} {b = b} levels row parts more h = all_end_came (Fewer a.state.left) (uses.refuses b.uses) a.who (acted levels row parts a.state) h.made.0 (Ok more, b.state) (falls_acted levels row parts a.state) h.made.2
