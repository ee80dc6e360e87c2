-- How what an activity did is put together.
use Rattle.std.proofs.Common.{◌≡◌, refl, sym, ap, subst, ℕ, Bool, true, false, List, Result, Ok, Err, IsErr, IsErrAnd, IfOk, IfErr}
use Rattle.std.specs.Prelude.{if◌then◌else◌}
use Rattle.jdata.specs.declared.fault.Fault.{Fault}
use Rattle.juses.specs.Events.{Runs, RunsWhole}
use Rattle.juses.specs.Program.{Program, Return, Ask, ◌>>=◌}
use Rattle.juses.specs.declared.uses.Cause.TheVariants as cause
use Rattle.juses.specs.declared.uses.Halt.{Halt}
use Rattle.juses.specs.declared.uses.Halt.TheVariants.{Wait, NoMemory, Closed}
use Rattle.juses.specs.declared.uses.Reply.{Reply}
use Rattle.juses.specs.Entries.{entry}
use Rattle.juses.specs.Told.{refusing, replied}
use Rattle.juses.specs.Wishes.{Wish, Print, use_of}
use Rattle.juses.specs.declared.uses.Use.{Use}
use Rattle.juses.specs.declared.uses.Use.TheVariants as asked
use Rattle.juses.proofs.Doing.{Relations, goes_on, halts, returns, is_short, asked_once, not_asked, closes}
use Rattle.jeval.specs.declared.activity.Activity.{Activity}
use Rattle.jeval.specs.declared.end.EvalEnd.{EvalEnd}
use Rattle.jeval.specs.declared.end.EvalEnd.TheVariants as end
use Rattle.jeval.specs.declared.state.State.{State}
use Rattle.jeval.specs.Action.{Action, asks, gives, fails, answers, going_on, hearing, is_time_limit, ◌then◌, ◌hears◌}
use Rattle.jeval.specs.Activity.{IsAsked, wish_of}
use Rattle.jeval.specs.Made.{Makes, Tells, Closes, Gives, Answers, settled, beside, end_of, heard_of}

module _ {S : Type 0} (uses : Relations S) where
  abbrev pub Made : {A : Type 0} → Activity S → Activity S → Action A → Result A EvalEnd → Type 0
  Made before after action result = Makes uses.leads uses.refuses before after action result

  -- after a value the next action is done
  pub makes_on : {A B : Type 0} {a b c : Activity S} {p : Action A} {v : A} {r : Result B EvalEnd} (f : A → Action B)
      → Made a b p (Ok v) → Made b c (f v) r → Made a c (p then f) r
  unfolding ◌then◌
  makes_on {a = a} {b = b} {c = c} {p = p} {v = v} {r = r} f h k =
      let P : List ℕ → Type 0 = λ who. Runs uses.leads uses.refuses who b.uses c.uses (f v b.state) (settled r c.state) in
      record {
        same = rw (k.same, h.same) refl;
        made = goes_on uses a.who a.uses b.uses c.uses (p a.state) (going_on f) (Ok v, b.state) (settled r c.state) h.made (subst P h.same k.made);
      }

  -- after a fault or a halt it isn't
  stops_at : {A B : Type 0} (a b : Activity S) (p : Action A) (f : A → Action B) (why : EvalEnd) → Made a b p (Err why) → Made a b (p then f) (Err why)
  unfolding ◌then◌
  stops_at a b p f (end.Fault e) h = record {
    same = h.same;
    made = goes_on uses a.who a.uses b.uses b.uses (p a.state) (going_on f) (Err e, b.state) (Ok (Err e, b.state)) h.made (returns uses a.who b.uses (Err e, b.state));
  }
  stops_at a b p f (end.Halt halt) h = record { same = h.same; made = halts uses a.who a.uses b.uses (p a.state) (going_on f) halt h.made }

  pub stops : {A B : Type 0} {a b : Activity S} {p : Action A} {why : EvalEnd} (f : A → Action B) → Made a b p (Err why) → Made a b (p then f) (Err why)
  stops {a = a} {b = b} {p = p} {why = why} f h = stops_at a b p f why h

  -- the same where the end is handed on by `?`
  pub stops_by : {A B : Type 0} {a b : Activity S} {p : Action A} {why : EvalEnd} {r : Result B EvalEnd} (f : A → Action B)
      → IsErr r × IsErrAnd r (λ w. w ≡ why) → Made a b p (Err why) → Made a b (p then f) r
  stops_by {r = Ok v} f said h = absurd said.1
  stops_by {a = a} {b = b} {p = p} {why = why} {r = Err w} f said h = let P : EvalEnd → Type 0 = λ e. Made a b (p then f) (Err e) in subst P (sym said.1) (stops_at a b p f why h)

  not_late : {A : Type 0} (e : Fault) (answer : Result A Fault) (b : Bool) → (let said : Result (Result A Fault) EvalEnd = if b then Err (end.Fault e) else Ok (Err e) in said ≡ Ok answer) → (b ≡ false) × (Err e ≡ answer)
  not_late e answer true is = cc
  not_late e answer false is = (refl, cc)

  -- after an answer that is heard
  hears_at : {A B : Type 0} (a b c : Activity S) (p : Action A) (f : Result A Fault → Action B) (came : Result A EvalEnd) (answer : Result A Fault) (r : Result B EvalEnd)
      → heard_of came ≡ Ok answer → Made a b p came → Made b c (f answer) r → Made a c (p hears f) r
  unfolding ◌hears◌
  hears_at {A} {B} a b c p f (Ok v) answer r is h k =
      let heard : Ok v ≡ answer = cc in
      let P : List ℕ → Type 0 = λ who. Runs uses.leads uses.refuses who b.uses c.uses (f (Ok v) b.state) (settled r c.state) in
      let Q : Result A Fault → Type 0 = λ o. Made b c (f o) r in
      let on = subst Q (sym heard) k in
      record {
        same = rw (on.same, h.same) refl;
        made = goes_on uses a.who a.uses b.uses c.uses (p a.state) (hearing f) (Ok v, b.state) (settled r c.state) h.made (subst P h.same on.made);
      }
  hears_at {A} {B} a b c p f (Err (end.Fault e)) answer r is h k =
      let late = not_late {A = A} e answer (is_time_limit e) is in
      let Q : Result A Fault → Type 0 = λ o. Made b c (f o) r in
      let on = subst Q (sym late.1) k in
      let P : List ℕ → Type 0 = λ who. Runs uses.leads uses.refuses who b.uses c.uses (f (Err e) b.state) (settled r c.state) in
      let R : Bool → Type 0 = λ x. Runs uses.leads uses.refuses a.who b.uses c.uses (if x then fails e b.state else f (Err e) b.state) (settled r c.state) in
      record {
        same = rw (on.same, h.same) refl;
        made = goes_on uses a.who a.uses b.uses c.uses (p a.state) (hearing f) (Err e, b.state) (settled r c.state) h.made (subst R (sym late.0) (subst P h.same on.made));
      }
  hears_at a b c p f (Err (end.Halt halt)) answer r is h k = cc

  pub makes_heard : {A B : Type 0} {a b c : Activity S} {p : Action A} {came : Result A EvalEnd} {answer : Result A Fault} {r : Result B EvalEnd} (f : Result A Fault → Action B)
      → heard_of came ≡ Ok answer → Made a b p came → Made b c (f answer) r → Made a c (p hears f) r
  makes_heard {a = a} {b = b} {c = c} {p = p} {came = came} {answer = answer} {r = r} f is h k = hears_at a b c p f came answer r is h k

  -- TimeLimit and a halt aren't heard
  is_late : {A : Type 0} (e : Fault) (why : EvalEnd) (b : Bool) → (let said : Result (Result A Fault) EvalEnd = if b then Err (end.Fault e) else Ok (Err e) in said ≡ Err why) → (b ≡ true) × (end.Fault e ≡ why)
  is_late e why true is = (refl, cc)
  is_late e why false is = cc

  unheard_at : {A B : Type 0} (a b : Activity S) (p : Action A) (f : Result A Fault → Action B) (came : Result A EvalEnd) (why : EvalEnd)
      → heard_of came ≡ Err why → Made a b p came → Made a b (p hears f) (Err why)
  unfolding ◌hears◌
  unheard_at a b p f (Ok v) why is h = cc
  unheard_at {A} {B} a b p f (Err (end.Fault e)) why is h =
      let late = is_late {A = A} e why (is_time_limit e) is in
      let E : Result B Fault = Err e in
      let R : Bool → Type 0 = λ x. Runs uses.leads uses.refuses a.who b.uses b.uses (if x then fails e b.state else f (Err e) b.state) (Ok (E, b.state)) in
      let Q : EvalEnd → Type 0 = λ w. Made a b (λ s. p s >>= hearing f) (Err w) in
      subst Q late.1 record {
        same = h.same;
        made = goes_on uses a.who a.uses b.uses b.uses (p a.state) (hearing f) (Err e, b.state) (Ok (E, b.state)) h.made (subst R (sym late.0) (returns uses a.who b.uses (E, b.state)));
      }
  unheard_at {A} {B} a b p f (Err (end.Halt halt)) why is h =
      let halted : end.Halt halt ≡ why = cc in
      let Q : EvalEnd → Type 0 = λ w. Made a b (λ s. p s >>= hearing f) (Err w) in
      subst Q halted record { same = h.same; made = halts uses a.who a.uses b.uses (p a.state) (hearing f) halt h.made }

  pub stops_unheard : {A B : Type 0} {a b : Activity S} {p : Action A} {came : Result A EvalEnd} {why : EvalEnd} {r : Result B EvalEnd} (f : Result A Fault → Action B)
      → IsErr r × IsErrAnd r (λ w. w ≡ why) → heard_of came ≡ Err why → Made a b p came → Made a b (p hears f) r
  stops_unheard {r = Ok v} f said is h = absurd said.1
  stops_unheard {a = a} {b = b} {p = p} {came = came} {why = why} {r = Err w} f said is h = let P : EvalEnd → Type 0 = λ e. Made a b (p hears f) (Err e) in subst P (sym said.1) (unheard_at a b p f came why is h)

  -- there was no memory before the first use
  pub is_wanting : {A : Type 0} (a : Activity S) (p : Action A) → Made a a p (Err (end.Halt NoMemory))
  is_wanting a p = record { same = refl; made = is_short uses a.who a.uses (p a.state) }

  pub fails_at_once : {A : Type 0} {a : Activity S} (e : Fault) → Made {A = A} a a (fails e) (Err (end.Fault e))
  fails_at_once {a = a} e = record { same = refl; made = returns uses a.who a.uses (Err e, a.state) }

  no_memory : {A : Type 0} (a : Activity S) (p : Action A) (halt : Halt) → halt ≡ NoMemory → Made a a p (Err (end.Halt halt))
  no_memory a p halt is = let P : Halt → Type 0 = λ h. Made a a p (Err (end.Halt h)) in subst P (sym is) (is_wanting a p)

  -- there was no memory for what goes before
  pub wants : {A B : Type 0} {a : Activity S} (v : A) (p : Action B) (why : EvalEnd) → Gives v (Err why) → Made a a p (Err why)
  wants v p (end.Fault e) h = absurd h
  wants {a = a} v p (end.Halt halt) h = no_memory a p halt h

  pub given : {A : Type 0} {a : Activity S} (v : A) (r : Result A EvalEnd) → Gives v r → Made a a (gives v) r
  given {a = a} v (Ok b) h = record { same = refl; made = rw h (returns uses a.who a.uses (Ok v, a.state)) }
  given {a = a} v (Err (end.Fault e)) h = absurd h
  given {a = a} v (Err (end.Halt halt)) h = no_memory a (gives v) halt h

  pub answered : {A : Type 0} {a : Activity S} (outcome : Result A Fault) (r : Result A EvalEnd) → Answers outcome r → Made a a (answers outcome) r
  answered {a = a} outcome (Ok b) h = record { same = refl; made = rw h (returns uses a.who a.uses (Ok b, a.state)) }
  answered {A} {a = a} outcome (Err (end.Fault e)) h = let r : Result A Fault = Err e in record { same = refl; made = rw h (returns uses a.who a.uses (r, a.state)) }
  answered {a = a} outcome (Err (end.Halt halt)) h = no_memory a (answers outcome) halt h

  -- an answer is the end
  pub ended_as : {A : Type 0} {a : Activity S} (outcome : Result A Fault) {r : Result A EvalEnd} → r ≡ end_of outcome → Made a a (answers outcome) r
  ended_as {A} {a = a} (Ok v) {r} is = let P : Result A EvalEnd → Type 0 = λ x. Made a a (answers (Ok v)) x in subst P (sym is) (given {a = a} v (Ok v) refl)
  ended_as {A} {a = a} (Err e) {r} is = let P : Result A EvalEnd → Type 0 = λ x. Made {A = A} a a (fails e) x in subst P (sym is) (fails_at_once e)

  -- where an activity works doesn't count, and nor do the arrays that it keeps
  pub from_same : {A : Type 0} {a c b : Activity S} {p : Action A} {r : Result A EvalEnd} → c.who ≡ a.who → c.uses ≡ a.uses → c.state ≡ a.state → Made c b p r → Made a b p r
  from_same {a = a} {c = c} {b = b} {p = p} {r = r} w u s h =
      let P : List ℕ × S × State → Type 0 = λ q. Runs uses.leads uses.refuses q.0 q.1 b.uses (p q.2) (settled r b.state) in
      record { same = rw (h.same, w) refl; made = subst P (λ i. (w i, u i, s i)) h.made }

  -- the same action, written in another way
  pub made_as : {A : Type 0} {a b : Activity S} {p q : Action A} {r : Result A EvalEnd} → p ≡ q → Made a b p r → Made a b q r
  made_as {a = a} {b = b} {r = r} is h = subst (λ (action : Action _). Made a b action r) is h

-- one use
module _ {S : Type 0} (uses : Relations S) where
  use_of_wish : (u : Use) → IsAsked u → use_of (wish_of u) ≡ u
  use_of_wish (asked.Read from name) h = refl
  use_of_wish (asked.Write place name value) h = refl
  use_of_wish (asked.Print bytes) h = refl
  use_of_wish (asked.Start pool work) h = absurd h
  use_of_wish asked.Begin h = absurd h
  use_of_wish (asked.End outcome) h = absurd h
  use_of_wish (asked.Open pyx) h = absurd h
  use_of_wish asked.MakePyx h = absurd h
  use_of_wish (asked.SetPyx pyx outcome) h = absurd h
  use_of_wish asked.MakeMutex h = absurd h
  use_of_wish (asked.Lock mutex) h = absurd h
  use_of_wish (asked.Unlock mutex) h = absurd h
  use_of_wish (asked.MakeThread pool) h = absurd h
  use_of_wish asked.Threads h = absurd h
  use_of_wish (asked.PoolState pool) h = absurd h
  use_of_wish asked.Current h = absurd h

  pub once : (who : List ℕ) (s t : S) (thread : ℕ) (q : Use) (r : Reply) → IsAsked q → uses.leads s (replied (entry who thread q r)) t → Runs uses.leads uses.refuses who s t (Ask (wish_of q) Return) (Ok r)
  once who s t thread q r is l =
      let P : Use → Type 0 = λ u. uses.leads s (replied (entry who thread u r)) t in
      asked_once uses who s t thread (wish_of q) r (subst P (sym (use_of_wish q is)) l)

  pub in_vain : (who : List ℕ) (s t : S) (q : Use) (halt : Halt) → IsAsked q → uses.leads s (refusing halt) t → uses.refuses t who q halt → Runs uses.leads uses.refuses who s t (Ask (wish_of q) Return) (Err halt)
  in_vain who s t q halt is l said =
      let P : Use → Type 0 = λ u. uses.refuses t who u halt in
      not_asked uses who s t (wish_of q) halt l (subst P (sym (use_of_wish q is)) said)

  pub asks_once : (a : Activity S) (t : S) (thread : ℕ) (q : Use) (r : Reply) → IsAsked q → uses.leads a.uses (replied (entry a.who thread q r)) t
      → Makes uses.leads uses.refuses a (record a { uses = t }) (asks (wish_of q)) (Ok r)
  asks_once a t thread q r is l = record {
    same = refl;
    made = goes_on uses a.who a.uses t t (Ask (wish_of q) Return) (λ reply. gives reply a.state) r (Ok (Ok r, a.state)) (once a.who a.uses t thread q r is l) (returns uses a.who t (Ok r, a.state));
  }

  -- what ends with this fault
  pub fails_if : {A : Type 0} {a : Activity S} {outcome : Result A Fault} {e : Fault} → outcome ≡ Err e → Makes uses.leads uses.refuses a a (answers outcome) (Err (end.Fault e))
  fails_if {a = a} {outcome = outcome} {e = e} h = answered uses {a = a} outcome (Err (end.Fault e)) h

  -- the action does from here what the other one does from there
  pub made_at : {A : Type 0} {a b : Activity S} {t : State} {p q : Action A} {r : Result A EvalEnd} → p a.state ≡ q t
      → Makes uses.leads uses.refuses (record a { state = t }) b q r → Makes uses.leads uses.refuses a b p r
  made_at {a = a} {b = b} {t = t} {p = p} {q = q} {r = r} is h =
      let P : Program Wish Reply _ → Type 0 = λ rest. Runs uses.leads uses.refuses a.who a.uses b.uses rest (settled r b.state) in
      record { same = h.same; made = subst P (sym is) h.made }

  -- a call of the uses, whatever it answers
  pub called : (who : List ℕ) (s t : S) (thread : ℕ) (q : Use) (r : Result Reply Halt) → IsAsked q → IfOk r (λ reply. uses.leads s (replied (entry who thread q reply)) t)
      → IfErr r (λ why. uses.leads s (refusing why) t) → IfErr r (λ why. uses.refuses t who q why) → Runs uses.leads uses.refuses who s t (Ask (wish_of q) Return) r
  called who s t thread q (Ok reply) is ok err halts = once who s t thread q reply is ok
  called who s t thread q (Err halt) is ok err halts = in_vain who s t q halt is err halts

  -- printing
  pub printed : {B : Type 0} (a : Activity S) (t : S) (thread : ℕ) (bytes : List ℕ) (shown : B) (r : Reply) → uses.leads a.uses (replied (entry a.who thread (asked.Print bytes) r)) t
      → Tells uses.leads uses.refuses a (record a { uses = t }) (λ s. Ask (Print bytes) (λ reply. Return (shown, s))) (Ok shown)
  printed a t thread bytes shown r l = record {
    same = refl;
    made = goes_on uses a.who a.uses t t (Ask (Print bytes) Return) (λ reply. Return (shown, a.state)) r (Ok (shown, a.state)) (asked_once uses a.who a.uses t thread (Print bytes) r l) (returns uses a.who t (shown, a.state));
  }

  pub not_printed : {B : Type 0} (a : Activity S) (t : S) (bytes : List ℕ) (shown : B) (halt : Halt) (r : Result B Halt) → IsErr r × IsErrAnd r (λ w. w ≡ halt) → uses.leads a.uses (refusing halt) t → uses.refuses t a.who (asked.Print bytes) halt
      → Tells uses.leads uses.refuses a (record a { uses = t }) (λ s. Ask (Print bytes) (λ reply. Return (shown, s))) r
  not_printed a t bytes shown halt (Ok b) said l refused = absurd said.1
  not_printed {B} a t bytes shown halt (Err w) said l refused =
      let P : Halt → Type 0 = λ h. Tells {A = B} uses.leads uses.refuses a (record a { uses = t }) (λ s. Ask (Print bytes) (λ reply. Return (shown, s))) (Err h) in
      let it : P halt = record { same = refl; made = halts uses a.who a.uses t (Ask (Print bytes) Return) (λ reply. Return (shown, a.state)) halt (not_asked uses a.who a.uses t (Print bytes) halt l refused) } in
      subst P (sym said.1) it

-- a sentence
module _ {S : Type 0} (uses : Relations S) where
  -- what came of an action is told
  pub tells_on : {A B : Type 0} {a b c : Activity S} {p : Action A} {r : Result A EvalEnd} {came : Result A Fault} {q : Result B Halt} (f : Result A Fault × State → Program Wish Reply (B × State))
      → settled r b.state ≡ Ok (came, b.state) → Makes uses.leads uses.refuses a b p r → Tells uses.leads uses.refuses b c (λ s. f (came, s)) q
      → Tells uses.leads uses.refuses a c (λ s. p s >>= f) q
  tells_on {a = a} {b = b} {c = c} {p = p} {r = r} {came = came} {q = q} f is h k =
      let P : Result _ Halt → Type 0 = λ x. Runs uses.leads uses.refuses a.who a.uses b.uses (p a.state) x in
      let Q : List ℕ → Type 0 = λ who. Runs uses.leads uses.refuses who b.uses c.uses (f (came, b.state)) (beside q c.state) in
      record {
        same = rw (k.same, h.same) refl;
        made = goes_on uses a.who a.uses b.uses c.uses (p a.state) f (came, b.state) (beside q c.state) (subst P is h.made) (subst Q h.same k.made);
      }

  pub tells_halt : {A B : Type 0} {a b : Activity S} {p : Action A} {halt : Halt} (f : Result A Fault × State → Program Wish Reply (B × State))
      → Makes uses.leads uses.refuses a b p (Err (end.Halt halt)) → Tells {A = B} uses.leads uses.refuses a b (λ s. p s >>= f) (Err halt)
  tells_halt {a = a} {b = b} {p = p} {halt = halt} f h = record { same = h.same; made = halts uses a.who a.uses b.uses (p a.state) f halt h.made }

  pub told_at : {B : Type 0} {a c : Activity S} {t : State} {p q : State → Program Wish Reply (B × State)} {r : Result B Halt} → p a.state ≡ q t
      → Tells uses.leads uses.refuses (record a { state = t }) c q r → Tells uses.leads uses.refuses a c p r
  told_at {a = a} {c = c} {r = r} is h =
      let P : Program Wish Reply _ → Type 0 = λ rest. Runs uses.leads uses.refuses a.who a.uses c.uses rest (beside r c.state) in
      record { same = h.same; made = subst P (sym is) h.made }

-- a closing for want of memory, behind what came to a halt
module _ {S : Type 0} (uses : Relations S) where
  closes_runs : {A : Type 0} (who : List ℕ) (s : S) (b c : Activity S) (p : Program Wish Reply A) (halt : Halt) → Closes uses.leads b c halt → Runs uses.leads uses.refuses who s b.uses p (Err halt)
      → RunsWhole uses.leads uses.refuses who s c.uses p (Err halt)
  closes_runs who s b c p NoMemory (l, same) h = closes uses who s b.uses c.uses p cause.NoMemory h l
  closes_runs who s b c p Wait same h = let P : Activity S → Type 0 = λ d. Runs uses.leads uses.refuses who s d.uses p (Err Wait) in subst P (sym same) h
  closes_runs who s b c p (Closed why) same h = let P : Activity S → Type 0 = λ d. Runs uses.leads uses.refuses who s d.uses p (Err (Closed why)) in subst P (sym same) h

  pub same_who : (b c : Activity S) (halt : Halt) → Closes uses.leads b c halt → c.who ≡ b.who
  same_who b c NoMemory h = ap (λ d. d.who) h.1
  same_who b c Wait h = ap (λ d. d.who) h
  same_who b c (Closed why) h = ap (λ d. d.who) h

  pub closes_told : {A : Type 0} (a b c : Activity S) (telling : State → Program Wish Reply (A × State)) (halt : Halt) → Tells uses.leads uses.refuses a b telling (Err halt) → Closes uses.leads b c halt
      → RunsWhole uses.leads uses.refuses a.who a.uses c.uses (telling a.state) (Err halt)
  closes_told a b c telling halt h l = closes_runs a.who a.uses b c (telling a.state) halt l h.made

  pub closes_made : {A : Type 0} (a b c : Activity S) (p : Action A) (halt : Halt) → Makes uses.leads uses.refuses a b p (Err (end.Halt halt)) → Closes uses.leads b c halt
      → RunsWhole uses.leads uses.refuses a.who a.uses c.uses (p a.state) (Err halt)
  closes_made a b c p halt h l = closes_runs a.who a.uses b c (p a.state) halt l h.made
