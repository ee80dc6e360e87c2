-- How a session goes on from sentence to sentence.
use Rattle.std.proofs.Common.{◌≡◌, ◌==◌, true, length, ◌⊎◌, inl, inr, ℕ, List, [], ◌∷◌, ◌++◌, Result, Ok, Err, OnOk, arith, refl, sym, ap, subst, append-nil}
use Rattle.std.proofs.lemmas.Bool.Decides.{nat_tests}
use Rattle.jeval.specs.Sentence.{sentence}
use Rattle.jeval.specs.declared.sentence.Shown.{Shown}
use Rattle.jeval.specs.declared.state.State.{State}
use Rattle.jio.specs.Sink.{Writes, TookAll}
use Rattle.juses.specs.Events.{NoMore, told, passing, RunsWhole}
use Rattle.juses.specs.Program.{Return}
use Rattle.juses.specs.Told.{Told, Passed, handed_out, closed_with}
use Rattle.juses.specs.declared.uses.Cause.{Cause}
use Rattle.juses.specs.declared.uses.Halt.{Halt}
use Rattle.juses.specs.declared.uses.Halt.TheVariants.{Wait, NoMemory, Closed}
use Rattle.juses.proofs.Doing.{Relations, both, told_both, whichever, does_both, does_halt}
use Rattle.jsession.specs.Broke.{IsWhy, Stopped, Broke, Went}
use Rattle.jsession.specs.Ran.{Answer, well, ill, Wrote, Moment, moment, RanSentence, RanThrough, handing, doing, closing_of}
use Rattle.jsession.specs.Script.{script, nothing_refused}
use Rattle.jsession.specs.declared.status.Status.{Status}
use Rattle.jsession.proofs.Papers.{took_nothing, took_on}
use Rattle.jsession.proofs.Programs.{does_map}

pub empty_of : (xs : List ℕ) → true ≡ (length xs == 0) → xs ≡ []
empty_of [] h = refl
empty_of (x ∷ xs) h =
    let none : length (x ∷ xs) ≡ 0 = grind (arith, nat_tests, h) in
    absurd (omega (arith, none))

-- the state without what was shown
abbrev state_of : Result (Shown × State) Halt → Result State Halt
state_of (Ok a) = Ok a.1
state_of (Err halt) = Err halt

why_of : (r : Result (Shown × State) Halt) (written : Answer) (why : Status) → IsWhy r written why → IsWhy (state_of r) written why
why_of (Ok a) (Ok done) why h = h
why_of (Ok a) (Err status) why h = h
why_of (Err halt) (Ok done) why h = h
why_of (Err halt) (Err status) why h = h

module _ {S : Type 0} (uses : Relations S) where
  pub then_closed : (s t u : S) (bytes : List ℕ) (cause : Cause) → uses.leads s (handed_out bytes) t → uses.leads t (closed_with cause) u → uses.leads s (handing bytes (cause ∷ [])) u
  then_closed s t u bytes cause h k =
      let P : List ℕ → Type 0 = λ xs. uses.leads s (handing xs (cause ∷ [])) u in
      subst P (append-nil bytes) (uses.joins s t u (handed_out bytes) (closed_with cause) h k)

  -- a sentence was run, and its prints were written
  pub ran_sentence : (u m v : S) (turns : ℕ) (line : List ℕ) (s s' : State) (shown : Shown) (bytes : List ℕ) (p q : Writes)
      → RunsWhole uses.leads uses.refuses [] u m (sentence turns (line ∷ []) s) (Ok (shown, s')) → uses.leads m (handing bytes []) v → TookAll p bytes q
      → RanSentence uses.leads turns line (moment u s p) (moment v s' q)
  ran_sentence u m v turns line s s' shown bytes p q (es, l, h) k w =
      let P : List Told → Type 0 = λ xs. uses.leads u (record { told = xs; handed = bytes; closed = [] }) v in
      record {
        shown = shown;
        events = es;
        bytes = bytes;
        led = subst P (append-nil (told es)) (uses.joins u m v (passing es []) (handing bytes []) l k);
        did = whichever (uses.refuses m) nothing_refused [] (sentence turns (line ∷ []) s) es (shown, s') h;
        wrote = w;
      }

  -- what came of a sentence came of a script of this one
  one_line : (u m : S) (turns : ℕ) (line : List ℕ) (s : State) (r : Result (Shown × State) Halt)
      → RunsWhole uses.leads uses.refuses [] u m (sentence turns (line ∷ []) s) r → RunsWhole uses.leads uses.refuses [] u m (script turns (line ∷ []) s) (state_of r)
  one_line u m turns line s (Ok a) (es, l, h) = (es, l, does_map (uses.refuses m) [] (λ (x : Shown × State). x.1) (sentence turns (line ∷ []) s) es a h)
  one_line u m turns line s (Err Wait) (es, l, h) = (es, l, does_halt (uses.refuses m) (λ (x : Shown × State). Return x.1) [] (sentence turns (line ∷ []) s) es Wait h)
  one_line u m turns line s (Err NoMemory) (es, l, h) = (es, l, does_halt (uses.refuses m) (λ (x : Shown × State). Return x.1) [] (sentence turns (line ∷ []) s) es NoMemory h)
  one_line u m turns line s (Err (Closed cause)) (es, l, h) = (es, l, does_halt (uses.refuses m) (λ (x : Shown × State). Return x.1) [] (sentence turns (line ∷ []) s) es (Closed cause) h)

  -- it halted, or its prints weren't written whole
  pub stopped : (u m v : S) (turns : ℕ) (line : List ℕ) (s s' : State) (r : Result (Shown × State) Halt) (bytes : List ℕ) (written : Answer) (p q : Writes) (why : Status)
      → RunsWhole uses.leads uses.refuses [] u m (sentence turns (line ∷ []) s) r → uses.leads m (handing bytes (closing_of written)) v → Wrote p bytes written q → IsWhy r written why
      → Stopped uses.leads uses.refuses turns (line ∷ []) (moment u s p) (moment v s' q) why
  stopped u m v turns line s s' r bytes written p q why h l w is = record {
    halted = state_of r;
    mid = m;
    ran = one_line u m turns line s r h;
    bytes = bytes;
    written = written;
    led = l;
    wrote = w;
    is_why = why_of r written why is;
  }

  pub through_on : (turns : ℕ) (line : List ℕ) (lines : List (List ℕ)) (a b c : Moment S)
      → RanSentence uses.leads turns line a b → RanThrough uses.leads turns lines b c → RanThrough uses.leads turns (line ∷ lines) a c
  through_on turns line lines a b c one other =
      let P : List Told → Type 0 = λ xs. uses.leads a.uses (record { told = xs; handed = one.bytes ++ other.bytes; closed = [] }) c.uses in
      record {
        events = both one.events other.events;
        bytes = one.bytes ++ other.bytes;
        led = subst P (sym (told_both one.events other.events)) (uses.joins a.uses b.uses c.uses (doing one.events one.bytes) (doing other.events other.bytes) one.led other.led);
        did = does_both nothing_refused (λ (x : Shown × State). script turns lines x.1) [] (sentence turns (line ∷ []) a.state) one.events other.events (one.shown, b.state) (Ok c.state) one.did other.did;
        wrote = took_on a.sink b.sink c.sink one.bytes other.bytes one.wrote other.wrote;
      }

  -- nothing was done
  ran_nothing : (turns : ℕ) (a : Moment S) → RanThrough uses.leads turns [] a a
  ran_nothing turns a = record { events = NoMore; bytes = []; led = uses.stays a.uses; did = refl; wrote = took_nothing a.sink }

  module _ (drained : S → Type 0) where
    still_out : (u m : S) (first : List (List ℕ)) → ((first ≡ []) × (m ≡ u)) ⊎ drained m → drained u → drained m
    still_out u m first (inl same) out = subst drained (sym same.1) out
    still_out u m first (inr all) out = all

    -- a sentence was run and its prints were written, and this came of the others
    pub went_on : (turns : ℕ) (line : List ℕ) (lines : List (List ℕ)) (a b c : Moment S) (answer : Answer)
        → RanSentence uses.leads turns line a b → drained b.uses → Went uses.leads uses.refuses drained turns lines b c answer → Went uses.leads uses.refuses drained turns (line ∷ lines) a c answer
    went_on turns line lines a b c (Ok done) one out other = (through_on turns line lines a b c one other.0, other.1)
    went_on turns line lines a b c (Err why) one out other = record {
      first = line ∷ other.first;
      now = other.now;
      later = other.later;
      split = ap (λ l. line ∷ l) other.split;
      one = other.one;
      between = other.between;
      ran = through_on turns line other.first a b other.between one other.ran;
      all_out = inr (still_out b.uses other.between.uses other.first other.all_out out);
      stopped = other.stopped;
      none_left = other.none_left;
    }

    -- the session broke off in a sentence
    pub went_down : (turns : ℕ) (line : List ℕ) (lines : List (List ℕ)) (a c : Moment S) (why : Status)
        → Stopped uses.leads uses.refuses turns (line ∷ []) a c why → (c.sink.whole ≡ true → drained c.uses) → Went uses.leads uses.refuses drained turns (line ∷ lines) a c (ill why)
    went_down turns line lines a c why one out = record {
      first = [];
      now = line ∷ [];
      later = lines;
      split = refl;
      one = omega arith;
      between = a;
      ran = ran_nothing turns a;
      all_out = inl (refl, refl);
      stopped = one;
      none_left = out;
    }

    -- nothing is left to run, and what was printed is written, or not
    pub went_out : (turns : ℕ) (u v : S) (s : State) (bytes : List ℕ) (p q : Writes) (answer : Answer)
        → uses.leads u (handing bytes (closing_of answer)) v → OnOk answer (drained v) → (q.whole ≡ true → drained v) → Wrote p bytes answer q
        → Went uses.leads uses.refuses drained turns [] (moment u s p) (moment v s q) answer
    went_out turns u v s bytes p q (Ok done) l out left w = (record { events = NoMore; bytes = bytes; led = l; did = refl; wrote = w }, out)
    went_out turns u v s bytes p q (Err why) l out left w = record {
      first = [];
      now = [];
      later = [];
      split = refl;
      one = omega arith;
      between = moment u s p;
      ran = ran_nothing turns (moment u s p);
      all_out = inl (refl, refl);
      stopped = record { halted = Ok s; mid = u; ran = (NoMore, uses.stays u, refl); bytes = bytes; written = Err why; led = l; wrote = w; is_why = refl };
      none_left = left;
    }

    -- what comes of the rest comes of the whole
    abbrev pub Stage : ℕ → List (List ℕ) → Moment S → List (List ℕ) → Moment S → Type 0
    Stage turns lines a rest b =
        (c : Moment S) (answer : Answer) → Went uses.leads uses.refuses drained turns rest b c answer → Went uses.leads uses.refuses drained turns lines a c answer
