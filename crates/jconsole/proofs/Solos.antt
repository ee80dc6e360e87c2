-- What a session over a new desk did is a history, and what it wrote are the prints of that.
use Rattle.std.proofs.Common.{◌≡◌, Bool, true, true≢false, inl, inr, arith, ℕ, List, [], ◌∷◌, ◌++◌, length, drop, Option, Ok, Err, refl, ap, sym, ◌∙◌, subst, append_assoc, append-nil}
use Rattle.std.proofs.Math.Seq.{take-append_seam}
use Rattle.std.proofs.lemmas.List.{take-append-drop}
use Rattle.std.specs.Io.{StartsWith}
use Rattle.std.specs.Io.KnownBytes.{Appends}
use Rattle.jeval.specs.declared.state.State.{State}
use Rattle.jio.specs.Sink.{Writes, TookPart}
use Rattle.jio.proofs.Writing.{appends_nothing, appends_on, appends_kept}
use Rattle.jsession.specs.Broke.{Broke}
use Rattle.jsession.specs.Ran.{Answer, Wrote, Moment, moment, handing, doing, closing_of}
use Rattle.jsession.specs.Script.{script, first_state, nothing_refused, DidAll, DidSome}
use Rattle.jsession.specs.declared.status.Status.{Status}
use Rattle.jsession.specs.declared.status.Status.TheVariants as status
use Rattle.jsession.proofs.Programs.{does_begun, script_on, more_begun}
use Rattle.juses.specs.Desk.{State as DeskState, first}
use Rattle.juses.specs.Events.{Events, told, passing, closings}
use Rattle.juses.specs.Histories.{Legal, Faithful, Once, OneThreadRun, prints}
use Rattle.juses.specs.Keeping.{first_kept}
use Rattle.juses.specs.Leading.{Leads, LeadsFrom, leads_on}
use Rattle.juses.specs.OldestFirst.{taken, onto, history}
use Rattle.juses.specs.Standing.{Kept, Refuses}
use Rattle.juses.specs.Entries.{entry}
use Rattle.juses.specs.Told.{Told, Replied, Handed, NoneDue, ◌followed_by◌}
use Rattle.juses.specs.declared.uses.Cause.{Cause}
use Rattle.juses.specs.declared.uses.Entry.{Entry}
use Rattle.juses.specs.declared.uses.Halt.TheVariants.{NoMemory}
use Rattle.juses.specs.declared.uses.Use.TheVariants.{Begin}
use Rattle.juses.specs.declared.uses.Reply.TheVariants.{Done}
use Rattle.juses.proofs.Desks.{first_stands}
use Rattle.juses.proofs.Doing.{both, told_both}
use Rattle.juses.proofs.Runs.{a_run, once_run, one_thread, legal_history, faithful_history, complete_history, after_onto, printed_after, whole_run}
use Rattle.jconsole.specs.Session.{main_program, WroteRun, WrotePart, BrokeOff, WroteSome}

took_more : (a b : Option (List ℕ)) (xs ys : List ℕ) → TookPart a b xs → TookPart a b (xs ++ ys)
took_more a b xs ys (part, begins, k) =
    let n = length part in
    let split : xs ≡ part ++ drop n xs = sym (take-append-drop n xs) ∙ ap (λ zs. zs ++ drop n xs) begins in
    let whole : xs ++ ys ≡ part ++ (drop n xs ++ ys) = ap (λ zs. zs ++ ys) split ∙ append_assoc part (drop n xs) ys in
    let P : List ℕ → Type 0 = λ zs. StartsWith zs part in
    (part, subst P (sym whole) (take-append_seam part (drop n xs ++ ys)), k)

took_further : (a b c : Option (List ℕ)) (xs ys : List ℕ) → Appends a b xs → TookPart b c ys → TookPart a c (xs ++ ys)
took_further a b c xs ys h (part, begins, k) =
    let n = length part in
    let split : ys ≡ part ++ drop n ys = sym (take-append-drop n ys) ∙ ap (λ zs. zs ++ drop n ys) begins in
    let whole : xs ++ ys ≡ (xs ++ part) ++ drop n ys = ap (λ zs. xs ++ zs) split ∙ sym (append_assoc xs part (drop n ys)) in
    let P : List ℕ → Type 0 = λ zs. StartsWith zs (xs ++ part) in
    (xs ++ part, subst P (sym whole) (take-append_seam (xs ++ part) (drop n ys)), appends_on a b c xs part h k)

pub took_all : (a b : Option (List ℕ)) (xs : List ℕ) → Appends a b xs → TookPart a b xs
took_all a b xs h =
    let P : List ℕ → Type 0 = λ zs. StartsWith zs xs in
    (xs, subst P (append-nil xs) (take-append_seam xs []), h)

once_itself : (h : List Entry) → Once h h
once_itself [] = refl
once_itself (e ∷ h) = inl refl

once_onto : (p : List Entry) (xs : List Told) (h : List Entry) → Once p h → Once p (onto xs h)
once_onto p [] h was = was
once_onto p (Replied e ∷ xs) h was = once_onto p xs (e ∷ h) (inr was)
once_onto p (Handed why task thread work ∷ xs) h was = once_onto p xs (entry task thread Begin Done ∷ h) (inr was)
once_onto p (NoneDue why ∷ xs) h was = once_onto p xs h was

onto_append : (xs ys : List Told) (h : List Entry) → onto (xs ++ ys) h ≡ onto ys (onto xs h)
onto_append [] ys h = refl
onto_append (Replied e ∷ xs) ys h = onto_append xs ys (e ∷ h)
onto_append (Handed why task thread work ∷ xs) ys h = onto_append xs ys (entry task thread Begin Done ∷ h)
onto_append (NoneDue why ∷ xs) ys h = onto_append xs ys h

once_before : (es fs : Events) → Once (history (told es)) (history (told (both es fs)))
once_before es fs =
    let P : List Entry → Type 0 = λ h. Once (history (told es)) h in
    subst P (sym (ap history (told_both es fs) ∙ onto_append (told es) (told fs) [])) (once_onto (history (told es)) (told fs) (history (told es)) (once_itself (history (told es))))

-- what was done so, from a new desk to this one
abbrev pub Since : Events → List ℕ → List Cause → Kept → Type 0
Since es bytes closed d = Leads (first_kept 0) (record { told = told es; handed = bytes; closed = closed }) d

module _ (d : Kept) (es : Events) (bytes : List ℕ) (closed : List Cause) (led : Since es bytes closed d) where
  from : LeadsFrom (first_kept 0) (first 0) (record { told = told es; handed = bytes; closed = closed }) d
  from = led.from (first 0) (first_stands 0 (first_kept 0) refl)

  printed : (taken (first 0) (told es)).printed ≡ prints (history (told es))
  printed = ap (λ (s : DeskState). s.printed) (sym (after_onto 0 (told es) [])) ∙ printed_after 0 (history (told es))

  -- the bytes that were handed out, and those that weren't
  pub split : prints (history (told es)) ≡ bytes ++ d.waiting
  split =
      sym printed ∙ sym (take-append-drop d.handed (taken (first 0) (told es)).printed)
      ∙ ap (λ zs. zs ++ drop d.handed (taken (first 0) (told es)).printed) from.out
      ∙ ap (λ zs. bytes ++ zs) (sym from.stands.waiting)

  -- where all were handed out
  pub all_printed : d.waiting ≡ [] → bytes ≡ prints (history (told es))
  all_printed out = sym (append-nil bytes) ∙ ap (λ zs. bytes ++ zs) (sym out) ∙ sym split

  pub is_wrote : (took took' : Option (List ℕ)) → d.waiting ≡ [] → Appends took took' bytes → Appends took took' (prints (history (told es)))
  is_wrote took took' out wrote = let P : List ℕ → Type 0 = λ zs. Appends took took' zs in subst P (all_printed out) wrote

  -- what was done so far was done at some time in the one-thread run
  pub is_once : (items : List (List ℕ)) → DidSome (main_program items) es → (run : List Entry) → OneThreadRun (main_program items) 0 run → Once (history (told es)) run
  is_once items did run is =
      let p = main_program items in
      let legal : Legal 0 (history (told es)) = legal_history p nothing_refused 0 es (Err NoMemory) did from.tells in
      let faithful : Faithful p (history (told es)) = faithful_history p nothing_refused es (Err NoMemory) did in
      once_run p 0 run is (history (told es)) (one_thread p 0 (history (told es)) legal faithful)

  pub part_of : (items : List (List ℕ)) (took took' : Option (List ℕ)) (whole : Bool) → DidSome (main_program items) es → TookPart took took' bytes
      → (whole ≡ true → d.waiting ≡ []) → (whole ≡ true → Appends took took' bytes) → WrotePart took took' whole items
  part_of items took took' whole did took_part out all =
      let P : List ℕ → Type 0 = λ zs. TookPart took took' zs in
      let run = a_run (main_program items) 0 in (
        run.0,
        run.1,
        history (told es),
        is_once items did run.0 run.1,
        subst P (sym split) (took_more took took' bytes d.waiting took_part),
        λ w. is_wrote took took' (out w) (all w),
      )

  pub is_run : (items : List (List ℕ)) (state : State) → DidAll (main_program items) es state → OneThreadRun (main_program items) 0 (history (told es))
  is_run items state did =
      let p = main_program items in
      let legal : Legal 0 (history (told es)) = legal_history p nothing_refused 0 es (Ok state) did from.tells in
      let faithful : Faithful p (history (told es)) = faithful_history p nothing_refused es (Ok state) did in
      whole_run p 0 (history (told es)) legal faithful (complete_history p nothing_refused es state did)

  pub whole_of : (items : List (List ℕ)) (took took' : Option (List ℕ)) (state : State) → DidAll (main_program items) es state → d.waiting ≡ [] → Appends took took' bytes → WroteRun took took' items
  whole_of items took took' state did out wrote = (history (told es), is_run items state did, is_wrote took took' out wrote)

part_taken : (p q : Writes) (bytes : List ℕ) (written : Answer) → Wrote p bytes written q → TookPart p.took q.took bytes
part_taken p q bytes (Ok done) h = took_all p.took q.took bytes h.took
part_taken p q bytes (Err status.WriteFault) h = h.took
part_taken p q bytes (Err status.NoMemory) h = took_more p.took q.took [] bytes (took_all p.took q.took [] (appends_kept p.took p.took q.took [] (appends_nothing p.took) h.took))
part_taken p q bytes (Err status.Done) h = absurd h
part_taken p q bytes (Err status.Usage) h = absurd h
part_taken p q bytes (Err status.ReadFault) h = absurd h
part_taken p q bytes (Err status.TooLong) h = absurd h

all_taken : (p q : Writes) (bytes : List ℕ) (written : Answer) → Wrote p bytes written q → q.whole ≡ true → Appends p.took q.took bytes
all_taken p q bytes (Ok done) h whole = h.took
all_taken p q bytes (Err status.WriteFault) h whole = absurd (true≢false (sym whole ∙ h.whole))
all_taken p q bytes (Err status.NoMemory) h whole = absurd (true≢false (sym whole ∙ h.whole))
all_taken p q bytes (Err status.Done) h whole = absurd h
all_taken p q bytes (Err status.Usage) h whole = absurd h
all_taken p q bytes (Err status.ReadFault) h whole = absurd h
all_taken p q bytes (Err status.TooLong) h whole = absurd h

-- what was done is all that was to be done
pub all_of : (took took' : Option (List ℕ)) (items : List (List ℕ)) → WroteRun took took' items → BrokeOff took took' items
all_of took took' items (h, run, wrote) = record {
  first = items;
  now = [];
  later = [];
  split = sym (append-nil items);
  one = omega arith;
  run = h;
  is_run = run;
  further = h;
  is_further = let P : List (List ℕ) → Type 0 = λ ls. OneThreadRun (main_program ls) 0 h in subst P (sym (append-nil items)) run;
  history = h;
  since = once_itself h;
  until = once_itself h;
  late = [];
  printed = sym (append-nil (prints h));
  between = took';
  whole = wrote;
  part = ([], refl, appends_nothing took');
}

module _ (items : List (List ℕ)) (sink : Writes) (new : Moment Kept) (why : Status)
    (b : Broke Leads Refuses (λ d. d.waiting ≡ []) 10000000 items (moment (first_kept 0) (first_state 10000000) sink) new why) where
  abbrev es : Events
  es = b.ran.events

  abbrev fs : Events
  fs = b.stopped.ran.0

  abbrev all_bytes : List ℕ
  all_bytes = b.ran.bytes ++ b.stopped.bytes

  abbrev all_closed : List Cause
  all_closed = closings b.stopped.halted ++ closing_of b.stopped.written

  mid_out : b.between.uses.waiting ≡ []
  mid_out = elim b.all_out [ inl same ↦ ap (λ (k : Kept). k.waiting) same.1 | inr out ↦ out ]

  led : Since (both es fs) all_bytes all_closed new.uses
  led =
      let P : List Told → Type 0 = λ xs. Leads (first_kept 0) (record { told = xs; handed = all_bytes; closed = all_closed }) new.uses in
      let last = leads_on b.between.uses b.stopped.mid new.uses (passing fs (closings b.stopped.halted)) (handing b.stopped.bytes (closing_of b.stopped.written)) b.stopped.ran.1 b.stopped.led in
      subst P (ap (λ xs. told es ++ xs) (append-nil (told fs)) ∙ sym (told_both es fs))
      (leads_on (first_kept 0) b.between.uses new.uses (doing es b.ran.bytes) (passing fs (closings b.stopped.halted) followed_by handing b.stopped.bytes (closing_of b.stopped.written)) b.ran.led last)

  begun : DidSome (main_program (b.first ++ b.now)) (both es fs)
  begun =
      script_on nothing_refused [] 10000000 b.first b.now (first_state 10000000) b.between.state es fs (Err NoMemory) b.ran.did
      (does_begun (Refuses b.stopped.mid) nothing_refused [] (script 10000000 b.now b.between.state) fs b.stopped.halted b.stopped.ran.2)

  all_begun : DidSome (main_program items) (both es fs)
  all_begun =
      let P : List (List ℕ) → Type 0 = λ ls. DidSome (main_program ls) (both es fs) in
      subst P (append_assoc b.first b.now b.later ∙ sym b.split) (more_begun nothing_refused [] 10000000 (b.first ++ b.now) b.later (first_state 10000000) (both es fs) begun)

  -- what was printed since
  abbrev late : List ℕ
  late = b.stopped.bytes ++ new.uses.waiting

  since_then : prints (history (told (both es fs))) ≡ prints (history (told es)) ++ late
  since_then =
      split new.uses (both es fs) all_bytes all_closed led ∙ append_assoc b.ran.bytes b.stopped.bytes new.uses.waiting
      ∙ ap (λ zs. zs ++ late) (all_printed b.between.uses es b.ran.bytes [] b.ran.led mid_out)

  abbrev further : (r : List Entry) × OneThreadRun (main_program (b.first ++ b.now)) 0 r
  further = a_run (main_program (b.first ++ b.now)) 0

  broken : BrokeOff sink.took new.sink.took items
  broken = record {
    first = b.first;
    now = b.now;
    later = b.later;
    split = b.split;
    one = b.one;
    run = history (told es);
    is_run = is_run b.between.uses es b.ran.bytes [] b.ran.led b.first b.between.state b.ran.did;
    further = further.0;
    is_further = further.1;
    history = history (told (both es fs));
    since = once_before es fs;
    until = is_once new.uses (both es fs) all_bytes all_closed led (b.first ++ b.now) begun further.0 further.1;
    late = late;
    printed = since_then;
    between = b.between.sink.took;
    whole = is_wrote b.between.uses es b.ran.bytes [] b.ran.led sink.took b.between.sink.took mid_out b.ran.wrote.took;
    part = took_more b.between.sink.took new.sink.took b.stopped.bytes new.uses.waiting (part_taken b.between.sink new.sink b.stopped.bytes b.stopped.written b.stopped.wrote);
  }

  pub some_of : WroteSome sink.took new.sink.took new.sink.whole items
  some_of = (
    part_of new.uses (both es fs) all_bytes all_closed led items sink.took new.sink.took new.sink.whole all_begun
        (took_further sink.took b.between.sink.took new.sink.took b.ran.bytes b.stopped.bytes b.ran.wrote.took (part_taken b.between.sink new.sink b.stopped.bytes b.stopped.written b.stopped.wrote))
        b.none_left
        (λ whole. appends_on sink.took b.between.sink.took new.sink.took b.ran.bytes b.stopped.bytes b.ran.wrote.took (all_taken b.between.sink new.sink b.stopped.bytes b.stopped.written b.stopped.wrote whole)),
    broken,
  )
