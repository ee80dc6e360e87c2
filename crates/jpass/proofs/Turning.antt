-- What a turn at the desk makes of a pass and of the desk.
use Rattle.std.proofs.Common.{◌≡◌, inl, inr, refl, sym, ap, subst, ◌∙◌, ℕ, zero, suc, ◌≤◌, ◌+◌, Bool, true, false, List, [], ◌∷◌, ◌++◌, length, take, drop, Option, Some, None, Result, Ok, Err, IfOk, OnOk, arith, append-nil, append_assoc, length-append, true≢false}
use Rattle.std.proofs.lemmas.List.{take-append-le, take_at}
use Rattle.jturn.proofs.Grown.{grew_added, grew_kept}
use Rattle.jturn.specs.Pass.{Pass, Enters, Grew, StartsWith, entries, with_entry}
use Rattle.jdata.specs.declared.path.PyxId.{PyxId}
use Rattle.juses.specs.Desk.{State, reply, moved, bytes_of, has_unended, waiting_work}
use Rattle.juses.specs.Due.{HandsTask, due_answer, due_by, due_open, with_work, kept_due, due_task, own_task, waits_alone, is_waiting, with_that, begun_task, begun_open, after_due}
use Rattle.juses.specs.Entries.{entry, pyx_of, IsLonger, started_by}
use Rattle.juses.specs.Histories.{after, prints, Once}
use Rattle.juses.specs.Keeping.{after_begin}
use Rattle.juses.specs.Keys.{Threads}
use Rattle.juses.specs.Standing.{Kept, Stands, Answers, OnlyMoves, HaltsRightly, HaltsBy, HandsOut, closed_by, first_cause, emptied, phase_in}
use Rattle.juses.specs.Told.{Told, Replied, Handed, nothing, replied, asked_for, handed_out, closed_with, IsDue}
use Rattle.juses.specs.declared.kept.Phase.{Phase}
use Rattle.juses.specs.declared.kept.Phase.TheVariants.{Waiting, Running, Over}
use Rattle.juses.specs.declared.uses.Cause.{Cause}
use Rattle.juses.specs.declared.uses.Cause.TheVariants as cause
use Rattle.juses.specs.declared.uses.Entry.{Entry}
use Rattle.juses.specs.declared.uses.Halt.{Halt}
use Rattle.juses.specs.declared.uses.Halt.TheVariants.{Wait, NoMemory, Closed}
use Rattle.juses.specs.declared.uses.Reply.{Reply}
use Rattle.juses.specs.declared.uses.Reply.TheVariants.{Done}
use Rattle.juses.specs.declared.uses.Use.{Use}
use Rattle.juses.specs.declared.uses.Use.TheVariants.{Begin}
use Rattle.juses.specs.declared.uses.Why.{Why}
use Rattle.juses.specs.declared.uses.Why.TheVariants.{Started, Opening, Working, Ending}
use Rattle.juses.specs.declared.uses.Work.{Work}
use Rattle.juses.proofs.Desks.{only_so, only_same}
use Rattle.juses.proofs.Runs.{printed_after}
use Rattle.jpass.specs.Stood.{put_on, newest, Replies, StoodFor, HaltsFor, IsAnswered, mark_of, closed_as}
use Rattle.jpass.specs.Timed.{Timed, IsReplied, IsHanded, IsNoneDue, HasEnded, MayHelp}
use Rattle.jpass.specs.TimedLaws.{once_self, once_again}
use Rattle.jpass.specs.Used.{Used, AskedOnce, Sought, HandedOut, Shut, Refused, AsksAgain, ClosedAs, IsClosedBy, IsCounted, printed_in, out_of, workers_of, closing_cause}

put_both : (xs ys h : List Entry) → put_on (xs ++ ys) h ≡ put_on ys (put_on xs h)
put_both [] ys h = refl
put_both (x ∷ xs) ys h = put_both xs ys (x ∷ h)

newest_more : (log : List Entry) (e : Entry) → newest (log ++ e ∷ []) ≡ e ∷ newest log
newest_more log e = put_both log (e ∷ []) []

put_length : (xs h : List Entry) → length (put_on xs h) ≡ length xs + length h
put_length [] h = omega arith
put_length (x ∷ xs) h = let r = put_length xs (x ∷ h) in omega (arith, r)

pub newest_length : (log : List Entry) → length (newest log) ≡ length log
newest_length log = let r = put_length log [] in omega (arith, r)

once_behind : (x : Entry) (h : List Entry) → Once h (x ∷ h)
once_behind x h = inr (once_self h)

once_put : (xs h : List Entry) → Once h (put_on xs h)
once_put [] h = once_self h
once_put (x ∷ xs) h = once_again h (x ∷ h) (put_on xs (x ∷ h)) (once_behind x h) (once_put xs (x ∷ h))

pub starts_once : (log seen : List Entry) → StartsWith log seen → Once (newest seen) (newest log)
starts_once log seen s = subst (Once (newest seen)) (sym (ap newest s.1 ∙ put_both seen s.0 [])) (once_put s.0 (newest seen))

-- ---- the prints

abbrev bytes_in : List Entry → List ℕ
bytes_in [] = []
bytes_in (e ∷ xs) = bytes_of e.asked ++ bytes_in xs

prints_put : (xs h : List Entry) → prints (put_on xs h) ≡ prints h ++ bytes_in xs
prints_put [] h = sym (append-nil (prints h))
prints_put (e ∷ xs) h = prints_put xs (e ∷ h) ∙ append_assoc (prints h) (bytes_of e.asked) (bytes_in xs)

seen_more : (p q : Pass Entry) → (s : StartsWith q.seen p.seen) → printed_in q ≡ printed_in p ++ bytes_in s.0
seen_more p q s = ap (λ l. prints (newest l)) s.1 ∙ (ap prints (put_both p.seen s.0 []) ∙ prints_put s.0 (newest p.seen))

stays_out : (p q : Pass Entry) → StartsWith q.seen p.seen → q.mark.0 ≡ p.mark.0 → IsCounted p → IsCounted q × (out_of q ≡ out_of p ++ [])
stays_out p q s n c =
    let more : printed_in q ≡ printed_in p ++ bytes_in s.0 = seen_more p q s in
    let long : p.mark.0 ≤ length (printed_in p ++ bytes_in s.0) = omega (arith, c, length-append (printed_in p) (bytes_in s.0)) in (
      subst (λ k. k ≤ length (printed_in q)) (sym n) (subst (λ l. p.mark.0 ≤ length l) (sym more) long),
      ap (λ k. take k (printed_in q)) n ∙ (ap (λ l. take p.mark.0 l) more ∙ (take-append-le p.mark.0 (printed_in p) (bytes_in s.0) c ∙ sym (append-nil (out_of p)))),
    )

-- ---- the desk

pub stood_more : (d d' : Kept) (seen : List Entry) (who : List ℕ) (thread : ℕ) (asked : Use) (r : Reply) → StoodFor d seen → Answers d who thread asked r d' → StoodFor d' (seen ++ entry who thread asked r ∷ [])
stood_more d d' seen who thread asked r f a =
    let e : Entry = entry who thread asked r in
    let b = a (after d.workers (newest seen)) f.1 in
    let w : d.workers ≡ d'.workers = f.1.workers ∙ sym b.1.workers in
    let P : ℕ → Type 0 = λ n. Replies n (e ∷ newest seen) × Stands d' (after n (e ∷ newest seen)) in
    let Q : List Entry → Type 0 = λ h. Replies d'.workers h × Stands d' (after d'.workers h) in
    subst Q (sym (newest_more seen e)) (subst P w ((f.0, b.0), b.1))

pub stood_same : (d d' : Kept) (seen : List Entry) → StoodFor d seen → d'.workers ≡ d.workers → ((s : State) → Stands d s → Stands d' s) → StoodFor d' seen
stood_same d d' seen f w on =
    let P : ℕ → Type 0 = λ n. Replies n (newest seen) × Stands d' (after n (newest seen)) in
    subst P (sym w) (f.0, on (after d.workers (newest seen)) f.1)

pub moves_mark : (d d' : Kept) → OnlyMoves d d' → mark_of d' ≡ mark_of d
moves_mark d d' o = λ i. (o.handed i, closed_as (o.closed i))

-- why it answers that it was closed
pub closed_so : (thread : ℕ) (d : Kept) (who : List ℕ) (asked : Use) (c : Cause) → HaltsRightly thread d who asked (Err (Closed c)) → d.closed ≡ Some c
closed_so thread d who asked c h = by d.closed h
  where
    by : (o : Option Cause) → HaltsBy thread d who asked o (Err (Closed c)) → o ≡ Some c
    by (Some x) h = cc
    by None h = absurd h

pub refused_so : (q : Pass Entry) (c : Cause) → q.mark.1 ≡ closed_as (Some c) → Refused q (Closed c)
refused_so q cause.NoMemory is = tt
refused_so q cause.WriteFault is = is
refused_so q cause.Stuck is = is

-- ---- a turn that makes an entry

module _ (thread : ℕ) (helped : List (List ℕ)) (p h q : Pass Entry) (m : ℕ × ℕ) (n : Enters p h) where
  module _ (e : Entry) (is : q ≡ record (with_entry h e) { mark = m }) (own : entries q ≡ entries h ++ e ∷ []) (same : p.is_marker ≡ true → m ≡ p.mark) where
    added : Grew p (e ∷ []) q
    added = grew_added p h q e m n is own

    seen_last : Once (e ∷ newest h.seen) (newest q.seen)
    seen_last = subst (Once (e ∷ newest h.seen)) (sym (ap (λ z. newest z.seen) is ∙ newest_more h.seen e)) (once_self (e ∷ newest h.seen))

    place : q.own ≡ p.own ++ length (newest h.seen) ∷ []
    place = ap (λ z. z.own) is ∙ (λ i. n.own i ++ (sym (newest_length h.seen)) i ∷ [])

    -- what is told of it, at its place
    timed_last : (x : Told) → Timed (workers_of p.constant) thread (newest p.seen) helped (x ∷ []) (length (newest h.seen) ∷ []) (newest q.seen) → (places : List ℕ) × (q.own ≡ p.own ++ places) × Timed (workers_of p.constant) thread (newest p.seen) helped (x ∷ []) places (newest q.seen)
    timed_last x t = (length (newest h.seen) ∷ [], place, t)

    pub used_replied : IsReplied thread (after (workers_of p.constant) (newest h.seen)) e → Used thread helped p (replied e) q
    used_replied so = record {
      grew = added;
      timed = timed_last (Replied e) (newest h.seen, [], refl, starts_once h.seen p.seen n.seen, so, (refl, seen_last));
      out = λ k c. stays_out p q added.seen (ap (λ x. x.mark.0) is ∙ ap (λ x. x.0) (same k)) c;
      none_out = λ k. refl;
      closing = λ k. inl (ap (λ x. x.mark.1) is ∙ ap (λ x. x.1) (same k));
    }

  pub used_handed : (why : Why) (task : List ℕ) (work : Work) (is : q ≡ record (with_entry h (entry task thread Begin Done)) { mark = m }) (own : entries q ≡ entries h ++ entry task thread Begin Done ∷ []) (same : p.is_marker ≡ true → m ≡ p.mark)
      → IsHanded thread (after (workers_of p.constant) (newest h.seen)) helped why task thread work → Used thread helped p (asked_for thread why (Some (task, work))) q
  used_handed why task work is own same so =
      let e : Entry = entry task thread Begin Done in record {
        grew = added e is own same;
        timed = timed_last e is own same (Handed why task thread work) (newest h.seen, [], refl, starts_once h.seen p.seen n.seen, so, (refl, seen_last e is own same));
        out = λ k c. stays_out p q (added e is own same).seen (ap (λ x. x.mark.0) is ∙ ap (λ x. x.0) (same k)) c;
        none_out = λ k. refl;
        closing = λ k. inl (ap (λ x. x.mark.1) is ∙ ap (λ x. x.1) (same k));
      }

  -- ---- a turn that makes none

  module _ (is : q ≡ record h { mark = m }) where
    kept : Grew p [] q
    kept = grew_kept p h q m n is

    seen_on : Once (newest p.seen) (newest q.seen)
    seen_on = starts_once q.seen p.seen kept.seen

    same_own : q.own ≡ p.own ++ []
    same_own = ap (λ z. z.own) is ∙ (n.own ∙ sym (append-nil p.own))

    pub used_still : (p.is_marker ≡ true → m ≡ p.mark) → Used thread helped p nothing q
    used_still same = record {
      grew = kept;
      timed = ([], same_own, (refl, seen_on));
      out = λ k c. stays_out p q kept.seen (ap (λ x. x.mark.0) is ∙ ap (λ x. x.0) (same k)) c;
      none_out = λ k. refl;
      closing = λ k. inl (ap (λ x. x.mark.1) is ∙ ap (λ x. x.1) (same k));
    }

    pub used_none_due : (why : Why) → (p.is_marker ≡ true → m ≡ p.mark) → IsNoneDue (after (workers_of p.constant) (newest h.seen)) helped why → Used thread helped p (asked_for thread why None) q
    used_none_due why same so = record {
      grew = kept;
      timed = ([], same_own, (newest q.seen, seen_on, subst (λ l. IsNoneDue (after (workers_of p.constant) (newest l)) helped why) (sym (ap (λ x. x.seen) is)) so, (refl, once_self (newest q.seen))));
      out = λ k c. stays_out p q kept.seen (ap (λ x. x.mark.0) is ∙ ap (λ x. x.0) (same k)) c;
      none_out = λ k. refl;
      closing = λ k. inl (ap (λ x. x.mark.1) is ∙ ap (λ x. x.1) (same k));
    }

    -- it closes
    pub used_closed : (shut : Cause) → (p.is_marker ≡ true → m.0 ≡ p.mark.0) → (p.is_marker ≡ true → IsClosedBy p.mark.1 (shut ∷ []) m.1) → Used thread helped p (closed_with shut) q
    used_closed shut low high = record {
      grew = kept;
      timed = ([], same_own, (refl, seen_on));
      out = λ k c. stays_out p q kept.seen (ap (λ x. x.mark.0) is ∙ low k) c;
      none_out = λ k. refl;
      closing = λ k. subst (λ z. IsClosedBy p.mark.1 (shut ∷ []) z) (sym (ap (λ x. x.mark.1) is)) (high k);
    }

    -- it hands out
    module _ (d d' : Kept) (workers : ℕ) (bytes : List ℕ) (low : m.0 ≡ d'.handed) (st : Stands d (after workers (newest h.seen))) (hands : HandsOut d bytes d') where
      abbrev printed : List ℕ
      printed = prints (newest h.seen)

      same_printed : printed_in q ≡ printed
      same_printed = ap printed_in is

      state_printed : (after workers (newest h.seen)).printed ≡ printed
      state_printed = printed_after workers (newest h.seen)

      all_counted : q.mark.0 ≡ length printed
      all_counted = ap (λ x. x.mark.0) is ∙ (low ∙ ((hands (after workers (newest h.seen)) st).1 ∙ ap length state_printed))

      pub all_out : out_of q ≡ printed_in q
      all_out = ap (λ l. take q.mark.0 l) same_printed ∙ (ap (λ k. take k printed) all_counted ∙ ((ap (λ l. take (length printed) l) (sym (append-nil printed)) ∙ take_at printed [] (length printed) refl) ∙ sym same_printed))

      pub used_out : p.is_marker ≡ true → h.mark.0 ≡ d.handed → (p.is_marker ≡ true → m.1 ≡ p.mark.1) → Used thread helped p (handed_out bytes) q
      used_out marker was high = record {
        grew = kept;
        timed = ([], same_own, (refl, seen_on));
        out = λ k c.
            let len : q.mark.0 ≡ length (printed_in q) = all_counted ∙ ap length (sym same_printed) in
            let from : d.handed ≡ p.mark.0 = sym was ∙ ap (λ x. x.0) (n.mark k) in
            let cut : printed ≡ take d.handed printed ++ bytes = subst (λ l. l ≡ take d.handed l ++ bytes) state_printed (hands (after workers (newest h.seen)) st).0 in
            let first : take d.handed printed ≡ out_of p = ap (λ j. take j printed) from ∙ (ap (λ l. take p.mark.0 l) (seen_more p h n.seen) ∙ take-append-le p.mark.0 (printed_in p) (bytes_in n.seen.0) c) in (
              omega (arith, len),
              all_out ∙ (same_printed ∙ (cut ∙ ap (λ l. l ++ bytes) first)),
            );
        none_out = λ k. absurd (true≢false (sym marker ∙ k));
        closing = λ k. inl (ap (λ x. x.mark.1) is ∙ high k);
      }

      pub bytes_out : p.is_marker ≡ true → h.mark.0 ≡ d.handed → bytes ≡ d.waiting → bytes ≡ drop p.mark.0 (printed_in q)
      bytes_out marker was all =
          let from : d.handed ≡ p.mark.0 = sym was ∙ ap (λ x. x.0) (n.mark marker) in
          let them : (after workers (newest h.seen)).printed ≡ printed_in q = state_printed ∙ sym same_printed in
          all ∙ (st.waiting ∙ (λ i. drop (from i) (them i)))

-- ---- closing

pub closes_as : (o : Option Cause) (c : Cause) → IsClosedBy (closed_as o) (c ∷ []) (closed_as (first_cause o (closing_cause c)))
closes_as (Some x) c = inl refl
closes_as None cause.NoMemory = inl refl
closes_as None cause.WriteFault = inr (refl, inl refl, refl)
closes_as None cause.Stuck = inl refl

by_no_memory : (o : Option Cause) → closed_as (first_cause o cause.NoMemory) ≡ closed_as o
by_no_memory (Some x) = refl
by_no_memory None = refl

pub unmarked : (o : Option Cause) (c : Cause) → (c ≡ cause.WriteFault → ⊥) → closed_as (first_cause o (closing_cause c)) ≡ closed_as o
unmarked o cause.NoMemory never = by_no_memory o
unmarked o cause.WriteFault never = absurd (never refl)
unmarked o cause.Stuck never = by_no_memory o

pub closed_by_it : (p q : Pass Entry) (o : Option Cause) (c : Cause) → (c ≡ cause.WriteFault → p.mark.1 ≡ closed_as o) → q.mark.1 ≡ closed_as (first_cause o (closing_cause c)) → ClosedAs p c q
closed_by_it p q o cause.NoMemory was is = inl tt
closed_by_it p q o cause.Stuck was is = inr (cause.NoMemory, tt, tt)
closed_by_it p q None cause.WriteFault was is = inl is
closed_by_it p q (Some cause.WriteFault) cause.WriteFault was is = inl is
closed_by_it p q (Some cause.NoMemory) cause.WriteFault was is = inr (cause.NoMemory, tt, tt)
closed_by_it p q (Some cause.Stuck) cause.WriteFault was is = inr (cause.Stuck, was refl, is)

-- ---- what is due

due_closed : (o : Option Cause) (why : Why) (unended : Bool) (given : Option (List ℕ × Work)) (c : Cause) → Err (Closed c) ≡ due_by o (due_open why unended given) → o ≡ Some c
due_closed (Some x) why unended given c e = cc
due_closed None why unended (Some g) c e = cc
due_closed None (Started pyx) unended None c e = cc
due_closed None (Opening pyx) unended None c e = cc
due_closed None (Working on) unended None c e = cc
due_closed None Ending true None c e = cc
due_closed None Ending false None c e = cc

pub closed_due : (d : Kept) (why : Why) (c : Cause) → Err (Closed c) ≡ due_answer d why → d.closed ≡ Some c
closed_due d why c e = due_closed d.closed why (has_unended (phase_in d.tasks) d.order) (with_work (phase_in d.tasks) (kept_due d why)) c e

due_ended : (o : Option Cause) (unended : Bool) (given : Option (List ℕ × Work)) → Ok None ≡ due_by o (due_open Ending unended given) → unended ≡ false
due_ended (Some x) unended given e = cc
due_ended None unended (Some g) e = cc
due_ended None true None e = cc
due_ended None false None e = refl

pub has_ended : (d : Kept) (s : State) (why : Why) → Stands d s → Ok None ≡ due_answer d why → HasEnded s why
has_ended d s (Started pyx) st e = tt
has_ended d s (Opening pyx) st e = tt
has_ended d s (Working on) st e = tt
has_ended d s Ending st e = (λ i. has_unended (λ t. st.phase t i) (st.tasks i)) ∙ due_ended d.closed (has_unended (phase_in d.tasks) d.order) (with_work (phase_in d.tasks) (kept_due d Ending)) e

own_is : (number : ℕ) (path t : List ℕ) (b : Bool) → own_task number path b ≡ Some t → (number ≡ 0) × (path ≡ t)
own_is zero path t true e = (refl, cc)
own_is zero path t false e = cc
own_is (suc k) path t b e = cc

own_pyx : (pyx : PyxId) (t : List ℕ) (b : Bool) → own_task pyx.number pyx.path b ≡ Some t → pyx ≡ pyx_of t
own_pyx pyx t b e = let f = own_is pyx.number pyx.path t b e in λ i. record { path = f.1 i; number = f.0 i }

pub is_due : (phase : List ℕ → Option Phase) (tasks : List (List ℕ)) (threads : List ℕ) (why : Why) (t : List ℕ) → due_task phase tasks threads why ≡ Some t → IsDue why t
is_due phase tasks threads (Started pyx) t e = own_pyx pyx t (waits_alone threads (phase pyx.path)) e
is_due phase tasks threads (Opening pyx) t e = own_pyx pyx t (is_waiting (phase pyx.path)) e
is_due phase tasks threads (Working on) t e = tt
is_due phase tasks threads Ending t e = tt

moves_open : (d : Kept) (thread : ℕ) (due : Option (List ℕ)) → OnlyMoves d (begun_task d thread due)
moves_open d thread (Some task) = only_so d (begun_task d thread (Some task)) task thread Begin refl
moves_open d thread None = only_same d

moves_begun : (d : Kept) (thread : ℕ) (why : Why) (o : Option Cause) → OnlyMoves d (begun_open d thread why o)
moves_begun d thread why (Some c) = only_same d
moves_begun d thread why None = moves_open d thread (kept_due d why)

pub moves_due : (d d' : Kept) (thread : ℕ) (why : Why) → d' ≡ after_due d thread why → OnlyMoves d d'
moves_due d d' thread why is = subst (OnlyMoves d) (sym is) (moves_begun d thread why d.closed)

still_open : (d : Kept) (thread : ℕ) (why : Why) (unended : Bool) (due : Option (List ℕ)) → Ok None ≡ due_open why unended (with_work (phase_in d.tasks) due) → begun_task d thread due ≡ d
still_open d thread why unended None e = refl
still_open d thread why unended (Some task) e = by (phase_in d.tasks task) e
  where
    by : (p : Option Phase) → Ok None ≡ due_open why unended (with_that task (waiting_work p)) → after_begin d task thread p ≡ d
    by (Some (Waiting pool work)) e = cc
    by (Some (Running pool on)) e = refl
    by (Some (Over outcome)) e = refl
    by None e = refl

still_begun : (d : Kept) (thread : ℕ) (why : Why) (o : Option Cause) → Ok None ≡ due_by o (due_open why (has_unended (phase_in d.tasks) d.order) (with_work (phase_in d.tasks) (kept_due d why))) → begun_open d thread why o ≡ d
still_begun d thread why (Some c) e = refl
still_begun d thread why None e = still_open d thread why (has_unended (phase_in d.tasks) d.order) (kept_due d why) e

-- where none is due the desk is as before
pub none_same : (d d' : Kept) (thread : ℕ) (why : Why) → d' ≡ after_due d thread why → Ok None ≡ due_answer d why → d' ≡ d
none_same d d' thread why is e = is ∙ still_begun d thread why d.closed e

pub only_of : (d d' : Kept) → d' ≡ d → OnlyMoves d d'
only_of d d' is = subst (OnlyMoves d) (sym is) (only_same d)

-- what the desk's own answers say
pub is_answered : (d d' : Kept) (who : List ℕ) (thread : ℕ) (u asked : Use) (r : Result Reply Halt) → u ≡ asked → IfOk r (λ x. Answers d who thread u x d') → IfOk r (λ x. IsLonger who (started_by u x)) → OnOk r (OnlyMoves d d') → HaltsRightly thread d who u r → IsAnswered d who thread asked r d'
is_answered d d' who thread u asked r is a child only halts = subst (λ z. IsAnswered d who thread z r d') is (by r a child only halts)
  where
    by : (r : Result Reply Halt) → IfOk r (λ x. Answers d who thread u x d') → IfOk r (λ x. IsLonger who (started_by u x)) → OnOk r (OnlyMoves d d') → HaltsRightly thread d who u r → IsAnswered d who thread u r d'
    by (Ok x) a child only halts = (a, only, child)
    by (Err Wait) a child only halts = tt
    by (Err NoMemory) a child only halts = tt
    by (Err (Closed c)) a child only halts = closed_so thread d who u c halts

pub is_marked : (d d' : Kept) (r : Result Reply Halt) → OnOk r (OnlyMoves d d') → OnOk r (mark_of d' ≡ mark_of d)
is_marked d d' (Ok x) only = moves_mark d d' only
is_marked d d' (Err halt) only = tt

pub halts_for : (d : Kept) (why : Why) (halt : Halt) → Err halt ≡ due_answer d why → HaltsFor d halt
halts_for d why Wait e = tt
halts_for d why NoMemory e = tt
halts_for d why (Closed c) e = closed_due d why c e

-- ---- one turn at the desk, which it found as `d` and left as `d'`

pub same_workers : (d d' : Kept) (s t : State) → Stands d s → Stands d' t → t.workers ≡ s.workers → d'.workers ≡ d.workers
same_workers d d' s t st st' w = st'.workers ∙ (w ∙ sym st.workers)

module _ (thread : ℕ) (p h q : Pass Entry) (d d' : Kept) (n : Enters p h) (stood : StoodFor d h.seen) (was : mark_of d ≡ h.mark) (constant : d.workers ∷ [] ≡ h.constant) where
  abbrev before : State
  before = after d.workers (newest h.seen)

  workers : d.workers ≡ workers_of p.constant
  workers = ap workers_of (constant ∙ n.constant)

  marked : OnlyMoves d d' → p.is_marker ≡ true → mark_of d' ≡ p.mark
  marked only k = moves_mark d d' only ∙ (was ∙ n.mark k)

  -- a use
  module _ (who : List ℕ) (asked : Use) (r : Reply) (answers : Answers d who thread asked r d') (only : OnlyMoves d d') where
    pub answered_workers : d'.workers ∷ [] ≡ h.constant
    answered_workers = ap (λ w. w ∷ []) (same_workers d d' before (moved before (entry who thread asked r)) stood.1 (answers before stood.1).1 refl) ∙ constant

    pub answered : (helped : List (List ℕ)) → q ≡ record (with_entry h (entry who thread asked r)) { mark = mark_of d' } → entries q ≡ entries h ++ entry who thread asked r ∷ [] → Used thread helped p (replied (entry who thread asked r)) q
    answered helped is own =
        used_replied thread helped p h q (mark_of d') n (entry who thread asked r) is own (marked only)
        (refl, subst (λ w. reply (after w (newest h.seen)) who thread asked ≡ Some r) workers (answers before stood.1).0)

    pub asked_ok : IsLonger who (started_by asked r) → q ≡ record (with_entry h (entry who thread asked r)) { mark = mark_of d' } → entries q ≡ entries h ++ entry who thread asked r ∷ [] → AskedOnce thread p who asked q (Ok (Ok r))
    asked_ok child is own = ((λ helped. answered helped is own), child)

  -- a task
  module _ (why : Why) (task : List ℕ) (work : Work) (hands : HandsTask d thread why (Some (task, work)) d') where
    pub handed_stood : StoodFor d' (h.seen ++ entry task thread Begin Done ∷ [])
    handed_stood = stood_more d d' h.seen task thread Begin Done stood (λ s st. let x = hands s st in (x.2, x.3))

    pub handed_workers : d'.workers ∷ [] ≡ h.constant
    handed_workers = ap (λ w. w ∷ []) (same_workers d d' before (moved before (entry task thread Begin Done)) stood.1 (hands before stood.1).3 refl) ∙ constant

    pub handed_due : IsDue why task
    handed_due = is_due before.phase before.tasks (before.at Threads) why task (hands before stood.1).0

    pub handed : (helped : List (List ℕ)) → MayHelp helped why → OnlyMoves d d' → q ≡ record (with_entry h (entry task thread Begin Done)) { mark = mark_of d' } → entries q ≡ entries h ++ entry task thread Begin Done ∷ []
        → Used thread helped p (asked_for thread why (Some (task, work))) q
    handed helped may only is own =
        let x = hands before stood.1 in
        used_handed thread helped p h q (mark_of d') n why task work is own (marked only)
        (subst (λ w. IsHanded thread (after w (newest h.seen)) helped why task thread work) workers (refl, x.0, x.1, may))

    pub sought_ok : OnlyMoves d d' → q ≡ record (with_entry h (entry task thread Begin Done)) { mark = mark_of d' } → entries q ≡ entries h ++ entry task thread Begin Done ∷ [] → Sought AsksAgain thread p why q (Ok (Some (task, work)))
    sought_ok only is own = ((λ helped may. handed helped may only is own), handed_due)

  -- none
  module _ (why : Why) (hands : HandsTask d thread why None d') where
    pub none_stood : StoodFor d' h.seen
    none_stood = stood_same d d' h.seen stood (same_workers d d' before before stood.1 (hands before stood.1).1 refl) (λ s st. (hands s st).1)

    pub none_workers : d'.workers ∷ [] ≡ h.constant
    none_workers = ap (λ w. w ∷ []) (same_workers d d' before before stood.1 (hands before stood.1).1 refl) ∙ constant

    pub none_handed : (helped : List (List ℕ)) → OnlyMoves d d' → Ok None ≡ due_answer d why → q ≡ record h { mark = mark_of d' } → Used thread helped p (asked_for thread why None) q
    none_handed helped only none is =
        used_none_due thread helped p h q (mark_of d') n is why (marked only)
        (subst (λ w. IsNoneDue (after w (newest h.seen)) helped why) workers (inl ((hands before stood.1).0, has_ended d before why stood.1 none)))

    pub sought_none : OnlyMoves d d' → Ok None ≡ due_answer d why → q ≡ record h { mark = mark_of d' } → Sought AsksAgain thread p why q (Ok None)
    sought_none only none is = ((λ helped may. none_handed helped only none is), tt)

  -- no answer
  pub unanswered : (helped : List (List ℕ)) → d' ≡ d → q ≡ record h { mark = mark_of d' } → Used thread helped p nothing q
  unanswered helped same is = used_still thread helped p h q (mark_of d') n is (λ k. ap mark_of same ∙ (was ∙ n.mark k))

  pub refused : (c : Cause) → d.closed ≡ Some c → d' ≡ d → q ≡ record h { mark = mark_of d' } → Refused q (Closed c)
  refused c closed same is = refused_so q c (ap (λ x. x.mark.1) is ∙ (ap (λ x. closed_as x.closed) same ∙ ap closed_as closed))

  pub asked_again : (who : List ℕ) (asked : Use) → d' ≡ d → q ≡ record h { mark = mark_of d' } → AskedOnce thread p who asked q (Err asked)
  asked_again who asked same is = (refl, (λ helped. unanswered helped same is))

  pub asked_refused : (who : List ℕ) (asked : Use) (c : Cause) → d.closed ≡ Some c → d' ≡ d → q ≡ record h { mark = mark_of d' } → AskedOnce thread p who asked q (Ok (Err (Closed c)))
  asked_refused who asked c closed same is = ((λ helped. unanswered helped same is), refused c closed same is)

  pub asked_no_memory : (who : List ℕ) (asked : Use) → d' ≡ d → q ≡ record h { mark = mark_of d' } → AskedOnce thread p who asked q (Ok (Err NoMemory))
  asked_no_memory who asked same is = ((λ helped. unanswered helped same is), tt)

  pub sought_not : (why : Why) (halt : Halt) → HaltsFor d halt → d' ≡ d → q ≡ record h { mark = mark_of d' } → Sought AsksAgain thread p why q (Err halt)
  sought_not why Wait f same is = ((λ helped. unanswered helped same is), tt)
  sought_not why NoMemory f same is = ((λ helped. unanswered helped same is), tt)
  sought_not why (Closed c) f same is = ((λ helped. unanswered helped same is), refused c f same is)

  -- prints
  module _ (bytes : List ℕ) (rest : d' ≡ emptied d) (hands : HandsOut d bytes d') (is : q ≡ record h { mark = mark_of d' }) (marker : p.is_marker ≡ true) where
    took : (on : ℕ) (helped : List (List ℕ)) → Used on helped p (handed_out bytes) q
    took on helped = used_out on helped p h q (mark_of d') n is d d' d.workers bytes refl stood.1 hands marker (sym (ap (λ x. x.0) was)) (λ k. ap (λ x. closed_as x.closed) rest ∙ ap (λ x. x.1) (was ∙ n.mark k))

    took_all : out_of q ≡ printed_in q
    took_all = all_out thread [] p h q (mark_of d') n is d d' d.workers bytes refl stood.1 hands

    took_bytes : bytes ≡ d.waiting → bytes ≡ drop p.mark.0 (printed_in q)
    took_bytes all = bytes_out thread [] p h q (mark_of d') n is d d' d.workers bytes refl stood.1 hands marker (sym (ap (λ x. x.0) was)) all

    pub hands_out : bytes ≡ d.waiting → HandedOut p q bytes
    hands_out all = ((λ on helped. took on helped), took_all, took_bytes all)

  -- closing
  module _ (c : Cause) (so : d' ≡ closed_by d (closing_cause c)) where
    new_closed : closed_as d'.closed ≡ closed_as (first_cause d.closed (closing_cause c))
    new_closed = ap (λ x. closed_as x.closed) so

    old_closed : p.is_marker ≡ true → p.mark.1 ≡ closed_as d.closed
    old_closed k = sym (ap (λ x. x.1) (was ∙ n.mark k))

    shut_leads : (on : ℕ) (helped : List (List ℕ)) → q ≡ record h { mark = mark_of d' } → Used on helped p (closed_with c) q
    shut_leads on helped is = used_closed on helped p h q (mark_of d') n is c
        (λ k. ap (λ x. x.handed) so ∙ ap (λ x. x.0) (was ∙ n.mark k))
        (λ k. subst (λ (z : ℕ × ℕ). IsClosedBy z.0 (c ∷ []) z.1) (λ i. (sym (old_closed k) i, sym new_closed i)) (closes_as d.closed c))

    shut_as : (c ≡ cause.WriteFault → p.is_marker ≡ true) → q ≡ record h { mark = mark_of d' } → ClosedAs p c q
    shut_as marker is = closed_by_it p q d.closed c (λ w. old_closed (marker w)) (ap (λ x. x.mark.1) is ∙ new_closed)

    pub shuts : (c ≡ cause.WriteFault → p.is_marker ≡ true) → q ≡ record h { mark = mark_of d' } → Shut p c q
    shuts marker is = ((λ on helped. shut_leads on helped is), shut_as marker is)

    -- another pass than the marker leaves the mark as it was
    pub shut_unmarked : (c ≡ cause.WriteFault → p.is_marker ≡ true) → h.is_marker ≡ false → mark_of d' ≡ h.mark
    shut_unmarked marker other =
        let never : c ≡ cause.WriteFault → ⊥ = λ w. true≢false (sym (n.is_marker ∙ marker w) ∙ other) in
        (λ i. (ap (λ x. x.handed) so i, (new_closed ∙ unmarked d.closed c never) i)) ∙ was
