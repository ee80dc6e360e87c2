-- What the desk keeps stands for the definition's state, before and after each use.
use Rattle.std.proofs.Common.{◌≡◌, ◌≢◌, refl, sym, ap, subst, ◌∙◌, ℕ, zero, suc, pos, ◌≤◌, Bool, true, false, cond, ◌&&◌, true≢false, List, [], ◌∷◌, ◌++◌, map, length, drop, Option, Some, None, Err, IsSome, is_some, ◌-◌, arith, append-nil, length-append, nat_eq, nat_lt}
use Rattle.std.specs.BTreeMap.{insert_entry}
use Rattle.std.specs.Cmp.Lexicographic.{slice_cmp}
use Rattle.std.specs.Map.{lookup, keys_of}
use Rattle.std.specs.Option.{unwrap_or}
use Rattle.std.specs.Ordering.{nat_cmp}
use Rattle.std.proofs.lemmas.List.{drop-append-le}
use Rattle.jterm.specs.declared.term.Term.{Term}
use Rattle.juses.specs.Keys.{Key, NameIn, NamesOf, Locales, PyxBy, MutexBy, Threads, same, base_locale, z_locale, changed_by}
use Rattle.juses.specs.Desk as desk
use Rattle.juses.specs.Desk.{State, class_of, first, first_at, named, first_of, moved, with_locale, reply, begun, may_start, most_made, open_reply}
use Rattle.juses.specs.Entries.{entry, started_by, IsLonger}
use Rattle.juses.specs.Standing.{Kept, LocaleTable, NameTable, names_in, kept_at, phase_in, Stands, Answers, WaitsOn, OnlyMoves, HaltsBy, HaltsRightly}
use Rattle.juses.specs.Keeping.{with_value, first_tables, first_kept, kept_reply, kept_after, with_phase, with_task, next_task, added, replaced, after_start, after_begin, after_end, after_make_pyx, after_set, after_make_mutex, after_lock, after_unlock, after_make_thread, with_holding, pyx_at, mutex_at}
use Rattle.juses.specs.Tables.{made_in, numbered, front, last_number}
use Rattle.juses.specs.declared.kept.Holding.{Holding}
use Rattle.juses.specs.declared.kept.Holding.TheVariants.{Free, Held}
use Rattle.juses.specs.declared.kept.Phase.{Phase}
use Rattle.juses.specs.declared.kept.Phase.TheVariants.{Waiting, Running, Over}
use Rattle.juses.specs.declared.kept.Setting.{Setting}
use Rattle.juses.specs.declared.kept.Setting.TheVariants.{Unset, Set}
use Rattle.juses.specs.declared.uses.Ended.{Ended}
use Rattle.juses.specs.declared.uses.Use.{Use}
use Rattle.juses.specs.declared.uses.Use.TheVariants as asked
use Rattle.juses.specs.declared.uses.Reply.{Reply}
use Rattle.juses.specs.declared.uses.Reply.TheVariants as says
use Rattle.juses.specs.declared.uses.Work.{Work}
use Rattle.juses.specs.declared.uses.Halt.TheVariants.{Wait}
use Rattle.jdata.specs.declared.fault.Fault.{Fault}
use Rattle.jdata.specs.declared.fault.Fault.TheVariants.{Domain, Limit, Concurrency}
use Rattle.jdata.specs.declared.path.PyxId.{PyxId}
use Rattle.juses.specs.declared.uses.MutexId.{MutexId}
use Rattle.juses.proofs.Tables.{lookup-insert_entry, map-insert_entry, keys-insert_entry}
use Rattle.juses.proofs.Makers.{same_is, same_self, same_symm, no_some, no_number, at_added, at_replaced, count_added, count_replaced, front-snoc, last-snoc, same_path}

module _ (l : LocaleTable) (p n : List ℕ) (v : Term) where
  abbrev changed : NameTable
  changed = insert_entry (slice_cmp nat_cmp) (names_in l p) n v

  names-with_value : (q : List ℕ) → names_in (with_value l p n v) q ≡ cond (same p q) changed (names_in l q)
  names-with_value q = ap (λ o. unwrap_or o []) (lookup-insert_entry q p changed l) ∙ by (same p q)
    where
      by : (b : Bool) → unwrap_or (cond b (Some changed) (lookup (same q) l)) [] ≡ cond b changed (names_in l q)
      by true = refl
      by false = refl

  at_name : (q m : List ℕ) (b : Bool) → same p q ≡ b → cond (b && same n m) (Some v) (lookup (same m) (names_in l q)) ≡ lookup (same m) (cond b changed (names_in l q))
  at_name q m true h =
      ap (λ r. cond (same n m) (Some v) (lookup (same m) (names_in l r))) (sym (same_is p q h)) ∙ sym (lookup-insert_entry m n v (names_in l p))
  at_name q m false h = refl

  at_names : (q : List ℕ) (b : Bool) → same p q ≡ b → cond b (insert_entry (slice_cmp nat_cmp) (map (λ e. (e.0, class_of e.1)) (names_in l q)) n (class_of v)) (map (λ e. (e.0, class_of e.1)) (names_in l q)) ≡ map (λ e. (e.0, class_of e.1)) (cond b changed (names_in l q))
  at_names q true h =
      ap (λ r. insert_entry (slice_cmp nat_cmp) (map (λ e. (e.0, class_of e.1)) (names_in l r)) n (class_of v)) (sym (same_is p q h))
      ∙ sym (map-insert_entry class_of (names_in l p) n v)
  at_names q false h = refl

  written : (d : Kept) → d.locales ≡ l → (s : State) (who : List ℕ) (thread : ℕ) (r : Reply) (k : Key) → s.at k ≡ kept_at (record d { locales = l }) k → (moved s (entry who thread (asked.Write p n v) r)).at k ≡ kept_at (record d { locales = with_value l p n v }) k
  written d is s who thread r (NameIn q m) h = ap (λ x. cond (same p q && same n m) (Some v) x) h ∙ (at_name q m (same p q) refl ∙ ap (lookup (same m)) (sym (names-with_value q)))
  written d is s who thread r (NamesOf q) h =
      ap (λ x. cond (same p q) (insert_entry (slice_cmp nat_cmp) x n (class_of v)) x) h
      ∙ (at_names q (same p q) refl ∙ ap (map (λ e. (e.0, class_of e.1))) (sym (names-with_value q)))
  written d is s who thread r Locales h = ap (with_locale p) h ∙ sym (keys-insert_entry l p changed)
  written d is s who thread r (PyxBy q m) h = h
  written d is s who thread r (MutexBy q m) h = h
  written d is s who thread r Threads h = h

module _ (d : Kept) (s : State) (st : Stands d s) where
  silent : (bytes : List ℕ) → bytes ≡ [] → d.waiting ≡ drop d.handed (s.printed ++ bytes)
  silent bytes e = st.waiting ∙ ap (drop d.handed) (sym (ap (λ l. s.printed ++ l) e ∙ append-nil s.printed))

  within : (bytes : List ℕ) → d.handed ≤ length (s.printed ++ bytes)
  within bytes = omega (arith, st.handed, length-append s.printed bytes)

-- ---- tasks

-- a child of an activity is the task with its number among those of the activity
child_is : (who : List ℕ) (n : ℕ) (t : List ℕ) → same t (who ++ suc n ∷ []) ≡ (same who (front t) && nat_eq (suc n) (last_number t))
child_is who n [] = none who ∙ (by (same who []) ∙ ap (λ b. same who [] && b) (sym (no_number n)))
  where
    none : (l : List ℕ) → same [] (l ++ suc n ∷ []) ≡ false
    none [] = refl
    none (k ∷ l) = refl

    by : (b : Bool) → false ≡ (b && false)
    by true = refl
    by false = refl
child_is who n (k ∷ t) =
    let path = who ++ suc n ∷ [] in
    same_symm (k ∷ t) path
    ∙ (sym (same_path path (k ∷ t) (not_empty who) (λ e. cc))
    ∙ λ i. same (front-snoc who (suc n) i) (front (k ∷ t)) && nat_eq (last-snoc who (suc n) i) (last_number (k ∷ t)))
  where
    not_empty : (l : List ℕ) → l ++ suc n ∷ [] ≢ []
    not_empty [] e = cc
    not_empty (m ∷ l) e = cc

task_is : {X : Type 0} (made : List X) (who t : List ℕ) → IsSome (numbered made (last_number who)) → same t who ≡ (same (front who) (front t) && nat_eq (last_number who) (last_number t))
task_is made [] t h = absurd (no_some h)
task_is made (k ∷ who) [] h = by (last_number (k ∷ who)) h (same (front (k ∷ who)) [])
  where
    by : (n : ℕ) → IsSome (numbered made n) → (b : Bool) → false ≡ (b && nat_eq n 0)
    by zero h b = absurd (no_some h)
    by (suc n) h true = sym (no_number n)
    by (suc n) h false = refl
task_is made (k ∷ who) (m ∷ t) h = same_symm (m ∷ t) (k ∷ who) ∙ sym (same_path (k ∷ who) (m ∷ t) (λ e. cc) (λ e. cc))

if_same : {X : Type 0} (b : Bool) (x : X) → cond b x x ≡ x
if_same true x = refl
if_same false x = refl

-- ---- each use

-- the keys stand as before where only tasks have changed
at_before : (d d' : Kept) → d.locales ≡ d'.locales → d.pyxes ≡ d'.pyxes → d.mutexes ≡ d'.mutexes → d.threads ≡ d'.threads → (k : Key) → kept_at d k ≡ kept_at d' k
at_before d d' l p m t (NameIn q n) = ap (λ (x : LocaleTable). lookup (same n) (names_in x q)) l
at_before d d' l p m t (NamesOf q) = ap (λ (x : LocaleTable). map (λ e. (e.0, class_of e.1)) (names_in x q)) l
at_before d d' l p m t Locales = ap (λ (x : LocaleTable). keys_of x) l
at_before d d' l p m t (PyxBy q n) = ap (λ x. numbered (made_in x q) n) p
at_before d d' l p m t (MutexBy q n) = ap (λ x. numbered (made_in x q) n) m
at_before d d' l p m t Threads = t

abbrev reply_in : Option Reply → Reply → Reply
reply_in (Some r) q = r
reply_in None q = q

pub some_reply : {r q : Reply} → Some r ≡ Some q → r ≡ q
some_reply {r} {q} e = ap (λ o. reply_in o r) e

as_was : (d : Kept) (s : State) → Stands d s → Stands d (record s { printed = s.printed ++ [] })
as_was d s st = record { at = st.at; phase = st.phase; tasks = st.tasks; tasks_of = st.tasks_of; pyxes_of = st.pyxes_of; mutexes_of = st.mutexes_of; waiting = silent d s st [] refl; handed = within d s st []; workers = st.workers }

module _ (d : Kept) (s : State) (st : Stands d s) (who : List ℕ) (thread : ℕ) where
  abbrev After : Use → Reply → Kept → Type 0
  After u r d' = Stands d' (moved s (entry who thread u r))

  still_waiting : d.waiting ≡ drop d.handed (s.printed ++ [])
  still_waiting = silent d s st [] refl

  still_handed : d.handed ≤ length (s.printed ++ [])
  still_handed = within d s st []

  starts : (pool : ℕ) (work : Work) → After (asked.Start pool work) (desk.start_reply d.order (length (made_in d.tasks who)) who) (after_start d who pool work)
  starts pool work = by (may_start d.order who)
    where
      by : (b : Bool) → After (asked.Start pool work) (cond b (says.Pyx (record { path = who ++ suc (length (made_in d.tasks who)) ∷ []; number = 0 })) (says.Refused Limit)) (cond b (with_task d who (next_task d who) (Waiting pool work)) d)
      by true = record {
        at = λ k. st.at k ∙ at_before d (with_task d who (next_task d who) (Waiting pool work)) refl refl refl refl k;
        phase = λ t.
            (λ i. cond (child_is who (length (made_in d.tasks who)) t i) (Some (Waiting pool work)) (st.phase t i)) ∙ sym (at_added d.tasks who (Waiting pool work) (front t) (last_number t));
        tasks = ap (λ l. l ++ (who ++ suc (length (made_in d.tasks who)) ∷ []) ∷ []) st.tasks;
        tasks_of = λ q. ap (λ m. cond (same q who) (suc m) m) (st.tasks_of q) ∙ sym (count_added d.tasks who (Waiting pool work) q);
        pyxes_of = st.pyxes_of;
        mutexes_of = st.mutexes_of;
        waiting = still_waiting;
        handed = still_handed;
        workers = st.workers;
      }
      by false = reads_refused
        where
          reads_refused : After (asked.Start pool work) (says.Refused Limit) d
          reads_refused = record { at = st.at; phase = st.phase; tasks = st.tasks; tasks_of = st.tasks_of; pyxes_of = st.pyxes_of; mutexes_of = st.mutexes_of; waiting = still_waiting; handed = still_handed; workers = st.workers }

  -- a task that has come further
  phase_set : (phase : Phase) → IsSome (phase_in d.tasks who) → (t : List ℕ) → cond (same t who) (Some phase) (s.phase t) ≡ phase_in (with_phase d who phase).tasks t
  phase_set phase h t =
      (λ i. cond (task_is (made_in d.tasks (front who)) who t h i) (Some phase) (st.phase t i)) ∙ sym (at_replaced d.tasks (front who) phase (last_number who) h (front t) (last_number t))

  moves_on : (u : Use) (r : Reply) (phase : Phase) → IsSome (phase_in d.tasks who) → ((t : List ℕ) → (moved s (entry who thread u r)).phase t ≡ cond (same t who) (Some phase) (s.phase t))
      → ((k : Key) → (moved s (entry who thread u r)).at k ≡ s.at k) → (moved s (entry who thread u r)).tasks ≡ s.tasks → ((q : List ℕ) → (moved s (entry who thread u r)).tasks_of q ≡ s.tasks_of q)
      → ((q : List ℕ) → (moved s (entry who thread u r)).pyxes_of q ≡ s.pyxes_of q) → ((q : List ℕ) → (moved s (entry who thread u r)).mutexes_of q ≡ s.mutexes_of q) → (moved s (entry who thread u r)).printed ≡ s.printed ++ []
      → After u r (with_phase d who phase)
  moves_on u r phase h phases at tasks tasks_of pyxes_of mutexes_of printed = record {
    at = λ k. at k ∙ (st.at k ∙ at_before d (with_phase d who phase) refl refl refl refl k);
    phase = λ t. phases t ∙ phase_set phase h t;
    tasks = tasks ∙ st.tasks;
    tasks_of = λ q. tasks_of q ∙ (st.tasks_of q ∙ sym (count_replaced d.tasks (front who) phase (last_number who - 1) q));
    pyxes_of = λ q. pyxes_of q ∙ st.pyxes_of q;
    mutexes_of = λ q. mutexes_of q ∙ st.mutexes_of q;
    waiting = subst (λ p. d.waiting ≡ drop d.handed p) (sym printed) still_waiting;
    handed = subst (λ p. d.handed ≤ length p) (sym printed) still_handed;
    workers = st.workers;
  }

  begins : (r : Reply) (p : Option Phase) → phase_in d.tasks who ≡ p → desk.begin_reply p ≡ Some r → After asked.Begin r (after_begin d who thread p)
  begins r (Some (Waiting pool work)) is e =
      let some : IsSome (phase_in d.tasks who) = ap is_some is in
      moves_on asked.Begin r (Running pool thread) some (λ t. by t (same t who) refl) (λ k. refl) refl (λ q. refl) (λ q. refl) (λ q. refl) refl
    where
      by : (t : List ℕ) (b : Bool) → same t who ≡ b → cond b (begun thread (s.phase t)) (s.phase t) ≡ cond b (Some (Running pool thread)) (s.phase t)
      by t true same_one = ap (begun thread) (ap s.phase (same_is t who same_one) ∙ (st.phase who ∙ is))
      by t false other = refl
  begins r (Some (Running pool th)) is e = cc
  begins r (Some (Over o)) is e = cc
  begins r None is e = cc

  ends : (o : Ended) (r : Reply) (p : Option Phase) → phase_in d.tasks who ≡ p → desk.end_reply p ≡ Some r → After (asked.End o) r (after_end d who o p)
  ends o r (Some (Running pool th)) is e =
      let some : IsSome (phase_in d.tasks who) = ap is_some is in
      moves_on (asked.End o) r (Over o) some (λ t. refl) (λ k. refl) refl (λ q. refl) (λ q. refl) (λ q. refl) refl
  ends o r (Some (Waiting pool work)) is e = cc
  ends o r (Some (Over x)) is e = cc
  ends o r None is e = cc

  makes_pyx : After asked.MakePyx (desk.make_pyx_reply (length (made_in d.pyxes who)) who) (after_make_pyx d who)
  makes_pyx = by (nat_lt (length (made_in d.pyxes who)) most_made)
    where
      at : (k : Key) → (moved s (entry who thread asked.MakePyx (says.Pyx (record { path = who; number = suc (length (made_in d.pyxes who)) })))).at k ≡ kept_at (record d { pyxes = added d.pyxes who Unset }) k
      at (NameIn q m) = st.at (NameIn q m)
      at (NamesOf q) = st.at (NamesOf q)
      at Locales = st.at Locales
      at (PyxBy q m) = ap (cond (same who q && nat_eq (suc (length (made_in d.pyxes who))) m) (Some Unset)) (st.at (PyxBy q m)) ∙ sym (at_added d.pyxes who Unset q m)
      at (MutexBy q m) = st.at (MutexBy q m)
      at Threads = st.at Threads

      by : (b : Bool) → After asked.MakePyx (cond b (says.Pyx (record { path = who; number = suc (length (made_in d.pyxes who)) })) (says.Refused Limit)) (cond b (record d { pyxes = added d.pyxes who Unset }) d)
      by true = record {
        at = at;
        phase = st.phase;
        tasks = st.tasks;
        tasks_of = st.tasks_of;
        pyxes_of = λ q. ap (λ m. cond (same q who) (suc m) m) (st.pyxes_of q) ∙ sym (count_added d.pyxes who Unset q);
        mutexes_of = st.mutexes_of;
        waiting = still_waiting;
        handed = still_handed;
        workers = st.workers;
      }
      by false = record { at = st.at; phase = st.phase; tasks = st.tasks; tasks_of = st.tasks_of; pyxes_of = st.pyxes_of; mutexes_of = st.mutexes_of; waiting = still_waiting; handed = still_handed; workers = st.workers }

  makes_mutex : After asked.MakeMutex (desk.make_mutex_reply (length (made_in d.mutexes who)) who) (after_make_mutex d who)
  makes_mutex = by (nat_lt (length (made_in d.mutexes who)) most_made)
    where
      at : (k : Key) → (moved s (entry who thread asked.MakeMutex (says.Mutex (record { path = who; number = suc (length (made_in d.mutexes who)) })))).at k ≡ kept_at (record d { mutexes = added d.mutexes who Free }) k
      at (NameIn q m) = st.at (NameIn q m)
      at (NamesOf q) = st.at (NamesOf q)
      at Locales = st.at Locales
      at (PyxBy q m) = st.at (PyxBy q m)
      at (MutexBy q m) = ap (cond (same who q && nat_eq (suc (length (made_in d.mutexes who))) m) (Some Free)) (st.at (MutexBy q m)) ∙ sym (at_added d.mutexes who Free q m)
      at Threads = st.at Threads

      by : (b : Bool) → After asked.MakeMutex (cond b (says.Mutex (record { path = who; number = suc (length (made_in d.mutexes who)) })) (says.Refused Limit)) (cond b (record d { mutexes = added d.mutexes who Free }) d)
      by true = record {
        at = at;
        phase = st.phase;
        tasks = st.tasks;
        tasks_of = st.tasks_of;
        pyxes_of = st.pyxes_of;
        mutexes_of = λ q. ap (λ m. cond (same q who) (suc m) m) (st.mutexes_of q) ∙ sym (count_added d.mutexes who Free q);
        waiting = still_waiting;
        handed = still_handed;
        workers = st.workers;
      }
      by false = record { at = st.at; phase = st.phase; tasks = st.tasks; tasks_of = st.tasks_of; pyxes_of = st.pyxes_of; mutexes_of = st.mutexes_of; waiting = still_waiting; handed = still_handed; workers = st.workers }

  sets_pyx : (pyx : PyxId) (o : Ended) (p : Option Setting) → pyx_at d pyx.path pyx.number ≡ p → After (asked.SetPyx pyx o) (desk.set_reply p) (after_set d pyx.path pyx.number o p)
  sets_pyx pyx o (Some Unset) is = record {
    at = at;
    phase = st.phase;
    tasks = st.tasks;
    tasks_of = st.tasks_of;
    pyxes_of = λ q. st.pyxes_of q ∙ sym (count_replaced d.pyxes pyx.path (Set o) (pyx.number - 1) q);
    mutexes_of = st.mutexes_of;
    waiting = still_waiting;
    handed = still_handed;
    workers = st.workers;
  }
    where
      at : (k : Key) → (moved s (entry who thread (asked.SetPyx pyx o) says.Done)).at k ≡ kept_at (record d { pyxes = replaced d.pyxes pyx.path pyx.number (Set o) }) k
      at (NameIn q m) = st.at (NameIn q m)
      at (NamesOf q) = st.at (NamesOf q)
      at Locales = st.at Locales
      at (PyxBy q m) = ap (cond (same pyx.path q && nat_eq pyx.number m) (Some (Set o))) (st.at (PyxBy q m)) ∙ sym (at_replaced d.pyxes pyx.path (Set o) pyx.number (ap is_some is) q m)
      at (MutexBy q m) = st.at (MutexBy q m)
      at Threads = st.at Threads
  sets_pyx pyx o (Some (Set x)) is = record { at = at; phase = st.phase; tasks = st.tasks; tasks_of = st.tasks_of; pyxes_of = st.pyxes_of; mutexes_of = st.mutexes_of; waiting = still_waiting; handed = still_handed; workers = st.workers }
    where
      at : (k : Key) → (moved s (entry who thread (asked.SetPyx pyx o) (says.Refused Concurrency))).at k ≡ kept_at d k
      at (NameIn q m) = st.at (NameIn q m)
      at (NamesOf q) = st.at (NamesOf q)
      at Locales = st.at Locales
      at (PyxBy q m) = if_same (same pyx.path q && nat_eq pyx.number m) (s.at (PyxBy q m)) ∙ st.at (PyxBy q m)
      at (MutexBy q m) = st.at (MutexBy q m)
      at Threads = st.at Threads
  sets_pyx pyx o None is = record { at = at; phase = st.phase; tasks = st.tasks; tasks_of = st.tasks_of; pyxes_of = st.pyxes_of; mutexes_of = st.mutexes_of; waiting = still_waiting; handed = still_handed; workers = st.workers }
    where
      at : (k : Key) → (moved s (entry who thread (asked.SetPyx pyx o) (says.Refused Domain))).at k ≡ kept_at d k
      at (NameIn q m) = st.at (NameIn q m)
      at (NamesOf q) = st.at (NamesOf q)
      at Locales = st.at Locales
      at (PyxBy q m) = if_same (same pyx.path q && nat_eq pyx.number m) (s.at (PyxBy q m)) ∙ st.at (PyxBy q m)
      at (MutexBy q m) = st.at (MutexBy q m)
      at Threads = st.at Threads

  -- a mutex with another holder, and one that stays
  held_by : (u : Use) (r : Reply) (mutex : MutexId) (h : Holding) → IsSome (mutex_at d mutex.path mutex.number)
      → ((k : Key) → (moved s (entry who thread u r)).at k ≡ kept_at (with_holding d mutex.path mutex.number h) k) → (moved s (entry who thread u r)).phase ≡ s.phase → (moved s (entry who thread u r)).tasks ≡ s.tasks
      → (moved s (entry who thread u r)).tasks_of ≡ s.tasks_of → (moved s (entry who thread u r)).pyxes_of ≡ s.pyxes_of → (moved s (entry who thread u r)).mutexes_of ≡ s.mutexes_of → (moved s (entry who thread u r)).printed ≡ s.printed ++ []
      → After u r (with_holding d mutex.path mutex.number h)
  held_by u r mutex h some at phase tasks tasks_of pyxes_of mutexes_of printed = record {
    at = at;
    phase = λ t. ap (λ f. f t) phase ∙ st.phase t;
    tasks = tasks ∙ st.tasks;
    tasks_of = λ q. ap (λ f. f q) tasks_of ∙ st.tasks_of q;
    pyxes_of = λ q. ap (λ f. f q) pyxes_of ∙ st.pyxes_of q;
    mutexes_of = λ q. ap (λ f. f q) mutexes_of ∙ (st.mutexes_of q ∙ sym (count_replaced d.mutexes mutex.path h (mutex.number - 1) q));
    waiting = subst (λ p. d.waiting ≡ drop d.handed p) (sym printed) still_waiting;
    handed = subst (λ p. d.handed ≤ length p) (sym printed) still_handed;
    workers = st.workers;
  }

  unheld : (u : Use) (r : Reply) → ((k : Key) → (moved s (entry who thread u r)).at k ≡ kept_at d k) → (moved s (entry who thread u r)).phase ≡ s.phase → (moved s (entry who thread u r)).tasks ≡ s.tasks
      → (moved s (entry who thread u r)).tasks_of ≡ s.tasks_of → (moved s (entry who thread u r)).pyxes_of ≡ s.pyxes_of → (moved s (entry who thread u r)).mutexes_of ≡ s.mutexes_of → (moved s (entry who thread u r)).printed ≡ s.printed ++ [] → After u r d
  unheld u r at phase tasks tasks_of pyxes_of mutexes_of printed = record {
    at = at;
    phase = λ t. ap (λ f. f t) phase ∙ st.phase t;
    tasks = tasks ∙ st.tasks;
    tasks_of = λ q. ap (λ f. f q) tasks_of ∙ st.tasks_of q;
    pyxes_of = λ q. ap (λ f. f q) pyxes_of ∙ st.pyxes_of q;
    mutexes_of = λ q. ap (λ f. f q) mutexes_of ∙ st.mutexes_of q;
    waiting = subst (λ p. d.waiting ≡ drop d.handed p) (sym printed) still_waiting;
    handed = subst (λ p. d.handed ≤ length p) (sym printed) still_handed;
    workers = st.workers;
  }

  locks : (mutex : MutexId) (r : Reply) (p : Option Holding) → mutex_at d mutex.path mutex.number ≡ p → desk.lock_reply who p ≡ Some r → After (asked.Lock mutex) r (after_lock d who mutex.path mutex.number p)
  locks mutex r (Some Free) is e =
      subst (λ x. After (asked.Lock mutex) x (with_holding d mutex.path mutex.number (Held who))) (some_reply e) (held_by (asked.Lock mutex) says.Done mutex (Held who) (ap is_some is) at refl refl refl refl refl refl)
    where
      at : (k : Key) → (moved s (entry who thread (asked.Lock mutex) says.Done)).at k ≡ kept_at (with_holding d mutex.path mutex.number (Held who)) k
      at (NameIn q m) = st.at (NameIn q m)
      at (NamesOf q) = st.at (NamesOf q)
      at Locales = st.at Locales
      at (PyxBy q m) = st.at (PyxBy q m)
      at (MutexBy q m) = ap (cond (same mutex.path q && nat_eq mutex.number m) (Some (Held who))) (st.at (MutexBy q m)) ∙ sym (at_replaced d.mutexes mutex.path (Held who) mutex.number (ap is_some is) q m)
      at Threads = st.at Threads
  locks mutex r (Some (Held a)) is e = by (same who a) e
    where
      at : (k : Key) → (moved s (entry who thread (asked.Lock mutex) (says.Refused Concurrency))).at k ≡ kept_at d k
      at (NameIn q m) = st.at (NameIn q m)
      at (NamesOf q) = st.at (NamesOf q)
      at Locales = st.at Locales
      at (PyxBy q m) = st.at (PyxBy q m)
      at (MutexBy q m) = if_same (same mutex.path q && nat_eq mutex.number m) (s.at (MutexBy q m)) ∙ st.at (MutexBy q m)
      at Threads = st.at Threads

      by : (b : Bool) → cond b (Some (says.Refused Concurrency)) None ≡ Some r → After (asked.Lock mutex) r d
      by true x = subst (λ y. After (asked.Lock mutex) y d) (some_reply x) (unheld (asked.Lock mutex) (says.Refused Concurrency) at refl refl refl refl refl refl)
      by false x = cc
  locks mutex r None is e = subst (λ y. After (asked.Lock mutex) y d) (some_reply e) (unheld (asked.Lock mutex) (says.Refused Domain) at refl refl refl refl refl refl)
    where
      at : (k : Key) → (moved s (entry who thread (asked.Lock mutex) (says.Refused Domain))).at k ≡ kept_at d k
      at (NameIn q m) = st.at (NameIn q m)
      at (NamesOf q) = st.at (NamesOf q)
      at Locales = st.at Locales
      at (PyxBy q m) = st.at (PyxBy q m)
      at (MutexBy q m) = if_same (same mutex.path q && nat_eq mutex.number m) (s.at (MutexBy q m)) ∙ st.at (MutexBy q m)
      at Threads = st.at Threads

  refuses_unlock : (mutex : MutexId) (fault : Fault) → After (asked.Unlock mutex) (says.Refused fault) d
  refuses_unlock mutex fault = unheld (asked.Unlock mutex) (says.Refused fault) at refl refl refl refl refl refl
    where
      at : (k : Key) → (moved s (entry who thread (asked.Unlock mutex) (says.Refused fault))).at k ≡ kept_at d k
      at (NameIn q m) = st.at (NameIn q m)
      at (NamesOf q) = st.at (NamesOf q)
      at Locales = st.at Locales
      at (PyxBy q m) = st.at (PyxBy q m)
      at (MutexBy q m) = if_same (same mutex.path q && nat_eq mutex.number m) (s.at (MutexBy q m)) ∙ st.at (MutexBy q m)
      at Threads = st.at Threads

  unlocks : (mutex : MutexId) (p : Option Holding) → mutex_at d mutex.path mutex.number ≡ p → After (asked.Unlock mutex) (desk.unlock_reply who p) (after_unlock d who mutex.path mutex.number p)
  unlocks mutex (Some Free) is = refuses_unlock mutex Concurrency
  unlocks mutex (Some (Held a)) is = by (same who a)
    where
      at : (k : Key) → (moved s (entry who thread (asked.Unlock mutex) says.Done)).at k ≡ kept_at (with_holding d mutex.path mutex.number Free) k
      at (NameIn q m) = st.at (NameIn q m)
      at (NamesOf q) = st.at (NamesOf q)
      at Locales = st.at Locales
      at (PyxBy q m) = st.at (PyxBy q m)
      at (MutexBy q m) = ap (cond (same mutex.path q && nat_eq mutex.number m) (Some Free)) (st.at (MutexBy q m)) ∙ sym (at_replaced d.mutexes mutex.path Free mutex.number (ap is_some is) q m)
      at Threads = st.at Threads

      by : (b : Bool) → After (asked.Unlock mutex) (cond b says.Done (says.Refused Concurrency)) (cond b (with_holding d mutex.path mutex.number Free) d)
      by true = held_by (asked.Unlock mutex) says.Done mutex Free (ap is_some is) at refl refl refl refl refl refl
      by false = refuses_unlock mutex Concurrency
  unlocks mutex None is = refuses_unlock mutex Domain

  makes_thread : (pool : ℕ) → After (asked.MakeThread pool) (desk.thread_reply d.workers d.threads) (after_make_thread d pool)
  makes_thread pool = by (nat_lt (length d.threads) d.workers)
    where
      at : (k : Key) → (moved s (entry who thread (asked.MakeThread pool) (says.Number (pos (suc (length d.threads)))))).at k ≡ kept_at (record d { threads = d.threads ++ pool ∷ [] }) k
      at (NameIn q m) = st.at (NameIn q m)
      at (NamesOf q) = st.at (NamesOf q)
      at Locales = st.at Locales
      at (PyxBy q m) = st.at (PyxBy q m)
      at (MutexBy q m) = st.at (MutexBy q m)
      at Threads = ap (λ l. l ++ pool ∷ []) (st.at Threads)

      none : (k : Key) → (moved s (entry who thread (asked.MakeThread pool) (says.Refused Limit))).at k ≡ kept_at d k
      none (NameIn q m) = st.at (NameIn q m)
      none (NamesOf q) = st.at (NamesOf q)
      none Locales = st.at Locales
      none (PyxBy q m) = st.at (PyxBy q m)
      none (MutexBy q m) = st.at (MutexBy q m)
      none Threads = st.at Threads

      by : (b : Bool) → After (asked.MakeThread pool) (cond b (says.Number (pos (suc (length d.threads)))) (says.Refused Limit)) (cond b (record d { threads = d.threads ++ pool ∷ [] }) d)
      by true = record { at = at; phase = st.phase; tasks = st.tasks; tasks_of = st.tasks_of; pyxes_of = st.pyxes_of; mutexes_of = st.mutexes_of; waiting = still_waiting; handed = still_handed; workers = st.workers }
      by false = record { at = none; phase = st.phase; tasks = st.tasks; tasks_of = st.tasks_of; pyxes_of = st.pyxes_of; mutexes_of = st.mutexes_of; waiting = still_waiting; handed = still_handed; workers = st.workers }

-- ---- replies

open_said : (n : ℕ) (p q : Option Phase) (x y : Option Setting) → p ≡ q → x ≡ y → open_reply n p x ≡ open_reply n q y
open_said n p q x y e f = λ i. open_reply n (e i) (f i)

pub reply_kept : (d : Kept) (s : State) → Stands d s → (who : List ℕ) (thread : ℕ) (u : Use) → reply s who thread u ≡ kept_reply d who thread u
reply_kept d s st who thread (asked.Read from name) = λ i. Some (named (first_of (st.at (NameIn from name) i) (first_of (st.at (NameIn z_locale name) i) None)))
reply_kept d s st who thread (asked.Write p n v) = refl
reply_kept d s st who thread (asked.Print bytes) = refl
reply_kept d s st who thread (asked.Start pool work) = λ i. Some (desk.start_reply (st.tasks i) (st.tasks_of who i) who)
reply_kept d s st who thread asked.Begin = ap desk.begin_reply (st.phase who)
reply_kept d s st who thread (asked.End o) = ap desk.end_reply (st.phase who)
reply_kept d s st who thread (asked.Open pyx) = open_said pyx.number (s.phase pyx.path) (phase_in d.tasks pyx.path) (s.at (PyxBy pyx.path pyx.number)) (pyx_at d pyx.path pyx.number) (st.phase pyx.path) (st.at (PyxBy pyx.path pyx.number))
reply_kept d s st who thread asked.MakePyx = ap (λ n. Some (desk.make_pyx_reply n who)) (st.pyxes_of who)
reply_kept d s st who thread (asked.SetPyx pyx o) = ap (λ x. Some (desk.set_reply x)) (st.at (PyxBy pyx.path pyx.number))
reply_kept d s st who thread asked.MakeMutex = ap (λ n. Some (desk.make_mutex_reply n who)) (st.mutexes_of who)
reply_kept d s st who thread (asked.Lock mutex) = ap (desk.lock_reply who) (st.at (MutexBy mutex.path mutex.number))
reply_kept d s st who thread (asked.Unlock mutex) = ap (λ x. Some (desk.unlock_reply who x)) (st.at (MutexBy mutex.path mutex.number))
reply_kept d s st who thread (asked.MakeThread pool) = (let back = sym st.workers in λ i. Some (desk.thread_reply (back i) (st.at Threads i)))
reply_kept d s st who thread asked.Threads = ap (λ l. Some (says.Number (pos (length l)))) (st.at Threads)
reply_kept d s st who thread (asked.PoolState pool) = λ i. Some (desk.pool_reply (λ t. st.phase t i) (st.tasks i) (st.at Threads i) pool)
reply_kept d s st who thread asked.Current = refl

pub stands_after : (d : Kept) (s : State) → Stands d s → (who : List ℕ) (thread : ℕ) (u : Use) (r : Reply) → kept_reply d who thread u ≡ Some r → Stands (kept_after d who thread u) (moved s (entry who thread u r))
stands_after d s st who thread (asked.Read from name) r e = as_was d s st
stands_after d s st who thread (asked.Write p n v) r e = record {
  at = λ k. written d.locales p n v d refl s who thread r k (st.at k);
  phase = st.phase;
  tasks = st.tasks;
  tasks_of = st.tasks_of;
  pyxes_of = st.pyxes_of;
  mutexes_of = st.mutexes_of;
  waiting = silent d s st [] refl;
  handed = within d s st [];
  workers = st.workers;
}
stands_after d s st who thread (asked.Print bytes) r e = record {
  at = λ k. st.at k ∙ at_before d (record d { waiting = d.waiting ++ bytes }) refl refl refl refl k;
  phase = st.phase;
  tasks = st.tasks;
  tasks_of = st.tasks_of;
  pyxes_of = st.pyxes_of;
  mutexes_of = st.mutexes_of;
  waiting = ap (λ l. l ++ bytes) st.waiting ∙ sym (drop-append-le d.handed s.printed bytes st.handed);
  handed = within d s st bytes;
  workers = st.workers;
}
stands_after d s st who thread (asked.Start pool work) r e = subst (λ x. Stands (after_start d who pool work) (moved s (entry who thread (asked.Start pool work) x))) (some_reply e) (starts d s st who thread pool work)
stands_after d s st who thread asked.Begin r e = begins d s st who thread r (phase_in d.tasks who) refl e
stands_after d s st who thread (asked.End o) r e = ends d s st who thread o r (phase_in d.tasks who) refl e
stands_after d s st who thread (asked.Open pyx) r e = as_was d s st
stands_after d s st who thread asked.MakePyx r e = subst (λ x. Stands (after_make_pyx d who) (moved s (entry who thread asked.MakePyx x))) (some_reply e) (makes_pyx d s st who thread)
stands_after d s st who thread (asked.SetPyx pyx o) r e =
    subst (λ x. Stands (after_set d pyx.path pyx.number o (pyx_at d pyx.path pyx.number)) (moved s (entry who thread (asked.SetPyx pyx o) x))) (some_reply e) (sets_pyx d s st who thread pyx o (pyx_at d pyx.path pyx.number) refl)
stands_after d s st who thread asked.MakeMutex r e = subst (λ x. Stands (after_make_mutex d who) (moved s (entry who thread asked.MakeMutex x))) (some_reply e) (makes_mutex d s st who thread)
stands_after d s st who thread (asked.Lock mutex) r e = locks d s st who thread mutex r (mutex_at d mutex.path mutex.number) refl e
stands_after d s st who thread (asked.Unlock mutex) r e =
    subst (λ x. Stands (after_unlock d who mutex.path mutex.number (mutex_at d mutex.path mutex.number)) (moved s (entry who thread (asked.Unlock mutex) x))) (some_reply e) (unlocks d s st who thread mutex (mutex_at d mutex.path mutex.number) refl)
stands_after d s st who thread (asked.MakeThread pool) r e = subst (λ x. Stands (after_make_thread d pool) (moved s (entry who thread (asked.MakeThread pool) x))) (some_reply e) (makes_thread d s st who thread pool)
stands_after d s st who thread asked.Threads r e = as_was d s st
stands_after d s st who thread (asked.PoolState pool) r e = as_was d s st
stands_after d s st who thread asked.Current r e = as_was d s st

pub answers : (d : Kept) (who : List ℕ) (thread : ℕ) (u : Use) (r : Reply) → kept_reply d who thread u ≡ Some r → Answers d who thread u r (kept_after d who thread u)
answers d who thread u r e s st = (reply_kept d s st who thread u ∙ e, stands_after d s st who thread u r e)

-- what the code says of an answer is what the definition says
pub answers_so : (d d' : Kept) (who : List ℕ) (thread : ℕ) (u : Use) (r : Reply) → Some r ≡ kept_reply d who thread u → d' ≡ kept_after d who thread u → Answers d who thread u r d'
answers_so d d' who thread u r replied after = subst (λ x. Answers d who thread u r x) (sym after) (answers d who thread u r (sym replied))

pub waits_so : (d : Kept) (who : List ℕ) (thread : ℕ) (u : Use) → None ≡ kept_reply d who thread u → WaitsOn thread d who u
waits_so d who thread u e s st = reply_kept d s st who thread u ∙ sym e

first_names : (p : List ℕ) → [] ≡ names_in first_tables p
first_names p = by (same p base_locale) (same p z_locale)
  where
    by : (a b : Bool) → ◌≡◌ {A = NameTable} [] (unwrap_or (cond a (Some []) (cond b (Some []) None)) [])
    by true b = refl
    by false true = refl
    by false false = refl

pub first_stands : (workers : ℕ) (d : Kept) → d ≡ first_kept workers → Stands d (first workers)
first_stands workers d is = subst (λ x. Stands x (first workers)) (sym is) (record {
  at = at_first;
  phase = λ t. none_there (last_number t);
  tasks = refl;
  tasks_of = λ who. refl;
  pyxes_of = λ who. refl;
  mutexes_of = λ who. refl;
  waiting = refl;
  handed = omega arith;
  workers = refl;
})
  where
    none_there : {X : Type 0} (n : ℕ) → None ≡ numbered {X = X} [] n
    none_there zero = refl
    none_there (suc n) = refl

    at_first : (k : Key) → first_at k ≡ kept_at (first_kept workers) k
    at_first (NameIn p n) = ap (lookup (same n)) (first_names p)
    at_first (NamesOf p) = ap (map (λ e. (e.0, class_of e.1))) (first_names p)
    at_first Locales = refl
    at_first (PyxBy p n) = none_there n
    at_first (MutexBy p n) = none_there n
    at_first Threads = refl

-- ---- nothing is handed out, and the desk isn't closed

pub only_same : (d : Kept) → OnlyMoves d d
only_same d = record { handed = refl; closed = refl }

only_if : (d d' : Kept) (b : Bool) → OnlyMoves d d' → OnlyMoves d (cond b d' d)
only_if d d' true h = h
only_if d d' false h = only_same d

only_begin : (d : Kept) (who : List ℕ) (thread : ℕ) (p : Option Phase) → OnlyMoves d (after_begin d who thread p)
only_begin d who thread (Some (Waiting pool work)) = record { handed = refl; closed = refl }
only_begin d who thread (Some (Running pool th)) = only_same d
only_begin d who thread (Some (Over o)) = only_same d
only_begin d who thread None = only_same d

only_end : (d : Kept) (who : List ℕ) (o : Ended) (p : Option Phase) → OnlyMoves d (after_end d who o p)
only_end d who o (Some (Running pool th)) = record { handed = refl; closed = refl }
only_end d who o (Some (Waiting pool work)) = only_same d
only_end d who o (Some (Over x)) = only_same d
only_end d who o None = only_same d

only_set : (d : Kept) (maker : List ℕ) (n : ℕ) (o : Ended) (p : Option Setting) → OnlyMoves d (after_set d maker n o p)
only_set d maker n o (Some Unset) = record { handed = refl; closed = refl }
only_set d maker n o (Some (Set x)) = only_same d
only_set d maker n o None = only_same d

only_lock : (d : Kept) (who maker : List ℕ) (n : ℕ) (p : Option Holding) → OnlyMoves d (after_lock d who maker n p)
only_lock d who maker n (Some Free) = record { handed = refl; closed = refl }
only_lock d who maker n (Some (Held a)) = only_same d
only_lock d who maker n None = only_same d

only_unlock : (d : Kept) (who maker : List ℕ) (n : ℕ) (p : Option Holding) → OnlyMoves d (after_unlock d who maker n p)
only_unlock d who maker n (Some (Held a)) = only_if d (with_holding d maker n Free) (same who a) (record { handed = refl; closed = refl })
only_unlock d who maker n (Some Free) = only_same d
only_unlock d who maker n None = only_same d

kept_only : (d : Kept) (who : List ℕ) (thread : ℕ) (u : Use) → OnlyMoves d (kept_after d who thread u)
kept_only d who thread (asked.Read from name) = only_same d
kept_only d who thread (asked.Write p n v) = record { handed = refl; closed = refl }
kept_only d who thread (asked.Print bytes) = record { handed = refl; closed = refl }
kept_only d who thread (asked.Start pool work) = only_if d (with_task d who (next_task d who) (Waiting pool work)) (may_start d.order who) (record { handed = refl; closed = refl })
kept_only d who thread asked.Begin = only_begin d who thread (phase_in d.tasks who)
kept_only d who thread (asked.End o) = only_end d who o (phase_in d.tasks who)
kept_only d who thread (asked.Open pyx) = only_same d
kept_only d who thread asked.MakePyx = only_if d (record d { pyxes = added d.pyxes who Unset }) (nat_lt (length (made_in d.pyxes who)) most_made) (record { handed = refl; closed = refl })
kept_only d who thread (asked.SetPyx pyx o) = only_set d pyx.path pyx.number o (pyx_at d pyx.path pyx.number)
kept_only d who thread asked.MakeMutex = only_if d (record d { mutexes = added d.mutexes who Free }) (nat_lt (length (made_in d.mutexes who)) most_made) (record { handed = refl; closed = refl })
kept_only d who thread (asked.Lock mutex) = only_lock d who mutex.path mutex.number (mutex_at d mutex.path mutex.number)
kept_only d who thread (asked.Unlock mutex) = only_unlock d who mutex.path mutex.number (mutex_at d mutex.path mutex.number)
kept_only d who thread (asked.MakeThread pool) = only_if d (record d { threads = d.threads ++ pool ∷ [] }) (nat_lt (length d.threads) d.workers) (record { handed = refl; closed = refl })
kept_only d who thread asked.Threads = only_same d
kept_only d who thread (asked.PoolState pool) = only_same d
kept_only d who thread asked.Current = only_same d

pub only_so : (d d' : Kept) (who : List ℕ) (thread : ℕ) (u : Use) → d' ≡ kept_after d who thread u → OnlyMoves d d'
only_so d d' who thread u is = subst (OnlyMoves d) (sym is) (kept_only d who thread u)

-- where a use has no reply the desk stays
stays_begin : (d : Kept) (who : List ℕ) (thread : ℕ) (p : Option Phase) → None ≡ desk.begin_reply p → after_begin d who thread p ≡ d
stays_begin d who thread (Some (Waiting pool work)) e = cc
stays_begin d who thread (Some (Running pool th)) e = refl
stays_begin d who thread (Some (Over o)) e = refl
stays_begin d who thread None e = refl

stays_end : (d : Kept) (who : List ℕ) (o : Ended) (p : Option Phase) → None ≡ desk.end_reply p → after_end d who o p ≡ d
stays_end d who o (Some (Running pool th)) e = cc
stays_end d who o (Some (Waiting pool work)) e = refl
stays_end d who o (Some (Over x)) e = refl
stays_end d who o None e = refl

stays_lock : (d : Kept) (who maker : List ℕ) (n : ℕ) (p : Option Holding) → None ≡ desk.lock_reply who p → after_lock d who maker n p ≡ d
stays_lock d who maker n (Some Free) e = cc
stays_lock d who maker n (Some (Held a)) e = refl
stays_lock d who maker n None e = refl

pub stays_so : (d d' : Kept) (who : List ℕ) (thread : ℕ) (u : Use) → None ≡ kept_reply d who thread u → d' ≡ kept_after d who thread u → d' ≡ d
stays_so d d' who thread (asked.Read from name) e is = is
stays_so d d' who thread (asked.Write p n v) e is = cc
stays_so d d' who thread (asked.Print bytes) e is = cc
stays_so d d' who thread (asked.Start pool work) e is = cc
stays_so d d' who thread asked.Begin e is = is ∙ stays_begin d who thread (phase_in d.tasks who) e
stays_so d d' who thread (asked.End o) e is = is ∙ stays_end d who o (phase_in d.tasks who) e
stays_so d d' who thread (asked.Open pyx) e is = is
stays_so d d' who thread asked.MakePyx e is = cc
stays_so d d' who thread (asked.SetPyx pyx o) e is = cc
stays_so d d' who thread asked.MakeMutex e is = cc
stays_so d d' who thread (asked.Lock mutex) e is = is ∙ stays_lock d who mutex.path mutex.number (mutex_at d mutex.path mutex.number) e
stays_so d d' who thread (asked.Unlock mutex) e is = cc
stays_so d d' who thread (asked.MakeThread pool) e is = cc
stays_so d d' who thread asked.Threads e is = is
stays_so d d' who thread (asked.PoolState pool) e is = is
stays_so d d' who thread asked.Current e is = is

-- a halt of an open desk
pub waits_rightly : (thread : ℕ) (d : Kept) (who : List ℕ) (u : Use) → d.closed ≡ None → None ≡ kept_reply d who thread u → HaltsRightly thread d who u (Err Wait)
waits_rightly thread d who u unclosed e = subst (λ c. HaltsBy thread d who u c (Err Wait)) (sym unclosed) (waits_so d who thread u e)

-- ---- a started task's path is one longer

longer_start : (who : List ℕ) (n pool : ℕ) (work : Work) (b : Bool) → IsLonger who (started_by (asked.Start pool work) (cond b (says.Pyx (record { path = who ++ suc n ∷ []; number = 0 })) (says.Refused Limit)))
longer_start who n pool work true = omega (arith, length-append who (suc n ∷ []))
longer_start who n pool work false = tt

pub longer : (d : Kept) (who : List ℕ) (thread : ℕ) (u : Use) (r : Reply) → Some r ≡ kept_reply d who thread u → IsLonger who (started_by u r)
longer d who thread (asked.Start pool work) r e = subst (λ x. IsLonger who (started_by (asked.Start pool work) x)) (some_reply (sym e)) (longer_start who (length (made_in d.tasks who)) pool work (may_start d.order who))
longer d who thread (asked.Read from name) r e = tt
longer d who thread (asked.Write p n v) r e = tt
longer d who thread (asked.Print bytes) r e = tt
longer d who thread asked.Begin r e = tt
longer d who thread (asked.End o) r e = tt
longer d who thread (asked.Open pyx) r e = tt
longer d who thread asked.MakePyx r e = tt
longer d who thread (asked.SetPyx pyx o) r e = tt
longer d who thread asked.MakeMutex r e = tt
longer d who thread (asked.Lock mutex) r e = tt
longer d who thread (asked.Unlock mutex) r e = tt
longer d who thread (asked.MakeThread pool) r e = tt
longer d who thread asked.Threads r e = tt
longer d who thread (asked.PoolState pool) r e = tt
longer d who thread asked.Current r e = tt
