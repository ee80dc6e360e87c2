-- There is a one-thread run: what a program, its tasks and the desk do from a state on. Tasks are started at most 4 deep.
use Rattle.std.proofs.Common.{◌≡◌, ◌≢◌, ◌⊎◌, inl, inr, refl, sym, ap, subst, ◌∙◌, ◌<◌, ◌≤◌, ◌+◌, arith, ℕ, zero, suc, List, [], ◌∷◌, ◌++◌, Bool, true, false, if◌then◌else◌, ◌&&◌, Option, Some, None, Result, Ok, Err, nat_lt, length}
use Rattle.std.proofs.lemmas.Bool.Decides.{nat_tests}
use Rattle.jdata.specs.declared.fault.Fault.TheVariants.{Limit}
use Rattle.juses.specs.Activities.{Complete, OneThreadRun, Stuck}
use Rattle.juses.specs.Desk.{State, first, reply, moved, most_tasks, waiting_work}
use Rattle.juses.specs.Doings.{Doings, NoMore, Did, Ran, Broke, told, Does}
use Rattle.juses.specs.Entries.{entry, pyx_of, started_by}
use Rattle.juses.specs.Histories.{after}
use Rattle.juses.specs.Leading.{taken-append, both_tell}
use Rattle.juses.specs.OldestFirst.{taken, Tells, history}
use Rattle.juses.specs.Program.{Program, Return, Ask}
use Rattle.juses.specs.Told.{Told, Replied, Handed}
use Rattle.juses.specs.Wishes.{Wish, Start, use_of}
use Rattle.juses.specs.declared.kept.Phase.TheVariants.{Waiting}
use Rattle.juses.specs.declared.uses.Ended.{Ended}
use Rattle.juses.specs.declared.uses.Entry.{Entry}
use Rattle.juses.specs.declared.uses.Halt.{Halt}
use Rattle.juses.specs.declared.uses.Halt.TheVariants.{Wait}
use Rattle.juses.specs.declared.uses.Reply.{Reply}
use Rattle.juses.specs.declared.uses.Reply.TheVariants.{Done, Pyx, Refused}
use Rattle.juses.specs.declared.uses.Use.{Use}
use Rattle.juses.specs.declared.uses.Use.TheVariants as asked
use Rattle.juses.specs.declared.uses.Why.{Why}
use Rattle.juses.specs.declared.uses.Why.TheVariants.{Started, Ending}
use Rattle.juses.specs.declared.uses.Work.{Work}
use Rattle.juses.proofs.ManyRuns.{one_thread, complete, whole_run, stuck, stuck_run, one_run}
use Rattle.juses.proofs.OneRun.{OwedWaits, owed_waits}
use Rattle.juses.proofs.Phases.{some_reply}
use Rattle.juses.proofs.Runs.{after_onto}
use Rattle.juses.proofs.Trees.{whichever}

-- a use has no reply, and no task is delayed
abbrev NoReply : State → List ℕ → Use → Halt → Type 0
NoReply s who u halt = reply s who 0 u ≡ None

abbrev no_delay : Why → Halt → Type 0
no_delay why halt = ⊥

at_end_alone : (why : Why) → no_delay why Wait → why ≡ Ending
at_end_alone why d = absurd d

-- an answer, or a use without a reply
abbrev result_of : {B : Type 0} → Option B → Result B Halt
result_of (Some a) = Ok a
result_of None = Err Wait

length-last : (l : List ℕ) (n : ℕ) → length (l ++ n ∷ []) ≡ suc (length l)
length-last [] n = refl
length-last (m ∷ l) n = ap suc (length-last l n)

-- who starts a task has fewer than 4 numbers, and the task one more
abbrev IsBelow : List ℕ → Option (List ℕ) → Type 0
IsBelow who (Some t) = (length who < 4) × (length t ≡ suc (length who))
IsBelow who None = Unit {0}

below_if : (who : List ℕ) (n pool : ℕ) (w : Work) (a b : Bool) → nat_lt (length who) 4 ≡ b → IsBelow who (started_by (asked.Start pool w) (if a && b then Pyx (pyx_of (who ++ suc n ∷ [])) else Refused Limit))
below_if who n pool w true true e = (grind (arith, nat_tests, e), length-last who (suc n))
below_if who n pool w true false e = tt
below_if who n pool w false true e = tt
below_if who n pool w false false e = tt

below : (s : State) (who : List ℕ) (q : Wish) (r : Reply) → reply s who 0 (use_of q) ≡ Some r → IsBelow who (started_by (use_of q) r)
below s who (Start pool w) r e = subst (λ x. IsBelow who (started_by (asked.Start pool w) x)) (some_reply e) (below_if who (s.tasks_of who) pool w (nat_lt (length s.tasks) most_tasks) (nat_lt (length who) 4) refl)
below s who q r e = tt

module _ (meaning : Work → Program Wish Reply Ended) where
  abbrev By : {A : Type 0} → State → Option (List ℕ) → List ℕ → Program Wish Reply A → Doings → Result A Halt → Type 0
  By s owed who p es r = Does meaning (NoReply s) no_delay owed who p es r

  record RanFrom {B : Type 0} (who : List ℕ) (p : Program Wish Reply B) (s : State) : Type 0 where
    es : Doings
    r : Option B
    tells : Tells 0 s (told es)
    does : By (taken s (told es)) None who p es (result_of r)

  abbrev Lower : List ℕ → Type 0
  Lower who = (t : List ℕ) (w : Work) (s : State) → length who < 4 → length t ≡ suc (length who) → RanFrom t (meaning w) s

  module _ {B : Type 0} (q : Wish) (k : Reply → Program Wish Reply B) (who : List ℕ) (s : State) (r : Reply) (said : reply s who 0 (use_of q) ≡ Some r) (call : (s : State) → RanFrom who (k r) s) where
    abbrev own_entry : Entry
    own_entry = entry who 0 (use_of q) r

    abbrev s1 : State
    s1 = moved s own_entry

    plain : started_by (use_of q) r ≡ None → RanFrom who (Ask q k) s
    plain none =
        let rest = call s1 in
        record {
          es = Did own_entry rest.es;
          r = rest.r;
          tells = ((refl, said), rest.tells);
          does = (refl, refl, subst (λ o. By (taken s1 (told rest.es)) o who (k r) rest.es (result_of rest.r)) (sym none) rest.does);
        }

    module _ (t : List ℕ) (pool : ℕ) (w : Work) (is : started_by (use_of q) r ≡ Some t) (waiting : s1.phase t ≡ Some (Waiting pool w)) where
      abbrev s2 : State
      s2 = moved s1 (entry t 0 asked.Begin Done)

      -- the task is handed out
      handed : Tells 0 s1 (Handed (Started (pyx_of t)) t 0 w ∷ [])
      handed = ((refl, refl, ap waiting_work waiting), tt)

      module _ (inside : Doings) (inside_tells : Tells 0 s2 (told inside)) where
        abbrev s3 : State
        s3 = taken s2 (told inside)

        abbrev Broken : Doings
        Broken = Broke (Started (pyx_of t)) t 0 w inside

        broke : By s3 None t (meaning w) inside (Err Wait) → RanFrom who (Ask q k) s
        broke d = record {
          es = Did own_entry Broken;
          r = None;
          tells = ((refl, said), (handed.0, inside_tells));
          does = (refl, refl, subst (λ o. By s3 o who (k r) Broken (result_of {B = B} None)) (sym is) ((refl, refl), inl d));
        }

        ended : (o : Ended) → By s3 None t (meaning w) inside (Ok o) → (x : Option Reply) → reply s3 t 0 (asked.End o) ≡ x → RanFrom who (Ask q k) s
        ended o d None e = record {
          es = Did own_entry Broken;
          r = None;
          tells = ((refl, said), (handed.0, inside_tells));
          does = (refl, refl, subst (λ o. By s3 o who (k r) Broken (result_of {B = B} None)) (sym is) ((refl, refl), inr (o, d, e)));
        }
        ended o d (Some x) e =
            let end : Entry = entry t 0 (asked.End o) x in
            let s4 : State = moved s3 end in
            let rest = call s4 in
            let last : taken s2 (told inside ++ Replied end ∷ told rest.es) ≡ taken s4 (told rest.es) = taken-append s2 (told inside) (Replied end ∷ told rest.es) in
            let P : Option (List ℕ) → State → Type 0 = λ o z. By z o who (k r) (Ran (Started (pyx_of t)) t 0 w inside end rest.es) (result_of rest.r) in
            let here : P (Some t) (taken s4 (told rest.es)) = ((refl, refl), (o, whichever meaning (NoReply s3) (NoReply (taken s4 (told rest.es))) no_delay no_delay inside None t (meaning w) o d, refl, refl), rest.does) in
            record {
              es = Did own_entry (Ran (Started (pyx_of t)) t 0 w inside end rest.es);
              r = rest.r;
              tells = ((refl, said), (handed.0, both_tell s2 (told inside) (Replied end ∷ told rest.es) inside_tells ((refl, e), rest.tells)));
              does = (refl, refl, subst (λ o. P o (taken s2 (told inside ++ Replied end ∷ told rest.es))) (sym is) (subst (P (Some t)) (sym last) here));
            }

      after_task : RanFrom t (meaning w) s2 → RanFrom who (Ask q k) s
      after_task task = by task.r task.does
        where
          by : (x : Option Ended) → By (taken s2 (told task.es)) None t (meaning w) task.es (result_of x) → RanFrom who (Ask q k) s
          by None d = broke task.es task.tells d
          by (Some o) d = ended task.es task.tells o d (reply (taken s2 (told task.es)) t 0 (asked.End o)) refl

    asks : Lower who → (o : Option (List ℕ)) → started_by (use_of q) r ≡ o → RanFrom who (Ask q k) s
    asks lower None is = plain is
    asks lower (Some t) is =
        let b : IsBelow who (Some t) = subst (IsBelow who) is (below s who q r said) in
        let o : OwedWaits (Some t) s1 = subst (λ x. OwedWaits x s1) is (owed_waits s who 0 q r) in
        after_task t o.0 o.1 is o.2 (lower t o.1 (moved s1 (entry t 0 asked.Begin Done)) b.0 b.1)

  layer : {B : Type 0} (p : Program Wish Reply B) (who : List ℕ) (s : State) → Lower who → RanFrom who p s
  layer (Return a) who s lower = record { es = NoMore; r = Some a; tells = tt; does = refl }
  layer (Ask q k) who s lower = by (reply s who 0 (use_of q)) refl (λ r z. layer (k r) who z lower)
    where
      by : (x : Option Reply) → reply s who 0 (use_of q) ≡ x → ((r : Reply) (z : State) → RanFrom who (k r) z) → RanFrom who (Ask q k) s
      by None e call = record { es = NoMore; r = None; tells = tt; does = e }
      by (Some r) e call = asks q k who s r e (call r) lower (started_by (use_of q) r) refl

  all : (d : ℕ) (t : List ℕ) (w : Work) (s : State) → 4 ≤ length t + d → RanFrom t (meaning w) s
  all zero t w s enough = layer (meaning w) t s (λ u v z few longer. absurd (omega (arith, enough, few)))
  all (suc d) t w s enough = layer (meaning w) t s (λ u v z few longer. all d u v z (omega (arith, enough, longer)))

  module _ {A : Type 0} (script : Program Wish Reply A) (workers : ℕ) where
    ran : RanFrom [] script (first workers)
    ran = layer script [] (first workers) (λ u v z few longer. all 3 u v z (omega (arith, longer)))

    abbrev last : State
    last = taken (first workers) (told ran.es)

    -- it ends where main and each task have ended, or where the next use has no reply
    pub a_whole_run : (r : List Entry) × OneThreadRun meaning script workers r × (Complete meaning script r ⊎ Stuck meaning script workers r)
    a_whole_run = by ran.r ran.does
      where
        by : (x : Option A) → By last None [] script ran.es (result_of x) → (r : List Entry) × OneThreadRun meaning script workers r × (Complete meaning script r ⊎ Stuck meaning script workers r)
        by (Some a) d = (history (told ran.es), whole_run meaning script workers (NoReply last) no_delay at_end_alone ran.es ran.tells a d, inl (complete meaning script workers (NoReply last) no_delay at_end_alone ran.es ran.tells a d))
        by None d =
            let h : List Entry = history (told ran.es) in
            let s = stuck meaning script workers (NoReply last) no_delay at_end_alone ran.es ran.tells d (λ who u e. ap (λ z. reply z who 0 u) (after_onto workers (told ran.es) []) ∙ e) (λ g none w. w) in
            (h, stuck_run meaning script workers h (one_thread meaning script workers (NoReply last) no_delay at_end_alone ran.es ran.tells (Err Wait) d) s, inr s)

    pub a_run : (r : List Entry) × OneThreadRun meaning script workers r
    a_run = (a_whole_run.0, a_whole_run.1)

    -- and so does each, since there is only one
    pub ends_run : (r : List Entry) → OneThreadRun meaning script workers r → Complete meaning script r ⊎ Stuck meaning script workers r
    ends_run r o = subst (λ h. Complete meaning script h ⊎ Stuck meaning script workers h) (one_run meaning script workers r a_whole_run.0 o a_whole_run.1) a_whole_run.2
