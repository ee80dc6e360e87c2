-- The quiet law, from that over any setting: histories, the one-thread run and quiet, threads aside.
use Rattle.std.proofs.Common.{◌≡◌, ◌≢◌, refl, sym, ap, subst, inl, inr, ◌∙◌, ℕ, suc, List, [], ◌∷◌, ◌++◌, append_assoc, append-nil, Bool, true, false, if◌then◌else◌, Some}
use Rattle.jdata.specs.declared.path.PyxId.{PyxId}
use Rattle.juses.specs.Activities as many
use Rattle.juses.specs.Activities.{HasAsked, WasStarted, HasEnded, Legal, Faithful, Complete, OneThread, OneThreadRun, open_tasks, left_open, without, first_of_all, going, task_of}
use Rattle.juses.specs.Desk.{reply, may_start, bytes_of}
use Rattle.juses.specs.Entries.{started_by}
use Rattle.juses.specs.Histories.{Once, after, own, replies, prints}
use Rattle.juses.specs.Keys.{same}
use Rattle.juses.specs.Program.{Program, Return, Ask, next, main_of}
use Rattle.juses.specs.Wishes.{Wish}
use Rattle.juses.specs.declared.uses.Ended.{Ended}
use Rattle.juses.specs.declared.uses.Entry.{Entry}
use Rattle.juses.specs.declared.uses.Use.{Use}
use Rattle.juses.specs.declared.uses.Use.TheVariants as asked
use Rattle.juses.specs.declared.uses.Reply.{Reply}
use Rattle.juses.specs.declared.uses.Reply.TheVariants as says
use Rattle.juses.specs.declared.uses.Work.{Work}
use Rattle.juses.proofs.ManyRuns.{good_run, legal_run, faithful_run}
use Rattle.juses.proofs.Phases.{Good, IsAmong, same_is, same_self, some_reply, started_pyx, longer}
use Rattle.jlaws.specs.Quiet.{Starts, AreApart, Quiet}
use Rattle.jlaws.proofs.Logs.{Stage}
use Rattle.jlaws.proofs.Setting as plain
use Rattle.jlaws.proofs.Setting.{Act}
use Rattle.jlaws.proofs.Stages.{clash, nothing, further, now, kept}
use Rattle.jlaws.proofs.Core as core
use Rattle.jlaws.proofs.Core.{not_some}
use Rattle.jlaws.proofs.Programs.{newest, left, step, next_of, is_end}
use Rattle.jlaws.proofs.States.{act, acts, acts_own, own_in}
use Rattle.jlaws.proofs.Facts.{Job, Main, Task, IsTame, starting, start_is, starting_is, depends_is, program_of, session, LegalActs, facts, started_in}

-- ---- the next use, by the newest reply first

next_step : (p : Program Use Reply (Unit {0})) (r : Reply) (later : List Reply) → next p (r ∷ later) ≡ next (step p r) later
next_step (Return a) r later = refl
next_step (Ask q k) r later = refl

next_left : (p : Program Use Reply (Unit {0})) (h : List Entry) (later : List Reply) → next p (replies h ++ later) ≡ next (left p (newest (acts h))) later
next_left p [] later = refl
next_left p (e ∷ h) later = ap (next p) (append_assoc (replies h) (e.reply ∷ []) later) ∙ (next_left p h (e.reply ∷ later) ∙ next_step (left p (newest (acts h))) e.reply later)

next_same : (p : Program Use Reply (Unit {0})) (h : List Entry) → next p (replies h) ≡ next_of p (newest (acts h))
next_same p h = ap (next p) (sym (append-nil (replies h))) ∙ next_left p h []

next_own : (p : Program Use Reply (Unit {0})) (who : List ℕ) (h : List Entry) → next p (replies (own who h)) ≡ next_of p (newest (own_in who (acts h)))
next_own p who h = next_same p (own who h) ∙ ap (λ l. next_of p (newest l)) (acts_own who h)

-- ---- where an entry stands

abbrev Back : Act (List ℕ) Use Reply → List (Act (List ℕ) Use Reply) → List Entry → Type 0
Back x q h = (e : Entry) × (p : List Entry) × Once (e ∷ p) h × (act e ≡ x) × (acts p ≡ q)

back : (x : Act (List ℕ) Use Reply) (q : List (Act (List ℕ) Use Reply)) (h : List Entry) → Stage (x ∷ q) (acts h) → Back x q h
back x q [] i = nothing x q i
back x q (e ∷ h) (inl i) = (e, h, inl refl, cc, cc)
back x q (e ∷ h) (inr i) = let b = back x q h i in (b.0, b.1, inr b.2, b.3, b.4)

was_started : (t : List ℕ) (work : Work) (h : List Entry) → WasStarted h t work → (s : Act (List ℕ) Use Reply) × (p : List (Act (List ℕ) Use Reply)) × Stage (s ∷ p) (acts h) × (starting s.asked s.reply ≡ Some (t, Task work))
was_started t work [] w = absurd w
was_started t work (e ∷ h) (inl (pool, asks, given)) = (act e, acts h, inl refl, starting_is pool work t e.asked e.reply asks given)
was_started t work (e ∷ h) (inr w) = let s = was_started t work h w in (s.0, s.1, inr s.2, s.3)

-- the End of a task stands among its entries
ended_at : (t : List ℕ) (o : Ended) (thread : ℕ) (h : List Entry) → HasAsked h t thread (asked.End o) → (e : Act (List ℕ) Use Reply) × (q : List (Act (List ℕ) Use Reply)) × Stage (e ∷ q) (own_in t (acts h)) × (is_end e.asked ≡ true)
ended_at t o thread [] a = absurd a
ended_at t o thread (x ∷ h) (inl (who, at, asks)) =
    let mine : same t x.who ≡ true = subst (λ z. same z x.who ≡ true) who (same_self x.who) in
    (act x, own_in t (acts h), rw mine (inl refl), ap is_end asks)
ended_at t o thread (x ∷ h) (inr a) =
    let e = ended_at t o thread h a in
    (e.0, e.1, further (e.0 ∷ e.1) (own_in t (acts h)) (own_in t (acts (x ∷ h))) e.2 (kept (λ v. same t v.who) (acts h) (acts (x ∷ h)) (inr (now (acts h)))), e.3)

was_one : {A : Type 0} (meaning : Work → Program Wish Reply Ended) (script : Program Wish Reply A) (workers : ℕ) (p h : List Entry) → Once p h → OneThread meaning script workers h → OneThread meaning script workers p
was_one meaning script workers p [] i o = subst (OneThread meaning script workers) (sym i) tt
was_one meaning script workers p (x ∷ h) (inl i) o = subst (OneThread meaning script workers) (sym i) o
was_one meaning script workers p (x ∷ h) (inr i) o = was_one meaning script workers p h i o.0

-- ---- main is no task

among_without : (t who : List ℕ) (ts : List (List ℕ)) → IsAmong t (without who ts) → IsAmong t ts
among_without t who [] m = m
among_without t who (x ∷ ts) m = on (same who x) m (among_without t who ts)
  where
    on : (b : Bool) → IsAmong t (if b then ts else x ∷ without who ts) → (IsAmong t (without who ts) → IsAmong t ts) → IsAmong t (x ∷ ts)
    on true m again = inr m
    on false (inl is) again = inl is
    on false (inr m) again = inr (again m)

module _ (workers : ℕ) where
  opens_on : (e : Entry) (h : List Entry) (u : Use) (r : Reply) → reply (after workers h) e.who e.thread u ≡ Some r → (IsAmong [] (open_tasks h) → ⊥) → IsAmong [] (left_open e.who u r (open_tasks h)) → ⊥
  opens_on e h (asked.Start pool work) (says.Pyx pyx) said not (inl is) =
      let n : ℕ = (after workers h).tasks_of e.who in
      let given = started_pyx (may_start (after workers h).tasks e.who) (e.who ++ suc n ∷ []) pyx (some_reply said) in
      longer e.who (suc n) (is ∙ sym (ap (λ (p : PyxId). p.path) given))
  opens_on e h (asked.Start pool work) (says.Pyx pyx) said not (inr m) = not m
  opens_on e h (asked.End o) r said not m = not (among_without [] e.who (open_tasks h) m)
  opens_on e h u r said not m = not m

  main_not_open : (h : List Entry) → Legal workers h → IsAmong [] (open_tasks h) → ⊥
  main_not_open [] l m = m
  main_not_open (e ∷ h) l m = opens_on e h e.asked e.reply l.2 (main_not_open h l.0) m

  -- where main goes on no task is open
  none_open : (h : List Entry) → Legal workers h → going h ≡ [] → open_tasks h ≡ []
  none_open h l is = on (open_tasks h) refl
    where
      on : (ts : List (List ℕ)) → open_tasks h ≡ ts → open_tasks h ≡ []
      on [] e = e
      on (t ∷ ts) e = absurd (main_not_open h l (subst (IsAmong []) (sym e) (inl (sym is ∙ ap first_of_all e))))

module _ {A : Type 0} (meaning : Work → Program Wish Reply Ended) (script : Program Wish Reply A) where
  abbrev Faith : List Entry → Type 0
  Faith h = plain.Faithful (session meaning script) (acts h)

  asks_on : (h : List Entry) (who : List ℕ) (u : Use) → many.Asks meaning script h who u
      → (w : Job) × plain.Works (session meaning script) who w (acts h) × (next_of (program_of meaning script w) (newest (own_in who (acts h))) ≡ Some u)
  asks_on h who u (p, inl is, n) = (Main, inl (is.0, refl), sym (next_own (main_of script) who h) ∙ (ap (λ q. next q (replies (own who h))) (sym is.1) ∙ n))
  asks_on h who u (p, inr (work, w, is), n) = (Task work, inr (was_started who work h w), sym (next_own (task_of (meaning work)) who h) ∙ (ap (λ q. next q (replies (own who h))) (sym is) ∙ n))

  faithful_acts : (h : List Entry) → Faithful meaning script h → Faith h
  faithful_acts [] f = tt
  faithful_acts (e ∷ h) f = (faithful_acts h f.0, asks_on h e.who e.asked f.1)

  prints_acts : (h : List Entry) → plain.prints (session meaning script) (acts h) ≡ prints h
  prints_acts [] = refl
  prints_acts (e ∷ h) = ap (λ l. l ++ bytes_of e.asked) (prints_acts h)

  module _ (workers : ℕ) where
    complete_acts : (h : List Entry) → Complete meaning script h → plain.Complete (session meaning script) (acts h)
    complete_acts h c = (
      sym (next_own (main_of script) [] h) ∙ c.0,
      λ s p t w i b.
          let was = started_in meaning script workers s p h t w i b in
          let end = c.1 t was.0 was.2 in
          ended_at t end.0 end.1 h end.2,
    )

    module _ (r : List Entry) (one : OneThread meaning script workers r) where
      legal : Legal workers r
      legal = legal_run meaning script workers r one

      -- between a task's start and an entry of it stands none of main
      serial_at : (m s e : Act (List ℕ) Use Reply) (l p q : List (Act (List ℕ) Use Reply)) (t : List ℕ) (w : Job) → Stage (m ∷ l) (acts r) → same [] m.who ≡ true → Stage (s ∷ p) l → starting s.asked s.reply ≡ Some (t, w)
          → Stage (e ∷ q) (acts r) → e.who ≡ t → Stage (m ∷ l) q → ⊥
      serial_at m s e l p q t w i y j b k who z =
          let at_m = back m l r i in
          let g : List Entry = at_m.1 in
          let there : OneThread meaning script workers (at_m.0 ∷ g) = was_one meaning script workers (at_m.0 ∷ g) r at_m.2 one in
          let main : at_m.0.who ≡ [] = ap (λ (x : Act (List ℕ) Use Reply). x.who) at_m.3 ∙ sym (same_is [] m.who y) in
          let none : open_tasks g ≡ [] = none_open workers g (legal_run meaning script workers g there.0) (sym there.1 ∙ main) in
          let was = started_in meaning script workers s p g t w (subst (λ v. Stage (s ∷ p) v) (sym at_m.4) j) b in
          let good : Good workers g = good_run meaning script workers g there.0 in
          let ended : HasEnded g t = elim (good.ends t was.0 was.2) [ inl x ↦ absurd (subst (IsAmong t) none x) | inr x ↦ x ] in
          let end = ended_at t ended.0 ended.1 g ended.2 in
          let in_l : Stage (end.0 ∷ end.1) (own_in t l) = subst (λ v. Stage (end.0 ∷ end.1) (own_in t v)) at_m.4 end.2 in
          let older : Stage l q = further l (m ∷ l) q (inr (now l)) z in
          let in_q : Stage (end.0 ∷ end.1) (own_in t q) = further (end.0 ∷ end.1) (own_in t l) (own_in t q) in_l (kept (λ v. same t v.who) l q older) in
          let mine : Stage (end.0 ∷ end.1) (own_in e.who q) = subst (λ v. Stage (end.0 ∷ end.1) (own_in v q)) (sym who) in_q in
          let F = facts meaning script workers in
          let faith : Faith r = faithful_acts r (faithful_run meaning script workers r one) in
          let at_e = core.faithful_stage (session meaning script) (LegalActs meaning script workers) F (e ∷ q) (acts r) k faith in
          let lawful = core.legal_stage (session meaning script) (LegalActs meaning script workers) F q (acts r) (further q (e ∷ q) (acts r) (inr (now q)) k) (r, legal, refl) in
          not_some (next_of (program_of meaning script at_e.1.0) (newest (own_in e.who q))) e.asked (core.over (session meaning script) (LegalActs meaning script workers) F at_e.1.0 e.who q end.0 end.1 lawful at_e.0 at_e.1.1 mine end.3) at_e.1.2

    -- ---- quiet

    module _ (r : List Entry) (quiet : Quiet meaning script workers r) where
      apart_at : (s : Act (List ℕ) Use Reply) (p : List (Act (List ℕ) Use Reply)) (t : List ℕ) (w : Job) → starting s.asked s.reply ≡ Some (t, w)
          → (f : Act (List ℕ) Use Reply) (q : List (Act (List ℕ) Use Reply)) → Stage (f ∷ q) (acts r) → Stage (s ∷ p) q → same t f.who ≡ false
          → (e : Act (List ℕ) Use Reply) (o : List (Act (List ℕ) Use Reply)) → Stage (e ∷ o) (acts r) → e.who ≡ t
          → plain.Apart (session meaning script) e f × plain.Apart (session meaning script) f e
      apart_at s p t w b f q i j n e o k who =
          let at_f = back f q r i in
          let at_s = back s p at_f.1 (subst (λ v. Stage (s ∷ p) v) (sym at_f.4) j) in
          let at_e = back e o r k in
          let is = start_is at_s.0.asked at_s.0.reply t w (subst (λ (x : Act (List ℕ) Use Reply). starting x.asked x.reply ≡ Some (t, w)) (sym at_s.3) b) in
          let starts : Starts at_s.0 t = λ i. started_by (is.asks i) (is.given i) in
          let mine : at_e.0.who ≡ t = ap (λ (x : Act (List ℕ) Use Reply). x.who) at_e.3 ∙ who in
          let other : at_f.0.who ≢ t = λ is_t. clash (same t f.who) (subst (λ v. same t v ≡ true) (sym is_t ∙ ap (λ (x : Act (List ℕ) Use Reply). x.who) at_f.3) (same_self t)) n in
          let both : AreApart workers at_e.0 at_e.1 at_f.0 at_f.1 = quiet.apart at_s.0 at_e.0 at_f.0 at_s.1 at_e.1 at_f.1 t starts at_e.2 mine at_f.2 other at_s.2 in
          let one : plain.Apart (session meaning script) (act at_e.0) (act at_f.0) = λ k d c. both.undisturbed k (sym (depends_is (after workers at_e.1) at_e.0.asked k) ∙ d) c in
          let two : plain.Apart (session meaning script) (act at_f.0) (act at_e.0) = λ k d c. both.unseen k (sym (depends_is (after workers at_f.1) at_f.0.asked k) ∙ d) c in
          (subst (λ x. plain.Apart (session meaning script) x f) at_e.3 (subst (λ x. plain.Apart (session meaning script) (act at_e.0) x) at_f.3 one), subst (λ x. plain.Apart (session meaning script) x e) at_f.3 (subst (λ x. plain.Apart (session meaning script) (act at_f.0) x) at_e.3 two))

      quiet_acts : plain.Quiet (session meaning script) (acts r)
      quiet_acts = record {
        tame = λ e p i. let at_e = back e p r i in subst (λ (x : Act (List ℕ) Use Reply). IsTame x.who x.asked x.reply) at_e.3 (quiet.granted at_e.0 at_e.1 at_e.2, quiet.silent at_e.0 at_e.1 at_e.2);
        apart = apart_at;
      }

    pub quiet_prints : (r h : List Entry) → OneThreadRun meaning script workers r → Quiet meaning script workers r → Legal workers h → Faithful meaning script h → Complete meaning script h → prints h ≡ prints r
    quiet_prints r h run quiet l f c =
        sym (prints_acts h) ∙ (core.quiet_law (session meaning script) (LegalActs meaning script workers) (facts meaning script workers) (acts r) (acts h)
        (r, legal r run.0, refl) (faithful_acts r (faithful_run meaning script workers r run.0)) (complete_acts r quiet.complete) (serial_at r run.0) (quiet_acts r quiet)
        (h, l, refl) (faithful_acts h f) (complete_acts h c) ∙ prints_acts r)
