-- A task that is due waits, and its Begin is what the definition says.
use Rattle.std.proofs.Common.{◌≡◌, refl, sym, ap, subst, ◌∙◌, ℕ, zero, suc, List, [], ◌∷◌, Bool, true, false, true≢false, nat_eq, if◌then◌else◌, Option, Some, None, Result, Ok}
use Rattle.std.specs.List.{find, list_any}
use Rattle.juses.specs.Desk.{State, reply, moved, waiting_work, begin_reply, has_unended}
use Rattle.juses.specs.Due.{is_waiting, waits_alone, waits_in, own_task, due_task, with_that, with_work, due_open, due_by, due_answer, kept_due, begun_task, HandsTask}
use Rattle.juses.specs.Entries.{entry}
use Rattle.juses.specs.Keys.{Threads}
use Rattle.juses.specs.Standing.{Kept, Stands, phase_in}
use Rattle.juses.specs.declared.kept.Phase.{Phase}
use Rattle.juses.specs.declared.kept.Phase.TheVariants.{Waiting, Running, Over}
use Rattle.juses.specs.declared.uses.Halt.{Halt}
use Rattle.juses.specs.declared.uses.Reply.TheVariants.{Done}
use Rattle.juses.specs.declared.uses.Use.TheVariants.{Begin}
use Rattle.juses.specs.declared.uses.Why.{Why}
use Rattle.juses.specs.declared.uses.Why.TheVariants.{Started, Opening, Working, Ending}
use Rattle.juses.specs.declared.uses.Work.{Work}
use Rattle.juses.proofs.Desks.{stands_after}

no_true : false ≡ true → ⊥
no_true h = true≢false (sym h)

path_in : Option (List ℕ) → List ℕ → List ℕ
path_in (Some t) other = t
path_in None other = other

abbrev pair_path : Option (List ℕ × Work) → List ℕ → List ℕ
pair_path (Some g) other = g.0
pair_path None other = other

abbrev pair_work : Option (List ℕ × Work) → Option Work
pair_work (Some g) = Some g.1
pair_work None = None

alone_waits : (threads : List ℕ) (p : Option Phase) → waits_alone threads p ≡ true → is_waiting p ≡ true
alone_waits threads (Some (Waiting pool work)) e = refl
alone_waits threads (Some (Running pool th)) e = absurd (no_true e)
alone_waits threads (Some (Over o)) e = absurd (no_true e)
alone_waits threads None e = absurd (no_true e)

in_waits : (pool : Option ℕ) (p : Option Phase) → waits_in pool p ≡ true → is_waiting p ≡ true
in_waits pool (Some (Waiting own work)) e = refl
in_waits (Some pool) (Some (Running own th)) e = absurd (no_true e)
in_waits (Some pool) (Some (Over o)) e = absurd (no_true e)
in_waits (Some pool) None e = absurd (no_true e)
in_waits None (Some (Running own th)) e = absurd (no_true e)
in_waits None (Some (Over o)) e = absurd (no_true e)
in_waits None None e = absurd (no_true e)

-- the task that is found passes the test
found_passes : (test : List ℕ → Bool) (ts : List (List ℕ)) (t : List ℕ) → find test ts ≡ Some t → test t ≡ true
found_passes test [] t e = cc
found_passes test (x ∷ ts) t e = by (test x) refl (found_passes test ts t)
  where
    by : (b : Bool) → test x ≡ b → (find test ts ≡ Some t → test t ≡ true) → test t ≡ true
    by true is call =
        let found : Some x ≡ Some t = sym (ap (λ b. if b then Some x else find test ts) is) ∙ e in
        let here : x ≡ t = cc in
        ap test (sym here) ∙ is
    by false is call = call (sym (ap (λ b. if b then Some x else find test ts) is) ∙ e)

own_passes : (number : ℕ) (path t : List ℕ) (b : Bool) → own_task number path b ≡ Some t → (path ≡ t) × (b ≡ true)
own_passes zero path t true e = (cc, refl)
own_passes zero path t false e = cc
own_passes (suc n) path t b e = cc

waits_due : (phase : List ℕ → Option Phase) (tasks : List (List ℕ)) (threads : List ℕ) (why : Why) (t : List ℕ) → due_task phase tasks threads why ≡ Some t → is_waiting (phase t) ≡ true
waits_due phase tasks threads (Started pyx) t e = let p = own_passes pyx.number pyx.path t (waits_alone threads (phase pyx.path)) e in alone_waits threads (phase t) (subst (λ x. waits_alone threads (phase x) ≡ true) p.0 p.1)
waits_due phase tasks threads (Opening pyx) t e = let p = own_passes pyx.number pyx.path t (is_waiting (phase pyx.path)) e in subst (λ x. is_waiting (phase x) ≡ true) p.0 p.1
waits_due phase tasks threads (Working thread) t e = in_waits _ (phase t) (found_passes _ tasks t e)
waits_due phase tasks threads Ending t e = found_passes _ tasks t e

has_work : (p : Option Phase) → is_waiting p ≡ true → (work : Work) × (waiting_work p ≡ Some work)
has_work (Some (Waiting pool work)) e = (work, refl)
has_work (Some (Running pool th)) e = absurd (no_true e)
has_work (Some (Over o)) e = absurd (no_true e)
has_work None e = absurd (no_true e)

begins : (p : Option Phase) (work : Work) → waiting_work p ≡ Some work → begin_reply p ≡ Some Done
begins (Some (Waiting pool w)) work e = refl
begins (Some (Running pool th)) work e = cc
begins (Some (Over o)) work e = cc
begins None work e = cc

module _ (d : Kept) (s : State) (st : Stands d s) where
  -- what is due in the state is what is due by what the desk keeps
  same_due : (why : Why) → due_task s.phase s.tasks (s.at Threads) why ≡ kept_due d why
  same_due why i = due_task (λ t. st.phase t i) (st.tasks i) (st.at Threads i) why

-- a task is handed out: the one that is due
pub hands_task : (d d' : Kept) (thread : ℕ) (why : Why) (t : List ℕ) (given : Option (List ℕ × Work)) → Some t ≡ kept_due d why → given ≡ with_that t (waiting_work (phase_in d.tasks t)) → d' ≡ begun_task d thread (Some t) → HandsTask d thread why given d'
hands_task d d' thread why t given due is after =
    let w = has_work (phase_in d.tasks t) (waits_due (phase_in d.tasks) d.order d.threads why t (sym due)) in
    let handed : given ≡ Some (t, w.0) = is ∙ ap (with_that t) w.1 in
    let here : HandsTask d thread why (Some (t, w.0)) d' =
    (λ s st. (
      same_due d s st why ∙ sym due,
      ap waiting_work (st.phase t) ∙ w.1,
      ap begin_reply (st.phase t) ∙ begins (phase_in d.tasks t) w.0 w.1,
      subst (λ x. Stands x (moved s (entry t thread Begin Done))) (sym after) (stands_after d s st t thread Begin Done (begins (phase_in d.tasks t) w.0 w.1)),
    )) in
    subst (λ g. HandsTask d thread why g d') (sym handed) here

-- and that is what is answered
pub answers_task : (d : Kept) (why : Why) (t : List ℕ) (given : Option (List ℕ × Work)) → d.closed ≡ None → Some t ≡ kept_due d why → given ≡ with_that t (waiting_work (phase_in d.tasks t)) → Ok given ≡ due_answer d why
answers_task d why t given open_still due is =
    let w = has_work (phase_in d.tasks t) (waits_due (phase_in d.tasks) d.order d.threads why t (sym due)) in
    let handed : given ≡ Some (t, w.0) = is ∙ ap (with_that t) w.1 in
    let unended : Bool = has_unended (phase_in d.tasks) d.order in
    let answer : due_answer d why ≡ Ok (Some (t, w.0)) =
    ap (λ c. due_by c (due_open why unended (with_work (phase_in d.tasks) (kept_due d why)))) open_still
    ∙ (ap (λ o. due_open why unended (with_work (phase_in d.tasks) o)) (sym due) ∙ ap (λ x. due_open why unended (with_that t x)) w.1) in
    ap Ok handed ∙ sym answer

pub hands_none : (d d' : Kept) (thread : ℕ) (why : Why) → None ≡ kept_due d why → d' ≡ d → HandsTask d thread why None d'
hands_none d d' thread why due is = λ s st. (same_due d s st why ∙ sym due, subst (λ x. Stands x s) (sym is) st)

-- ---- in the pool of a thread

module _ (phase : List ℕ → Option Phase) where
  none_without : (tasks : List (List ℕ)) → find (λ task. waits_in None (phase task)) tasks ≡ None
  none_without [] = refl
  none_without (task ∷ tasks) = none_without tasks

  pub none_in : (tasks : List (List ℕ)) (pool : Option ℕ) → None ≡ pool → None ≡ find (λ task. waits_in pool (phase task)) tasks
  none_in tasks pool is = sym (none_without tasks) ∙ ap (λ o. find (λ task. waits_in o (phase task)) tasks) is

  pub found_in : (tasks : List (List ℕ)) (pool : Option ℕ) (own : ℕ) (r : Option (List ℕ)) → Some own ≡ pool → r ≡ find (λ task. waits_in (Some own) (phase task)) tasks → r ≡ find (λ task. waits_in pool (phase task)) tasks
  found_in tasks pool own r is found = found ∙ ap (λ o. find (λ task. waits_in o (phase task)) tasks) is
