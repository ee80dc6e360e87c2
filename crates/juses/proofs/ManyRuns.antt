-- Of a session on one thread with tasks: what was done is the one-thread run, and that run is legal and faithful.
use Rattle.std.proofs.Common.{◌≡◌, ◌≢◌, ◌⊎◌, inl, inr, refl, sym, ap, subst, ◌∙◌, ◌≤◌, arith, ℕ, Bool, true, false, true≢false, if◌then◌else◌, List, [], ◌∷◌, length, Option, Some, None, Result, Ok, Err, append-nil}
use Rattle.juses.specs.Activities.{HasAsked, Fits, Legal, WasStarted, HasEnded, task_of, open_tasks, first_of_all, going, Works, Asks, Faithful, Complete, OneThread, OneThreadRun, Stuck}
use Rattle.juses.specs.Desk.{first, reply, left_phase, begun, has_unended}
use Rattle.juses.specs.Doings.{Doings, told, Does}
use Rattle.juses.specs.Histories.{Once, after, own, replies}
use Rattle.juses.specs.Keys.{Threads, same}
use Rattle.juses.specs.Leading.{Leads}
use Rattle.juses.specs.OldestFirst.{Tells, history, taken}
use Rattle.juses.specs.Program.{Program, Return, next, before, main_of}
use Rattle.juses.specs.SoloRuns.{ComesAs, SoloRun}
use Rattle.juses.specs.Standing.{Kept, Stands, Refuses, Delays}
use Rattle.juses.specs.Wishes.{Wish}
use Rattle.juses.specs.declared.kept.Phase.{Phase}
use Rattle.juses.specs.declared.kept.Phase.TheVariants.{Waiting, Running, Over}
use Rattle.juses.specs.declared.uses.Cause.{Cause}
use Rattle.juses.specs.declared.uses.Ended.{Ended}
use Rattle.juses.specs.declared.uses.Entry.{Entry}
use Rattle.juses.specs.declared.uses.Halt.{Halt}
use Rattle.juses.specs.declared.uses.Halt.TheVariants.{Wait, NoMemory, Closed}
use Rattle.juses.specs.declared.uses.Use.{Use}
use Rattle.juses.specs.declared.uses.Use.TheVariants.{Start, Begin}
use Rattle.juses.specs.declared.uses.Reply.{Reply}
use Rattle.juses.specs.declared.uses.Why.{Why}
use Rattle.juses.specs.declared.uses.Why.TheVariants.{Ending}
use Rattle.juses.specs.declared.uses.Work.{Work}
use Rattle.juses.proofs.OneRun.{At, Came, HaltedBy, StuckAt, WaitsForNone, IsRefused, onward, Uses_of}
use Rattle.juses.proofs.Phases.{Good, good_first, good_on, all_ended, IsAwake, IsIdle, HasBegun, begun_stays, opened_was_new, own_kept, same_or_not, same_self, IsAmong}
use Rattle.juses.proofs.Runs.{after_onto}

abbrev use_in : Option Use → Use → Use
use_in (Some x) y = x
use_in None y = y

some_use : {u v : Use} → Some u ≡ Some v → u ≡ v
some_use {u} {v} e = ap (λ o. use_in o u) e

abbrev work_of : Use → Work → Work
work_of (Start pool w) v = w
work_of _ v = v

same_work : (p q : ℕ) (w v : Work) → Start p w ≡ Start q v → w ≡ v
same_work p q w v e = ap (λ u. work_of u w) e

once_empty : (h : List Entry) → Once [] h
once_empty [] = refl
once_empty (x ∷ h) = inr (once_empty h)

newer : (p h : List Entry) → Once p h → (p ≡ h) ⊎ ((f : Entry) × Once (f ∷ p) h)
newer p [] e = inl e
newer p (x ∷ h) (inl e) = inl e
newer p (x ∷ h) (inr s) = by (newer p h s)
  where
    by : (p ≡ h) ⊎ ((f : Entry) × Once (f ∷ p) h) → (p ≡ (x ∷ h)) ⊎ ((f : Entry) × Once (f ∷ p) (x ∷ h))
    by (inl e) = inr (x, inl (ap (λ l. x ∷ l) e))
    by (inr t) = inr (t.0, inr t.1)

module _ {A : Type 0} (meaning : Work → Program Wish Reply Ended) (script : Program Wish Reply A) (workers : ℕ) where
  -- who makes an entry of a history of one thread is main, or a task with its Begin
  awake_then : (h : List Entry) (e : Entry) → Good workers h → reply (after workers h) e.who e.thread e.asked ≡ Some e.reply → Asks meaning script h e.who e.asked → IsAwake (after workers (e ∷ h)) e.who
  awake_then h e g said asks = by ((after workers h).phase e.who) refl asks.1
    where
      begins : (pool : ℕ) (w : Work) → (after workers h).phase e.who ≡ Some (Waiting pool w) → Works meaning script h e.who asks.0 → IsAwake (after workers (e ∷ h)) e.who
      begins pool w waiting (inl m) = inl m.0
      begins pool w waiting (inr x) =
          let not_main : e.who ≢ [] = λ is. let none : (after workers h).phase e.who ≡ None = ap (after workers h).phase is ∙ g.main in cc in
          let none : own e.who h ≡ [] = g.untouched e.who not_main (subst IsIdle (sym waiting) tt) in
          let begin : Begin ≡ e.asked = some_use (ap (λ p. next p (replies [])) (sym x.2) ∙ (ap (λ es. next asks.0 (replies es)) (sym none) ∙ asks.2)) in
          let P : Use → Type 0 = λ u. HasBegun (left_phase e.who e.thread u e.reply e.who ((after workers h).phase e.who)) in
          let runs : left_phase e.who e.thread Begin e.reply e.who ((after workers h).phase e.who) ≡ Some (Running pool e.thread) =
          ap (λ b. if b then begun e.thread ((after workers h).phase e.who) else (after workers h).phase e.who) (same_self e.who) ∙ ap (begun e.thread) waiting in
          let running : P Begin = subst HasBegun (sym runs) tt in
          inr (subst P begin running)

      by : (p : Option Phase) → (after workers h).phase e.who ≡ p → Works meaning script h e.who asks.0 → IsAwake (after workers (e ∷ h)) e.who
      by (Some (Waiting pool w)) is x = begins pool w is x
      by (Some (Running pool th)) is x = inr (begun_stays workers h e g said e.who (subst HasBegun (sym is) tt))
      by (Some (Over o)) is x = inr (begun_stays workers h e g said e.who (subst HasBegun (sym is) tt))
      by None is (inl m) = inl m.0
      by None is (inr x) = absurd (g.known e.who x.0 x.1 is)

  said_by : (h : List Entry) (e : Entry) → OneThread meaning script workers (e ∷ h) → reply (after workers h) e.who e.thread e.asked ≡ Some e.reply
  said_by h e o = subst (λ x. reply (after workers h) x e.thread e.asked ≡ Some e.reply) (sym o.1) (subst (λ t. reply (after workers h) (going h) t e.asked ≡ Some e.reply) (sym o.2) o.4)

  asked_by : (h : List Entry) (e : Entry) → OneThread meaning script workers (e ∷ h) → Asks meaning script h e.who e.asked
  asked_by h e o = subst (λ x. Asks meaning script h x e.asked) (sym o.1) o.3

  pub good_run : (h : List Entry) → OneThread meaning script workers h → Good workers h
  good_run [] o = good_first workers
  good_run (e ∷ h) o = let g = good_run h o.0 in good_on workers h e g (said_by h e o) (awake_then h e g (said_by h e o) (asked_by h e o))

  -- a task is started once
  starts_once : (h : List Entry) (t : List ℕ) (w v : Work) → OneThread meaning script workers h → WasStarted h t w → WasStarted h t v → w ≡ v
  starts_once [] t w v o x y = absurd x
  starts_once (e ∷ h) t w v o (inl x) (inl y) = same_work x.0 y.0 w v (sym x.1 ∙ y.1)
  starts_once (e ∷ h) t w v o (inl x) (inr y) = let g = good_run h o.0 in absurd (g.known t v y (opened_was_new workers h e g (said_by h e o) t x.0 w x.1 x.2))
  starts_once (e ∷ h) t w v o (inr x) (inl y) = let g = good_run h o.0 in absurd (g.known t w x (opened_was_new workers h e g (said_by h e o) t y.0 v y.1 y.2))
  starts_once (e ∷ h) t w v o (inr x) (inr y) = starts_once h t w v o.0 x y

  main_not_started : (h : List Entry) (t : List ℕ) (w : Work) → OneThread meaning script workers h → t ≡ [] → WasStarted h t w → ⊥
  main_not_started h t w o is x = let g = good_run h o in g.known t w x (ap (after workers h).phase is ∙ g.main)

  works_once : (h : List Entry) (x : List ℕ) (p q : Uses_of) → OneThread meaning script workers h → Works meaning script h x p → Works meaning script h x q → p ≡ q
  works_once h x p q o (inl a) (inl b) = a.1 ∙ sym b.1
  works_once h x p q o (inl a) (inr b) = absurd (main_not_started h x b.0 o a.0 b.1)
  works_once h x p q o (inr a) (inl b) = absurd (main_not_started h x a.0 o b.0 a.1)
  works_once h x p q o (inr a) (inr b) = a.2 ∙ (ap (λ w. task_of (meaning w)) (starts_once h x a.0 b.0 o a.1 b.1) ∙ sym b.2)

  pub asks_once : (h : List Entry) (x : List ℕ) (u v : Use) → OneThread meaning script workers h → Asks meaning script h x u → Asks meaning script h x v → u ≡ v
  asks_once h x u v o a b = some_use (sym a.2 ∙ (ap (λ p. next p (replies (own x h))) (works_once h x a.0 b.0 o a.1 b.1) ∙ b.2))

  -- ---- legal and faithful

  pub faithful_run : (h : List Entry) → OneThread meaning script workers h → Faithful meaning script h
  faithful_run [] o = tt
  faithful_run (e ∷ h) o = (faithful_run h o.0, asked_by h e o)

  -- a task's first entry is its Begin
  begun_first : (h : List Entry) (t : List ℕ) → OneThread meaning script workers h → t ≢ [] → (own t h ≡ []) ⊎ HasAsked h t 0 Begin
  begun_first [] t o n = inl refl
  begun_first (e ∷ h) t o n = by (same_or_not t e.who) (begun_first h t o.0 n)
    where
      first_is : t ≡ e.who → own t h ≡ [] → Works meaning script h e.who (asked_by h e o).0 → HasAsked (e ∷ h) t 0 Begin
      first_is is none (inl m) = absurd (n (is ∙ m.0))
      first_is is none (inr x) =
          let own_none : own e.who h ≡ [] = ap (λ y. own y h) (sym is) ∙ none in
          let begin : Begin ≡ e.asked = some_use (ap (λ p. next p (replies [])) (sym x.2) ∙ (ap (λ es. next (asked_by h e o).0 (replies es)) (sym own_none) ∙ (asked_by h e o).2)) in
          inl (sym is, o.2, sym begin)

      here : t ≡ e.who → (own t h ≡ []) ⊎ HasAsked h t 0 Begin → (own t (e ∷ h) ≡ []) ⊎ HasAsked (e ∷ h) t 0 Begin
      here is (inl none) = inr (first_is is none (asked_by h e o).1)
      here is (inr x) = inr (inr x)

      by : (t ≡ e.who) ⊎ ((t ≢ e.who) × (same t e.who ≡ false)) → (own t h ≡ []) ⊎ HasAsked h t 0 Begin → (own t (e ∷ h) ≡ []) ⊎ HasAsked (e ∷ h) t 0 Begin
      by (inl is) z = here is z
      by (inr d) (inl none) = inl (own_kept t e h d.0 ∙ none)
      by (inr d) (inr x) = inr (inr x)

  fits_run : (h : List Entry) (e : Entry) → OneThread meaning script workers (e ∷ h) → Fits workers h e.who e.thread e.asked
  fits_run h e o = by e.who e.asked (asked_by h e o)
    where
      later : (k : ℕ) (path : List ℕ) (u : Use) → Asks meaning script h (k ∷ path) u → (Begin ≡ u → ⊥) → HasAsked h (k ∷ path) e.thread Begin
      later k path u a n = so (begun_first h (k ∷ path) o.0 (λ is. cc)) a.1
        where
          so : (own (k ∷ path) h ≡ []) ⊎ HasAsked h (k ∷ path) 0 Begin → Works meaning script h (k ∷ path) a.0 → HasAsked h (k ∷ path) e.thread Begin
          so (inr x) w = subst (λ th. HasAsked h (k ∷ path) th Begin) (sym o.2) x
          so (inl none) (inl m) = let bad = m.0 in cc
          so (inl none) (inr x) = absurd (n (some_use (ap (λ p. next p (replies [])) (sym x.2) ∙ (ap (λ es. next a.0 (replies es)) (sym none) ∙ a.2))))

      by : (who : List ℕ) (u : Use) → Asks meaning script h who u → Fits workers h who e.thread u
      by [] u a = o.2
      by (k ∷ path) Begin a = (let zeroth : e.thread ≡ 0 = o.2 in omega (arith, zeroth))
      by (k ∷ path) u a = later k path u a (λ b. cc)

  pub legal_run : (h : List Entry) → OneThread meaning script workers h → Legal workers h
  legal_run [] o = tt
  legal_run (e ∷ h) o = (legal_run h o.0, fits_run h e o, said_by h e o)

  pub stuck_run : (h : List Entry) → OneThread meaning script workers h → Stuck meaning script workers h → OneThreadRun meaning script workers h
  stuck_run h o s = (o, λ e q. let is : s.0 ≡ e.asked = asks_once h (going h) s.0 e.asked o s.1 q.3 in let said : reply (after workers h) (going h) 0 s.0 ≡ Some e.reply = ap (reply (after workers h) (going h) 0) is ∙ q.4 in let none = s.2 in cc)

  -- ---- what main did

  main_first : At meaning script workers None [] (main_of script) (before (λ a. Return tt) script) [] []
  main_first = record { one = tt; good = good_first workers; awake = inl refl; works = inl (refl, refl); is_left = λ rs. refl; opened = refl; top = refl; main_alone = λ is. refl; waits = tt }

  module _ (refuses : List ℕ → Use → Halt → Type 0) (delays : Why → Halt → Type 0) (at_end_alone : (why : Why) → delays why Wait → why ≡ Ending) (ds : Doings) (l : Tells 0 (first workers) (told ds)) where
    abbrev all : List Entry
    all = history (told ds)

    came : (r : Result A Halt) → Does meaning refuses delays None [] script ds r → Came meaning script workers refuses delays at_end_alone [] (main_of script) (λ a. Return tt) [] [] all r
    came r d = onward meaning script workers refuses delays at_end_alone ds None [] (main_of script) script (λ a. Return tt) [] [] r main_first d l

    pub one_thread : (r : Result A Halt) → Does meaning refuses delays None [] script ds r → OneThread meaning script workers all
    one_thread (Ok a) d = (came (Ok a) d).0.one
    one_thread (Err halt) d = (came (Err halt) d).0

    pub refused : (cause : Cause) → Does meaning refuses delays None [] script ds (Err (Closed cause)) → IsRefused meaning script workers refuses delays at_end_alone (Closed cause)
    refused cause d = (came (Err (Closed cause)) d).1

    pub complete : (a : A) → Does meaning refuses delays None [] script ds (Ok a) → Complete meaning script all
    complete a d = let at = (came (Ok a) d).0 in (over at, λ t w x. ended at t (at.good.ends t w x))
      where
        over : At meaning script workers None [] (main_of script) (Return tt) [] all → next (main_of script) (replies (own [] all)) ≡ None
        over at = ap (next (main_of script)) (sym (append-nil (replies (own [] all)))) ∙ at.is_left []

        ended : At meaning script workers None [] (main_of script) (Return tt) [] all → (t : List ℕ) → IsAmong t (open_tasks all) ⊎ HasEnded all t → HasEnded all t
        ended at t (inl m) = absurd (subst (IsAmong t) at.opened m)
        ended at t (inr x) = x

    pub whole_run : (a : A) → Does meaning refuses delays None [] script ds (Ok a) → OneThreadRun meaning script workers all
    whole_run a d = let at = (came (Ok a) d).0 in (at.one, λ e o. no_more at e o.3)
      where
        no_more : At meaning script workers None [] (main_of script) (Return tt) [] all → (e : Entry) → Asks meaning script all (going all) e.asked → ⊥
        no_more at e asks =
            let here : Asks meaning script all [] e.asked = subst (λ x. Asks meaning script all x e.asked) (ap first_of_all at.opened) asks in
            let is : here.0 ≡ main_of script = works_once all [] here.0 (main_of script) at.one here.1 (inl (refl, refl)) in
            let over : next (main_of script) (replies (own [] all)) ≡ None = (complete a d).0 in
            let more : next (main_of script) (replies (own [] all)) ≡ Some e.asked = ap (λ p. next p (replies (own [] all))) (sym is) ∙ here.2 in
            cc

    -- where a refusal means that there is no reply, and main waits for no task while none is open
    pub stuck : Does meaning refuses delays None [] script ds (Err Wait) → ((who : List ℕ) (u : Use) → refuses who u Wait → reply (after workers all) who 0 u ≡ None)
        → (Good workers all → open_tasks all ≡ [] → delays Ending Wait → ⊥) → Stuck meaning script workers all
    stuck d none never = by (came (Err Wait) d).1
      where
        by : HaltedBy meaning script workers refuses delays at_end_alone Wait all → Stuck meaning script workers all
        by (inl s) = (s.0, s.1, none (going all) s.0 s.2)
        by (inr w) = absurd (never w.0 w.1 w.2)

  -- ---- there is one such run

  same_entry : (e f : Entry) (h : List Entry) → OneThread meaning script workers (e ∷ h) → OneThread meaning script workers (f ∷ h) → e ≡ f
  same_entry e f h o q =
      let asked : e.asked ≡ f.asked = asks_once h (going h) e.asked f.asked o.0 o.3 q.3 in
      let replied : e.reply ≡ f.reply = (let one = subst (λ u. reply (after workers h) (going h) 0 u ≡ Some e.reply) asked o.4 in let other = q.4 in cc) in
      λ i. record { who = (o.1 ∙ sym q.1) i; thread = (o.2 ∙ sym q.2) i; asked = asked i; reply = replied i }

  was_one_thread : (p h : List Entry) → Once p h → OneThread meaning script workers h → OneThread meaning script workers p
  was_one_thread p [] e o = subst (OneThread meaning script workers) (sym e) tt
  was_one_thread p (x ∷ h) (inl e) o = subst (OneThread meaning script workers) (sym e) o
  was_one_thread p (x ∷ h) (inr s) o = was_one_thread p h s o.0

  pub once_run : (r : List Entry) → OneThreadRun meaning script workers r → (h : List Entry) → OneThread meaning script workers h → Once h r
  once_run r o [] p = once_empty r
  once_run r o (e ∷ h) p = by (newer h r (once_run r o h p.0))
    where
      by : (h ≡ r) ⊎ ((f : Entry) × Once (f ∷ h) r) → Once (e ∷ h) r
      by (inl same_list) = absurd (o.1 e (subst (λ l. OneThread meaning script workers (e ∷ l)) same_list p))
      by (inr further) = subst (λ x. Once (x ∷ h) r) (sym (same_entry e further.0 h p (was_one_thread (further.0 ∷ h) r further.1 o.0))) further.1

  pub one_run : (r h : List Entry) → OneThreadRun meaning script workers r → OneThreadRun meaning script workers h → h ≡ r
  one_run r h o p = by (newer h r (once_run r o h p.0))
    where
      by : (h ≡ r) ⊎ ((f : Entry) × Once (f ∷ h) r) → h ≡ r
      by (inl same_list) = same_list
      by (inr further) = absurd (p.1 further.0 (was_one_thread (further.0 ∷ h) r further.1 o.0))

-- ---- on a desk

-- such a desk delays a task with Wait at the end of the session alone
end_alone : (d : Kept) (why : Why) → Delays d why Wait → why ≡ Ending
end_alone d why w = w.0

no_false : false ≡ true → ⊥
no_false h = true≢false (sym h)

module _ {A : Type 0} (meaning : Work → Program Wish Reply Ended) (script : Program Wish Reply A) (workers : ℕ) where
  comes : (d : Kept) (ds : Doings) (r : Result A Halt) → Tells 0 (first workers) (told ds) → Stands d (after workers (history (told ds))) → Does meaning (Refuses d) (Delays d) None [] script ds r → ComesAs meaning script workers d r (history (told ds))
  comes d ds (Ok a) l st h = (whole_run meaning script workers (Refuses d) (Delays d) (end_alone d) ds l a h, complete meaning script workers (Refuses d) (Delays d) (end_alone d) ds l a h)
  comes d ds (Err Wait) l st h =
      let all : List Entry = history (told ds) in
      let never : Good workers all → open_tasks all ≡ [] → Delays d Ending Wait → ⊥ =
      λ g none w. no_false (sym (all_ended workers all g none (after workers all).tasks) ∙ w.1 (after workers all) st) in
      let s = stuck meaning script workers (Refuses d) (Delays d) (end_alone d) ds l h (λ who u w. w (after workers all) st) never in
      (stuck_run meaning script workers all (one_thread meaning script workers (Refuses d) (Delays d) (end_alone d) ds l (Err Wait) h) s, s)
  comes d ds (Err NoMemory) l st h = one_thread meaning script workers (Refuses d) (Delays d) (end_alone d) ds l (Err NoMemory) h
  comes d ds (Err (Closed cause)) l st h = (one_thread meaning script workers (Refuses d) (Delays d) (end_alone d) ds l (Err (Closed cause)) h, by (refused meaning script workers (Refuses d) (Delays d) (end_alone d) ds l cause h))
    where
      by : IsRefused meaning script workers (Refuses d) (Delays d) (end_alone d) (Closed cause) → d.closed ≡ Some cause
      by (inl x) = x.2
      by (inr x) = x.1

  pub solo_run : (d d' : Kept) (ds : Doings) (handed : List ℕ) (closed : List Cause) (r : Result A Halt) → Stands d (first workers) → Leads d (record { told = told ds; handed = handed; closed = closed }) d' → Does meaning (Refuses d') (Delays d') None [] script ds r
      → SoloRun meaning script workers d' (history (told ds)) r
  solo_run d d' ds handed closed r st leads h =
      let l = leads.from (first workers) st in
      let st' : Stands d' (after workers (history (told ds))) = subst (Stands d') (sym (after_onto workers (told ds) [])) l.stands in
      let o = one_thread meaning script workers (Refuses d') (Delays d') (end_alone d') ds l.tells r h in
      record { stands = st'; legal = legal_run meaning script workers (history (told ds)) o; faithful = faithful_run meaning script workers (history (told ds)) o; comes = comes d' ds r l.tells st' h }
