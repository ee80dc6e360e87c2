-- What an activity did over a session on one thread, put on a history of one thread, gives one.
use Rattle.std.proofs.Common.{◌≡◌, ◌≢◌, ◌⊎◌, inl, inr, refl, sym, ap, subst, ◌∙◌, ℕ, zero, suc, if◌then◌else◌, List, [], ◌∷◌, ◌++◌, Option, Some, None, Result, Ok, Err, append_assoc, append-nil}
use Rattle.jdata.specs.declared.path.PyxId.{PyxId}
use Rattle.juses.specs.Activities.{ending, task_of, open_tasks, left_open, first_of_all, going, without, Works, Asks, OneThread}
use Rattle.juses.specs.Desk.{State, reply, moved, begun, begin_reply, waiting_work, pyx_work}
use Rattle.juses.specs.Entries.{entry, pyx_of, started_by}
use Rattle.juses.specs.Doings.{Doings, NoMore, Did, Ran, Broke, Asked, Delayed, told, MayAsk, IsDelayed, HaltsAtEnd, Does}
use Rattle.juses.specs.Histories.{after, own, replies}
use Rattle.juses.specs.OldestFirst.{onto, Tells}
use Rattle.juses.specs.Program.{Program, Return, Ask, next, before}
use Rattle.juses.specs.Told.{Told, Replied, Handed, NoneDue}
use Rattle.juses.specs.Wishes.{Wish, Start, use_of}
use Rattle.juses.specs.declared.kept.Phase.{Phase}
use Rattle.juses.specs.declared.kept.Phase.TheVariants.{Waiting, Running, Over}
use Rattle.juses.specs.declared.uses.Ended.{Ended}
use Rattle.juses.specs.declared.uses.Entry.{Entry}
use Rattle.juses.specs.declared.uses.Halt.{Halt}
use Rattle.juses.specs.declared.uses.Halt.TheVariants.{Wait, NoMemory, Closed}
use Rattle.juses.specs.declared.uses.Use.{Use}
use Rattle.juses.specs.declared.uses.Use.TheVariants as asked
use Rattle.juses.specs.declared.uses.Reply.{Reply}
use Rattle.juses.specs.declared.uses.Reply.TheVariants.{Done, Pyx}
use Rattle.juses.specs.declared.uses.Why.{Why}
use Rattle.juses.specs.declared.uses.Why.TheVariants.{Started, Opening, Working, Ending}
use Rattle.juses.specs.declared.uses.Work.{Work}
use Rattle.juses.proofs.Phases.{same_self, own_more, own_kept, Good, good_on, IsAwake, HasBegun, IsIdle, awake_stays}

abbrev pub Uses_of : Type 0
Uses_of = Program Use Reply (Unit {0})

-- ---- one after another

pub onto-append : (xs ys : List Told) (h : List Entry) → onto (xs ++ ys) h ≡ onto ys (onto xs h)
onto-append [] ys h = refl
onto-append (Replied e ∷ xs) ys h = onto-append xs ys (e ∷ h)
onto-append (Handed why t th w ∷ xs) ys h = onto-append xs ys (entry t th asked.Begin Done ∷ h)
onto-append (NoneDue why ∷ xs) ys h = onto-append xs ys h

pub tells_split : (workers : ℕ) (xs ys : List Told) (h : List Entry) → Tells 0 (after workers h) (xs ++ ys) → Tells 0 (after workers h) xs × Tells 0 (after workers (onto xs h)) ys
tells_split workers [] ys h l = (tt, l)
tells_split workers (Replied e ∷ xs) ys h l = let rest = tells_split workers xs ys (e ∷ h) l.1 in ((l.0, rest.0), rest.1)
tells_split workers (Handed why t th w ∷ xs) ys h l = let rest = tells_split workers xs ys (entry t th asked.Begin Done ∷ h) l.1 in ((l.0, rest.0), rest.1)
tells_split workers (NoneDue why ∷ xs) ys h l = let rest = tells_split workers xs ys h l.1 in ((l.0, rest.0), rest.1)

-- ---- a task that waits

-- the phase of a task that waits with this work
pub waits_with : (p : Option Phase) (w : Work) → waiting_work p ≡ Some w → (pool : ℕ) × (p ≡ Some (Waiting pool w))
waits_with (Some (Waiting pool v)) w e = (pool, ap (λ o. waiting_as pool o) e)
  where
    waiting_as : ℕ → Option Work → Option Phase
    waiting_as pool (Some x) = Some (Waiting pool x)
    waiting_as pool None = None
waits_with (Some (Running pool th)) w e = cc
waits_with (Some (Over o)) w e = cc
waits_with None w e = cc

-- a task that is owed waits
abbrev pub OwedWaits : Option (List ℕ) → State → Type 0
OwedWaits None s = Unit {0}
OwedWaits (Some t) s = (pool : ℕ) × (w : Work) × (s.phase t ≡ Some (Waiting pool w))

abbrev with_owed : Option (List ℕ) → List (List ℕ) → List (List ℕ)
with_owed None ts = ts
with_owed (Some t) ts = t ∷ ts

left_open_wish : (who : List ℕ) (q : Wish) (r : Reply) (ts : List (List ℕ)) → left_open who (use_of q) r ts ≡ with_owed (started_by (use_of q) r) ts
left_open_wish who (Start pool w) (Pyx pyx) ts = refl
left_open_wish who q r ts = refl

pub owed_waits : (s : State) (who : List ℕ) (th : ℕ) (q : Wish) (r : Reply) → OwedWaits (started_by (use_of q) r) (moved s (entry who th (use_of q) r))
owed_waits s who th (Start pool w) (Pyx pyx) = (pool, w, ap (λ b. if b then Some (Waiting pool w) else s.phase pyx.path) (same_self pyx.path))
owed_waits s who th q r = tt

module _ {A : Type 0} (meaning : Work → Program Wish Reply Ended) (script : Program Wish Reply A) (workers : ℕ) where
  works_on : (h : List Entry) (e : Entry) (who : List ℕ) (p : Uses_of) → Works meaning script h who p → Works meaning script (e ∷ h) who p
  works_on h e who p (inl m) = inl m
  works_on h e who p (inr t) = inr (t.0, inr t.1, t.2)

  -- the activity is the one that goes on, and this is left of its program
  pub record At (owed : Option (List ℕ)) (who : List ℕ) (whole left : Uses_of) (stack : List (List ℕ)) (h : List Entry) : Type 0 where
    pub one : OneThread meaning script workers h
    pub good : Good workers h
    pub awake : IsAwake (after workers h) who
    pub works : Works meaning script h who whole
    pub is_left : (rs : List Reply) → next whole (replies (own who h) ++ rs) ≡ next left rs
    pub opened : open_tasks h ≡ with_owed owed stack
    pub top : first_of_all stack ≡ who
    pub main_alone : who ≡ [] → stack ≡ []
    pub waits : OwedWaits owed (after workers h)

  -- what was done since leaves the others' entries alone
  pub record Aside (who : List ℕ) (h h' : List Entry) : Type 0 where
    pub own_same : (x : List ℕ) → x ≢ who → IsAwake (after workers h) x → own x h' ≡ own x h
    pub awake_same : (x : List ℕ) → IsAwake (after workers h) x → IsAwake (after workers h') x
    pub works_same : (x : List ℕ) (p : Uses_of) → Works meaning script h x p → Works meaning script h' x p

  aside_none : (who : List ℕ) (h : List Entry) → Aside who h h
  aside_none who h = record { own_same = λ x n a. refl; awake_same = λ x a. a; works_same = λ x p w. w }

  aside_on : (who : List ℕ) (h i j : List Entry) → Aside who h i → Aside who i j → Aside who h j
  aside_on who h i j a b = record {
    own_same = λ x n w. b.own_same x n (a.awake_same x w) ∙ a.own_same x n w;
    awake_same = λ x w. b.awake_same x (a.awake_same x w);
    works_same = λ x p w. b.works_same x p (a.works_same x p w);
  }

  -- what is refused at the end, where a task that is asked for is refused with Wait at the end of the session alone
  module _ (refuses : List ℕ → Use → Halt → Type 0) (delays : Why → Halt → Type 0) (at_end_alone : (why : Why) → delays why Wait → why ≡ Ending) where
    -- the next use of the activity that goes on waits
    abbrev pub StuckAt : List Entry → Type 0
    StuckAt h = (u : Use) × Asks meaning script h (going h) u × refuses (going h) u Wait

    -- main waits for tasks, and none is open
    abbrev pub WaitsForNone : List Entry → Type 0
    WaitsForNone h = Good workers h × (open_tasks h ≡ []) × delays Ending Wait

    -- a use, or a task, was refused so
    abbrev pub IsRefused : Halt → Type 0
    IsRefused halt = ((who : List ℕ) × (u : Use) × refuses who u halt) ⊎ ((why : Why) × delays why halt)

    abbrev pub HaltedBy : Halt → List Entry → Type 0
    HaltedBy NoMemory h = Unit {0}
    HaltedBy Wait h = StuckAt h ⊎ WaitsForNone h
    HaltedBy (Closed cause) h = IsRefused (Closed cause)

    abbrev pub Came : {B : Type 0} → List ℕ → Uses_of → (B → Uses_of) → List (List ℕ) → List Entry → List Entry → Result B Halt → Type 0
    Came who whole f stack h h' (Ok a) = At None who whole (f a) stack h' × Aside who h h'
    Came who whole f stack h h' (Err halt) = OneThread meaning script workers h' × HaltedBy halt h'

    asks_next : (who : List ℕ) (whole left : Uses_of) (stack : List (List ℕ)) (h : List Entry) (u : Use) → At None who whole left stack h → next left [] ≡ Some u → Asks meaning script h who u
    asks_next who whole left stack h u a n = (whole, a.works, ap (next whole) (sym (append-nil (replies (own who h)))) ∙ (a.is_left [] ∙ n))

    goes : (who : List ℕ) (whole left : Uses_of) (stack : List (List ℕ)) (h : List Entry) → At None who whole left stack h → going h ≡ who
    goes who whole left stack h a = ap first_of_all a.opened ∙ a.top

    stuck_at : (who : List ℕ) (whole left : Uses_of) (stack : List (List ℕ)) (h : List Entry) (u : Use) → At None who whole left stack h → next left [] ≡ Some u → refuses who u Wait → StuckAt h
    stuck_at who whole left stack h u a n w =
        let is = sym (goes who whole left stack h a) in
        (u, subst (λ x. Asks meaning script h x u) is (asks_next who whole left stack h u a n), subst (λ x. refuses x u Wait) is w)

    -- one entry of the activity more
    one_more : (who : List ℕ) (whole left : Uses_of) (stack : List (List ℕ)) (h : List Entry) (e : Entry) → At None who whole left stack h → next left [] ≡ Some e.asked → e.who ≡ who
        → e.thread ≡ 0 → reply (after workers h) e.who e.thread e.asked ≡ Some e.reply → OneThread meaning script workers (e ∷ h)
    one_more who whole left stack h e a n by zeroth said =
        let is : who ≡ going h = sym (goes who whole left stack h a) in
        let P : List ℕ → ℕ → Type 0 = λ x t. reply (after workers h) x t e.asked ≡ Some e.reply in
        (a.one, by ∙ is, zeroth, subst (λ x. Asks meaning script h x e.asked) is (asks_next who whole left stack h e.asked a n), subst (λ t. P (going h) t) zeroth (subst (λ x. P x e.thread) (by ∙ is) said))

    own_on : (who : List ℕ) (whole left : Uses_of) (h : List Entry) (e : Entry) (k : Reply → Uses_of) → ((rs : List Reply) → next whole (replies (own who h) ++ rs) ≡ next left rs) → ((r : Reply) (rs : List Reply) → next left (r ∷ rs) ≡ next (k r) rs) → e.who ≡ who
        → (rs : List Reply) → next whole (replies (own who (e ∷ h)) ++ rs) ≡ next (k e.reply) rs
    own_on who whole left h e k l step by rs =
        ap (λ es. next whole (replies es ++ rs)) (own_more who e h by)
        ∙ (ap (next whole) (append_assoc (replies (own who h)) (e.reply ∷ []) rs) ∙ (l (e.reply ∷ rs) ∙ step e.reply rs))

    -- after a use of the activity's own
    did : (who : List ℕ) (whole : Uses_of) (stack : List (List ℕ)) (h : List Entry) (e : Entry) (q : Wish) (k : Reply → Uses_of) → At None who whole (Ask (use_of q) k) stack h → e.who ≡ who → e.asked ≡ use_of q
        → e.thread ≡ 0 → reply (after workers h) e.who e.thread e.asked ≡ Some e.reply → At (started_by e.asked e.reply) who whole (k e.reply) stack (e ∷ h)
    did who whole stack h e q k a by asks zeroth said =
        let awake' : IsAwake (after workers (e ∷ h)) who = awake_stays workers h e a.good said who a.awake in
        let O : Use → Type 0 = λ u. left_open e.who u e.reply (open_tasks h) ≡ with_owed (started_by u e.reply) stack in
        let W : Use → Type 0 = λ u. OwedWaits (started_by u e.reply) (moved (after workers h) (entry e.who e.thread u e.reply)) in
        record {
          one = one_more who whole (Ask (use_of q) k) stack h e a (ap Some (sym asks)) by zeroth said;
          good = good_on workers h e a.good said (subst (IsAwake (after workers (e ∷ h))) (sym by) awake');
          awake = awake';
          works = works_on h e who whole a.works;
          is_left = own_on who whole (Ask (use_of q) k) h e k a.is_left (λ r rs. refl) by;
          opened = subst O (sym asks) (left_open_wish e.who q e.reply (open_tasks h) ∙ ap (with_owed (started_by (use_of q) e.reply)) a.opened);
          top = a.top;
          main_alone = a.main_alone;
          waits = subst W (sym asks) (owed_waits (after workers h) e.who e.thread q e.reply);
        }

    did_aside : (who : List ℕ) (h : List Entry) (e : Entry) → Good workers h → reply (after workers h) e.who e.thread e.asked ≡ Some e.reply → e.who ≡ who → Aside who h (e ∷ h)
    did_aside who h e g said by = record {
      own_same = λ x n a. own_kept x e h (λ is. n (is ∙ by));
      awake_same = awake_stays workers h e g said;
      works_same = works_on h e;
    }

    -- after the Begin of a task that was just started
    begins : (who : List ℕ) (whole left : Uses_of) (stack : List (List ℕ)) (h : List Entry) (t : List ℕ) (th pool : ℕ) (w : Work) → At (Some t) who whole left stack h → th ≡ 0 → (after workers h).phase t ≡ Some (Waiting pool w)
        → At None t (task_of (meaning w)) (before ending (meaning w)) (t ∷ stack) (entry t th asked.Begin Done ∷ h)
    begins who whole left stack h t th pool w a zeroth waiting =
        let e : Entry = entry t th asked.Begin Done in
        let not_main : t ≢ [] = λ is. let none : (after workers h).phase t ≡ None = ap (after workers h).phase is ∙ a.good.main in cc in
        let none : own t h ≡ [] = a.good.untouched t not_main (subst IsIdle (sym waiting) tt) in
        let works' : Works meaning script h t (task_of (meaning w)) = inr (w, a.good.was_started t pool w waiting, refl) in
        let asks : Asks meaning script h t asked.Begin = (task_of (meaning w), works', ap (λ es. next (task_of (meaning w)) (replies es)) none) in
        let is : t ≡ going h = sym (ap first_of_all a.opened) in
        let said : reply (after workers h) t 0 asked.Begin ≡ Some Done = ap begin_reply waiting in
        let runs : (after workers (e ∷ h)).phase t ≡ Some (Running pool th) = ap (λ b. if b then begun th ((after workers h).phase t) else (after workers h).phase t) (same_self t) ∙ ap (begun th) waiting in
        let running : IsAwake (after workers (e ∷ h)) t = inr (subst HasBegun (sym runs) tt) in
        record {
          one = (a.one, is, zeroth, subst (λ x. Asks meaning script h x asked.Begin) is asks, subst (λ x. reply (after workers h) x 0 asked.Begin ≡ Some Done) is said);
          good = good_on workers h e a.good said running;
          awake = running;
          works = works_on h e t (task_of (meaning w)) works';
          is_left = λ rs. ap (λ es. next (task_of (meaning w)) (replies es ++ rs)) (own_more t e h refl ∙ ap (λ es. e ∷ es) none);
          opened = a.opened;
          top = refl;
          main_alone = λ x. absurd (not_main x);
          waits = tt;
        }

    asleep_then : (h : List Entry) (t : List ℕ) (pool : ℕ) (w : Work) → Good workers h → (after workers h).phase t ≡ Some (Waiting pool w) → IsAwake (after workers h) t → ⊥
    asleep_then h t pool w g waiting (inl m) = let none : (after workers h).phase t ≡ None = ap (after workers h).phase m ∙ g.main in cc
    asleep_then h t pool w g waiting (inr b) = subst HasBegun waiting b

    -- after a task and its End the activity that started it goes on
    back : (who : List ℕ) (whole left : Uses_of) (stack : List (List ℕ)) (h i : List Entry) (t : List ℕ) (th pool : ℕ) (w : Work) (o : Ended) (e : Entry) → At (Some t) who whole left stack h → (after workers h).phase t ≡ Some (Waiting pool w)
        → At None t (task_of (meaning w)) (ending o) (t ∷ stack) i → Aside t (entry t th asked.Begin Done ∷ h) i → e.who ≡ t → e.asked ≡ asked.End o → e.thread ≡ 0 → reply (after workers i) e.who e.thread e.asked ≡ Some e.reply
        → At None who whole left stack (e ∷ i) × Aside who h (e ∷ i)
    back who whole left stack h i t th pool w o e a waiting b s by ends zeroth said =
        let begin : Entry = entry t th asked.Begin Done in
        let begin_said : reply (after workers h) t th asked.Begin ≡ Some Done = ap begin_reply waiting in
        let asleep : IsAwake (after workers h) t → ⊥ = asleep_then h t pool w a.good waiting in
        let awake_i : (x : List ℕ) → IsAwake (after workers h) x → IsAwake (after workers i) x = λ x y. s.awake_same x (awake_stays workers h begin a.good begin_said x y) in
        let awake_e : (x : List ℕ) → IsAwake (after workers h) x → IsAwake (after workers (e ∷ i)) x = λ x y. awake_stays workers i e b.good said x (awake_i x y) in
        let own_e : (x : List ℕ) → IsAwake (after workers h) x → own x (e ∷ i) ≡ own x h =
        λ x y. let not : x ≢ t = λ is. asleep (subst (IsAwake (after workers h)) is y) in
        own_kept x e i (λ is. not (is ∙ by)) ∙ (s.own_same x not (awake_stays workers h begin a.good begin_said x y) ∙ own_kept x begin h not) in
        let works_e : (x : List ℕ) (p : Uses_of) → Works meaning script h x p → Works meaning script (e ∷ i) x p = λ x p y. works_on i e x p (s.works_same x p (works_on h begin x p y)) in
        let O : Use → Type 0 = λ u. left_open e.who u e.reply (open_tasks i) ≡ stack in
        let removed : without e.who (open_tasks i) ≡ stack = ap (λ x. without x (open_tasks i)) by ∙ (ap (without t) b.opened ∙ ap (λ c. if c then stack else t ∷ without t stack) (same_self t)) in (
          record {
            one = one_more t (task_of (meaning w)) (ending o) (t ∷ stack) i e b (ap Some (sym ends)) by zeroth said;
            good = good_on workers i e b.good said (subst (IsAwake (after workers (e ∷ i))) (sym by) (awake_stays workers i e b.good said t b.awake));
            awake = awake_e who a.awake;
            works = works_e who whole a.works;
            is_left = λ rs. ap (λ es. next whole (replies es ++ rs)) (own_e who a.awake) ∙ a.is_left rs;
            opened = subst O (sym ends) removed;
            top = a.top;
            main_alone = a.main_alone;
            waits = tt;
          },
          record { own_same = λ x n y. own_e x y; awake_same = awake_e; works_same = works_e },
        )

    came_after : {B : Type 0} (who : List ℕ) (whole : Uses_of) (f : B → Uses_of) (stack : List (List ℕ)) (h i j : List Entry) (r : Result B Halt) → Aside who h i → Came who whole f stack i j r → Came who whole f stack h j r
    came_after who whole f stack h i j (Ok a) s c = (c.0, aside_on who h i j s c.1)
    came_after who whole f stack h i j (Err halt) s c = c

    -- the task that is handed out is the one that is owed
    is_owed : (s t : List ℕ) (pyx : PyxId) (who : List ℕ) (whole left : Uses_of) (stack : List (List ℕ)) (h : List Entry) → pyx ≡ pyx_of s → pyx ≡ pyx_of t → At (Some s) who whole left stack h → At (Some t) who whole left stack h
    is_owed s t pyx who whole left stack h is handed a = subst (λ x. At (Some x) who whole left stack h) (ap (λ (p : PyxId). p.path) (sym is ∙ handed)) a

    -- how it halted, in an activity that goes on
    halted : {B : Type 0} (halt : Halt) (who : List ℕ) (whole : Uses_of) (p : Program Wish Reply B) (f : B → Uses_of) (stack : List (List ℕ)) (h : List Entry) → At None who whole (before f p) stack h → Does meaning refuses delays None who p NoMore (Err halt) → HaltedBy halt h
    halted NoMemory who whole p f stack h at d = tt
    halted Wait who whole (Return b) f stack h at d = absurd d
    halted Wait who whole (Ask q k) f stack h at d = inl (stuck_at who whole (before f (Ask q k)) stack h (use_of q) at refl d)
    halted (Closed cause) who whole (Return b) f stack h at d = absurd d
    halted (Closed cause) who whole (Ask q k) f stack h at d = inl (who, use_of q, d)

    halted_at_end : (halt : Halt) (t : List ℕ) (w : Work) (o : Ended) (stack : List (List ℕ)) (h : List Entry) → At None t (task_of (meaning w)) (ending o) stack h → HaltsAtEnd meaning refuses delays halt t o → HaltedBy halt h
    halted_at_end NoMemory t w o stack h at d = tt
    halted_at_end Wait t w o stack h at d = inl (stuck_at t (task_of (meaning w)) (ending o) stack h (asked.End o) at refl d)
    halted_at_end (Closed cause) t w o stack h at d = inl (t, asked.End o, d)

    -- a task that was asked for is refused
    held_up : (halt : Halt) (owed : Option (List ℕ)) (why : Why) (who : List ℕ) (whole left : Uses_of) (stack : List (List ℕ)) (h : List Entry) → At owed who whole left stack h → MayAsk owed who why × IsDelayed meaning refuses delays halt why → HaltedBy halt h
    held_up NoMemory owed why who whole left stack h at d = tt
    held_up (Closed cause) owed why who whole left stack h at d = inr (why, d.1)
    held_up Wait None Ending who whole left stack h at d = inr (at.good, at.opened ∙ at.main_alone d.0, d.1)
    held_up Wait None (Started x) who whole left stack h at d = absurd d.0
    held_up Wait None (Opening x) who whole left stack h at d = let is = at_end_alone (Opening x) d.1 in cc
    held_up Wait None (Working x) who whole left stack h at d = let is = at_end_alone (Working x) d.1 in cc
    held_up Wait (Some s) Ending who whole left stack h at d = absurd d.0
    held_up Wait (Some s) (Started x) who whole left stack h at d = let is = at_end_alone (Started x) d.1 in cc
    held_up Wait (Some s) (Opening x) who whole left stack h at d = absurd d.0
    held_up Wait (Some s) (Working x) who whole left stack h at d = absurd d.0

    -- none is due only where the task that was just started doesn't wait
    not_due : (owed : Option (List ℕ)) (s : List ℕ) (pyx : PyxId) (st : State) → pyx ≡ pyx_of s → OwedWaits (Some s) st → pyx_work pyx.number (st.phase pyx.path) ≡ None → ⊥
    not_due owed s pyx st is waits none =
        let here : waiting_work (st.phase s) ≡ None = ap (λ (p : PyxId). pyx_work p.number (st.phase p.path)) (sym is) ∙ none in
        let there : waiting_work (st.phase s) ≡ Some waits.1 = ap waiting_work waits.2 in
        cc

    -- from here on
    pub onward : {B : Type 0} (es : Doings) (owed : Option (List ℕ)) (who : List ℕ) (whole : Uses_of) (p : Program Wish Reply B) (f : B → Uses_of) (stack : List (List ℕ)) (h : List Entry) (r : Result B Halt)
        → At owed who whole (before f p) stack h → Does meaning refuses delays owed who p es r → Tells 0 (after workers h) (told es) → Came who whole f stack h (onto (told es) h) r
    onward NoMore None who whole p f stack h (Ok a) at d l = (subst (λ x. At None who whole (before f x) stack h) d at, aside_none who h)
    onward NoMore None who whole p f stack h (Err halt) at d l = (at.one, halted halt who whole p f stack h at d)
    onward NoMore (Some t) who whole p f stack h r at d l = absurd d
    onward (Did e rest) None who whole (Return b) f stack h r at d l = absurd d
    onward (Did e rest) (Some t) who whole p f stack h r at d l = absurd d
    onward (Did e rest) None who whole (Ask q k) f stack h r at d l =
        came_after who whole f stack h (e ∷ h) (onto (told rest) (e ∷ h)) r (did_aside who h e at.good l.0.1 d.0) (onward rest (started_by e.asked e.reply) who whole (k e.reply) f stack (e ∷ h) r (did who whole stack h e q (λ x. before f (k x)) at d.0 d.1 l.0.0 l.0.1) d.2 l.1)
    onward (Ran (Opening x) t th w inside end rest) owed who whole p f stack h r at d l = absurd l.0
    onward (Ran (Working x) t th w inside end rest) owed who whole p f stack h r at d l = absurd l.0
    onward (Ran Ending t th w inside end rest) owed who whole p f stack h r at d l = absurd l.0
    onward (Ran (Started x) t th w inside end rest) None who whole p f stack h r at d l = absurd d.0.0
    onward (Ran (Started x) t th w inside end rest) (Some s) who whole p f stack h r at d l =
        let now = is_owed s t x who whole (before f p) stack h d.0.0 d.0.1 at in
        let waiting = waits_with ((after workers h).phase t) w l.0.2 in
        let hb : List Entry = entry t th asked.Begin Done ∷ h in
        let i : List Entry = onto (told inside) hb in
        let split = tells_split workers (told inside) (Replied end ∷ told rest) hb l.1 in
        let inner = onward inside None t (task_of (meaning w)) (meaning w) ending (t ∷ stack) hb (Ok d.1.0) (begins who whole (before f p) stack h t th waiting.0 w now l.0.0 waiting.1) d.1.1 split.0 in
        let backed = back who whole (before f p) stack h i t th waiting.0 w d.1.0 end now waiting.1 inner.0 inner.1 d.1.2 d.1.3 split.1.0.0 split.1.0.1 in
        let later = onward rest None who whole p f stack (end ∷ i) r backed.0 d.2 split.1.1 in
        subst (λ j. Came who whole f stack h j r) (sym (onto-append (told inside) (Replied end ∷ told rest) hb))
        (came_after who whole f stack h (end ∷ i) (onto (told rest) (end ∷ i)) r backed.1 later)
    onward (Broke why t th w inside) owed who whole p f stack h (Ok a) at d l = absurd d
    onward (Broke (Opening x) t th w inside) owed who whole p f stack h (Err halt) at d l = absurd l.0
    onward (Broke (Working x) t th w inside) owed who whole p f stack h (Err halt) at d l = absurd l.0
    onward (Broke Ending t th w inside) owed who whole p f stack h (Err halt) at d l = absurd l.0
    onward (Broke (Started x) t th w inside) None who whole p f stack h (Err halt) at d l = absurd d.0.0
    onward (Broke (Started x) t th w inside) (Some s) who whole p f stack h (Err halt) at (is, inl y) l =
        let now = is_owed s t x who whole (before f p) stack h is.0 is.1 at in
        let waiting = waits_with ((after workers h).phase t) w l.0.2 in
        onward inside None t (task_of (meaning w)) (meaning w) ending (t ∷ stack) (entry t th asked.Begin Done ∷ h) (Err halt) (begins who whole (before f p) stack h t th waiting.0 w now l.0.0 waiting.1) y l.1
    onward (Broke (Started x) t th w inside) (Some s) who whole p f stack h (Err halt) at (is, inr y) l =
        let now = is_owed s t x who whole (before f p) stack h is.0 is.1 at in
        let waiting = waits_with ((after workers h).phase t) w l.0.2 in
        let hb : List Entry = entry t th asked.Begin Done ∷ h in
        let inner = onward inside None t (task_of (meaning w)) (meaning w) ending (t ∷ stack) hb (Ok y.0) (begins who whole (before f p) stack h t th waiting.0 w now l.0.0 waiting.1) y.1 l.1 in
        (inner.0.one, halted_at_end halt t w y.0 (t ∷ stack) (onto (told inside) hb) inner.0 y.2)
    onward (Asked (Opening x) rest) None who whole p f stack h r at d l = onward rest None who whole p f stack h r at d.1 l.1
    onward (Asked (Working x) rest) None who whole p f stack h r at d l = onward rest None who whole p f stack h r at d.1 l.1
    onward (Asked Ending rest) None who whole p f stack h r at d l = onward rest None who whole p f stack h r at d.1 l.1
    onward (Asked (Started x) rest) None who whole p f stack h r at d l = absurd d.0
    onward (Asked (Opening x) rest) (Some s) who whole p f stack h r at d l = absurd d.0
    onward (Asked (Working x) rest) (Some s) who whole p f stack h r at d l = absurd d.0
    onward (Asked Ending rest) (Some s) who whole p f stack h r at d l = absurd d.0
    onward (Asked (Started x) rest) (Some s) who whole p f stack h r at d l = absurd (not_due (Some s) s x (after workers h) d.0 at.waits l.0)
    onward (Delayed why) owed who whole p f stack h (Ok a) at d l = absurd d
    onward (Delayed why) owed who whole p f stack h (Err halt) at d l = (at.one, held_up halt owed why who whole (before f p) stack h at d)
