-- What one entry does to how far each task has come, and what holds of every history in which each asks that may.
use Rattle.std.proofs.Common.{◌≡◌, ◌≢◌, ◌⊎◌, inl, inr, refl, sym, ap, subst, ◌∙◌, ◌<◌, arith, ℕ, suc, List, [], ◌∷◌, ◌++◌, Bool, true, false, true≢false, if◌then◌else◌, ◌||◌, Option, Some, None}
use Rattle.std.proofs.lemmas.Slice.Eq.{bytes_eq-Decides}
use Rattle.std.specs.List.{list_any}
use Rattle.jdata.specs.declared.fault.Fault.TheVariants.{Limit}
use Rattle.jdata.specs.declared.path.PyxId.{PyxId}
use Rattle.juses.specs.Activities.{WasStarted, HasEnded, open_tasks, left_open, without}
use Rattle.juses.specs.Desk.{State, reply, may_start, start_reply, begin_reply, end_reply, begun, left_phase, left_tasks_of, one_more, is_unended, has_unended}
use Rattle.juses.specs.Entries.{pyx_of}
use Rattle.juses.specs.Histories.{after, own}
use Rattle.juses.specs.Keys.{same}
use Rattle.juses.specs.Tables.{front, last_number}
use Rattle.juses.specs.declared.kept.Phase.{Phase}
use Rattle.juses.specs.declared.kept.Phase.TheVariants.{Waiting, Running, Over}
use Rattle.juses.specs.declared.uses.Ended.{Ended}
use Rattle.juses.specs.declared.uses.Entry.{Entry}
use Rattle.juses.specs.declared.uses.Use.{Use}
use Rattle.juses.specs.declared.uses.Use.TheVariants.{Start, Begin, End}
use Rattle.juses.specs.declared.uses.Reply.{Reply}
use Rattle.juses.specs.declared.uses.Reply.TheVariants.{Pyx, Refused}
use Rattle.juses.specs.declared.uses.Work.{Work}

-- ---- paths

pub same_is : (a b : List ℕ) → same a b ≡ true → a ≡ b
same_is a b h = (bytes_eq-Decides a b).0 h

pub same_self : (a : List ℕ) → same a a ≡ true
same_self a = (bytes_eq-Decides a a).1 refl

pub same_or_not : (a b : List ℕ) → (a ≡ b) ⊎ ((a ≢ b) × (same a b ≡ false))
same_or_not a b = by (same a b) refl
  where
    by : (t : Bool) → same a b ≡ t → (a ≡ b) ⊎ ((a ≢ b) × (same a b ≡ false))
    by true e = inl (same_is a b e)
    by false e = inr ((λ is. let yes : same a b ≡ true = (bytes_eq-Decides a b).1 is in cc), e)

pub differ : (a b : List ℕ) → a ≢ b → same a b ≡ false
differ a b n = by (same_or_not a b)
  where
    by : (a ≡ b) ⊎ ((a ≢ b) × (same a b ≡ false)) → same a b ≡ false
    by (inl e) = absurd (n e)
    by (inr d) = d.1

last-snoc : (l : List ℕ) (n : ℕ) → last_number (l ++ n ∷ []) ≡ n
last-snoc [] n = refl
last-snoc (m ∷ []) n = refl
last-snoc (m ∷ k ∷ l) n = last-snoc (k ∷ l) n

front-snoc : (l : List ℕ) (n : ℕ) → front (l ++ n ∷ []) ≡ l
front-snoc [] n = refl
front-snoc (m ∷ []) n = refl
front-snoc (m ∷ k ∷ l) n = ap (λ x. m ∷ x) (front-snoc (k ∷ l) n)

pub longer : (l : List ℕ) (n : ℕ) → [] ≢ l ++ n ∷ []
longer [] n e = cc
longer (m ∷ l) n e = cc

-- ---- an activity's entries

pub own_more : (who : List ℕ) (e : Entry) (h : List Entry) → e.who ≡ who → own who (e ∷ h) ≡ e ∷ own who h
own_more who e h is = ap (λ b. if b then e ∷ own who h else own who h) (ap (same who) is ∙ same_self who)

pub own_kept : (who : List ℕ) (e : Entry) (h : List Entry) → who ≢ e.who → own who (e ∷ h) ≡ own who h
own_kept who e h not = ap (λ b. if b then e ∷ own who h else own who h) (differ who e.who not)

-- ---- what an entry does at a task

abbrev phase_then : State → List ℕ → ℕ → Use → Reply → List ℕ → Option Phase
phase_then s who th u r t = left_phase who th u r t (s.phase t)

pub data Change (s : State) (who : List ℕ) (th : ℕ) (u : Use) (r : Reply) (t : List ℕ) : Type 0 where
  Kept : phase_then s who th u r t ≡ s.phase t → Change s who th u r t
  Opened : (pool : ℕ) (w : Work) → u ≡ Start pool w → r ≡ Pyx (pyx_of t) → s.phase t ≡ None → phase_then s who th u r t ≡ Some (Waiting pool w) → t ≡ who ++ suc (s.tasks_of who) ∷ [] → Change s who th u r t
  Begun : (pool : ℕ) (w : Work) → who ≡ t → u ≡ Begin → s.phase t ≡ Some (Waiting pool w) → phase_then s who th u r t ≡ Some (Running pool th) → Change s who th u r t
  Finished : (o : Ended) (pool thread : ℕ) → who ≡ t → u ≡ End o → s.phase t ≡ Some (Running pool thread) → phase_then s who th u r t ≡ Some (Over o) → Change s who th u r t

abbrev pyx_in : Reply → PyxId → PyxId
pyx_in (Pyx pyx) other = pyx
pyx_in _ other = other

abbrev reply_in : Option Reply → Reply → Reply
reply_in (Some r) q = r
reply_in None q = q

pub some_reply : {r q : Reply} → Some r ≡ Some q → r ≡ q
some_reply {r} {q} e = ap (λ o. reply_in o r) e

abbrev pub work_in : Option Phase → Work → Work
work_in (Some (Waiting pool w)) v = w
work_in _ v = v

-- a Start that is answered with a pyx
pub started_pyx : (b : Bool) (p : List ℕ) (pyx : PyxId) → (if b then Pyx (pyx_of p) else Refused Limit) ≡ Pyx pyx → pyx_of p ≡ pyx
started_pyx true p pyx e = ap (λ r. pyx_in r pyx) e
started_pyx false p pyx e = cc

module _ (s : State) (who : List ℕ) (th : ℕ) (t : List ℕ) where
  abbrev IsFresh : Type 0
  IsFresh = (x : List ℕ) (k : ℕ) → s.tasks_of x < k → s.phase (x ++ k ∷ []) ≡ None

  abbrev child : List ℕ
  child = who ++ suc (s.tasks_of who) ∷ []

  started_change : (pool : ℕ) (w : Work) (r : Reply) → IsFresh → reply s who th (Start pool w) ≡ Some r → Change s who th (Start pool w) r t
  started_change pool w (Pyx pyx) fresh e = by (same_or_not t pyx.path)
    where
      is : pyx_of child ≡ pyx
      is = started_pyx (may_start s.tasks who) child pyx (some_reply e)

      by : (t ≡ pyx.path) ⊎ ((t ≢ pyx.path) × (same t pyx.path ≡ false)) → Change s who th (Start pool w) (Pyx pyx) t
      by (inl x) =
          let t_is : t ≡ child = x ∙ ap (λ (p : PyxId). p.path) (sym is) in
          let newer : s.tasks_of who < suc (s.tasks_of who) = omega arith in
          Opened pool w refl (ap Pyx (sym is ∙ ap pyx_of (sym t_is))) (ap s.phase t_is ∙ fresh who (suc (s.tasks_of who)) newer) (ap (λ b. if b then Some (Waiting pool w) else s.phase t) (ap (same t) (sym x) ∙ same_self t)) t_is
      by (inr d) = Kept (ap (λ b. if b then Some (Waiting pool w) else s.phase t) d.1)
  started_change pool w r fresh e = Kept refl

  begun_change : (r : Reply) (p : Option Phase) → s.phase who ≡ p → begin_reply p ≡ Some r → Change s who th Begin r t
  begun_change r (Some (Waiting pool w)) is e = by (same_or_not t who)
    where
      by : (t ≡ who) ⊎ ((t ≢ who) × (same t who ≡ false)) → Change s who th Begin r t
      by (inl x) =
          let waits : s.phase t ≡ Some (Waiting pool w) = ap s.phase x ∙ is in
          Begun pool w (sym x) refl waits (ap (λ b. if b then begun th (s.phase t) else s.phase t) (ap (same t) (sym x) ∙ same_self t) ∙ ap (begun th) waits)
      by (inr d) = Kept (ap (λ b. if b then begun th (s.phase t) else s.phase t) d.1)
  begun_change r (Some (Running pool x)) is e = cc
  begun_change r (Some (Over x)) is e = cc
  begun_change r None is e = cc

  finished_change : (o : Ended) (r : Reply) (p : Option Phase) → s.phase who ≡ p → end_reply p ≡ Some r → Change s who th (End o) r t
  finished_change o r (Some (Running pool x)) is e = by (same_or_not t who)
    where
      by : (t ≡ who) ⊎ ((t ≢ who) × (same t who ≡ false)) → Change s who th (End o) r t
      by (inl y) = Finished o pool x (sym y) refl (ap s.phase y ∙ is) (ap (λ b. if b then Some (Over o) else s.phase t) (ap (same t) (sym y) ∙ same_self t))
      by (inr d) = Kept (ap (λ b. if b then Some (Over o) else s.phase t) d.1)
  finished_change o r (Some (Waiting pool x)) is e = cc
  finished_change o r (Some (Over x)) is e = cc
  finished_change o r None is e = cc

  pub change : (u : Use) (r : Reply) → IsFresh → reply s who th u ≡ Some r → Change s who th u r t
  change (Start pool w) r fresh e = started_change pool w r fresh e
  change Begin r fresh e = begun_change r (s.phase who) refl e
  change (End o) r fresh e = finished_change o r (s.phase who) refl e
  change u r fresh e = Kept refl

-- ---- what holds of every history

-- no Begin yet
abbrev pub IsIdle : Option Phase → Type 0
IsIdle (Some (Waiting pool w)) = Unit {0}
IsIdle (Some (Running pool th)) = ⊥
IsIdle (Some (Over o)) = ⊥
IsIdle None = Unit {0}

abbrev pub HasBegun : Option Phase → Type 0
HasBegun (Some (Waiting pool w)) = ⊥
HasBegun (Some (Running pool th)) = Unit {0}
HasBegun (Some (Over o)) = Unit {0}
HasBegun None = ⊥

-- main, or a task with its Begin
abbrev pub IsAwake : State → List ℕ → Type 0
IsAwake s x = (x ≡ []) ⊎ HasBegun (s.phase x)

abbrev pub IsAmong : List ℕ → List (List ℕ) → Type 0
IsAmong t [] = ⊥
IsAmong t (x ∷ xs) = (t ≡ x) ⊎ IsAmong t xs

-- Paths that weren't given are free, and main is no task; an activity without a Begin has no entry; a waiting task was
-- started with its work; a started task is open or has ended, and one that open_then ended is open.
pub record Good (workers : ℕ) (h : List Entry) : Type 0 where
  pub fresh : (x : List ℕ) (k : ℕ) → (after workers h).tasks_of x < k → (after workers h).phase (x ++ k ∷ []) ≡ None
  pub main : (after workers h).phase [] ≡ None
  pub untouched : (t : List ℕ) → t ≢ [] → IsIdle ((after workers h).phase t) → own t h ≡ []
  pub was_started : (t : List ℕ) (pool : ℕ) (w : Work) → (after workers h).phase t ≡ Some (Waiting pool w) → WasStarted h t w
  pub known : (t : List ℕ) (w : Work) → WasStarted h t w → (after workers h).phase t ≢ None
  pub ends : (t : List ℕ) (w : Work) → WasStarted h t w → IsAmong t (open_tasks h) ⊎ HasEnded h t
  pub unended : (t : List ℕ) → is_unended ((after workers h).phase t) ≡ true → IsAmong t (open_tasks h)

no_some : false ≡ true → ⊥
no_some h = true≢false (sym h)

pub good_first : (workers : ℕ) → Good workers []
good_first workers = record { fresh = λ x k n. refl; main = refl; untouched = λ t n i. refl; was_started = λ t pool w e. cc; known = λ t w x. absurd x; ends = λ t w x. absurd x; unended = λ t e. absurd (no_some e) }

-- where no task is open each has ended
pub all_ended : (workers : ℕ) (h : List Entry) → Good workers h → open_tasks h ≡ [] → (ts : List (List ℕ)) → has_unended (after workers h).phase ts ≡ false
all_ended workers h g none [] = refl
all_ended workers h g none (t ∷ ts) = by (is_unended ((after workers h).phase t)) refl (all_ended workers h g none ts)
  where
    by : (b : Bool) → is_unended ((after workers h).phase t) ≡ b → has_unended (after workers h).phase ts ≡ false → has_unended (after workers h).phase (t ∷ ts) ≡ false
    by true e rest = absurd (subst (IsAmong t) none (g.unended t e))
    by false e rest = ap (λ b. b || has_unended (after workers h).phase ts) e ∙ rest

idle_or : (p : Option Phase) → IsIdle p → HasBegun p → ⊥
idle_or (Some (Waiting pool w)) i b = b
idle_or (Some (Running pool th)) i b = i
idle_or (Some (Over o)) i b = i
idle_or None i b = b

-- no maker has made fewer than before
grown : (w : List ℕ) (u : Use) (r : Reply) (x : List ℕ) (n k : ℕ) → left_tasks_of w u r x n < k → n < k
grown w (Start pool v) (Pyx pyx) x n k less = by (same x w) less
  where
    by : (b : Bool) → (if b then suc n else n) < k → n < k
    by true l = omega (arith, l)
    by false l = l
grown w u r x n k less = less

module _ (workers : ℕ) (h : List Entry) (e : Entry) (g : Good workers h) (said : reply (after workers h) e.who e.thread e.asked ≡ Some e.reply) where
  abbrev now : State
  now = after workers h

  abbrev later : State
  later = after workers (e ∷ h)

  abbrev Changes : List ℕ → Type 0
  Changes t = Change now e.who e.thread e.asked e.reply t

  pub at : (t : List ℕ) → Changes t
  at t = change now e.who e.thread t e.asked e.reply g.fresh said

  pub begun_stays : (t : List ℕ) → HasBegun (now.phase t) → HasBegun (later.phase t)
  begun_stays t b = by (at t)
    where
      by : Changes t → HasBegun (later.phase t)
      by (Kept k) = subst HasBegun (sym k) b
      by (Opened pool w u r old new is) = absurd (subst HasBegun old b)
      by (Begun pool w x u old new) = subst HasBegun (sym new) tt
      by (Finished o pool th x u old new) = subst HasBegun (sym new) tt

  pub awake_stays : (t : List ℕ) → IsAwake now t → IsAwake later t
  awake_stays t (inl m) = inl m
  awake_stays t (inr b) = inr (begun_stays t b)

  idle_before : (t : List ℕ) → IsIdle (later.phase t) → IsIdle (now.phase t)
  idle_before t i = by (at t)
    where
      by : Changes t → IsIdle (now.phase t)
      by (Kept k) = subst IsIdle k i
      by (Opened pool w u r old new is) = subst IsIdle (sym old) tt
      by (Begun pool w x u old new) = subst IsIdle (sym old) tt
      by (Finished o pool th x u old new) = absurd (subst IsIdle new i)

  fresh_on : (x : List ℕ) (k : ℕ) → later.tasks_of x < k → later.phase (x ++ k ∷ []) ≡ None
  fresh_on x k n = by (at (x ++ k ∷ []))
    where
      before : now.phase (x ++ k ∷ []) ≡ None
      before = g.fresh x k (grown e.who e.asked e.reply x (now.tasks_of x) k n)

      by : Changes (x ++ k ∷ []) → later.phase (x ++ k ∷ []) ≡ None
      by (Kept i) = i ∙ before
      by (Opened pool w u r old new is) =
          let made_by : x ≡ e.who = sym (front-snoc x k) ∙ (ap front is ∙ front-snoc e.who (suc (now.tasks_of e.who))) in
          let number : k ≡ suc (now.tasks_of e.who) = sym (last-snoc x k) ∙ (ap last_number is ∙ last-snoc e.who (suc (now.tasks_of e.who))) in
          let P : Use → Reply → Type 0 = λ u r. left_tasks_of e.who u r x (now.tasks_of x) < k in
          let one : P (Start pool w) (Pyx (pyx_of (x ++ k ∷ []))) = subst (P (Start pool w)) r (subst (λ y. P y e.reply) u n) in
          let more : one_more e.who x (now.tasks_of x) ≡ suc (now.tasks_of x) = ap (λ b. if b then suc (now.tasks_of x) else now.tasks_of x) (ap (same x) (sym made_by) ∙ same_self x) in
          let less : suc (now.tasks_of x) < k = subst (λ m. m < k) more one in
          let same_count : k ≡ suc (now.tasks_of x) = number ∙ ap (λ y. suc (now.tasks_of y)) (sym made_by) in
          absurd (omega (arith, less, same_count))
      by (Begun pool w y u old new) = let b = before in cc
      by (Finished o pool th y u old new) = let b = before in cc

  main_on : later.phase [] ≡ None
  main_on = by (at [])
    where
      by : Changes [] → later.phase [] ≡ None
      by (Kept k) = k ∙ g.main
      by (Opened pool w u r old new is) = absurd (longer e.who (suc (now.tasks_of e.who)) is)
      by (Begun pool w x u old new) = let m = g.main in cc
      by (Finished o pool th x u old new) = let m = g.main in cc

  untouched_on : IsAwake later e.who → (t : List ℕ) → t ≢ [] → IsIdle (later.phase t) → own t (e ∷ h) ≡ []
  untouched_on awake t n i = own_kept t e h not ∙ g.untouched t n (idle_before t i)
    where
      asleep : IsAwake later t → ⊥
      asleep (inl m) = n m
      asleep (inr b) = idle_or (later.phase t) i b

      not : t ≢ e.who
      not is = asleep (subst (IsAwake later) (sym is) awake)

  was_started_on : (t : List ℕ) (pool : ℕ) (w : Work) → later.phase t ≡ Some (Waiting pool w) → WasStarted (e ∷ h) t w
  was_started_on t pool w new = by (at t)
    where
      by : Changes t → WasStarted (e ∷ h) t w
      by (Kept k) = inr (g.was_started t pool w (sym k ∙ new))
      by (Opened p v u r old is path) =
          let same_work : v ≡ w = ap (λ q. work_in q v) (sym is ∙ new) in
          inl (p, u ∙ ap (Start p) same_work, r)
      by (Begun p v x u old is) = cc
      by (Finished o p th x u old is) = cc

  known_on : (t : List ℕ) (w : Work) → WasStarted (e ∷ h) t w → later.phase t ≢ None
  known_on t w (inl (pool, is, replied)) none =
      let P : Use → Reply → Type 0 = λ u r. left_phase e.who e.thread u r t (now.phase t) ≡ None in
      let here : P (Start pool w) (Pyx (pyx_of t)) = subst (P (Start pool w)) replied (subst (λ u. P u e.reply) is none) in
      let there : left_phase e.who e.thread (Start pool w) (Pyx (pyx_of t)) t (now.phase t) ≡ Some (Waiting pool w) = ap (λ b. if b then Some (Waiting pool w) else now.phase t) (same_self t) in
      cc
  known_on t w (inr before) none = by (at t)
    where
      was : now.phase t ≢ None
      was = g.known t w before

      by : Changes t → ⊥
      by (Kept k) = was (sym k ∙ none)
      by (Opened pool w u r old is path) = was old
      by (Begun pool v x u old is) = cc
      by (Finished o pool th x u old is) = cc

  pub opened_was_new : (t : List ℕ) (pool : ℕ) (w : Work) → e.asked ≡ Start pool w → e.reply ≡ Pyx (pyx_of t) → now.phase t ≡ None
  opened_was_new t pool w asks replied =
      let said' : Some (start_reply now.tasks (now.tasks_of e.who) e.who) ≡ Some e.reply = ap (λ u. reply now e.who e.thread u) (sym asks) ∙ said in
      let path : List ℕ = e.who ++ suc (now.tasks_of e.who) ∷ [] in
      let is : pyx_of path ≡ pyx_of t = started_pyx (may_start now.tasks e.who) path (pyx_of t) (some_reply said' ∙ replied) in
      let newer : now.tasks_of e.who < suc (now.tasks_of e.who) = omega arith in
      ap now.phase (sym (ap (λ (p : PyxId). p.path) is)) ∙ g.fresh e.who (suc (now.tasks_of e.who)) newer

  still_open : (t : List ℕ) (who : List ℕ) (ts : List (List ℕ)) → IsAmong t ts → (t ≡ who) ⊎ IsAmong t (without who ts)
  still_open t who [] m = absurd m
  still_open t who (x ∷ ts) m = by (same_or_not who x) m (still_open t who ts)
    where
      further : same who x ≡ false → (t ≡ who) ⊎ IsAmong t (without who ts) → (t ≡ who) ⊎ IsAmong t (if same who x then ts else x ∷ without who ts)
      further d (inl is) = inl is
      further d (inr l) = inr (subst (λ b. IsAmong t (if b then ts else x ∷ without who ts)) (sym d) (inr l))

      by : (who ≡ x) ⊎ ((who ≢ x) × (same who x ≡ false)) → (t ≡ x) ⊎ IsAmong t ts → (IsAmong t ts → (t ≡ who) ⊎ IsAmong t (without who ts)) → (t ≡ who) ⊎ IsAmong t (if same who x then ts else x ∷ without who ts)
      by (inl is) (inl here) call = inl (here ∙ sym is)
      by (inl is) (inr there) call = inr (subst (λ b. IsAmong t (if b then ts else x ∷ without who ts)) (sym (ap (same who) (sym is) ∙ same_self who)) there)
      by (inr d) (inl here) call = inr (subst (λ b. IsAmong t (if b then ts else x ∷ without who ts)) (sym d.1) (inl here))
      by (inr d) (inr there) call = further d.1 (call there)

  open_on : (t who : List ℕ) (u : Use) (r : Reply) (ts : List (List ℕ)) → IsAmong t ts → IsAmong t (left_open who u r ts) ⊎ ((who ≡ t) × (o : Ended) × (u ≡ End o))
  open_on t who (Start pool w) (Pyx pyx) ts m = inl (inr m)
  open_on t who (End o) r ts m = by (still_open t who ts m)
    where
      by : (t ≡ who) ⊎ IsAmong t (without who ts) → IsAmong t (without who ts) ⊎ ((who ≡ t) × (x : Ended) × (End o ≡ End x))
      by (inl is) = inr (sym is, o, refl)
      by (inr l) = inl l
  open_on t who u r ts m = inl m

  ends_on : (t : List ℕ) (w : Work) → WasStarted (e ∷ h) t w → IsAmong t (open_tasks (e ∷ h)) ⊎ HasEnded (e ∷ h) t
  ends_on t w (inl (pool, is, replied)) =
      let P : Use → Reply → Type 0 = λ u r. IsAmong t (left_open e.who u r (open_tasks h)) in
      let here : P (Start pool w) (Pyx (pyx_of t)) = inl refl in
      inl (subst (P e.asked) (sym replied) (subst (λ u. P u (Pyx (pyx_of t))) (sym is) here))
  ends_on t w (inr before) = by (g.ends t w before)
    where
      still : IsAmong t (left_open e.who e.asked e.reply (open_tasks h)) ⊎ ((e.who ≡ t) × (o : Ended) × (e.asked ≡ End o)) → IsAmong t (open_tasks (e ∷ h)) ⊎ HasEnded (e ∷ h) t
      still (inl l) = inl l
      still (inr x) = inr (x.1, e.thread, inl (x.0, refl, x.2))

      by : IsAmong t (open_tasks h) ⊎ HasEnded h t → IsAmong t (open_tasks (e ∷ h)) ⊎ HasEnded (e ∷ h) t
      by (inl m) = still (open_on t e.who e.asked e.reply (open_tasks h) m)
      by (inr x) = inr (x.0, x.1, inr x.2)

  unended_on : (t : List ℕ) → is_unended (later.phase t) ≡ true → IsAmong t (open_tasks (e ∷ h))
  unended_on t open_then = by (at t)
    where
      -- it was open, and no End closed it
      was_open : is_unended (now.phase t) ≡ true → IsAmong t (open_tasks (e ∷ h))
      was_open before = so (open_on t e.who e.asked e.reply (open_tasks h) (g.unended t before))
        where
          so : IsAmong t (left_open e.who e.asked e.reply (open_tasks h)) ⊎ ((e.who ≡ t) × (o : Ended) × (e.asked ≡ End o)) → IsAmong t (open_tasks (e ∷ h))
          so (inl l) = l
          so (inr (is, o, asks)) =
              let P : Use → Type 0 = λ u. is_unended (left_phase e.who e.thread u e.reply t (now.phase t)) ≡ true in
              let here : P (End o) = subst P asks open_then in
              let over : left_phase e.who e.thread (End o) e.reply t (now.phase t) ≡ Some (Over o) = ap (λ b. if b then Some (Over o) else now.phase t) (ap (same t) is ∙ same_self t) in
              absurd (no_some (sym (ap is_unended over) ∙ here))

      by : Changes t → IsAmong t (open_tasks (e ∷ h))
      by (Kept k) = was_open (ap is_unended (sym k) ∙ open_then)
      by (Opened pool w u r old new is) =
          let P : Use → Reply → Type 0 = λ u r. IsAmong t (left_open e.who u r (open_tasks h)) in
          let here : P (Start pool w) (Pyx (pyx_of t)) = inl refl in
          subst (P e.asked) (sym r) (subst (λ y. P y (Pyx (pyx_of t))) (sym u) here)
      by (Begun pool w x u old new) = was_open (ap is_unended old)
      by (Finished o pool th x u old new) = absurd (no_some (sym (ap is_unended new) ∙ open_then))

  pub good_on : IsAwake later e.who → Good workers (e ∷ h)
  good_on awake = record { fresh = fresh_on; main = main_on; untouched = untouched_on awake; was_started = was_started_on; known = known_on; ends = ends_on; unended = unended_on }
