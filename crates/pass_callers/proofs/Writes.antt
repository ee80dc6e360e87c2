-- What the writes of a history leave.
use Rattle.std.proofs.Common.{◌≡◌, ◌⊎◌, inl, inr, refl, sym, ap, subst, ◌∙◌, ℕ, Bool, true, false, true≢false, cond, ◌&&◌, List, [], ◌∷◌, ◌++◌, map, take, Option, Some, None, Result, Ok, Err, OnOk, OnErr, All, Contains, IsPermutation}
use Rattle.std.specs.Prelude.{unwrap_or}
use Rattle.std.proofs.lemmas.List.{map-append, append-nil}
use Rattle.std.proofs.lemmas.List.Elements.{All-nil, All-cons, All-head, All-tail, All-append, All-map, All-weaker, All-contains_itself}
use Rattle.std.proofs.lemmas.List.Sorted.{All-permutation, IsPermutation-sym}
use Rattle.jterm.specs.declared.term.Term.{Term}
use Rattle.jturn.specs.Pass.{Pass, Grew}
use Rattle.juses.proofs.Phases.{same_is, same_self}
use Rattle.juses.specs.Desk.{State, moved, left_name}
use Rattle.juses.specs.Histories.{after}
use Rattle.juses.specs.Keys.{Key, NameIn, changes, changed_by, same}
use Rattle.juses.specs.Standing.{Kept, value_in}
use Rattle.juses.specs.Told.{Told, Passed, Replied, nothing, replied, ◌followed_by◌}
use Rattle.juses.specs.declared.uses.Entry.{Entry}
use Rattle.juses.specs.declared.uses.Halt.{Halt}
use Rattle.juses.specs.declared.uses.Reply.{Reply}
use Rattle.juses.specs.declared.uses.Reply.TheVariants.{Done}
use Rattle.juses.specs.declared.uses.Use.{Use}
use Rattle.juses.specs.declared.uses.Use.TheVariants.{Read, Write, Print, Start, Begin, End, Open, MakePyx, SetPyx, MakeMutex, Lock, Unlock, MakeThread, Threads, PoolState, Current}
use Rattle.jpass.specs.Stood.{StoodFor, put_on, newest}
use Rattle.jpass.specs.Timed.{made}
use Rattle.jpass.specs.Used.{Taken, Leads}
use Rattle.jpass.specs.UsedLaws.{leads_on}
use Rattle.pass_callers.specs.Bindings.{binding, use_of, written, writing, IsLeft}
use Rattle.pass_callers.specs.declared.bindings.Binding.{Binding}

-- ---- one write, and many

writing_both : (thread : ℕ) (bs : List Binding) (b : Binding) → (writing thread bs followed_by replied (written thread b)) ≡ writing thread (bs ++ b ∷ [])
writing_both thread bs b = ap (λ (l : List Told). record { told = l; handed = []; closed = [] }) (sym (map-append (λ (x : Binding). Replied (written thread x)) bs (b ∷ [])))

pub wrote_more : (s t u : Taken) (bs : List Binding) (b : Binding) → Leads s (writing s.thread bs) t → Leads t (replied (written t.thread b)) u → Leads s (writing s.thread (bs ++ b ∷ [])) u
wrote_more s t u bs b h k =
    let on : Leads t (replied (written s.thread b)) u = subst (λ (n : ℕ). Leads t (replied (written n b)) u) h.1 k in
    subst (λ (p : Passed). Leads s p u) (writing_both s.thread bs b) (leads_on s t u (writing s.thread bs) (replied (written s.thread b)) h on)

writing_nothing : (thread : ℕ) (bs : List Binding) → (writing thread bs followed_by nothing) ≡ writing thread bs
writing_nothing thread bs = ap (λ (l : List Told). record { told = l; handed = []; closed = [] }) (append-nil (map (λ (x : Binding). Replied (written thread x)) bs))

pub then_nothing : (s t u : Taken) (thread : ℕ) (bs : List Binding) → Leads s (writing thread bs) t → Leads t nothing u → Leads s (writing thread bs) u
then_nothing s t u thread bs h k = subst (λ (p : Passed). Leads s p u) (writing_nothing thread bs) (leads_on s t u (writing thread bs) nothing h k)

pub made_writing : (thread : ℕ) (bs : List Binding) → made (map (λ (b : Binding). Replied (written thread b)) bs) ≡ map (written thread) bs
made_writing thread [] = refl
made_writing thread (b ∷ bs) = ap (λ (l : List Entry). written thread b ∷ l) (made_writing thread bs)

-- the entries that writing makes of a pass
pub wrote_entries : (s t : Taken) (thread : ℕ) (bs : List Binding) → Leads s (writing thread bs) t → Grew s.pass (map (written thread) bs) t.pass
wrote_entries s t thread bs l = subst (λ (es : List Entry). Grew s.pass es t.pass) (made_writing thread bs) l.0.grew

-- the same of a pass that is made, used and handed back
pub wrote_by : {A : Type 0} (p q : Pass Entry) (thread : ℕ) (bs : List Binding) (s t : Taken) (r : Result A Halt) → s ≡ record { pass = p; thread = thread; helped = [] } → OnOk r (Leads s (writing s.thread bs) t) → q ≡ t.pass
    → OnOk r (Grew p (map (written thread) bs) q)
wrote_by p q thread bs s t (Ok a) is l back =
    let on : Leads (record { pass = p; thread = thread; helped = [] }) (writing thread bs) t = subst (λ (z : Taken). Leads z (writing z.thread bs) t) is l in
    subst (λ (z : Pass Entry). Grew p (map (written thread) bs) z) (sym back) (wrote_entries (record { pass = p; thread = thread; helped = [] }) t thread bs on)
wrote_by p q thread bs s t (Err halt) is l back = tt

pub stopped_by : {A : Type 0} (p q : Pass Entry) (thread : ℕ) (bs : List Binding) (s t : Taken) (r : Result A Halt) → s ≡ record { pass = p; thread = thread; helped = [] }
    → OnErr r ((n : ℕ) × Leads s (writing s.thread (take n bs)) t) → q ≡ t.pass → OnErr r ((n : ℕ) × Grew p (map (written thread) (take n bs)) q)
stopped_by p q thread bs s t (Ok a) is l back = tt
stopped_by p q thread bs s t (Err halt) is l back =
    let on : Leads (record { pass = p; thread = thread; helped = [] }) (writing thread (take l.0 bs)) t = subst (λ (z : Taken). Leads z (writing z.thread (take l.0 bs)) t) is l.1 in
    (l.0, subst (λ (z : Pass Entry). Grew p (map (written thread) (take l.0 bs)) z) (sym back) (wrote_entries (record { pass = p; thread = thread; helped = [] }) t thread (take l.0 bs) on))

-- ---- what stands at a name

abbrev there : Option Term → Type 0
there None = ⊥
there (Some v) = Unit {0}

none_some : (v : Term) → None ≡ Some v → ⊥
none_some v e = subst there (sym e) tt

abbrev is_write : Use → Bool
is_write (Write place name value) = true
is_write _ = false

abbrev writes_name : Use → Type 0
writes_name u = (place : List ℕ) × (name : List ℕ) × (value : Term) × (u ≡ Write place name value)

-- a use is a write, or it leaves each name
kind_of : (u : Use) → writes_name u ⊎ (((old : Option Term) → left_name u old ≡ old) × (is_write u ≡ false))
kind_of (Write place name value) = inl (place, name, value, refl)
kind_of (Read place name) = inr ((λ old. refl), refl)
kind_of (Print bytes) = inr ((λ old. refl), refl)
kind_of (Start pool work) = inr ((λ old. refl), refl)
kind_of Begin = inr ((λ old. refl), refl)
kind_of (End outcome) = inr ((λ old. refl), refl)
kind_of (Open pyx) = inr ((λ old. refl), refl)
kind_of MakePyx = inr ((λ old. refl), refl)
kind_of (SetPyx pyx outcome) = inr ((λ old. refl), refl)
kind_of MakeMutex = inr ((λ old. refl), refl)
kind_of (Lock mutex) = inr ((λ old. refl), refl)
kind_of (Unlock mutex) = inr ((λ old. refl), refl)
kind_of (MakeThread pool) = inr ((λ old. refl), refl)
kind_of Threads = inr ((λ old. refl), refl)
kind_of (PoolState pool) = inr ((λ old. refl), refl)
kind_of Current = inr ((λ old. refl), refl)

both_true : (a b : Bool) → (a && b) ≡ true → (a ≡ true) × (b ≡ true)
both_true true true e = (refl, refl)
both_true true false e = absurd (true≢false (sym e))
both_true false b e = absurd (true≢false (sym e))

either : {A B C : Type 0} → A ⊎ B → (A → C) → (B → C) → C
either (inl a) f g = f a
either (inr b) f g = g b

module _ (place name : List ℕ) where
  abbrev here : Key
  here = NameIn place name

  changes_here : (u : Use) (r : Reply) (value : Term) → u ≡ Write place name value → changes u r here ≡ true
  changes_here u r value is = ap (λ (x : Use). changes x r here) is ∙ (λ i. same_self place i && same_self name i)

  kept_write : (p n : List ℕ) (x v : Term) (old : Option Term) (b : Bool) → (same p place && same n name) ≡ b → cond b (Some x) old ≡ Some v → (Write p n x ≡ Write place name v) ⊎ (old ≡ Some v)
  kept_write p n x v old false so is = inr is
  kept_write p n x v old true so is =
      let two = both_true (same p place) (same n name) so in
      let p_is : p ≡ place = same_is p place two.0 in
      let n_is : n ≡ name = same_is n name two.1 in
      let x_is : x ≡ v = ap (λ (o : Option Term). unwrap_or o x) is in
      inl (λ i. Write (p_is i) (n_is i) (x_is i))

  kept_other : (b : Bool) (left old : Option Term) (v : Term) → left ≡ old → cond b left old ≡ Some v → old ≡ Some v
  kept_other true left old v same is = sym same ∙ is
  kept_other false left old v same is = is

  -- what stands at the name after an entry was written by it, or stood there before
  wrote_or_kept : (s : State) (e : Entry) (v : Term) → (moved s e).at here ≡ Some v → (e.asked ≡ Write place name v) ⊎ (s.at here ≡ Some v)
  wrote_or_kept s e v is = either (kind_of e.asked)
      (λ (w : writes_name e.asked).
      let so : cond (changes (Write w.0 w.1 w.2) e.reply here) (Some w.2) (s.at here) ≡ Some v = subst (λ (u : Use). cond (changes u e.reply here) (left_name u (s.at here)) (s.at here) ≡ Some v) w.3 is in
      subst (λ (u : Use). (u ≡ Write place name v) ⊎ (s.at here ≡ Some v)) (sym w.3) (kept_write w.0 w.1 w.2 v (s.at here) (same w.0 place && same w.1 name) refl so))
      (λ k. inr (kept_other (changed_by e here) (left_name e.asked (s.at here)) (s.at here) v (k.0 (s.at here)) is))

  pub some_wrote : (workers : ℕ) (P : Entry → Type 0) (h : List Entry) (v : Term) → All P h → (after workers h).at here ≡ Some v → (e : Entry) × P e × (e.asked ≡ Write place name v)
  some_wrote workers P [] v all is = absurd (none_some v is)
  some_wrote workers P (e ∷ h) v all is = either (wrote_or_kept (after workers h) e v is) (λ a. (e, All-head P e h all, a)) (λ old. some_wrote workers P h v (All-tail P e h all) old)

  abbrev pub NotHere : Entry → Type 0
  NotHere e = (v : Term) → e.asked ≡ Write place name v → ⊥

  none_write : (p n : List ℕ) (x : Term) (old : Option Term) (b : Bool) → (same p place && same n name) ≡ b → cond b (Some x) old ≡ None → ((v : Term) → Write p n x ≡ Write place name v → ⊥) × (old ≡ None)
  none_write p n x old true so is = absurd (none_some x (sym is))
  none_write p n x old false so is = ((λ v w. true≢false (sym (changes_here (Write p n x) Done v w) ∙ so)), is)

  none_other : (b : Bool) (left old : Option Term) → left ≡ old → cond b left old ≡ None → old ≡ None
  none_other true left old same is = sym same ∙ is
  none_other false left old same is = is

  none_or_kept : (s : State) (e : Entry) → (moved s e).at here ≡ None → NotHere e × (s.at here ≡ None)
  none_or_kept s e is = either (kind_of e.asked)
      (λ (w : writes_name e.asked).
      let so : cond (changes (Write w.0 w.1 w.2) e.reply here) (Some w.2) (s.at here) ≡ None = subst (λ (u : Use). cond (changes u e.reply here) (left_name u (s.at here)) (s.at here) ≡ None) w.3 is in
      subst (λ (u : Use). ((v : Term) → u ≡ Write place name v → ⊥) × (s.at here ≡ None)) (sym w.3) (none_write w.0 w.1 w.2 (s.at here) (same w.0 place && same w.1 name) refl so))
      (λ k. ((λ v w. true≢false (sym (ap is_write w) ∙ k.1)), none_other (changed_by e here) (left_name e.asked (s.at here)) (s.at here) (k.0 (s.at here)) is))

  pub none_wrote : (workers : ℕ) (h : List Entry) → (after workers h).at here ≡ None → All NotHere h
  none_wrote workers [] is = All-nil NotHere
  none_wrote workers (e ∷ h) is = let k = none_or_kept (after workers h) e is in All-cons NotHere e h k.0 (none_wrote workers h k.1)

-- ---- lists put on one another, and mapped

module _ {X : Type 0} (P : X → Type 0) where
  front_all : (xs ys : List X) → All P (xs ++ ys) → All P xs × All P ys
  front_all [] ys a = (All-nil P, a)
  front_all (x ∷ xs) ys a = let r = front_all xs ys (All-tail P x (xs ++ ys) a) in (All-cons P x xs (All-head P x (xs ++ ys) a) r.0, r.1)

  back_map : {Y : Type 0} (f : Y → X) (ys : List Y) → All P (map f ys) → All (λ (y : Y). P (f y)) ys
  back_map f [] a = All-nil (λ y. P (f y))
  back_map f (y ∷ ys) a = All-cons (λ y. P (f y)) y ys (All-head P (f y) (map f ys) a) (back_map f ys (All-tail P (f y) (map f ys) a))

module _ (P : Entry → Type 0) where
  put_all : (xs h : List Entry) → All P xs → All P h → All P (put_on xs h)
  put_all [] h a b = b
  put_all (x ∷ xs) h a b = put_all xs (x ∷ h) (All-tail P x xs a) (All-cons P x h (All-head P x xs a) b)

  taken_all : (xs h : List Entry) → All P (put_on xs h) → All P xs × All P h
  taken_all [] h a = (All-nil P, a)
  taken_all (x ∷ xs) h a = let r = taken_all xs (x ∷ h) a in (All-cons P x xs (All-head P x h r.1) r.0, All-tail P x h r.1)

  pub all_newest : (log : List Entry) → All P log → All P (newest log)
  all_newest log a = put_all log [] a (All-nil P)

  pub all_oldest : (log : List Entry) → All P (newest log) → All P log
  all_oldest log a = (taken_all log [] a).0

-- ---- where only bindings were written

-- the use writes one of these
abbrev WritesOne : List Binding → Entry → Type 0
WritesOne bs e = (b : Binding) × Contains bs b × (e.asked ≡ use_of b)

abbrev as_binding : Binding → Use → Binding
as_binding b (Write place name value) = binding place name value
as_binding b _ = b

module _ (first second : List Binding) (one two : ℕ) where
  abbrev pub both : List Entry
  both = map (written one) first ++ map (written two) second

  each_writes : All (WritesOne (first ++ second)) both
  each_writes =
      let bs = first ++ second in
      let parts = front_all (Contains bs) first second (All-contains_itself bs) in
      let C = λ (b : Binding). Contains bs b in
      All-append (WritesOne bs) (map (written one) first) (map (written two) second)
      (All-map (WritesOne bs) (written one) first (All-weaker C (λ (b : Binding). WritesOne bs (written one b)) (λ b c. (b, c, refl)) first parts.0))
      (All-map (WritesOne bs) (written two) second (All-weaker C (λ (b : Binding). WritesOne bs (written two b)) (λ b c. (b, c, refl)) second parts.1))

  none_is_of : (place name : List ℕ) → All (NotHere place name) both → All (λ (b : Binding). (b.place ≡ place) × (b.name ≡ name) → ⊥) (first ++ second)
  none_is_of place name a =
      let N = NotHere place name in
      let Q : Binding → Type 0 = λ b. (v : Term) → use_of b ≡ Write place name v → ⊥ in
      let parts = front_all N (map (written one) first) (map (written two) second) a in
      All-weaker Q (λ (b : Binding). (b.place ≡ place) × (b.name ≡ name) → ⊥) (λ b q e. q b.value (λ i. Write (e.0 i) (e.1 i) b.value)) (first ++ second)
      (All-append Q first second (back_map N (written one) first parts.0) (back_map N (written two) second parts.1))

  left_by : (log : List Entry) (place name : List ℕ) (workers : ℕ) (value : Option Term) → IsPermutation log both → (after workers (newest log)).at (NameIn place name) ≡ value → IsLeft (first ++ second) place name value
  left_by log place name workers None moved is =
      none_is_of place name (All-permutation (NotHere place name) log both moved (all_oldest (NotHere place name) log (none_wrote place name workers (newest log) is)))
  left_by log place name workers (Some v) moved is =
      let W = WritesOne (first ++ second) in
      let all = all_newest W log (All-permutation W both log (IsPermutation-sym log both moved) each_writes) in
      let found = some_wrote place name workers W (newest log) v all is in
      let b = found.1.0 in
      let same : b ≡ binding place name v = ap (as_binding b) (sym found.1.2 ∙ found.2) in
      subst (Contains (first ++ second)) same found.1.1

  pub names_left : (d : Kept) (log : List Entry) → StoodFor d log → IsPermutation log both → (place name : List ℕ) → IsLeft (first ++ second) place name (value_in d.locales place name)
  names_left d log stood moved place name = left_by log place name d.workers (value_in d.locales place name) moved (stood.1.at (NameIn place name))
