-- What an activity did, with the tasks that it ran, taken activity by activity.
use Rattle.std.proofs.Common.{◌≡◌, ◌≢◌, ◌⊎◌, inl, inr, refl, sym, ap, subst, ◌∙◌, ◌+◌, arith, ℕ, zero, suc, List, [], ◌∷◌, ◌++◌, Bool, true, false, if◌then◌else◌, Option, Some, None, Result, Ok, Err, append-nil}
use Rattle.juses.specs.ByActivity.{trace, times, WasHanded, Leaves, LeavesBy, TaskBy, ByActivity}
use Rattle.juses.specs.Entries.{started_by}
use Rattle.juses.specs.Doings.{Doings, NoMore, Did, Ran, Broke, Asked, Delayed, told, Does}
use Rattle.juses.specs.Activities.{ending, task_of}
use Rattle.juses.specs.Keys.{same}
use Rattle.juses.specs.Program.{Program, Return, Ask, before}
use Rattle.juses.specs.Told.{Told, Replied, Handed, NoneDue}
use Rattle.juses.specs.Wishes.{Wish, use_of}
use Rattle.juses.specs.declared.uses.Entry.{Entry}
use Rattle.juses.specs.declared.uses.Halt.{Halt}
use Rattle.juses.specs.declared.uses.Ended.{Ended}
use Rattle.juses.specs.declared.uses.Reply.{Reply}
use Rattle.juses.specs.declared.uses.Reply.TheVariants.{Done}
use Rattle.juses.specs.declared.uses.Use.{Use}
use Rattle.juses.specs.declared.uses.Use.TheVariants as asked
use Rattle.juses.specs.declared.uses.Why.{Why}
use Rattle.juses.specs.declared.uses.Work.{Work}
use Rattle.juses.proofs.Phases.{same_self, same_or_not, differ}

abbrev Uses_of : Type 0
Uses_of = Program Use Reply (Unit {0})

trace-append : (x : List ℕ) (xs ys : List Told) → trace x (xs ++ ys) ≡ trace x xs ++ trace x ys
trace-append x [] ys = refl
trace-append x (Replied e ∷ xs) ys = by (same x e.who) (trace-append x xs ys)
  where
    by : (b : Bool) → trace x (xs ++ ys) ≡ trace x xs ++ trace x ys → (if b then (e.asked, e.reply) ∷ trace x (xs ++ ys) else trace x (xs ++ ys)) ≡ (if b then (e.asked, e.reply) ∷ trace x xs else trace x xs) ++ trace x ys
    by true h = ap (λ l. (e.asked, e.reply) ∷ l) h
    by false h = h
trace-append x (Handed why t th w ∷ xs) ys = by (same x t) (trace-append x xs ys)
  where
    by : (b : Bool) → trace x (xs ++ ys) ≡ trace x xs ++ trace x ys → (if b then (asked.Begin, Done) ∷ trace x (xs ++ ys) else trace x (xs ++ ys)) ≡ (if b then (asked.Begin, Done) ∷ trace x xs else trace x xs) ++ trace x ys
    by true h = ap (λ l. (asked.Begin, Done) ∷ l) h
    by false h = h
trace-append x (NoneDue why ∷ xs) ys = trace-append x xs ys

times-append : (x : List ℕ) (xs ys : List Told) → times x (xs ++ ys) ≡ times x xs + times x ys
times-append x [] ys = omega arith
times-append x (Replied e ∷ xs) ys = times-append x xs ys
times-append x (Handed why t th w ∷ xs) ys = by (same x t) (times-append x xs ys)
  where
    by : (b : Bool) → times x (xs ++ ys) ≡ times x xs + times x ys → (if b then suc (times x (xs ++ ys)) else times x (xs ++ ys)) ≡ (if b then suc (times x xs) else times x xs) + times x ys
    by true h = omega (arith, h)
    by false h = h
times-append x (NoneDue why ∷ xs) ys = times-append x xs ys

handed_front : (x : List ℕ) (w : Work) (xs ys : List Told) → WasHanded x w xs → WasHanded x w (xs ++ ys)
handed_front x w [] ys h = absurd h
handed_front x w (Replied e ∷ xs) ys h = handed_front x w xs ys h
handed_front x w (Handed why t th v ∷ xs) ys (inl h) = inl h
handed_front x w (Handed why t th v ∷ xs) ys (inr h) = inr (handed_front x w xs ys h)
handed_front x w (NoneDue why ∷ xs) ys h = handed_front x w xs ys h

handed_back : (x : List ℕ) (w : Work) (xs ys : List Told) → WasHanded x w ys → WasHanded x w (xs ++ ys)
handed_back x w [] ys h = h
handed_back x w (Replied e ∷ xs) ys h = handed_back x w xs ys h
handed_back x w (Handed why t th v ∷ xs) ys h = inr (handed_back x w xs ys h)
handed_back x w (NoneDue why ∷ xs) ys h = handed_back x w xs ys h

leaves_on : (p q r : Uses_of) (xs ys : List (Use × Reply)) → Leaves p xs q → Leaves q ys r → Leaves p (xs ++ ys) r
leaves_on p q r [] ys h k = subst (λ z. Leaves z ys r) (sym h) k
leaves_on (Return a) q r (x ∷ xs) ys h k = absurd h
leaves_on (Ask u c) q r (x ∷ xs) ys h k = (h.0, leaves_on (c x.1) q r xs ys h.1 k)

trace_mine : (x : List ℕ) (e : Entry) (xs : List Told) → x ≡ e.who → trace x (Replied e ∷ xs) ≡ (e.asked, e.reply) ∷ trace x xs
trace_mine x e xs is = ap (λ b. if b then (e.asked, e.reply) ∷ trace x xs else trace x xs) (ap (same x) (sym is) ∙ same_self x)

trace_not : (x : List ℕ) (e : Entry) (xs : List Told) → x ≢ e.who → trace x (Replied e ∷ xs) ≡ trace x xs
trace_not x e xs n = ap (λ b. if b then (e.asked, e.reply) ∷ trace x xs else trace x xs) (differ x e.who n)

module _ (x t : List ℕ) (xs : List Told) where
  abbrev begun_trace : List (Use × Reply)
  begun_trace = if same x t then (asked.Begin, Done) ∷ trace x xs else trace x xs

  abbrev begun_times : ℕ
  begun_times = if same x t then suc (times x xs) else times x xs

  begin_mine : x ≡ t → begun_trace ≡ (asked.Begin, Done) ∷ trace x xs
  begin_mine is = ap (λ b. if b then (asked.Begin, Done) ∷ trace x xs else trace x xs) (ap (same x) (sym is) ∙ same_self x)

  begin_not : x ≢ t → begun_trace ≡ trace x xs
  begin_not n = ap (λ b. if b then (asked.Begin, Done) ∷ trace x xs else trace x xs) (differ x t n)

  times_mine : x ≡ t → begun_times ≡ suc (times x xs)
  times_mine is = ap (λ b. if b then suc (times x xs) else times x xs) (ap (same x) (sym is) ∙ same_self x)

  times_not : x ≢ t → begun_times ≡ times x xs
  times_not n = ap (λ b. if b then suc (times x xs) else times x xs) (differ x t n)

  never_handed : begun_times ≡ 0 → x ≢ t
  never_handed z is = let m = times_mine is in absurd (omega (arith, m, z))

module _ (meaning : Work → Program Wish Reply Ended) (refuses : List ℕ → Use → Halt → Type 0) (delays : Why → Halt → Type 0) where
  abbrev Done_by : {A : Type 0} → Option (List ℕ) → List ℕ → Program Wish Reply A → Doings → Result A Halt → Type 0
  Done_by owed who p es r = Does meaning refuses delays owed who p es r

  -- no entry of another activity that wasn't handed out
  others : (es : Doings) {A : Type 0} (owed : Option (List ℕ)) (who : List ℕ) (p : Program Wish Reply A) (r : Result A Halt) (x : List ℕ) → Done_by owed who p es r → x ≢ who → times x (told es) ≡ 0 → trace x (told es) ≡ []
  others NoMore owed who p r x d n z = refl
  others (Did e rest) None who (Return a) r x d n z = absurd d
  others (Did e rest) None who (Ask q k) r x d n z = trace_not x e (told rest) (λ is. n (is ∙ d.0)) ∙ others rest (started_by e.asked e.reply) who (k e.reply) r x d.2 n z
  others (Did e rest) (Some s) who p r x d n z = absurd d
  others (Ran why t th w inside end rest) owed who p r x d n z =
      let not_t : x ≢ t = never_handed x t (told inside ++ Replied end ∷ told rest) z in
      let both : times x (told inside) + times x (told rest) ≡ 0 = sym (times-append x (told inside) (Replied end ∷ told rest)) ∙ (sym (times_not x t (told inside ++ Replied end ∷ told rest) not_t) ∙ z) in
      begin_not x t (told inside ++ Replied end ∷ told rest) not_t ∙ (trace-append x (told inside) (Replied end ∷ told rest)
      ∙ ((λ i. others inside None t (meaning w) (Ok d.1.0) x d.1.1 not_t (omega (arith, both)) i ++ trace_not x end (told rest) (λ is. not_t (is ∙ d.1.2)) i)
      ∙ others rest None who p r x d.2 n (omega (arith, both))))
  others (Broke why t th w inside) owed who p (Ok a) x d n z = absurd d
  others (Broke why t th w inside) owed who p (Err halt) x (o, inl y) n z =
      let not_t : x ≢ t = never_handed x t (told inside) z in
      begin_not x t (told inside) not_t ∙ others inside None t (meaning w) (Err halt) x y not_t (sym (times_not x t (told inside) not_t) ∙ z)
  others (Broke why t th w inside) owed who p (Err halt) x (o, inr y) n z =
      let not_t : x ≢ t = never_handed x t (told inside) z in
      begin_not x t (told inside) not_t ∙ others inside None t (meaning w) (Ok y.0) x y.1 not_t (sym (times_not x t (told inside) not_t) ∙ z)
  others (Asked why rest) owed who p r x d n z = others rest None who p r x d.1 n z
  others (Delayed why) owed who p r x d n z = refl

  after_one : {A : Type 0} (f : A → Uses_of) (q : Use) (k : Reply → Uses_of) (e : Use × Reply) (xs ys : List (Use × Reply)) (r : Result A Halt) → ys ≡ e ∷ xs → e.0 ≡ q → LeavesBy f (k e.1) xs r → LeavesBy f (Ask q k) ys r
  after_one f q k e xs ys (Ok a) is by l = subst (λ z. Leaves (Ask q k) z (f a)) (sym is) (by, l)
  after_one f q k e xs ys (Err halt) is by l = (l.0, subst (λ z. Leaves (Ask q k) z l.0) (sym is) (by, l.1))

  -- the activity's own
  its_own : {A : Type 0} (es : Doings) (owed : Option (List ℕ)) (who : List ℕ) (p : Program Wish Reply A) (f : A → Uses_of) (r : Result A Halt) → Done_by owed who p es r → times who (told es) ≡ 0 → LeavesBy f (before f p) (trace who (told es)) r
  its_own NoMore None who p f (Ok a) d z = ap (before f) d
  its_own NoMore (Some s) who p f (Ok a) d z = absurd d
  its_own NoMore owed who p f (Err halt) d z = (before f p, refl)
  its_own (Did e rest) None who (Return a) f r d z = absurd d
  its_own (Did e rest) None who (Ask q k) f r d z =
      after_one f (use_of q) (λ x. before f (k x)) (e.asked, e.reply) (trace who (told rest)) (trace who (told (Did e rest))) r (trace_mine who e (told rest) (sym d.0)) d.1
      (its_own rest (started_by e.asked e.reply) who (k e.reply) f r d.2 z)
  its_own (Did e rest) (Some s) who p f r d z = absurd d
  its_own (Ran why t th w inside end rest) owed who p f r d z =
      let not_t : who ≢ t = never_handed who t (told inside ++ Replied end ∷ told rest) z in
      let both : times who (told inside) + times who (told rest) ≡ 0 = sym (times-append who (told inside) (Replied end ∷ told rest)) ∙ (sym (times_not who t (told inside ++ Replied end ∷ told rest) not_t) ∙ z) in
      let is : trace who (told (Ran why t th w inside end rest)) ≡ trace who (told rest) =
      begin_not who t (told inside ++ Replied end ∷ told rest) not_t ∙ (trace-append who (told inside) (Replied end ∷ told rest)
      ∙ (λ i. others inside None t (meaning w) (Ok d.1.0) who d.1.1 not_t (omega (arith, both)) i ++ trace_not who end (told rest) (λ is. not_t (is ∙ d.1.2)) i)) in
      subst (λ l. LeavesBy f (before f p) l r) (sym is) (its_own rest None who p f r d.2 (omega (arith, both)))
  its_own (Broke why t th w inside) owed who p f (Ok a) d z = absurd d
  its_own (Broke why t th w inside) owed who p f (Err halt) (o, inl y) z =
      let not_t : who ≢ t = never_handed who t (told inside) z in
      (before f p, subst (λ l. Leaves (before f p) l (before f p)) (sym (begin_not who t (told inside) not_t ∙ others inside None t (meaning w) (Err halt) who y not_t (sym (times_not who t (told inside) not_t) ∙ z))) refl)
  its_own (Broke why t th w inside) owed who p f (Err halt) (o, inr y) z =
      let not_t : who ≢ t = never_handed who t (told inside) z in
      (before f p, subst (λ l. Leaves (before f p) l (before f p)) (sym (begin_not who t (told inside) not_t ∙ others inside None t (meaning w) (Ok y.0) who y.1 not_t (sym (times_not who t (told inside) not_t) ∙ z))) refl)
  its_own (Asked why rest) owed who p f r d z = its_own rest None who p f r d.1 z
  its_own (Delayed why) owed who p f (Ok a) d z = absurd d
  its_own (Delayed why) owed who p f (Err halt) d z = (before f p, refl)

  -- ---- of a task that was handed out once
  abbrev Tasked_by : {A : Type 0} → List ℕ → List Told → Result A Halt → Type 0
  Tasked_by x xs r = (work : Work) × WasHanded x work xs × TaskBy meaning work (trace x xs) r

  whole_or_part : {A : Type 0} (w : Work) (xs : List (Use × Reply)) (r : Result A Halt) → Leaves (task_of (meaning w)) xs (Return tt) → TaskBy meaning w xs r
  whole_or_part w xs (Ok a) l = l
  whole_or_part w xs (Err halt) l = (Return tt, l)

  -- what is told before and after doesn't matter, if nothing of it is the task's
  from_inside : (A B : Type 0) (x : List ℕ) (xs ys : List Told) (r : Result A Halt) (o : B) → trace x ys ≡ trace x xs → ((w : Work) → WasHanded x w xs → WasHanded x w ys) → Tasked_by {A = B} x xs (Ok o) → Tasked_by x ys r
  from_inside A B x xs ys (Ok a) o is at h = (h.0, at h.0 h.1, subst (λ l. Leaves (task_of (meaning h.0)) l (Return tt)) (sym is) h.2)
  from_inside A B x xs ys (Err halt) o is at h = (h.0, at h.0 h.1, (Return tt, subst (λ l. Leaves (task_of (meaning h.0)) l (Return tt)) (sym is) h.2))

  from_rest : (A : Type 0) (x : List ℕ) (xs ys : List Told) (r : Result A Halt) → trace x ys ≡ trace x xs → ((w : Work) → WasHanded x w xs → WasHanded x w ys) → Tasked_by x xs r → Tasked_by x ys r
  from_rest A x xs ys (Ok a) is at h = (h.0, at h.0 h.1, subst (λ l. Leaves (task_of (meaning h.0)) l (Return tt)) (sym is) h.2)
  from_rest A x xs ys (Err halt) is at h = (h.0, at h.0 h.1, (h.2.0, subst (λ l. Leaves (task_of (meaning h.0)) l h.2.0) (sym is) h.2.1))

  from_halted : (A B : Type 0) (x : List ℕ) (xs ys : List Told) (halt : Halt) → trace x ys ≡ trace x xs → ((w : Work) → WasHanded x w xs → WasHanded x w ys) → Tasked_by {A = B} x xs (Err halt) → Tasked_by {A = A} x ys (Err halt)
  from_halted A B x xs ys halt is at h = (h.0, at h.0 h.1, (h.2.0, subst (λ l. Leaves (task_of (meaning h.0)) l h.2.0) (sym is) h.2.1))

  -- a task from its Begin to its End
  whole_task : (w : Work) (o : Ended) (end : Entry) (xs : List (Use × Reply)) → Leaves (before ending (meaning w)) xs (ending o) → end.asked ≡ asked.End o → Leaves (task_of (meaning w)) ((asked.Begin, Done) ∷ xs ++ (end.asked, end.reply) ∷ []) (Return tt)
  whole_task w o end xs l e = (refl, leaves_on (before ending (meaning w)) (ending o) (Return tt) xs ((end.asked, end.reply) ∷ []) l (e, refl))

  task_itself : (A : Type 0) (x t : List ℕ) (why : Why) (th : ℕ) (w : Work) (inside rest : Doings) (end : Entry) (o : Ended) (r : Result A Halt) → x ≡ t → end.who ≡ t → end.asked ≡ asked.End o → Done_by None t (meaning w) inside (Ok o)
      → times x (told inside) ≡ 0 → trace x (told rest) ≡ [] → Tasked_by x (told (Ran why t th w inside end rest)) r
  task_itself A x t why th w inside rest end o r is by ends d z none =
      let l : Leaves (before ending (meaning w)) (trace x (told inside)) (ending o) = subst (λ y. Leaves (before ending (meaning w)) (trace y (told inside)) (ending o)) (sym is) (its_own inside None t (meaning w) ending (Ok o) d (ap (λ y. times y (told inside)) (sym is) ∙ z)) in
      let all : trace x (told (Ran why t th w inside end rest)) ≡ (asked.Begin, Done) ∷ trace x (told inside) ++ (end.asked, end.reply) ∷ [] =
      begin_mine x t (told inside ++ Replied end ∷ told rest) is ∙ ap (λ m. (asked.Begin, Done) ∷ m) (trace-append x (told inside) (Replied end ∷ told rest)
      ∙ ap (λ m. trace x (told inside) ++ m) (trace_mine x end (told rest) (is ∙ sym by) ∙ ap (λ m. (end.asked, end.reply) ∷ m) none)) in
      (w, inl (is, refl), whole_or_part w (trace x (told (Ran why t th w inside end rest))) r (subst (λ m. Leaves (task_of (meaning w)) m (Return tt)) (sym all) (whole_task w o end (trace x (told inside)) l ends)))

  -- where it is none of those around, the trace of the whole is that of one of the two parts
  ran_trace : (x t : List ℕ) (why : Why) (th : ℕ) (w : Work) (inside rest : Doings) (end : Entry) → x ≢ t → end.who ≡ t → trace x (told (Ran why t th w inside end rest)) ≡ trace x (told inside) ++ trace x (told rest)
  ran_trace x t why th w inside rest end n by =
      begin_not x t (told inside ++ Replied end ∷ told rest) n ∙ (trace-append x (told inside) (Replied end ∷ told rest) ∙ ap (λ m. trace x (told inside) ++ m) (trace_not x end (told rest) (λ is. n (is ∙ by))))

  of_tasks : (es : Doings) {A : Type 0} (owed : Option (List ℕ)) (who : List ℕ) (p : Program Wish Reply A) (r : Result A Halt) (x : List ℕ) → Done_by owed who p es r → x ≢ who → times x (told es) ≡ 1 → Tasked_by x (told es) r
  of_tasks NoMore owed who p r x d n one = absurd (omega (arith, one))
  of_tasks (Did e rest) None who (Return a) r x d n one = absurd d
  of_tasks (Did e rest) {A = A} None who (Ask q k) r x d n one =
      from_rest A x (told rest) (told (Did e rest)) r (trace_not x e (told rest) (λ is. n (is ∙ d.0))) (λ w h. h) (of_tasks rest {A = A} (started_by e.asked e.reply) who (k e.reply) r x d.2 n one)
  of_tasks (Did e rest) (Some s) who p r x d n one = absurd d
  of_tasks (Ran why t th w inside end rest) {A = A} owed who p r x d n one =
      by (same_or_not x t) (times x (told inside)) refl (of_tasks inside {A = Ended} None t (meaning w) (Ok d.1.0) x d.1.1) (of_tasks rest {A = A} None who p r x d.2 n)
    where
      split : (m : ℕ) → times x (told inside) ≡ m → x ≢ t → m + times x (told rest) ≡ 1
      split m is nt = ap (λ j. j + times x (told rest)) (sym is) ∙ (sym (times-append x (told inside) (Replied end ∷ told rest)) ∙ (sym (times_not x t (told inside ++ Replied end ∷ told rest) nt) ∙ one))

      by : (x ≡ t) ⊎ ((x ≢ t) × (same x t ≡ false)) → (m : ℕ) → times x (told inside) ≡ m → (x ≢ t → times x (told inside) ≡ 1 → Tasked_by {A = Ended} x (told inside) (Ok d.1.0)) → (times x (told rest) ≡ 1 → Tasked_by x (told rest) r) → Tasked_by x (told (Ran why t th w inside end rest)) r
      by (inl is) m im f g =
          let two : times x (told inside ++ Replied end ∷ told rest) ≡ 0 = (let y = times_mine x t (told inside ++ Replied end ∷ told rest) is in omega (arith, y, one)) in
          let both : times x (told inside) + times x (told rest) ≡ 0 = sym (times-append x (told inside) (Replied end ∷ told rest)) ∙ two in
          task_itself A x t why th w inside rest end d.1.0 r is d.1.2 d.1.3 d.1.1 (omega (arith, both)) (others rest None who p r x d.2 n (omega (arith, both)))
      by (inr nt) zero im f g =
          let later : times x (told rest) ≡ 1 = (let y = split zero im nt.0 in omega (arith, y)) in
          from_rest A x (told rest) (told (Ran why t th w inside end rest)) r (ran_trace x t why th w inside rest end nt.0 d.1.2 ∙ ap (λ m. m ++ trace x (told rest)) (others inside None t (meaning w) (Ok d.1.0) x d.1.1 nt.0 im))
          (λ v h. inr (handed_back x v (told inside) (Replied end ∷ told rest) h)) (g later)
      by (inr nt) (suc m) im f g =
          let y = split (suc m) im nt.0 in
          let here : times x (told inside) ≡ 1 = omega (arith, y, im) in
          let none : times x (told rest) ≡ 0 = omega (arith, y) in
          from_inside A Ended x (told inside) (told (Ran why t th w inside end rest)) r d.1.0 (ran_trace x t why th w inside rest end nt.0 d.1.2 ∙ (ap (λ m. trace x (told inside) ++ m) (others rest None who p r x d.2 n none) ∙ append-nil (trace x (told inside))))
          (λ v h. inr (handed_front x v (told inside) (Replied end ∷ told rest) h)) (f nt.0 here)
  of_tasks (Broke why t th w inside) owed who p (Ok a) x d n one = absurd d
  of_tasks (Broke why t th w inside) {A = A} owed who p (Err halt) x (o, inl y) n one = by (same_or_not x t) (of_tasks inside {A = Ended} None t (meaning w) (Err halt) x y)
    where
      by : (x ≡ t) ⊎ ((x ≢ t) × (same x t ≡ false)) → (x ≢ t → times x (told inside) ≡ 1 → Tasked_by {A = Ended} x (told inside) (Err halt)) → Tasked_by {A = A} x (told (Broke why t th w inside)) (Err halt)
      by (inl is) f =
          let none : times x (told inside) ≡ 0 = (let z = times_mine x t (told inside) is in omega (arith, z, one)) in
          let l = its_own inside None t (meaning w) ending (Err halt) y (ap (λ z. times z (told inside)) (sym is) ∙ none) in
          let l' : Leaves (before ending (meaning w)) (trace x (told inside)) l.0 = subst (λ z. Leaves (before ending (meaning w)) (trace z (told inside)) l.0) (sym is) l.1 in
          (w, inl (is, refl), (l.0, subst (λ m. Leaves (task_of (meaning w)) m l.0) (sym (begin_mine x t (told inside) is)) (refl, l')))
      by (inr nt) f = from_halted A Ended x (told inside) (told (Broke why t th w inside)) halt (begin_not x t (told inside) nt.0) (λ v h. inr h) (f nt.0 (sym (times_not x t (told inside) nt.0) ∙ one))
  of_tasks (Broke why t th w inside) {A = A} owed who p (Err halt) x (o, inr y) n one = by (same_or_not x t) (of_tasks inside {A = Ended} None t (meaning w) (Ok y.0) x y.1)
    where
      by : (x ≡ t) ⊎ ((x ≢ t) × (same x t ≡ false)) → (x ≢ t → times x (told inside) ≡ 1 → Tasked_by {A = Ended} x (told inside) (Ok y.0)) → Tasked_by {A = A} x (told (Broke why t th w inside)) (Err halt)
      by (inl is) f =
          let none : times x (told inside) ≡ 0 = (let z = times_mine x t (told inside) is in omega (arith, z, one)) in
          let l : Leaves (before ending (meaning w)) (trace t (told inside)) (ending y.0) = its_own inside None t (meaning w) ending (Ok y.0) y.1 (ap (λ z. times z (told inside)) (sym is) ∙ none) in
          let l' : Leaves (before ending (meaning w)) (trace x (told inside)) (ending y.0) = subst (λ z. Leaves (before ending (meaning w)) (trace z (told inside)) (ending y.0)) (sym is) l in
          (w, inl (is, refl), (ending y.0, subst (λ m. Leaves (task_of (meaning w)) m (ending y.0)) (sym (begin_mine x t (told inside) is)) (refl, l')))
      by (inr nt) f = from_inside A Ended x (told inside) (told (Broke why t th w inside)) (Err halt) y.0 (begin_not x t (told inside) nt.0) (λ v h. inr h) (f nt.0 (sym (times_not x t (told inside) nt.0) ∙ one))
  of_tasks (Asked why rest) {A = A} owed who p r x d n one = from_rest A x (told rest) (told (Asked why rest)) r refl (λ w h. h) (of_tasks rest {A = A} None who p r x d.1 n one)
  of_tasks (Delayed why) owed who p r x d n one = absurd (omega (arith, one))

  pub by_activity : {A : Type 0} (es : Doings) (who : List ℕ) (p : Program Wish Reply A) (f : A → Uses_of) (r : Result A Halt) → Done_by None who p es r → ByActivity meaning who f p (told es) r
  by_activity es who p f r d = record { its_own = its_own es None who p f r d; of_tasks = λ x n one. of_tasks es None who p r x d n one; of_others = λ x n z. others es None who p r x d n z }
