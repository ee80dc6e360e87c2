-- How what calls did by programs is put together, with the tasks that they ran.
use Rattle.std.proofs.Common.{◌≡◌, inl, inr, refl, sym, ap, subst, ◌∙◌, ℕ, List, [], ◌∷◌, ◌++◌, Option, Some, None, Result, Ok, Err, append_assoc, append-nil}
use Rattle.juses.specs.Doings.{Doings, NoMore, Did, Ran, Broke, Asked, Delayed, told, MayAsk, HaltsAt, HaltsAtEnd, IsDelayed, Does, Runs, RunsOwing, RunsWhole, Tasked, no_use, closed_at, stuck_by, passing}
use Rattle.juses.specs.Entries.{entry, started_by}
use Rattle.juses.specs.Program.{Program, Return, Ask, ◌>>=◌}
use Rattle.juses.specs.Told.{Told, Replied, Handed, NoneDue, Passed, IsDue, nothing, replied, asked_for, refusing, closed_with, closing_at, ◌followed_by◌}
use Rattle.juses.specs.Wishes.{Wish, use_of}
use Rattle.juses.specs.declared.uses.Cause.{Cause}
use Rattle.juses.specs.declared.uses.Cause.TheVariants as cause
use Rattle.juses.specs.declared.uses.Ended.{Ended}
use Rattle.juses.specs.declared.uses.Halt.{Halt}
use Rattle.juses.specs.declared.uses.Halt.TheVariants.{Wait, NoMemory, Closed}
use Rattle.juses.specs.declared.uses.Reply.{Reply}
use Rattle.juses.specs.declared.uses.Use.{Use}
use Rattle.juses.specs.declared.uses.Use.TheVariants.{End}
use Rattle.juses.specs.declared.uses.Why.{Why}
use Rattle.juses.specs.declared.uses.Work.{Work}

-- one after the other
abbrev pub both : Doings → Doings → Doings
both NoMore more = more
both (Did e rest) more = Did e (both rest more)
both (Ran why task thread work inside end rest) more = Ran why task thread work inside end (both rest more)
both (Broke why task thread work inside) more = Broke why task thread work inside
both (Asked why rest) more = Asked why (both rest more)
both (Delayed why) more = Delayed why

-- want of memory closes nothing by itself
pub closed_short : (es : Doings) → closed_at es NoMemory ≡ []
closed_short NoMore = refl
closed_short (Did e rest) = closed_short rest
closed_short (Ran why task thread work inside end rest) = closed_short rest
closed_short (Broke why task thread work inside) = closed_short inside
closed_short (Asked why rest) = closed_short rest
closed_short (Delayed why) = refl

module _ (meaning : Work → Program Wish Reply Ended) where
  module _ (refuses refuses' : List ℕ → Use → Halt → Type 0) (delays delays' : Why → Halt → Type 0) where
    -- what was done up to an answer doesn't speak of refusals
    pub whichever : {A : Type 0} (es : Doings) (owed : Option (List ℕ)) (who : List ℕ) (p : Program Wish Reply A) (a : A)
        → Does meaning refuses delays owed who p es (Ok a) → Does meaning refuses' delays' owed who p es (Ok a)
    whichever NoMore None who p a h = h
    whichever NoMore (Some t) who p a h = h
    whichever (Did e rest) None who (Return b) a h = h
    whichever (Did e rest) None who (Ask q k) a h = (h.0, h.1, whichever rest (started_by e.asked e.reply) who (k e.reply) a h.2)
    whichever (Did e rest) (Some t) who p a h = h
    whichever (Ran why task thread work inside end rest) owed who p a h =
        (h.0, (h.1.0, whichever inside None task (meaning work) h.1.0 h.1.1, h.1.2, h.1.3), whichever rest None who p a h.2)
    whichever (Broke why task thread work inside) owed who p a h = h
    whichever (Asked why rest) owed who p a h = (h.0, whichever rest None who p a h.1)
    whichever (Delayed why) owed who p a h = h

  module _ (refuses refuses' : List ℕ → Use → Halt → Type 0) (delays delays' : Why → Halt → Type 0) where
    -- nor what was done up to want of memory
    pub whichever_short : {A : Type 0} (es : Doings) (owed : Option (List ℕ)) (who : List ℕ) (p : Program Wish Reply A)
        → Does meaning refuses delays owed who p es (Err NoMemory) → Does meaning refuses' delays' owed who p es (Err NoMemory)
    whichever_short NoMore None who p h = tt
    whichever_short NoMore (Some t) who p h = h
    whichever_short (Did e rest) None who (Return b) h = h
    whichever_short (Did e rest) None who (Ask q k) h = (h.0, h.1, whichever_short rest (started_by e.asked e.reply) who (k e.reply) h.2)
    whichever_short (Did e rest) (Some t) who p h = h
    whichever_short (Ran why task thread work inside end rest) owed who p h =
        (h.0, (h.1.0, whichever refuses refuses' delays delays' inside None task (meaning work) h.1.0 h.1.1, h.1.2, h.1.3), whichever_short rest None who p h.2)
    whichever_short (Broke why task thread work inside) owed who p (is, inl y) = (is, inl (whichever_short inside None task (meaning work) y))
    whichever_short (Broke why task thread work inside) owed who p (is, inr y) = (is, inr (y.0, whichever refuses refuses' delays delays' inside None task (meaning work) y.0 y.1, tt))
    whichever_short (Asked why rest) owed who p h = (h.0, whichever_short rest None who p h.1)
    whichever_short (Delayed why) owed who p h = (h.0, tt)

  module _ (refuses : List ℕ → Use → Halt → Type 0) (delays : Why → Halt → Type 0) where
    abbrev By : {A : Type 0} → Option (List ℕ) → List ℕ → Program Wish Reply A → Doings → Result A Halt → Type 0
    By owed who p es r = Does meaning refuses delays owed who p es r

    pub does_both : {A B : Type 0} (f : A → Program Wish Reply B) (owed : Option (List ℕ)) (who : List ℕ) (p : Program Wish Reply A) (es fs : Doings) (a : A) (r : Result B Halt)
        → By owed who p es (Ok a) → By None who (f a) fs r → By owed who (p >>= f) (both es fs) r
    does_both f None who p NoMore fs a r h k = subst (λ x. By None who (x >>= f) fs r) (sym h) k
    does_both f (Some t) who p NoMore fs a r h k = absurd h
    does_both f None who (Return b) (Did e rest) fs a r h k = absurd h
    does_both f None who (Ask q c) (Did e rest) fs a r h k = (h.0, h.1, does_both f (started_by e.asked e.reply) who (c e.reply) rest fs a r h.2 k)
    does_both f (Some t) who p (Did e rest) fs a r h k = absurd h
    does_both f owed who p (Ran why task thread work inside end rest) fs a r h k = (h.0, h.1, does_both f None who p rest fs a r h.2 k)
    does_both f owed who p (Broke why task thread work inside) fs a r h k = absurd h
    does_both f owed who p (Asked why rest) fs a r h k = (h.0, does_both f None who p rest fs a r h.1 k)
    does_both f owed who p (Delayed why) fs a r h k = absurd h

    halts_at : {A B : Type 0} (f : A → Program Wish Reply B) (halt : Halt) (who : List ℕ) (p : Program Wish Reply A) → HaltsAt meaning refuses delays halt who p → HaltsAt meaning refuses delays halt who (p >>= f)
    halts_at f Wait who (Return a) h = absurd h
    halts_at f Wait who (Ask q k) h = h
    halts_at f NoMemory who p h = tt
    halts_at f (Closed cause) who (Return a) h = absurd h
    halts_at f (Closed cause) who (Ask q k) h = h

    pub does_halt : {A B : Type 0} (f : A → Program Wish Reply B) (owed : Option (List ℕ)) (who : List ℕ) (p : Program Wish Reply A) (es : Doings) (halt : Halt)
        → By owed who p es (Err halt) → By owed who (p >>= f) es (Err halt)
    does_halt f None who p NoMore halt h = halts_at f halt who p h
    does_halt f (Some t) who p NoMore halt h = h
    does_halt f None who (Return b) (Did e rest) halt h = absurd h
    does_halt f None who (Ask q c) (Did e rest) halt h = (h.0, h.1, does_halt f (started_by e.asked e.reply) who (c e.reply) rest halt h.2)
    does_halt f (Some t) who p (Did e rest) halt h = absurd h
    does_halt f owed who p (Ran why task thread work inside end rest) halt h = (h.0, h.1, does_halt f None who p rest halt h.2)
    does_halt f owed who p (Broke why task thread work inside) halt h = h
    does_halt f owed who p (Asked why rest) halt h = (h.0, does_halt f None who p rest halt h.1)
    does_halt f owed who p (Delayed why) halt h = h

    pub told_both : {A : Type 0} (owed : Option (List ℕ)) (who : List ℕ) (p : Program Wish Reply A) (es fs : Doings) (a : A) → By owed who p es (Ok a) → told (both es fs) ≡ told es ++ told fs
    told_both owed who p NoMore fs a h = refl
    told_both None who (Return b) (Did e rest) fs a h = absurd h
    told_both None who (Ask q k) (Did e rest) fs a h = ap (λ l. Replied e ∷ l) (told_both (started_by e.asked e.reply) who (k e.reply) rest fs a h.2)
    told_both (Some t) who p (Did e rest) fs a h = absurd h
    told_both owed who p (Ran why task thread work inside end rest) fs a h =
        ap (λ l. Handed why task thread work ∷ told inside ++ Replied end ∷ l) (told_both None who p rest fs a h.2)
        ∙ ap (λ l. Handed why task thread work ∷ l) (sym (append_assoc (told inside) (Replied end ∷ told rest) (told fs)))
    told_both owed who p (Broke why task thread work inside) fs a h = absurd h
    told_both owed who p (Asked why rest) fs a h = ap (λ l. NoneDue why ∷ l) (told_both None who p rest fs a h.1)
    told_both owed who p (Delayed why) fs a h = absurd h

    -- what the second halts with closes
    closed_both : {A : Type 0} (owed : Option (List ℕ)) (who : List ℕ) (p : Program Wish Reply A) (es fs : Doings) (a : A) (halt : Halt) → By owed who p es (Ok a) → closed_at (both es fs) halt ≡ closed_at fs halt
    closed_both owed who p NoMore fs a halt h = refl
    closed_both None who (Return b) (Did e rest) fs a halt h = absurd h
    closed_both None who (Ask q k) (Did e rest) fs a halt h = closed_both (started_by e.asked e.reply) who (k e.reply) rest fs a halt h.2
    closed_both (Some t) who p (Did e rest) fs a halt h = absurd h
    closed_both owed who p (Ran why task thread work inside end rest) fs a halt h = closed_both None who p rest fs a halt h.2
    closed_both owed who p (Broke why task thread work inside) fs a halt h = absurd h
    closed_both owed who p (Asked why rest) fs a halt h = closed_both None who p rest fs a halt h.1
    closed_both owed who p (Delayed why) fs a halt h = absurd h

    pub stuck_both : {A B : Type 0} (owed : Option (List ℕ)) (who : List ℕ) (p : Program Wish Reply A) (es fs : Doings) (a : A) (r : Result B Halt) → By owed who p es (Ok a) → stuck_by (both es fs) r ≡ stuck_by fs r
    stuck_both owed who p es fs a (Ok b) h = refl
    stuck_both owed who p es fs a (Err halt) h = closed_both owed who p es fs a halt h

    -- after an answer a halt is that of the next use
    pub closed_after : {A : Type 0} (owed : Option (List ℕ)) (who : List ℕ) (p : Program Wish Reply A) (es : Doings) (a : A) (halt : Halt) → By owed who p es (Ok a) → closed_at es halt ≡ closing_at halt
    closed_after owed who p NoMore a halt h = refl
    closed_after None who (Return b) (Did e rest) a halt h = absurd h
    closed_after None who (Ask q k) (Did e rest) a halt h = closed_after (started_by e.asked e.reply) who (k e.reply) rest a halt h.2
    closed_after (Some t) who p (Did e rest) a halt h = absurd h
    closed_after owed who p (Ran why task thread work inside end rest) a halt h = closed_after None who p rest a halt h.2
    closed_after owed who p (Broke why task thread work inside) a halt h = absurd h
    closed_after owed who p (Asked why rest) a halt h = closed_after None who p rest a halt h.1
    closed_after owed who p (Delayed why) a halt h = absurd h

    -- what was fetched before an answer without a question
    pub does_returned : {A : Type 0} (a : A) (owed : Option (List ℕ)) (who : List ℕ) (es : Doings) → By owed who no_use es (Ok tt) → By owed who (Return a) es (Ok a)
    does_returned a None who NoMore h = refl
    does_returned a (Some t) who NoMore h = h
    does_returned a None who (Did e rest) h = h
    does_returned a (Some t) who (Did e rest) h = h
    does_returned a owed who (Ran why task thread work inside end rest) h = (h.0, h.1, does_returned a None who rest h.2)
    does_returned a owed who (Broke why task thread work inside) h = h
    does_returned a owed who (Asked why rest) h = (h.0, does_returned a None who rest h.1)
    does_returned a owed who (Delayed why) h = h

    does_halted : {A : Type 0} (a : A) (halt : Halt) (owed : Option (List ℕ)) (who : List ℕ) (es : Doings) → By owed who no_use es (Err halt) → By owed who (Return a) es (Err halt)
    does_halted a Wait None who NoMore h = h
    does_halted a NoMemory None who NoMore h = h
    does_halted a (Closed cause) None who NoMore h = h
    does_halted a halt (Some t) who NoMore h = h
    does_halted a halt None who (Did e rest) h = h
    does_halted a halt (Some t) who (Did e rest) h = h
    does_halted a halt owed who (Ran why task thread work inside end rest) h = (h.0, h.1, does_halted a halt None who rest h.2)
    does_halted a halt owed who (Broke why task thread work inside) h = h
    does_halted a halt owed who (Asked why rest) h = (h.0, does_halted a halt None who rest h.1)
    does_halted a halt owed who (Delayed why) h = h

    refused_at : {A : Type 0} (halt : Halt) (who : List ℕ) (q : Wish) (k : Reply → Program Wish Reply A) → refuses who (use_of q) halt → HaltsAt meaning refuses delays halt who (Ask q k)
    refused_at Wait who q k h = h
    refused_at NoMemory who q k h = tt
    refused_at (Closed cause) who q k h = h

    end_refused : (halt : Halt) (task : List ℕ) (o : Ended) → refuses task (End o) halt → HaltsAtEnd meaning refuses delays halt task o
    end_refused Wait task o h = h
    end_refused NoMemory task o h = tt
    end_refused (Closed cause) task o h = h

    delayed_at : (halt : Halt) (why : Why) → delays why halt → IsDelayed meaning refuses delays halt why
    delayed_at Wait why h = h
    delayed_at NoMemory why h = tt
    delayed_at (Closed cause) why h = h

-- The relations of some `Uses`, and the laws that are needed here.
pub record Relations (S : Type 0) : Type 1 where
  pub leads : S → Passed → S → Type 0
  pub refuses : S → List ℕ → Use → Halt → Type 0
  pub delays : S → Why → Halt → Type 0
  pub stays : (s : S) → leads s nothing s
  pub joins : (s t u : S) (p q : Passed) → leads s p t → leads t q u → leads s (p followed_by q) u

module _ {S : Type 0} (uses : Relations S) (meaning : Work → Program Wish Reply Ended) (who : List ℕ) where
  abbrev Runs_so : {A : Type 0} → S → S → Program Wish Reply A → Result A Halt → Type 0
  Runs_so s t p r = Runs uses.leads uses.refuses uses.delays meaning who s t p r

  abbrev Owing : {A : Type 0} → Option (List ℕ) → S → S → Program Wish Reply A → Result A Halt → Type 0
  Owing owed s t p r = RunsOwing uses.leads uses.refuses uses.delays meaning owed who s t p r

  abbrev Task_of : List ℕ → S → S → Work → Result (Unit {0}) Halt → Type 0
  Task_of task s t work r = Tasked uses.leads uses.refuses uses.delays meaning task s t work r

  -- the same passing, by its parts
  so_passed : (s u : S) (xs ys : List Told) (cs ds : List Cause) → xs ≡ ys → cs ≡ ds → uses.leads s (record { told = xs; handed = []; closed = cs }) u → uses.leads s (record { told = ys; handed = []; closed = ds }) u
  so_passed s u xs ys cs ds one other l =
      let P : List Told → List Cause → Type 0 = λ x c. uses.leads s (record { told = x; handed = []; closed = c }) u in
      subst (P ys) other (subst (λ x. P x cs) one l)

  -- after an answer the program goes on
  pub goes_on : {A B : Type 0} (s t u : S) (p : Program Wish Reply A) (f : A → Program Wish Reply B) (a : A) (r : Result B Halt)
      → Runs_so s t p (Ok a) → Runs_so t u (f a) r → Runs_so s u (p >>= f) r
  goes_on s t u p f a r (es, l, h) (fs, m, k) = (
    both es fs,
    so_passed s u (told es ++ told fs) (told (both es fs)) (stuck_by fs r) (stuck_by (both es fs) r) (sym (told_both meaning (uses.refuses t) (uses.delays t) None who p es fs a h))
        (sym (stuck_both meaning (uses.refuses t) (uses.delays t) None who p es fs a r h)) (uses.joins s t u (passing es []) (passing fs (stuck_by fs r)) l m),
    does_both meaning (uses.refuses u) (uses.delays u) f None who p es fs a r (whichever meaning (uses.refuses t) (uses.refuses u) (uses.delays t) (uses.delays u) es None who p a h) k,
  )

  -- after a halt it doesn't
  pub halts : {A B : Type 0} (s t : S) (p : Program Wish Reply A) (f : A → Program Wish Reply B) (halt : Halt)
      → Runs_so s t p (Err halt) → Runs_so s t (p >>= f) (Err halt)
  halts s t p f halt (es, l, h) = (es, l, does_halt meaning (uses.refuses t) (uses.delays t) f None who p es halt h)

  -- an answer without a use
  pub returns : {A : Type 0} (s : S) (a : A) → Runs_so s s (Return a) (Ok a)
  returns s a = (NoMore, uses.stays s, refl)

  -- there was no memory before the first use
  pub is_short : {A : Type 0} (s : S) (p : Program Wish Reply A) → Runs_so s s p (Err NoMemory)
  is_short s p = (NoMore, uses.stays s, tt)

  -- a use that starts no task
  pub asked_once : (s t : S) (thread : ℕ) (q : Wish) (r : Reply) → uses.leads s (replied (entry who thread (use_of q) r)) t → started_by (use_of q) r ≡ None → Runs_so s t (Ask q Return) (Ok r)
  asked_once s t thread q r l none =
      let P : Option (List ℕ) → Type 0 = λ owed. Does meaning (uses.refuses t) (uses.delays t) owed who (Return r) NoMore (Ok r) in
      let last : P None = refl in
      (Did (entry who thread (use_of q) r) NoMore, l, (refl, refl, subst P (sym none) last))

  pub not_asked : (s t : S) (q : Wish) (halt : Halt) → uses.leads s (refusing halt) t → uses.refuses t who (use_of q) halt → Runs_so s t (Ask q Return) (Err halt)
  not_asked s t q halt l said = (NoMore, l, refused_at meaning (uses.refuses t) (uses.delays t) halt who q Return said)

  -- a use that starts a task, which is then fetched
  pub started_fetched : (s t u : S) (thread : ℕ) (q : Wish) (task : List ℕ) (r : Reply) → uses.leads s (replied (entry who thread (use_of q) r)) t → started_by (use_of q) r ≡ Some task
      → Owing (Some task) t u no_use (Ok tt) → Runs_so s u (Ask q Return) (Ok r)
  started_fetched s t u thread q task r l is (es, m, h) =
      let P : Option (List ℕ) → Type 0 = λ owed. Does meaning (uses.refuses u) (uses.delays u) owed who (Return r) es (Ok r) in
      let e = entry who thread (use_of q) r in
      (Did e es, uses.joins s t u (replied e) (passing es []) l m, (refl, refl, subst P (sym is) (does_returned meaning (uses.refuses u) (uses.delays u) r (Some task) who es h)))

  pub started_halted : (s t u : S) (thread : ℕ) (q : Wish) (task : List ℕ) (r : Reply) (halt : Halt) → uses.leads s (replied (entry who thread (use_of q) r)) t → started_by (use_of q) r ≡ Some task
      → Owing (Some task) t u no_use (Err halt) → Runs_so s u (Ask q Return) (Err halt)
  started_halted s t u thread q task r halt l is (es, m, h) =
      let P : Option (List ℕ) → Type 0 = λ owed. Does meaning (uses.refuses u) (uses.delays u) owed who (Return r) es (Err halt) in
      let e = entry who thread (use_of q) r in
      (Did e es, uses.joins s t u (replied e) (passing es (closed_at es halt)) l m, (refl, refl, subst P (sym is) (does_halted meaning (uses.refuses u) (uses.delays u) r halt (Some task) who es h)))

  -- a task that is asked for
  pub none_due : (s t : S) (thread : ℕ) (owed : Option (List ℕ)) (why : Why) → uses.leads s (asked_for thread why None) t → MayAsk owed who why → Owing owed s t no_use (Ok tt)
  none_due s t thread owed why l may = (Asked why NoMore, l, (may, refl))

  pub due_halted : (s t : S) (owed : Option (List ℕ)) (why : Why) (halt : Halt) → uses.leads s nothing t → MayAsk owed who why → uses.delays t why halt → Owing owed s t no_use (Err halt)
  due_halted s t owed why halt l may d = (Delayed why, l, (may, delayed_at meaning (uses.refuses t) (uses.delays t) halt why d))

  pub task_ran : (s t u : S) (owed : Option (List ℕ)) (why : Why) (task : List ℕ) (thread : ℕ) (work : Work) → uses.leads s (asked_for thread why (Some (task, work))) t → MayAsk owed who why → IsDue why task
      → Task_of task t u work (Ok tt) → Owing owed s u no_use (Ok tt)
  task_ran s t u owed why task thread work l may due (es, end, outcome, m, h, by, asked) = (
    Ran why task thread work es end NoMore,
    uses.joins s t u (asked_for thread why (Some (task, work))) (record { told = told es ++ Replied end ∷ []; handed = []; closed = [] }) l m,
    ((may, due), (outcome, h, by, asked), refl),
  )

  pub task_broke : (s t u : S) (owed : Option (List ℕ)) (why : Why) (task : List ℕ) (thread : ℕ) (work : Work) (halt : Halt) → uses.leads s (asked_for thread why (Some (task, work))) t → MayAsk owed who why → IsDue why task
      → Task_of task t u work (Err halt) → Owing owed s u no_use (Err halt)
  task_broke s t u owed why task thread work halt l may due (es, m, h) =
      (Broke why task thread work es, uses.joins s t u (asked_for thread why (Some (task, work))) (passing es (closed_at es halt)) l m, ((may, due), h))

  -- a task's own work and its End: `who` is the task
  pub task_ended : (s t u : S) (thread : ℕ) (work : Work) (outcome : Ended) (r : Reply) → Runs_so s t (meaning work) (Ok outcome) → uses.leads t (replied (entry who thread (End outcome) r)) u → Task_of who s u work (Ok tt)
  task_ended s t u thread work outcome r (es, l, h) m =
      let e = entry who thread (End outcome) r in
      (es, e, outcome, uses.joins s t u (passing es []) (replied e) l m, whichever meaning (uses.refuses t) (uses.refuses u) (uses.delays t) (uses.delays u) es None who (meaning work) outcome h, refl, refl)

  pub task_not_ended : (s t u : S) (work : Work) (outcome : Ended) (halt : Halt) → Runs_so s t (meaning work) (Ok outcome) → uses.leads t (refusing halt) u → uses.refuses u who (End outcome) halt → Task_of who s u work (Err halt)
  task_not_ended s t u work outcome halt (es, l, h) m said = (
    es,
    so_passed s u (told es ++ []) (told es) (closing_at halt) (closed_at es halt) (append-nil (told es)) (sym (closed_after meaning (uses.refuses t) (uses.delays t) None who (meaning work) es outcome halt h)) (uses.joins s t u (passing es []) (refusing halt) l m),
    inr (outcome, whichever meaning (uses.refuses t) (uses.refuses u) (uses.delays t) (uses.delays u) es None who (meaning work) outcome h, end_refused meaning (uses.refuses u) (uses.delays u) halt who outcome said),
  )

  pub task_halted : (s t : S) (work : Work) (halt : Halt) → Runs_so s t (meaning work) (Err halt) → Task_of who s t work (Err halt)
  task_halted s t work halt (es, l, h) = (es, l, inl h)

  -- a task is fetched, and then a use is made
  pub fetched_asked : {A : Type 0} (s t u : S) (p : Program Wish Reply A) (r : Result A Halt) → Runs_so s t no_use (Ok tt) → Runs_so t u p r → Runs_so s u p r
  fetched_asked s t u p r h k = goes_on s t u no_use (λ done. p) tt r h k

  pub fetch_halted : {A : Type 0} (s t : S) (p : Program Wish Reply A) (halt : Halt) → Runs_so s t no_use (Err halt) → Runs_so s t p (Err halt)
  fetch_halted s t p halt h = halts s t no_use (λ done. p) halt h

  -- a closing behind what was done up to want of memory
  pub closes : {A : Type 0} (s t u : S) (p : Program Wish Reply A) → Runs_so s t p (Err NoMemory) → uses.leads t (closed_with cause.NoMemory) u → RunsWhole uses.leads uses.refuses uses.delays meaning who s u p (Err NoMemory)
  closes s t u p (es, l, h) m = (
    es,
    so_passed s u (told es ++ []) (told es) (closed_at es NoMemory ++ cause.NoMemory ∷ []) (cause.NoMemory ∷ []) (append-nil (told es)) (ap (λ cs. cs ++ cause.NoMemory ∷ []) (closed_short es)) (uses.joins s t u (passing es (closed_at es NoMemory)) (closed_with cause.NoMemory) l m),
    whichever_short meaning (uses.refuses t) (uses.refuses u) (uses.delays t) (uses.delays u) es None who p h,
  )
