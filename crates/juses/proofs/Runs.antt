-- Histories of main alone: what was done in order is legal and faithful, and where the script ended it is the one-thread run.
use Rattle.std.proofs.Common.{◌≡◌, refl, sym, ap, subst, ◌∙◌, ◌⊎◌, inl, inr, ℕ, List, [], ◌∷◌, ◌++◌, if◌then◌else◌, Option, Some, None, Result, Ok, Err, ◌≢◌, append_assoc, append-nil}
use Rattle.juses.specs.Program.{Program, Return, Ask, next, main_of}
use Rattle.juses.specs.Keys.{same}
use Rattle.juses.specs.Desk.{State, first, reply, moved, bytes_of}
use Rattle.juses.specs.Entries.{entry}
use Rattle.juses.specs.Events.{Events, NoMore, Did, told, Does, HaltsAt}
use Rattle.juses.specs.Histories.{Once, after, Fits, Legal, own, replies, prints, Asks, Faithful, Complete, OneThread, OneThreadRun, Stuck}
use Rattle.juses.specs.OldestFirst.{taken, Tells, written, onto, history}
use Rattle.juses.specs.Told.{Told, Replied, Handed, NoneDue}
use Rattle.juses.specs.Wishes.{Wish, Read, Write, Print, use_of}
use Rattle.juses.specs.declared.uses.Entry.{Entry}
use Rattle.juses.specs.declared.uses.Use.{Use}
use Rattle.juses.specs.declared.uses.Use.TheVariants.{Begin}
use Rattle.juses.specs.declared.uses.Reply.TheVariants.{Done}
use Rattle.juses.specs.declared.uses.Reply.{Reply}
use Rattle.juses.specs.declared.uses.Halt.{Halt}
use Rattle.juses.specs.declared.uses.Halt.TheVariants as halts

-- ---- in order, put on a history

fits_main : (who : List ℕ) (thread : ℕ) → who ≡ [] → thread ≡ 0 → Fits who thread
fits_main who thread main zeroth = subst (λ w. Fits w thread) (sym main) zeroth

-- each entry is main's
abbrev AllMain : List Told → Type 0
AllMain [] = Unit {0}
AllMain (Replied e ∷ xs) = (e.who ≡ []) × AllMain xs
AllMain (Handed why task thread work ∷ xs) = ⊥
AllMain (NoneDue why ∷ xs) = AllMain xs

abbrev IsMain : List Entry → Type 0
IsMain [] = Unit {0}
IsMain (e ∷ h) = (e.who ≡ []) × IsMain h

legal_onto : (workers : ℕ) (xs : List Told) (h : List Entry) → Legal workers h → Tells 0 (after workers h) xs → AllMain xs → Legal workers (onto xs h)
legal_onto workers [] h l r m = l
legal_onto workers (Replied e ∷ xs) h l r m = legal_onto workers xs (e ∷ h) (l, fits_main e.who e.thread m.0 r.0.0, r.0.1) r.1 m.1
legal_onto workers (Handed why task thread work ∷ xs) h l r m = absurd m
legal_onto workers (NoneDue why ∷ xs) h l r m = legal_onto workers xs h l r.1 m

pub after_onto : (workers : ℕ) (xs : List Told) (h : List Entry) → after workers (onto xs h) ≡ taken (after workers h) xs
after_onto workers [] h = refl
after_onto workers (Replied e ∷ xs) h = after_onto workers xs (e ∷ h)
after_onto workers (Handed why task thread work ∷ xs) h = after_onto workers xs (entry task thread Begin Done ∷ h)
after_onto workers (NoneDue why ∷ xs) h = after_onto workers xs h

pub prints_onto : (xs : List Told) (h : List Entry) → prints (onto xs h) ≡ prints h ++ written xs
prints_onto [] h = sym (append-nil (prints h))
prints_onto (Replied e ∷ xs) h = prints_onto xs (e ∷ h) ∙ append_assoc (prints h) (bytes_of e.asked) (written xs)
prints_onto (Handed why task thread work ∷ xs) h = prints_onto xs (entry task thread Begin Done ∷ h) ∙ append_assoc (prints h) [] (written xs)
prints_onto (NoneDue why ∷ xs) h = prints_onto xs h

pub printed_after : (workers : ℕ) (h : List Entry) → (after workers h).printed ≡ prints h
printed_after workers [] = refl
printed_after workers (e ∷ h) = ap (λ l. l ++ bytes_of e.asked) (printed_after workers h)

own_main : (h : List Entry) → IsMain h → own [] h ≡ h
own_main [] m = refl
own_main (e ∷ h) m =
    ap (λ b. if b then e ∷ own [] h else own [] h) (ap (same []) m.0) ∙ ap (λ l. e ∷ l) (own_main h m.1)

-- ---- what a history once was

once_empty : (h : List Entry) → Once [] h
once_empty [] = refl
once_empty (x ∷ h) = inr (once_empty h)

newer : (p h : List Entry) → Once p h → (p ≡ h) ⊎ ((f : Entry) × Once (f ∷ p) h)
newer p [] e = inl e
newer p (x ∷ h) (inl e) = inl e
newer p (x ∷ h) (inr s) = by (newer p h s)
  where
    by : (p ≡ h) ⊎ ((f : Entry) × Once (f ∷ p) h) → (p ≡ (x ∷ h)) ⊎ ((f : Entry) × Once (f ∷ p) (x ∷ h))
    by (inl e) = inr (x, inl (ap (λ l. x ∷ l) e))
    by (inr t) = inr (t.0, inr t.1)

module _ {A : Type 0} (script : Program Wish Reply A) where
  -- the program is what is left of the script after the history
  abbrev IsLeft : Program Wish Reply A → List Entry → Type 0
  IsLeft p h = (rs : List Reply) → next (main_of script) (replies h ++ rs) ≡ next (main_of p) rs

  left_at_end : (p : Program Wish Reply A) (h : List Entry) → IsMain h → IsLeft p h → next (main_of script) (replies (own [] h)) ≡ next (main_of p) []
  left_at_end p h m l = ap (λ e. next (main_of script) (replies e)) (own_main h m) ∙ (ap (next (main_of script)) (sym (append-nil (replies h))) ∙ l [])

  asks_main : (h : List Entry) (q : Wish) (k : Reply → Program Wish Reply A) → IsMain h → IsLeft (Ask q k) h → Asks script h [] (use_of q)
  asks_main h q k m l = (main_of script, (refl, refl), left_at_end (Ask q k) h m l)

  asks_by : (h : List Entry) (who : List ℕ) (u : Use) (q : Wish) (k : Reply → Program Wish Reply A) → IsMain h → IsLeft (Ask q k) h → who ≡ [] → u ≡ use_of q → Asks script h who u
  asks_by h who u q k m l main is = subst (λ w. Asks script h w u) (sym main) (subst (Asks script h []) (sym is) (asks_main h q k m l))

  left_after : (q : Wish) (k : Reply → Program Wish Reply A) (e : Entry) (h : List Entry) → IsLeft (Ask q k) h → IsLeft (k e.reply) (e ∷ h)
  left_after q k e h l rs = ap (next (main_of script)) (append_assoc (replies h) (e.reply ∷ []) rs) ∙ l (e.reply ∷ rs)

  module _ (refuses : List ℕ → Use → Halt → Type 0) where
    all_main : (p : Program Wish Reply A) (es : Events) (r : Result A Halt) → Does refuses [] p es r → AllMain (told es)
    all_main p NoMore r d = tt
    all_main (Return a) (Did e rest) r d = absurd d
    all_main (Ask q k) (Did e rest) r d = (d.0, all_main (k e.reply) rest r d.2)

    faithful_onto : (p : Program Wish Reply A) (es : Events) (r : Result A Halt) (h : List Entry) → Faithful script h → IsMain h → IsLeft p h → Does refuses [] p es r → Faithful script (onto (told es) h)
    faithful_onto p NoMore r h f m l d = f
    faithful_onto (Return a) (Did e rest) r h f m l d = absurd d
    faithful_onto (Ask q k) (Did e rest) r h f m l d =
        faithful_onto (k e.reply) rest r (e ∷ h) (f, asks_by h e.who e.asked q k m l d.0 d.1) (d.0, m) (left_after q k e h l) d.2

    complete_onto : (p : Program Wish Reply A) (es : Events) (a : A) (h : List Entry) → IsMain h → IsLeft p h → Does refuses [] p es (Ok a) → Complete script (onto (told es) h)
    complete_onto p NoMore a h m l d = left_at_end p h m l ∙ ap (λ x. next (main_of x) []) d
    complete_onto (Return b) (Did e rest) a h m l d = absurd d
    complete_onto (Ask q k) (Did e rest) a h m l d = complete_onto (k e.reply) rest a (e ∷ h) (d.0, m) (left_after q k e h l) d.2

    -- what is refused at a halt that isn't want of memory is the next use
    refused_next : (p : Program Wish Reply A) (halt : Halt) (h : List Entry) → IsMain h → IsLeft p h → HaltsAt refuses halt [] p → halt ≢ halts.NoMemory
        → (asked : Use) × Asks script h [] asked × refuses [] asked halt
    refused_next p halts.NoMemory h m l d n = absurd (n refl)
    refused_next (Return a) halts.Wait h m l d n = absurd d
    refused_next (Ask q k) halts.Wait h m l d n = (use_of q, asks_main h q k m l, d)
    refused_next (Return a) (halts.Closed cause) h m l d n = absurd d
    refused_next (Ask q k) (halts.Closed cause) h m l d n = (use_of q, asks_main h q k m l, d)

    refused_onto : (p : Program Wish Reply A) (es : Events) (halt : Halt) (h : List Entry) → IsMain h → IsLeft p h → Does refuses [] p es (Err halt) → halt ≢ halts.NoMemory
        → (asked : Use) × Asks script (onto (told es) h) [] asked × refuses [] asked halt
    refused_onto p NoMore halt h m l d n = refused_next p halt h m l d n
    refused_onto (Return b) (Did e rest) halt h m l d n = absurd d
    refused_onto (Ask q k) (Did e rest) halt h m l d n = refused_onto (k e.reply) rest halt (e ∷ h) (d.0, m) (left_after q k e h l) d.2 n

    pub legal_history : (workers : ℕ) (es : Events) (r : Result A Halt) → Does refuses [] script es r → Tells 0 (first workers) (told es) → Legal workers (history (told es))
    legal_history workers es r d t = legal_onto workers (told es) [] tt t (all_main script es r d)

    pub faithful_history : (es : Events) (r : Result A Halt) → Does refuses [] script es r → Faithful script (history (told es))
    faithful_history es r d = faithful_onto script es r [] tt tt (λ rs. refl) d

    pub complete_history : (es : Events) (a : A) → Does refuses [] script es (Ok a) → Complete script (history (told es))
    complete_history es a d = complete_onto script es a [] tt (λ rs. refl) d

    pub refused_history : (es : Events) (halt : Halt) → Does refuses [] script es (Err halt) → halt ≢ halts.NoMemory → (asked : Use) × Asks script (history (told es)) [] asked × refuses [] asked halt
    refused_history es halt d n = refused_onto script es halt [] tt (λ rs. refl) d n

  -- ---- the one-thread run

  module _ (workers : ℕ) where
    pub one_thread : (h : List Entry) → Legal workers h → Faithful script h → OneThread script workers h
    one_thread [] l f = tt
    one_thread (e ∷ h) l f =
        let main : e.who ≡ [] = f.1.1.0 in
        let zeroth : e.thread ≡ 0 = subst (λ w. Fits w e.thread) main l.1 in (
          one_thread h l.0 f.0,
          main,
          zeroth,
          subst (λ w. Asks script h w e.asked) main f.1,
          subst (λ t. reply (after workers h) [] t e.asked ≡ Some e.reply) zeroth (subst (λ w. reply (after workers h) w e.thread e.asked ≡ Some e.reply) main l.2),
        )

    pub legal_run : (h : List Entry) → OneThread script workers h → Legal workers h
    legal_run [] o = tt
    legal_run (e ∷ h) o = (
      legal_run h o.0,
      fits_main e.who e.thread o.1 o.2,
      subst (λ w. reply (after workers h) w e.thread e.asked ≡ Some e.reply) (sym o.1) (subst (λ t. reply (after workers h) [] t e.asked ≡ Some e.reply) (sym o.2) o.4),
    )

    pub faithful_run : (h : List Entry) → OneThread script workers h → Faithful script h
    faithful_run [] o = tt
    faithful_run (e ∷ h) o = (faithful_run h o.0, subst (λ w. Asks script h w e.asked) (sym o.1) o.3)

    asks_next : (h : List Entry) (u : Use) → Asks script h [] u → next (main_of script) (replies (own [] h)) ≡ Some u
    asks_next h u a = ap (λ p. next p (replies (own [] h))) (sym a.1.1) ∙ a.2

    same_entry : (e f : Entry) (h : List Entry) → OneThread script workers (e ∷ h) → OneThread script workers (f ∷ h) → e ≡ f
    same_entry e f h o q =
        let asked : e.asked ≡ f.asked = (let one = asks_next h e.asked o.3 in let other = asks_next h f.asked q.3 in cc) in
        let replied : e.reply ≡ f.reply = (let one = subst (λ u. reply (after workers h) [] 0 u ≡ Some e.reply) asked o.4 in let other = q.4 in cc) in
        λ i. record { who = (o.1 ∙ sym q.1) i; thread = (o.2 ∙ sym q.2) i; asked = asked i; reply = replied i }

    was_one_thread : (p h : List Entry) → Once p h → OneThread script workers h → OneThread script workers p
    was_one_thread p [] e o = subst (OneThread script workers) (sym e) tt
    was_one_thread p (x ∷ h) (inl e) o = subst (OneThread script workers) (sym e) o
    was_one_thread p (x ∷ h) (inr s) o = was_one_thread p h s o.0

    pub whole_run : (h : List Entry) → Legal workers h → Faithful script h → Complete script h → OneThreadRun script workers h
    whole_run h l f c = (one_thread h l f, λ e o. let asked = asks_next h e.asked o.3 in cc)

    pub stuck_run : (h : List Entry) → OneThread script workers h → Stuck script workers h → OneThreadRun script workers h
    stuck_run h o s = (
      o,
      λ e q.
          let one = asks_next h s.0 s.1 in
          let other = asks_next h e.asked q.3 in
          let is : s.0 ≡ e.asked = cc in
          let said : reply (after workers h) [] 0 s.0 ≡ Some e.reply = ap (reply (after workers h) [] 0) is ∙ q.4 in
          let none = s.2 in
          cc,
    )

    -- where it can't go on the script has ended, or its next use has no reply
    pub complete_run : (h : List Entry) → OneThreadRun script workers h → Complete script h ⊎ Stuck script workers h
    complete_run h o = by (next (main_of script) (replies (own [] h))) refl
      where
        stands : (u : Use) → next (main_of script) (replies (own [] h)) ≡ Some u → (x : Option Reply) → reply (after workers h) [] 0 u ≡ x → Complete script h ⊎ Stuck script workers h
        stands u e None none = inr (u, (main_of script, (refl, refl), e), none)
        stands u e (Some r) said = absurd (o.1 (entry [] 0 u r) (o.0, refl, refl, (main_of script, (refl, refl), e), said))

        by : (n : Option Use) → next (main_of script) (replies (own [] h)) ≡ n → Complete script h ⊎ Stuck script workers h
        by None e = inl e
        by (Some u) e = stands u e (reply (after workers h) [] 0 u) refl

    pub once_run : (r : List Entry) → OneThreadRun script workers r → (h : List Entry) → OneThread script workers h → Once h r
    once_run r o [] p = once_empty r
    once_run r o (e ∷ h) p = by (newer h r (once_run r o h p.0))
      where
        by : (h ≡ r) ⊎ ((f : Entry) × Once (f ∷ h) r) → Once (e ∷ h) r
        by (inl same_list) = absurd (o.1 e (subst (λ l. OneThread script workers (e ∷ l)) same_list p))
        by (inr further) = subst (λ x. Once (x ∷ h) r) (sym (same_entry e further.0 h p (was_one_thread (further.0 ∷ h) r further.1 o.0))) further.1

    pub one_run : (r h : List Entry) → OneThreadRun script workers r → OneThreadRun script workers h → h ≡ r
    one_run r h o p = by (newer h r (once_run r o h p.0))
      where
        by : (h ≡ r) ⊎ ((f : Entry) × Once (f ∷ h) r) → h ≡ r
        by (inl same_list) = same_list
        by (inr further) = absurd (p.1 further.0 (was_one_thread (further.0 ∷ h) r further.1 o.0))

  pub faithful_once : (p h : List Entry) → Once p h → Faithful script h → Faithful script p
  faithful_once p [] e f = subst (Faithful script) (sym e) tt
  faithful_once p (x ∷ h) (inl e) f = subst (Faithful script) (sym e) f
  faithful_once p (x ∷ h) (inr s) f = faithful_once p h s f.0

-- nothing is refused
abbrev nothing_refused : List ℕ → Use → Halt → Type 0
nothing_refused who asked halt = ⊥

-- a use has no reply
abbrev no_reply : State → List ℕ → Use → Halt → Type 0
no_reply s who asked halt = reply s who 0 asked ≡ None

-- what a program and the desk do from a state on: all up to an answer, or up to a use without a reply
abbrev Goes : {A : Type 0} → Program Wish Reply A → State → Events → Type 0
Goes {A} p s es = ((a : A) × Does nothing_refused [] p es (Ok a)) ⊎ Does (no_reply (taken s (told es))) [] p es (Err halts.Wait)

done_from : {A : Type 0} (p : Program Wish Reply A) (s : State) → (es : Events) × Tells 0 s (told es) × Goes p s es
done_from (Return a) s = (NoMore, tt, inl (a, refl))
done_from {A} (Ask q k) s = by (reply s [] 0 (use_of q)) refl (λ r t. done_from (k r) t)
  where
    on : (r : Reply) (es : Events) → Goes (k r) (moved s (entry [] 0 (use_of q) r)) es → Goes (Ask q k) s (Did (entry [] 0 (use_of q) r) es)
    on r es (inl d) = inl (d.0, (refl, refl, d.1))
    on r es (inr d) = inr (refl, refl, d)

    by : (x : Option Reply) → reply s [] 0 (use_of q) ≡ x → ((r : Reply) (t : State) → (es : Events) × Tells 0 t (told es) × Goes (k r) t es) → (es : Events) × Tells 0 s (told es) × Goes (Ask q k) s es
    by None e call = (NoMore, tt, inr e)
    by (Some r) e call =
        let rest = call r (moved s (entry [] 0 (use_of q) r)) in
        (Did (entry [] 0 (use_of q) r) rest.0, ((refl, e), rest.1), on r rest.0 rest.2)

-- so there is a one-thread run
pub a_run : {A : Type 0} (script : Program Wish Reply A) (workers : ℕ) → (r : List Entry) × OneThreadRun script workers r
a_run {A} script workers = by (done_from script (first workers))
  where
    by : (es : Events) × Tells 0 (first workers) (told es) × Goes script (first workers) es → (r : List Entry) × OneThreadRun script workers r
    by (es, tells, inl d) = (
      history (told es),
      whole_run script workers (history (told es)) (legal_history script nothing_refused workers es (Ok d.0) d.1 tells) (faithful_history script nothing_refused es (Ok d.0) d.1) (complete_history script nothing_refused es d.0 d.1),
    )
    by (es, tells, inr d) =
        let refuses : List ℕ → Use → Halt → Type 0 = no_reply (taken (first workers) (told es)) in
        let h : List Entry = history (told es) in
        let one = one_thread script workers h (legal_history script refuses workers es (Err halts.Wait) d tells) (faithful_history script refuses es (Err halts.Wait) d) in
        let u = refused_history script refuses es halts.Wait d (λ is. cc) in
        let none : reply (after workers h) [] 0 u.0 ≡ None = ap (λ s. reply s [] 0 u.0) (after_onto workers (told es) []) ∙ u.2 in
        (h, stuck_run script workers h one (u.0, u.1, none))

pub legal_once : (workers : ℕ) (p h : List Entry) → Once p h → Legal workers h → Legal workers p
legal_once workers p [] e l = subst (Legal workers) (sym e) tt
legal_once workers p (x ∷ h) (inl e) l = subst (Legal workers) (sym e) l
legal_once workers p (x ∷ h) (inr s) l = legal_once workers p h s l.0
