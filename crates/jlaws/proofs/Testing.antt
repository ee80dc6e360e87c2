-- The test of quiet runs decides whether a run is quiet.
use Rattle.std.proofs.Common.{◌≡◌, ◌≢◌, refl, sym, ap, subst, inl, inr, ◌∙◌, ◌⊎◌, ℕ, List, [], ◌∷◌, Bool, true, false, ◌&&◌, ◌||◌, if◌then◌else◌, nat_eq, eq-eqb, Option, Some, None}
use Rattle.std.proofs.lemmas.Bool.{eqb-true}
use Rattle.std.specs.List.{list_any}
use Rattle.juses.specs.Activities.{Complete}
use Rattle.juses.specs.Desk.{depends_on}
use Rattle.juses.specs.Entries.{started_by}
use Rattle.juses.specs.Histories.{Once, after}
use Rattle.juses.specs.Keys.{Key, NameIn, NamesOf, Locales, PyxBy, MutexBy, Threads, same, same_key, is_among, changed_by}
use Rattle.juses.specs.Program.{Program}
use Rattle.juses.specs.Wishes.{Wish}
use Rattle.juses.specs.declared.uses.Ended.{Ended}
use Rattle.juses.specs.declared.uses.Entry.{Entry}
use Rattle.juses.specs.declared.uses.Use.{Use}
use Rattle.juses.specs.declared.uses.Use.TheVariants as asked
use Rattle.juses.specs.declared.uses.Reply.{Reply}
use Rattle.juses.specs.declared.uses.Reply.TheVariants as says
use Rattle.juses.specs.declared.uses.Work.{Work}
use Rattle.juses.proofs.Phases.{same_is, same_self, differ}
use Rattle.jlaws.specs.Quiet.{Starts, IsGranted, IsSilent, AreApart, Quiet}
use Rattle.jlaws.specs.Tests.{each_passes, is_granted, is_silent, leaves_alone, are_apart, apart_from, apart_after, keeps_apart, is_quiet}
use Rattle.jlaws.proofs.Stages.{decide, clash}

both : (a b : Bool) → (a && b) ≡ true → (a ≡ true) × (b ≡ true)
both true b e = (refl, e)
both false b e = cc

and_true : (a b : Bool) → a ≡ true → b ≡ true → (a && b) ≡ true
and_true a b x y = ap (λ z. z && b) x ∙ y

not_true : (b : Bool) → (b ≡ true → ⊥) → b ≡ false
not_true true n = absurd (n refl)
not_true false n = refl

-- ---- each entry

passes_at : (test : Entry → List Entry → Bool) (r : List Entry) → each_passes test r ≡ true → (e : Entry) (h : List Entry) → Once (e ∷ h) r → test e h ≡ true
passes_at test [] all e h i = cc
passes_at test (x ∷ r) all e h (inl i) =
    let is_e : e ≡ x = cc in
    let is_h : h ≡ r = cc in
    subst (λ z. test e z ≡ true) (sym is_h) (subst (λ z. test z r ≡ true) (sym is_e) (both (test x r) (each_passes test r) all).0)
passes_at test (x ∷ r) all e h (inr i) = passes_at test r (both (test x r) (each_passes test r) all).1 e h i

passes_all : (test : Entry → List Entry → Bool) (r : List Entry) → ((e : Entry) (h : List Entry) → Once (e ∷ h) r → test e h ≡ true) → each_passes test r ≡ true
passes_all test [] all = refl
passes_all test (x ∷ r) all = and_true (test x r) (each_passes test r) (all x r (inl refl)) (passes_all test r (λ e h i. all e h (inr i)))

-- ---- keys

key_is : (j k : Key) → same_key j k ≡ true → j ≡ k
key_is (NameIn p n) (NameIn q m) e = let b = both (same p q) (same n m) e in λ i. NameIn (same_is p q b.0 i) (same_is n m b.1 i)
key_is (NamesOf p) (NamesOf q) e = ap NamesOf (same_is p q e)
key_is Locales Locales e = refl
key_is (PyxBy p n) (PyxBy q m) e = let b = both (same p q) (nat_eq n m) e in λ i. PyxBy (same_is p q b.0 i) (eqb-true n m b.1 i)
key_is (MutexBy p n) (MutexBy q m) e = let b = both (same p q) (nat_eq n m) e in λ i. MutexBy (same_is p q b.0 i) (eqb-true n m b.1 i)
key_is Threads Threads e = refl
key_is j k e = cc

key_self : (k : Key) → same_key k k ≡ true
key_self (NameIn p n) = and_true (same p p) (same n n) (same_self p) (same_self n)
key_self (NamesOf p) = same_self p
key_self Locales = refl
key_self (PyxBy p n) = and_true (same p p) (nat_eq n n) (same_self p) (eq-eqb n n refl)
key_self (MutexBy p n) = and_true (same p p) (nat_eq n n) (same_self p) (eq-eqb n n refl)
key_self Threads = refl

or_true : (a b : Bool) → (a || b) ≡ true → (a ≡ true) ⊎ (b ≡ true)
or_true true b e = inl refl
or_true false b e = inr e

or_left : (a b : Bool) → a ≡ true → (a || b) ≡ true
or_left a b e = ap (λ z. z || b) e

or_right : (a b : Bool) → b ≡ true → (a || b) ≡ true
or_right true b e = refl
or_right false b e = e

-- some key of the list passes, where one that is among them does
any_among : (p : Key → Bool) (ks : List Key) (k : Key) → is_among ks k ≡ true → p k ≡ true → list_any p ks ≡ true
any_among p [] k m e = cc
any_among p (j ∷ ks) k m e = on (or_true (same_key j k) (is_among ks k) m) (λ z. any_among p ks k z e)
  where
    on : (same_key j k ≡ true) ⊎ (is_among ks k ≡ true) → (is_among ks k ≡ true → list_any p ks ≡ true) → list_any p (j ∷ ks) ≡ true
    on (inl is) again = or_left (p j) (list_any p ks) (ap p (key_is j k is) ∙ e)
    on (inr there) again = or_right (p j) (list_any p ks) (again there)

among_any : (p : Key → Bool) (ks : List Key) → list_any p ks ≡ true → (k : Key) × (is_among ks k ≡ true) × (p k ≡ true)
among_any p [] e = cc
among_any p (j ∷ ks) e = on (or_true (p j) (list_any p ks) e) (among_any p ks)
  where
    on : (p j ≡ true) ⊎ (list_any p ks ≡ true) → (list_any p ks ≡ true → (k : Key) × (is_among ks k ≡ true) × (p k ≡ true)) → (k : Key) × (is_among (j ∷ ks) k ≡ true) × (p k ≡ true)
    on (inl here) again = (j, or_left (same_key j j) (is_among ks j) (key_self j), here)
    on (inr there) again = let k = again there in (k.0, or_right (same_key j k.0) (is_among ks k.0) k.1, k.2)

module _ (workers : ℕ) where
  abbrev NoneChanged : Entry → Entry → List Entry → Type 0
  NoneChanged f e h = (k : Key) → is_among (depends_on (after workers h) e.asked) k ≡ true → changed_by f k ≡ true → ⊥

  alone_is : (f e : Entry) (h : List Entry) → leaves_alone workers f e h ≡ true → NoneChanged f e h
  alone_is f e h a k among changed =
      let any = any_among (λ j. changed_by f j) (depends_on (after workers h) e.asked) k among changed in
      let no : false ≡ true = sym (ap (λ b. if b then false else true) any) ∙ a in
      cc

  is_alone : (f e : Entry) (h : List Entry) → NoneChanged f e h → leaves_alone workers f e h ≡ true
  is_alone f e h none =
      let no : list_any (λ k. changed_by f k) (depends_on (after workers h) e.asked) ≡ false = not_true (list_any (λ k. changed_by f k) (depends_on (after workers h) e.asked)) (λ any. let k = among_any (λ k. changed_by f k) (depends_on (after workers h) e.asked) any in none k.0 k.1 k.2) in
      ap (λ b. if b then false else true) no

  apart_is : (e : Entry) (h : List Entry) (f : Entry) (g : List Entry) → are_apart workers f g e h ≡ true → AreApart workers e h f g
  apart_is e h f g a = let b = both (leaves_alone workers f e h) (leaves_alone workers e f g) a in record { undisturbed = alone_is f e h b.0; unseen = alone_is e f g b.1 }

  is_apart : (e : Entry) (h : List Entry) (f : Entry) (g : List Entry) → AreApart workers e h f g → are_apart workers f g e h ≡ true
  is_apart e h f g a = and_true (leaves_alone workers f e h) (leaves_alone workers e f g) (is_alone f e h a.undisturbed) (is_alone e f g a.unseen)

granted_is : (u : Use) (r : Reply) → is_granted u r ≡ true → IsGranted u r
granted_is (asked.Start pool work) (says.Refused fault) e = cc
granted_is u r e = tt

is_granted_by : (u : Use) (r : Reply) → IsGranted u r → is_granted u r ≡ true
is_granted_by (asked.Start pool work) (says.Refused fault) g = absurd g
is_granted_by u r g = refl

silent_is : (who : List ℕ) (u : Use) → is_silent who u ≡ true → IsSilent who u
silent_is [] (asked.PoolState pool) e = cc
silent_is (k ∷ path) (asked.PoolState pool) e = cc
silent_is (k ∷ path) (asked.Print bytes) e = cc
silent_is (k ∷ path) asked.Current e = cc
silent_is [] u e = tt
silent_is (k ∷ path) u e = tt

is_silent_by : (who : List ℕ) (u : Use) → IsSilent who u → is_silent who u ≡ true
is_silent_by [] (asked.PoolState pool) s = absurd s
is_silent_by (k ∷ path) (asked.PoolState pool) s = absurd s
is_silent_by (k ∷ path) (asked.Print bytes) s = absurd s
is_silent_by (k ∷ path) asked.Current s = absurd s
is_silent_by [] u s = refl
is_silent_by (k ∷ path) u s = refl

module _ {A : Type 0} (meaning : Work → Program Wish Reply Ended) (script : Program Wish Reply A) (workers : ℕ) (r : List Entry) where
  abbrev plain : Entry → List Entry → Bool
  plain e h = is_granted e.asked e.reply && is_silent e.who e.asked

  pub quiet_is : Complete meaning script r → is_quiet workers r ≡ true → Quiet meaning script workers r
  quiet_is c q = record {
    complete = c;
    granted = λ e p i. granted_is e.asked e.reply (both (is_granted e.asked e.reply) (is_silent e.who e.asked) (passes_at plain r halves.0 e p i)).0;
    silent = λ e p i. silent_is e.who e.asked (both (is_granted e.asked e.reply) (is_silent e.who e.asked) (passes_at plain r halves.0 e p i)).1;
    apart = λ s e f h p q task starts i mine j other k. apart_at s e f h p q task starts i mine j other k;
  }
    where
      halves : (each_passes plain r ≡ true) × (keeps_apart workers r ≡ true)
      halves = both (each_passes plain r) (keeps_apart workers r) q

      apart_at : (s e f : Entry) (h p g : List Entry) (task : List ℕ) → Starts s task → Once (e ∷ p) r → e.who ≡ task → Once (f ∷ g) r → f.who ≢ task → Once (s ∷ h) g → AreApart workers e p f g
      apart_at s e f h p g task starts i mine j other k =
          let at_f = passes_at (λ f g. each_passes (λ s h. apart_after workers r f g (started_by s.asked s.reply)) g) r halves.1 f g j in
          let at_s : apart_after workers r f g (started_by s.asked s.reply) ≡ true = passes_at (λ s h. apart_after workers r f g (started_by s.asked s.reply)) g at_f s h k in
          let of_task : (if same task f.who then true else apart_from workers r f g task) ≡ true = sym (ap (apart_after workers r f g) starts) ∙ at_s in
          let not : same task f.who ≡ false = differ task f.who (λ is. other (sym is)) in
          let from : apart_from workers r f g task ≡ true = sym (ap (λ b. if b then true else apart_from workers r f g task) not) ∙ of_task in
          let at_e = passes_at (λ e h. if same task e.who then are_apart workers f g e h else true) r from e p i in
          let here : same task e.who ≡ true = subst (λ z. same z e.who ≡ true) mine (same_self e.who) in
          apart_is workers e p f g (sym (ap (λ b. if b then are_apart workers f g e p else true) here) ∙ at_e)

  pub is_quiet_by : Quiet meaning script workers r → is_quiet workers r ≡ true
  is_quiet_by q =
      and_true (each_passes plain r) (keeps_apart workers r)
      (passes_all plain r (λ e h i. and_true (is_granted e.asked e.reply) (is_silent e.who e.asked) (is_granted_by e.asked e.reply (q.granted e h i)) (is_silent_by e.who e.asked (q.silent e h i))))
      (passes_all (λ f g. each_passes (λ s h. apart_after workers r f g (started_by s.asked s.reply)) g) r (λ f g j. passes_all (λ s h. apart_after workers r f g (started_by s.asked s.reply)) g (λ s h k. from_start s h f g j k (started_by s.asked s.reply) refl)))
    where
      from : (s : Entry) (h : List Entry) (f : Entry) (g : List Entry) → Once (f ∷ g) r → Once (s ∷ h) g → (task : List ℕ) → Starts s task → f.who ≢ task → apart_from workers r f g task ≡ true
      from s h f g j k task starts other = passes_all (λ e p. if same task e.who then are_apart workers f g e p else true) r (λ e p i. elim (decide (same task e.who)) [
        | inl y ↦ ap (λ b. if b then are_apart workers f g e p else true) y ∙ is_apart workers e p f g (q.apart s e f h p g task starts i (sym (same_is task e.who y)) j other k)
        | inr n ↦ ap (λ b. if b then are_apart workers f g e p else true) n
      ])

      from_start : (s : Entry) (h : List Entry) (f : Entry) (g : List Entry) → Once (f ∷ g) r → Once (s ∷ h) g → (t : Option (List ℕ)) → started_by s.asked s.reply ≡ t → apart_after workers r f g t ≡ true
      from_start s h f g j k None is = refl
      from_start s h f g j k (Some task) is = elim (decide (same task f.who)) [
        | inl y ↦ ap (λ b. if b then true else apart_from workers r f g task) y
        | inr n ↦ ap (λ b. if b then true else apart_from workers r f g task) n ∙ from s h f g j k task is (λ same_task. clash (same task f.who) (subst (λ z. same task z ≡ true) (sym same_task) (same_self task)) n)
      ]
