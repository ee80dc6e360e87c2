-- What of the desk's state is by which entries: what stands at a key is by the entries that change it, what an activity
-- has made by its own entries, and how a task ended by its End.
use Rattle.std.proofs.Common.{◌≡◌, refl, sym, ap, subst, inl, inr, ◌∙◌, ℕ, List, [], ◌∷◌, Bool, true, false, cond, Option, Some, None}
use Rattle.juses.specs.Agreeing.{AgreeOnHolder}
use Rattle.juses.specs.Activities.{Legal}
use Rattle.juses.specs.Desk.{State, left_tasks_of, left_pyxes_of, left_mutexes_of}
use Rattle.juses.specs.Histories.{after, own}
use Rattle.juses.specs.Keys.{Key, NameIn, NamesOf, Locales, PyxBy, MutexBy, Threads, same, changes, changed_by}
use Rattle.juses.specs.declared.kept.Phase.{Phase}
use Rattle.juses.specs.declared.kept.Phase.TheVariants.{Waiting, Running, Over}
use Rattle.juses.specs.declared.uses.Ended.{Ended}
use Rattle.juses.specs.declared.uses.Entry.{Entry}
use Rattle.juses.specs.declared.uses.Use.{Use}
use Rattle.juses.specs.declared.uses.Use.TheVariants as asked
use Rattle.juses.specs.declared.uses.Reply.{Reply}
use Rattle.juses.specs.declared.uses.Reply.TheVariants as says
use Rattle.juses.proofs.KeyFacts.{others_stay, changes_alike}
use Rattle.juses.proofs.Phases.{Change, Kept, Opened, Begun, Finished, at, same_self}
use Rattle.jlaws.proofs.Logs.{keep, Stage}
use Rattle.jlaws.proofs.Setting.{Act}
use Rattle.jlaws.proofs.Stages.{decide, further, now, kept}
use Rattle.jlaws.proofs.Sound.{sound}

-- an entry, its thread aside
abbrev pub act : Entry → Act (List ℕ) Use Reply
act e = record { who = e.who; asked = e.asked; reply = e.reply }

abbrev pub acts : List Entry → List (Act (List ℕ) Use Reply)
acts [] = []
acts (e ∷ h) = act e ∷ acts h

-- the entries that change a key, and those of an activity
abbrev pub changed_in : Key → List (Act (List ℕ) Use Reply) → List (Act (List ℕ) Use Reply)
changed_in k = keep (λ e. changes e.asked e.reply k)

abbrev pub own_in : List ℕ → List (Act (List ℕ) Use Reply) → List (Act (List ℕ) Use Reply)
own_in a = keep (λ e. same a e.who)

-- the entries of a history that change a key
abbrev changing : Key → List Entry → List Entry
changing k [] = []
changing k (e ∷ h) = cond (changed_by e k) (e ∷ changing k h) (changing k h)

same_holder : (k : Key) (a b : List ℕ) → a ≡ b → AgreeOnHolder k a b
same_holder (NameIn p n) a b e = tt
same_holder (NamesOf p) a b e = tt
same_holder Locales a b e = tt
same_holder (PyxBy p n) a b e = tt
same_holder (MutexBy p n) a b e = e
same_holder Threads a b e = tt

acts_changing : (k : Key) (h : List Entry) → acts (changing k h) ≡ changed_in k (acts h)
acts_changing k [] = refl
acts_changing k (e ∷ h) = on (acts_changing k h)
  where
    on : acts (changing k h) ≡ changed_in k (acts h) → acts (changing k (e ∷ h)) ≡ changed_in k (acts (e ∷ h))
    on rest = elim (decide (changed_by e k)) [ inl y ↦ rw y (ap (λ l. act e ∷ l) rest) | inr n ↦ rw n rest ]

pub acts_own : (a : List ℕ) (h : List Entry) → acts (own a h) ≡ own_in a (acts h)
acts_own a [] = refl
acts_own a (e ∷ h) = on (acts_own a h)
  where
    on : acts (own a h) ≡ own_in a (acts h) → acts (own a (e ∷ h)) ≡ own_in a (acts (e ∷ h))
    on rest = elim (decide (same a e.who)) [ inl y ↦ rw y (ap (λ l. act e ∷ l) rest) | inr n ↦ rw n rest ]

-- ---- what an activity has made

pub record Made (a : List ℕ) (s t : State) : Type 0 where
  pub tasks : s.tasks_of a ≡ t.tasks_of a
  pub pyxes : s.pyxes_of a ≡ t.pyxes_of a
  pub mutexes : s.mutexes_of a ≡ t.mutexes_of a

others_tasks : (who a : List ℕ) (u : Use) (r : Reply) (n : ℕ) → same a who ≡ false → left_tasks_of who u r a n ≡ n
others_tasks who a (asked.Start pool work) (says.Pyx pyx) n e = rw e refl
others_tasks who a u r n e = refl

others_pyxes : (who a : List ℕ) (u : Use) (r : Reply) (n : ℕ) → same a who ≡ false → left_pyxes_of who u r a n ≡ n
others_pyxes who a asked.MakePyx (says.Pyx pyx) n e = rw e refl
others_pyxes who a u r n e = refl

others_mutexes : (who a : List ℕ) (u : Use) (r : Reply) (n : ℕ) → same a who ≡ false → left_mutexes_of who u r a n ≡ n
others_mutexes who a asked.MakeMutex (says.Mutex mutex) n e = rw e refl
others_mutexes who a u r n e = refl

module _ (workers : ℕ) where
  -- what stands at a key is by the entries that change it
  by_changes : (k : Key) (h : List Entry) → (after workers h).at k ≡ (after workers (changing k h)).at k
  by_changes k [] = refl
  by_changes k (e ∷ h) = on (by_changes k h)
    where
      on : (after workers h).at k ≡ (after workers (changing k h)).at k → (after workers (e ∷ h)).at k ≡ (after workers (changing k (e ∷ h))).at k
      on rest = elim (decide (changed_by e k)) [
        | inl y ↦ subst (λ l. (after workers (e ∷ h)).at k ≡ (after workers l).at k) (sym (cond_is (changed_by e k) true y (e ∷ changing k h) (changing k h)))
            (changes_alike (after workers h) (after workers (changing k h)) e e k refl refl (same_holder k e.who e.who refl) rest)
        | inr n ↦ subst (λ l. (after workers (e ∷ h)).at k ≡ (after workers l).at k) (sym (cond_is (changed_by e k) false n (e ∷ changing k h) (changing k h)))
            (others_stay (after workers h) e k n ∙ rest)
      ]
        where
          cond_is : (b c : Bool) → b ≡ c → (x y : List Entry) → cond b x y ≡ cond c x y
          cond_is b c i x y = ap (λ z. cond z x y) i

  -- and threads don't count
  at_alike : (k : Key) (h g : List Entry) → acts h ≡ acts g → (after workers h).at k ≡ (after workers g).at k
  at_alike k [] [] e = refl
  at_alike k [] (y ∷ g) e = cc
  at_alike k (x ∷ h) [] e = cc
  at_alike k (x ∷ h) (y ∷ g) e =
      let first : act x ≡ act y = cc in
      let rest : acts h ≡ acts g = cc in
      changes_alike (after workers h) (after workers g) x y k (ap (λ (z : Act (List ℕ) Use Reply). z.asked) first) (ap (λ (z : Act (List ℕ) Use Reply). z.reply) first) (same_holder k x.who y.who (ap (λ (z : Act (List ℕ) Use Reply). z.who) first)) (at_alike k h g rest)

  pub at_by : (k : Key) (h g : List Entry) → changed_in k (acts h) ≡ changed_in k (acts g) → (after workers h).at k ≡ (after workers g).at k
  at_by k h g e = by_changes k h ∙ (at_alike k (changing k h) (changing k g) (acts_changing k h ∙ (e ∙ sym (acts_changing k g))) ∙ sym (by_changes k g))

  -- what an activity has made is by its own entries
  by_own : (a : List ℕ) (h : List Entry) → Made a (after workers h) (after workers (own a h))
  by_own a [] = record { tasks = refl; pyxes = refl; mutexes = refl }
  by_own a (e ∷ h) = on (by_own a h)
    where
      on : Made a (after workers h) (after workers (own a h)) → Made a (after workers (e ∷ h)) (after workers (own a (e ∷ h)))
      on rest = elim (decide (same a e.who)) [
        | inl y ↦ subst (λ b. Made a (after workers (e ∷ h)) (after workers (cond b (e ∷ own a h) (own a h)))) (sym y) (record { tasks = ap (left_tasks_of e.who e.asked e.reply a) rest.tasks; pyxes = ap (left_pyxes_of e.who e.asked e.reply a) rest.pyxes; mutexes = ap (left_mutexes_of e.who e.asked e.reply a) rest.mutexes })
        | inr n ↦ subst (λ b. Made a (after workers (e ∷ h)) (after workers (cond b (e ∷ own a h) (own a h)))) (sym n) (record {
          tasks = others_tasks e.who a e.asked e.reply ((after workers h).tasks_of a) n ∙ rest.tasks;
          pyxes = others_pyxes e.who a e.asked e.reply ((after workers h).pyxes_of a) n ∙ rest.pyxes;
          mutexes = others_mutexes e.who a e.asked e.reply ((after workers h).mutexes_of a) n ∙ rest.mutexes;
        })
      ]

  made_alike : (a : List ℕ) (h g : List Entry) → acts h ≡ acts g → Made a (after workers h) (after workers g)
  made_alike a [] [] e = record { tasks = refl; pyxes = refl; mutexes = refl }
  made_alike a [] (y ∷ g) e = cc
  made_alike a (x ∷ h) [] e = cc
  made_alike a (x ∷ h) (y ∷ g) e =
      let first : act x ≡ act y = cc in
      let rest : acts h ≡ acts g = cc in
      let m = made_alike a h g rest in
      record {
        tasks = λ i. left_tasks_of (first i).who (first i).asked (first i).reply a (m.tasks i);
        pyxes = λ i. left_pyxes_of (first i).who (first i).asked (first i).reply a (m.pyxes i);
        mutexes = λ i. left_mutexes_of (first i).who (first i).asked (first i).reply a (m.mutexes i);
      }

  pub made_by : (a : List ℕ) (h g : List Entry) → own_in a (acts h) ≡ own_in a (acts g) → Made a (after workers h) (after workers g)
  made_by a h g e =
      let one = by_own a h in
      let two = made_alike a (own a h) (own a g) (acts_own a h ∙ (e ∙ sym (acts_own a g))) in
      let three = by_own a g in
      record { tasks = one.tasks ∙ (two.tasks ∙ sym three.tasks); pyxes = one.pyxes ∙ (two.pyxes ∙ sym three.pyxes); mutexes = one.mutexes ∙ (two.mutexes ∙ sym three.mutexes) }

  pub workers_after : (h : List Entry) → (after workers h).workers ≡ workers
  workers_after [] = refl
  workers_after (e ∷ h) = workers_after h

  -- ---- how a task ended

  abbrev pub EndedBy : List ℕ → Ended → List Entry → Type 0
  EndedBy t o h = (x : Act (List ℕ) Use Reply) × (i : List (Act (List ℕ) Use Reply)) × Stage (x ∷ i) (own_in t (acts h)) × (x.asked ≡ asked.End o)

  over_is : (o p : Ended) → Some (Over o) ≡ Some (Over p) → o ≡ p
  over_is o p e = ap (λ (x : Option Phase). outcome_in x o) e
    where
      outcome_in : Option Phase → Ended → Ended
      outcome_in (Some (Over q)) d = q
      outcome_in (Some (Waiting pool w)) d = d
      outcome_in (Some (Running pool th)) d = d
      outcome_in None d = d

  pub ended_by : (t : List ℕ) (o : Ended) (h : List Entry) → Legal workers h → (after workers h).phase t ≡ Some (Over o) → EndedBy t o h
  ended_by t o [] l e = cc
  ended_by t o (x ∷ h) l e = on (λ c. ended_by t o h l.0 c) (at workers h x (sound workers h l.0).good l.2 t)
    where
      on : ((after workers h).phase t ≡ Some (Over o) → EndedBy t o h) → Change (after workers h) x.who x.thread x.asked x.reply t → EndedBy t o (x ∷ h)
      on again c = by c
        where
          later : EndedBy t o h → EndedBy t o (x ∷ h)
          later (y, i, j, b) = (y, i, further (y ∷ i) (own_in t (acts h)) (own_in t (acts (x ∷ h))) j (kept (λ v. same t v.who) (acts h) (acts (x ∷ h)) (inr (now (acts h)))), b)

          by : Change (after workers h) x.who x.thread x.asked x.reply t → EndedBy t o (x ∷ h)
          by (Kept k) = later (again (sym k ∙ e))
          by (Opened pool w u r old new is) = cc
          by (Begun pool w is u old new) = cc
          by (Finished p pool th is u old new) =
              let o_is : p ≡ o = over_is p o (sym new ∙ e) in
              let mine : same t x.who ≡ true = subst (λ z. same z x.who ≡ true) is (same_self x.who) in
              (act x, own_in t (acts h), rw mine (inl refl), u ∙ ap asked.End o_is)
