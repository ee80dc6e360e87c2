-- What a pyx holds stays, so each Open of it shows the same.
use Rattle.std.proofs.Common.{◌≡◌, refl, sym, ap, subst, inl, inr, ◌∙◌, ◌<◌, arith, ℕ, zero, suc, List, [], ◌∷◌, Bool, true, false, cond, ◌&&◌, if◌then◌else◌, nat_eq, nat_lt, Option, Some, None}
use Rattle.std.proofs.lemmas.Bool.{eqb-true}
use Rattle.jdata.specs.declared.fault.Fault.TheVariants.{Limit, Domain, Concurrency}
use Rattle.jdata.specs.declared.path.PyxId.{PyxId}
use Rattle.juses.specs.Activities.{Legal}
use Rattle.juses.specs.Desk.{State, reply, opened, open_reply, pyx_reply, set_reply, most_made, left_pyx, left_pyxes_of, one_more}
use Rattle.juses.specs.Histories.{Once, after}
use Rattle.juses.specs.Keys.{PyxBy, same, same_key, changes}
use Rattle.juses.specs.declared.kept.Phase.{Phase}
use Rattle.juses.specs.declared.kept.Phase.TheVariants.{Over}
use Rattle.juses.specs.declared.kept.Setting.{Setting}
use Rattle.juses.specs.declared.kept.Setting.TheVariants.{Unset, Set}
use Rattle.juses.specs.declared.uses.Ended.{Ended}
use Rattle.juses.specs.declared.uses.Entry.{Entry}
use Rattle.juses.specs.declared.uses.Use.{Use}
use Rattle.juses.specs.declared.uses.Use.TheVariants as asked
use Rattle.juses.specs.declared.uses.Reply.{Reply}
use Rattle.juses.specs.declared.uses.Reply.TheVariants as says
use Rattle.juses.proofs.Phases.{Change, Kept, Opened, Begun, Finished, at, same_is, same_self, some_reply}
use Rattle.jlaws.proofs.Stages.{decide}
use Rattle.jlaws.proofs.Facts.{task_opened}
use Rattle.jlaws.proofs.Runs.{legal_once}
use Rattle.jlaws.proofs.Sound.{sound}

cond_same : {A : Type 0} (b : Bool) (x : A) → cond b x x ≡ x
cond_same true x = refl
cond_same false x = refl

both_true : (a b : Bool) → (a && b) ≡ true → (a ≡ true) × (b ≡ true)
both_true true b e = (refl, e)
both_true false b e = cc

abbrev pyx_in : Reply → PyxId → PyxId
pyx_in (says.Pyx pyx) other = pyx
pyx_in _ other = other

made_pyx : (b : Bool) (x pyx : PyxId) → (if b then says.Pyx x else says.Refused Limit) ≡ says.Pyx pyx → x ≡ pyx
made_pyx true x pyx e = ap (λ r. pyx_in r x) e
made_pyx false x pyx e = cc

-- ---- a pyx that is set by hand

module _ (s : State) (who : List ℕ) (th : ℕ) (p : List ℕ) (k : ℕ) where
  -- the next pyx of the asker
  abbrev new_pyx : PyxId
  new_pyx = record { path = who; number = suc (s.pyxes_of who) }

  abbrev pyx_then : Use → Reply → Option Setting
  pyx_then u r = if changes u r (PyxBy p k) then left_pyx u r (s.at (PyxBy p k)) else s.at (PyxBy p k)

  data PyxChange (u : Use) (r : Reply) : Type 0 where
    Stays : pyx_then u r ≡ s.at (PyxBy p k) → PyxChange u r
    IsMade : p ≡ who → k ≡ suc (s.pyxes_of who) → u ≡ asked.MakePyx → (pyx : PyxId) → r ≡ says.Pyx pyx → PyxChange u r
    IsSet : s.at (PyxBy p k) ≡ Some Unset → PyxChange u r

  made_change : (r : Reply) → reply s who th asked.MakePyx ≡ Some r → PyxChange asked.MakePyx r
  made_change (says.Pyx pyx) said = elim (decide (same_key (PyxBy pyx.path pyx.number) (PyxBy p k))) [
    | inl y ↦ is y
    | inr n ↦ Stays (ap (λ b. cond b (Some Unset) (s.at (PyxBy p k))) n)
  ]
    where
      is : same_key (PyxBy pyx.path pyx.number) (PyxBy p k) ≡ true → PyxChange asked.MakePyx (says.Pyx pyx)
      is y =
          let both = both_true (same pyx.path p) (nat_eq pyx.number k) y in
          let made : new_pyx ≡ pyx = made_pyx (nat_lt (s.pyxes_of who) most_made) new_pyx pyx (some_reply said) in
          IsMade (sym (same_is pyx.path p both.0) ∙ sym (ap (λ (x : PyxId). x.path) made)) (sym (eqb-true pyx.number k both.1) ∙ sym (ap (λ (x : PyxId). x.number) made)) refl pyx refl
  made_change r said = Stays refl

  set_change : (pyx : PyxId) (o : Ended) (r : Reply) → reply s who th (asked.SetPyx pyx o) ≡ Some r → PyxChange (asked.SetPyx pyx o) r
  set_change pyx o r said = elim (decide (same_key (PyxBy pyx.path pyx.number) (PyxBy p k))) [
    | inl y ↦ is y
    | inr n ↦ Stays (ap (λ b. cond b (left_pyx (asked.SetPyx pyx o) r (s.at (PyxBy p k))) (s.at (PyxBy p k))) n)
  ]
    where
      by : (x : Option Setting) → s.at (PyxBy p k) ≡ x → set_reply x ≡ r → PyxChange (asked.SetPyx pyx o) r
      by (Some Unset) e f = IsSet e
      by (Some (Set v)) e f = Stays (subst (λ z. pyx_then (asked.SetPyx pyx o) z ≡ s.at (PyxBy p k)) f (cond_same (changes (asked.SetPyx pyx o) (says.Refused Concurrency) (PyxBy p k)) (s.at (PyxBy p k))))
      by None e f = Stays (subst (λ z. pyx_then (asked.SetPyx pyx o) z ≡ s.at (PyxBy p k)) f (cond_same (changes (asked.SetPyx pyx o) (says.Refused Domain) (PyxBy p k)) (s.at (PyxBy p k))))

      is : same_key (PyxBy pyx.path pyx.number) (PyxBy p k) ≡ true → PyxChange (asked.SetPyx pyx o) r
      is y =
          let both = both_true (same pyx.path p) (nat_eq pyx.number k) y in
          let path = same_is pyx.path p both.0 in
          let number = eqb-true pyx.number k both.1 in
          by (s.at (PyxBy p k)) refl (ap (λ (z : List ℕ). set_reply (s.at (PyxBy z k))) (sym path) ∙ (ap (λ (n : ℕ). set_reply (s.at (PyxBy pyx.path n))) (sym number) ∙ some_reply said))

  pyx_change : (u : Use) (r : Reply) → reply s who th u ≡ Some r → PyxChange u r
  pyx_change asked.MakePyx r said = made_change r said
  pyx_change (asked.SetPyx pyx o) r said = set_change pyx o r said
  pyx_change u r said = Stays (cond_same (changes u r (PyxBy p k)) (s.at (PyxBy p k)))

module _ (workers : ℕ) where
  -- a pyx that wasn't made is none
  fresh : (h : List Entry) → Legal workers h → (p : List ℕ) (k : ℕ) → (after workers h).pyxes_of p < k → (after workers h).at (PyxBy p k) ≡ None
  fresh [] l p k less = refl
  fresh (e ∷ h) l p k less = on (pyx_change (after workers h) e.who e.thread p k e.asked e.reply l.2) (fresh h l.0 p k (grown e.who e.asked e.reply ((after workers h).pyxes_of p) less))
    where
      grown : (w : List ℕ) (u : Use) (r : Reply) (n : ℕ) → left_pyxes_of w u r p n < k → n < k
      grown w asked.MakePyx (says.Pyx pyx) n less = by (same p w) less
        where
          by : (b : Bool) → (if b then suc n else n) < k → n < k
          by true l = omega (arith, l)
          by false l = l
      grown w u r n less = less

      on : PyxChange (after workers h) e.who e.thread p k e.asked e.reply → (after workers h).at (PyxBy p k) ≡ None → (after workers (e ∷ h)).at (PyxBy p k) ≡ None
      on (Stays is) none = is ∙ none
      on (IsSet was) none = cc
      on (IsMade is number asks pyx given) none =
          let P : Use → Reply → Type 0 = λ u r. left_pyxes_of e.who u r p ((after workers h).pyxes_of p) < k in
          let here : P asked.MakePyx (says.Pyx pyx) = subst (P asked.MakePyx) given (subst (λ u. P u e.reply) asks less) in
          let more : one_more e.who p ((after workers h).pyxes_of p) ≡ suc ((after workers h).pyxes_of p) = ap (λ b. if b then suc ((after workers h).pyxes_of p) else (after workers h).pyxes_of p) (ap (λ x. same p x) (sym is) ∙ same_self p) in
          let less' : suc ((after workers h).pyxes_of p) < k = subst (λ m. m < k) more here in
          let k_is : k ≡ suc ((after workers h).pyxes_of p) = number ∙ ap (λ x. suc ((after workers h).pyxes_of x)) (sym is) in
          absurd (omega (arith, less', k_is))

  -- ---- what a pyx holds

  abbrev outcome_of : Option Phase → Option Ended
  outcome_of (Some (Over o)) = Some o
  outcome_of _ = None

  abbrev set_to : Option Setting → Option Ended
  set_to (Some (Set o)) = Some o
  set_to _ = None

  abbrev held : List ℕ → ℕ → State → Option Ended
  held path zero s = outcome_of (s.phase path)
  held path (suc n) s = set_to (s.at (PyxBy path (suc n)))

  ended_stays : (e : Entry) (h : List Entry) → Legal workers (e ∷ h) → (t : List ℕ) (o : Ended) → outcome_of ((after workers h).phase t) ≡ Some o → outcome_of ((after workers (e ∷ h)).phase t) ≡ Some o
  ended_stays e h l t o was = on (at workers h e (sound workers h l.0).good l.2 t)
    where
      on : Change (after workers h) e.who e.thread e.asked e.reply t → outcome_of ((after workers (e ∷ h)).phase t) ≡ Some o
      on (Kept k) = ap outcome_of k ∙ was
      on (Opened pool w u r old new is) = (let none : outcome_of ((after workers h).phase t) ≡ None = ap outcome_of old in cc)
      on (Begun pool w is u old new) = (let none : outcome_of ((after workers h).phase t) ≡ None = ap outcome_of old in cc)
      on (Finished p pool th is u old new) = (let none : outcome_of ((after workers h).phase t) ≡ None = ap outcome_of old in cc)

  set_stays : (e : Entry) (h : List Entry) → Legal workers (e ∷ h) → (p : List ℕ) (k : ℕ) (o : Ended) → set_to ((after workers h).at (PyxBy p k)) ≡ Some o → set_to ((after workers (e ∷ h)).at (PyxBy p k)) ≡ Some o
  set_stays e h l p k o was = on (pyx_change (after workers h) e.who e.thread p k e.asked e.reply l.2)
    where
      on : PyxChange (after workers h) e.who e.thread p k e.asked e.reply → set_to ((after workers (e ∷ h)).at (PyxBy p k)) ≡ Some o
      on (Stays is) = ap set_to is ∙ was
      on (IsSet unset) = (let none : set_to ((after workers h).at (PyxBy p k)) ≡ None = ap set_to unset in cc)
      on (IsMade is number asks pyx given) =
          let newer : (after workers h).pyxes_of p < k = (let k_is : k ≡ suc ((after workers h).pyxes_of p) = number ∙ ap (λ x. suc ((after workers h).pyxes_of x)) (sym is) in omega (arith, k_is)) in
          let none : set_to ((after workers h).at (PyxBy p k)) ≡ None = ap set_to (fresh h l.0 p k newer) in
          cc

  held_stays : (e : Entry) (h : List Entry) → Legal workers (e ∷ h) → (p : List ℕ) (k : ℕ) (o : Ended) → held p k (after workers h) ≡ Some o → held p k (after workers (e ∷ h)) ≡ Some o
  held_stays e h l p zero o was = ended_stays e h l p o was
  held_stays e h l p (suc k) o was = set_stays e h l p (suc k) o was

  held_later : (g h : List Entry) → Once g h → Legal workers h → (p : List ℕ) (k : ℕ) (o : Ended) → held p k (after workers g) ≡ Some o → held p k (after workers h) ≡ Some o
  held_later g [] i l p k o was = subst (λ x. held p k (after workers x) ≡ Some o) i was
  held_later g (e ∷ h) (inl i) l p k o was = subst (λ x. held p k (after workers x) ≡ Some o) i was
  held_later g (e ∷ h) (inr i) l p k o was = held_stays e h l p k o (held_later g h i l.0 p k o was)

  shows : (path : List ℕ) (n : ℕ) (s : State) (r : Reply) → open_reply n (s.phase path) (s.at (PyxBy path n)) ≡ Some r → (o : Ended) × (held path n s ≡ Some o) × (r ≡ opened o)
  shows path zero s r said = let t = task_opened (s.phase path) r said in (t.0, ap outcome_of t.1, t.2)
  shows path (suc n) s r said = by (s.at (PyxBy path (suc n))) refl said
    where
      by : (x : Option Setting) → s.at (PyxBy path (suc n)) ≡ x → pyx_reply x ≡ Some r → (o : Ended) × (set_to (s.at (PyxBy path (suc n))) ≡ Some o) × (r ≡ opened o)
      by (Some (Set o)) e f = (o, ap set_to e, sym (some_reply f))
      by (Some Unset) e f = cc
      by None e f = cc

  same_outcome : (x : Option Ended) (o p : Ended) → x ≡ Some o → x ≡ Some p → o ≡ p
  same_outcome x o p a b = ap (λ z. outcome_in z o) (sym a ∙ b)
    where
      outcome_in : Option Ended → Ended → Ended
      outcome_in (Some y) d = y
      outcome_in None d = d

  pub same_opens : (h : List Entry) → Legal workers h → (pyx : PyxId) (e f : Entry) (p q : List Entry) → Once (e ∷ p) h → Once (f ∷ q) h → e.asked ≡ asked.Open pyx → f.asked ≡ asked.Open pyx → e.reply ≡ f.reply
  same_opens h l pyx e f p q i j a b = one.2 ∙ (ap opened (same_outcome (held pyx.path pyx.number (after workers h)) one.0 two.0 (at_end e p i one.0 one.1) (at_end f q j two.0 two.1)) ∙ sym two.2)
    where
      shown : (x : Entry) (g : List Entry) → Once (x ∷ g) h → x.asked ≡ asked.Open pyx → (o : Ended) × (held pyx.path pyx.number (after workers g) ≡ Some o) × (x.reply ≡ opened o)
      shown x g k is =
          let said : reply (after workers g) x.who x.thread (asked.Open pyx) ≡ Some x.reply = subst (λ u. reply (after workers g) x.who x.thread u ≡ Some x.reply) is (legal_once workers (x ∷ g) h k l).2 in
          shows pyx.path pyx.number (after workers g) x.reply said

      one : (o : Ended) × (held pyx.path pyx.number (after workers p) ≡ Some o) × (e.reply ≡ opened o)
      one = shown e p i a

      two : (o : Ended) × (held pyx.path pyx.number (after workers q) ≡ Some o) × (f.reply ≡ opened o)
      two = shown f q j b

      at_end : (x : Entry) (g : List Entry) → Once (x ∷ g) h → (o : Ended) → held pyx.path pyx.number (after workers g) ≡ Some o → held pyx.path pyx.number (after workers h) ≡ Some o
      at_end x g k o was = held_later (x ∷ g) h k l pyx.path pyx.number o (held_stays x g (legal_once workers (x ∷ g) h k l) pyx.path pyx.number o was)
