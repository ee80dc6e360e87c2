-- What holds of the desk in each legal history: a task is started once and never main, and who asks is main or has begun.
use Rattle.std.proofs.Common.{◌≡◌, refl, sym, ap, subst, inl, inr, ℕ, List, [], ◌∷◌, if◌then◌else◌, Option, Some, None}
use Rattle.juses.specs.Activities.{HasAsked, Fits, Legal}
use Rattle.juses.specs.Desk.{State, reply, begin_reply, begun, left_phase}
use Rattle.juses.specs.Histories.{after}
use Rattle.juses.specs.declared.kept.Phase.{Phase}
use Rattle.juses.specs.declared.kept.Phase.TheVariants.{Waiting, Running, Over}
use Rattle.juses.specs.declared.uses.Entry.{Entry}
use Rattle.juses.specs.declared.uses.Use.{Use}
use Rattle.juses.specs.declared.uses.Use.TheVariants.{Begin}
use Rattle.juses.specs.declared.uses.Reply.{Reply}
use Rattle.juses.proofs.Phases.{Good, good_first, good_on, IsAwake, HasBegun, begun_stays, same_self}

-- a Begin that is answered is that of a waiting task
waited : (p : Option Phase) (r : Reply) (thread : ℕ) → begin_reply p ≡ Some r → HasBegun (begun thread p)
waited (Some (Waiting pool work)) r thread e = tt
waited (Some (Running pool t)) r thread e = tt
waited (Some (Over outcome)) r thread e = tt
waited None r thread e = cc

module _ (workers : ℕ) where
  abbrev HaveBegun : List Entry → Type 0
  HaveBegun h = (who : List ℕ) (thread : ℕ) → HasAsked h who thread Begin → HasBegun ((after workers h).phase who)

  module _ (e : Entry) (h : List Entry) (said : reply (after workers h) e.who e.thread e.asked ≡ Some e.reply) where
    -- a task that begins has begun
    begins_now : e.asked ≡ Begin → HasBegun ((after workers (e ∷ h)).phase e.who)
    begins_now is =
        let s : State = after workers h in
        let P : Use → Type 0 = λ u. HasBegun (left_phase e.who e.thread u e.reply e.who (s.phase e.who)) in
        let now : begin_reply (s.phase e.who) ≡ Some e.reply = subst (λ u. reply s e.who e.thread u ≡ Some e.reply) is said in
        let here : P Begin = subst HasBegun (sym (ap (λ b. if b then begun e.thread (s.phase e.who) else s.phase e.who) (same_self e.who))) (waited (s.phase e.who) e.reply e.thread now) in
        subst P (sym is) here

    awake_now : (g : Good workers h) → HaveBegun h → (who : List ℕ) (u : Use) → e.who ≡ who → e.asked ≡ u → Fits workers h who e.thread u → IsAwake (after workers (e ∷ h)) e.who
    awake_now g b [] u is asks f = inl is
    awake_now g b (k ∷ path) Begin is asks f = inr (begins_now asks)
    awake_now g b (k ∷ path) u is asks f = inr (subst (λ x. HasBegun ((after workers (e ∷ h)).phase x)) (sym is) (begun_stays workers h e g said (k ∷ path) (b (k ∷ path) e.thread f)))

  pub record Sound (h : List Entry) : Type 0 where
    pub good : Good workers h
    pub begun_by : (who : List ℕ) (thread : ℕ) → HasAsked h who thread Begin → HasBegun ((after workers h).phase who)

  pub sound : (h : List Entry) → Legal workers h → Sound h
  sound [] l = record { good = good_first workers; begun_by = λ who thread a. absurd a }
  sound (e ∷ h) l = on (sound h l.0)
    where
      on : Sound h → Sound (e ∷ h)
      on s =
          let awake : IsAwake (after workers (e ∷ h)) e.who = awake_now e h l.2 s.good s.begun_by e.who e.asked refl refl l.1 in
          record { good = good_on workers h e s.good l.2 awake; begun_by = begun_then s }
        where
          begun_then : Sound h → (who : List ℕ) (thread : ℕ) → HasAsked (e ∷ h) who thread Begin → HasBegun ((after workers (e ∷ h)).phase who)
          begun_then s who thread (inl (is, at, asks)) = subst (λ x. HasBegun ((after workers (e ∷ h)).phase x)) is (begins_now e h l.2 asks)
          begun_then s who thread (inr a) = begun_stays workers h e s.good l.2 who (s.begun_by who thread a)
