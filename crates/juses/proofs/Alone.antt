-- A history of main alone is one of many activities, of which no task was started.
use Rattle.std.proofs.Common.{◌≡◌, inl, inr, refl, sym, ap, subst, ◌∙◌, ℕ, List, [], ◌∷◌, ◌++◌, Some, None}
use Rattle.juses.specs.Activities as many
use Rattle.juses.specs.Desk.{reply}
use Rattle.juses.specs.Histories.{after, own, replies, Fits, Legal, Asks, Faithful, Complete, OneThread, OneThreadRun}
use Rattle.juses.specs.Program.{Program, next, main_of}
use Rattle.juses.specs.Entries.{pyx_of, started_by}
use Rattle.juses.specs.Wishes.{Wish}
use Rattle.juses.specs.declared.uses.Ended.{Ended}
use Rattle.juses.specs.declared.uses.Entry.{Entry}
use Rattle.juses.specs.declared.uses.Use.{Use}
use Rattle.juses.specs.declared.uses.Use.TheVariants.{Start, End}
use Rattle.juses.specs.declared.uses.Reply.{Reply}
use Rattle.juses.specs.declared.uses.Reply.TheVariants.{Pyx}
use Rattle.juses.specs.declared.uses.Work.{Work}

fits_many : (workers : ℕ) (h : List Entry) (who : List ℕ) (thread : ℕ) (u : Use) → Fits who thread → many.Fits workers h who thread u
fits_many workers h [] thread u f = f
fits_many workers h (k ∷ path) thread u f = absurd f

pub legal_many : (workers : ℕ) (h : List Entry) → Legal workers h → many.Legal workers h
legal_many workers [] l = tt
legal_many workers (e ∷ h) l = (legal_many workers h l.0, fits_many workers h e.who e.thread e.asked l.1, l.2)

none_started : (h : List Entry) (task : List ℕ) (work : Work) → many.StartsNone h → many.WasStarted h task work → ⊥
none_started [] task work n s = s
none_started (e ∷ h) task work n (inl s) =
    let P : Use → Reply → Type 0 = λ u r. started_by u r ≡ None in
    let here : P (Start s.0 work) (Pyx (pyx_of task)) = subst (P (Start s.0 work)) s.2 (subst (λ u. P u e.reply) s.1 n.1) in
    cc
none_started (e ∷ h) task work n (inr s) = none_started h task work n.0 s

left_alone : (who : List ℕ) (u : Use) (r : Reply) → started_by u r ≡ None → many.left_open who u r [] ≡ []
left_alone who (Start pool w) (Pyx pyx) n = cc
left_alone who (End o) r n = refl
left_alone who u r n = refl

none_open : (h : List Entry) → many.StartsNone h → many.open_tasks h ≡ []
none_open [] n = refl
none_open (e ∷ h) n = ap (many.left_open e.who e.asked e.reply) (none_open h n.0) ∙ left_alone e.who e.asked e.reply n.1

goes_main : (h : List Entry) → many.StartsNone h → [] ≡ many.going h
goes_main h n = sym (ap many.first_of_all (none_open h n))

module _ {A : Type 0} (meaning : Work → Program Wish Reply Ended) (script : Program Wish Reply A) where
  asks_many : (h : List Entry) (who : List ℕ) (u : Use) → Asks script h who u → many.Asks meaning script h who u
  asks_many h who u a = (a.0, inl a.1, a.2)

  pub faithful_many : (h : List Entry) → many.StartsNone h → Faithful script h → many.Faithful meaning script h
  faithful_many [] n f = tt
  faithful_many (e ∷ h) n f = (faithful_many h n.0 f.0, asks_many h e.who e.asked f.1)

  pub complete_many : (h : List Entry) → many.StartsNone h → Complete script h → many.Complete meaning script h
  complete_many h n c = (c, λ task work s. absurd (none_started h task work n s))

  module _ (workers : ℕ) where
    pub one_many : (h : List Entry) → many.StartsNone h → OneThread script workers h → many.OneThread meaning script workers h
    one_many [] n o = tt
    one_many (e ∷ h) n o =
        let is = goes_main h n.0 in
        (one_many h n.0 o.0, o.1 ∙ is, o.2, subst (λ w. many.Asks meaning script h w e.asked) is (asks_many h [] e.asked o.3), subst (λ w. reply (after workers h) w 0 e.asked ≡ Some e.reply) is o.4)

    asks_back : (h : List Entry) (who : List ℕ) (u : Use) → many.StartsNone h → many.Asks meaning script h who u → Asks script h who u
    asks_back h who u n (p, inl m, next_is) = (p, m, next_is)
    asks_back h who u n (p, inr w, next_is) = absurd (none_started h who w.0 n w.1)

    pub run_many : (h : List Entry) → many.StartsNone h → OneThreadRun script workers h → many.OneThreadRun meaning script workers h
    run_many h n o = (
      one_many h n o.0,
      λ e m.
          let is = sym (goes_main h n) in
          o.1 e (
            o.0,
            m.1 ∙ is,
            m.2,
            asks_back h [] e.asked n (subst (λ w. many.Asks meaning script h w e.asked) is m.3),
            subst (λ w. reply (after workers h) w 0 e.asked ≡ Some e.reply) is m.4,
          ),
    )
