-- Prefixes of histories of many activities.
use Rattle.std.proofs.Common.{sym, subst, inl, inr, ℕ, List, [], ◌∷◌}
use Rattle.juses.specs.Activities.{Legal, Faithful}
use Rattle.juses.specs.Histories.{Once}
use Rattle.juses.specs.Program.{Program}
use Rattle.juses.specs.Wishes.{Wish}
use Rattle.juses.specs.declared.uses.Ended.{Ended}
use Rattle.juses.specs.declared.uses.Entry.{Entry}
use Rattle.juses.specs.declared.uses.Reply.{Reply}
use Rattle.juses.specs.declared.uses.Work.{Work}

pub legal_once : (workers : ℕ) (p h : List Entry) → Once p h → Legal workers h → Legal workers p
legal_once workers p [] e l = subst (Legal workers) (sym e) l
legal_once workers p (x ∷ h) (inl e) l = subst (Legal workers) (sym e) l
legal_once workers p (x ∷ h) (inr o) l = legal_once workers p h o l.0

pub faithful_once : {A : Type 0} (meaning : Work → Program Wish Reply Ended) (script : Program Wish Reply A) (p h : List Entry) → Once p h → Faithful meaning script h → Faithful meaning script p
faithful_once meaning script p [] e f = subst (Faithful meaning script) (sym e) f
faithful_once meaning script p (x ∷ h) (inl e) f = subst (Faithful meaning script) (sym e) f
faithful_once meaning script p (x ∷ h) (inr o) f = faithful_once meaning script p h o f.0
