-- A share by a hold, as a share by what keeps it.
use Rattle.std.proofs.Common.{◌≡◌, ℕ, ◌+◌, List, [], ◌∷◌, ◌++◌, Option, Some, Result, Ok, Err, sym, ap, ◌∙◌, subst}
use Rattle.jyard.specs.Keeping.{Keeping, keeping, kept_as}
use Rattle.jyard.specs.KeptReads.{SharedKept}
use Rattle.jyard.specs.Logs.{Entry, entry, looking, sharing}
use Rattle.jyard.specs.Reads.{SharedBy}
use Rattle.jyard.specs.Units.{BlockId}
use Rattle.jyard.specs.declared.hold.Hold.{Hold}
use Rattle.jyard.specs.declared.hold.NoShare.{NoShare}
use Rattle.jyard.specs.declared.hold.NotShared.{NotShared}
use Rattle.jyard.specs.declared.hold.NotShared.TheVariants.{Refused}

module _ {T : Type 0} (ids : List BlockId) (o : Option (Hold T)) (h : Hold T) (k : Keeping T) where
  is_here : o ≡ Some h → keeping ids o ≡ k → kept_as ids h ≡ k
  is_here is view = ap (keeping ids) (sym is) ∙ view

  pub shared_ok : (i : Hold T) (m : Result (Keeping T) NotShared) (r : Keeping T) (after : List Entry) → o ≡ Some h → keeping ids o ≡ k → m ≡ Ok r → r.seat ≡ i.seat.seat
      → SharedBy {T = T} (Ok i) h.seat.seat h.seat.steps after → SharedKept m k.seat k.steps after
  shared_ok i m r after is view result seat s =
      let there : SharedKept {T = T} (Ok r) h.seat.seat h.seat.steps after =
      (s.0, s.1, s.2, subst (λ (j : ℕ). after ≡ (h.seat.steps ++ entry looking h.seat.seat s.0 s.0 0 ∷ []) ++ entry sharing h.seat.seat s.0 (s.0 + 1) j ∷ []) (sym seat) s.3) in
      subst (λ (x : Result (Keeping T) NotShared). SharedKept x k.seat k.steps after) (sym result) (subst (λ (x : Keeping T). SharedKept {T = T} (Ok r) x.seat x.steps after) (is_here is view) there)

  pub shared_err : (why : NoShare) (m : Result (Keeping T) NotShared) (after : List Entry) → o ≡ Some h → keeping ids o ≡ k → m ≡ Err (Refused why)
      → SharedBy {T = T} (Err why) h.seat.seat h.seat.steps after → SharedKept m k.seat k.steps after
  shared_err why m after is view result s =
      subst (λ (x : Result (Keeping T) NotShared). SharedKept x k.seat k.steps after) (sym result) (subst (λ (x : Keeping T). SharedKept {T = T} (Err (Refused why)) x.seat x.steps after) (is_here is view) s)
