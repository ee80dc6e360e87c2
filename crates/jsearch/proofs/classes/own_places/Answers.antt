use Rattle.std.proofs.Common.{ℕ, ◌≡◌, Bool, true, false, ap, ◌∙◌, refl, get_or, eq-eqb}
use Rattle.std.specs.Prelude.{◌==◌}
use Rattle.std.proofs.lemmas.Bool.{eqb-true}
use Rattle.jsearch.proofs.Classed.{own_yes, own_no}
use Rattle.jsearch.proofs.classes.own_places.Goals as goal
use Rattle.jsearch.proofs.classes.own_places.Goals.{then-places-at+in_ok-push, else-places-at}

differs : (b : Bool) → (b ≡ true → ⊥) → b ≡ false
differs true h = absurd (h refl)
differs false h = refl

pub loop-at-preserved : goal.loop-at-preserved
loop-at-preserved c =
    let places = c.args.places.now in
    let at = c.loop-at.at in
    let own : ℕ → Bool = λ i. get_or places i 0 == i in
    elim c.if-places-at.branch [
      | then-places-at+in_ok-push w ↦ own_yes own at c.loop-at.own.items c.if-places-at.own.items (eq-eqb (get_or places at 0) at w.if-places-at.true) (ap (λ v. v.items) w.own-is ∙ w.in_ok-push.ensures.items) c.loop-at.invariant
      | else-places-at w ↦ ap (λ v. v.items) w.own-is ∙ own_no own at c.loop-at.own.items (differs (get_or places at 0 == at) (λ h. w.if-places-at.false (eqb-true (get_or places at 0) at h))) c.loop-at.invariant
    ]
