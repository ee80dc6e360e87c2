-- A desk that was closed refuses each use by its first cause.
use Rattle.std.proofs.Common.{◌≡◌, ◌∙◌, ◌⊎◌, inl, inr, Option, Some, None, ap, refl}
use Rattle.juses.specs.Closing.{ClosedWith}
use Rattle.juses.specs.Standing.{Kept, Refuses, first_cause, closed_by}
use Rattle.juses.specs.declared.uses.Cause.{Cause}

first_of : (earlier : Option Cause) (cause : Cause) → (first_cause earlier cause ≡ Some cause) ⊎ ((first : Cause) × (earlier ≡ Some first) × (first_cause earlier cause ≡ Some first))
first_of None cause = inl refl
first_of (Some first) cause = inr (first, refl, refl)

pub closed_first : (d d' : Kept) (cause : Cause) → d' ≡ closed_by d cause → ClosedWith Refuses d d' cause
closed_first d d' cause h = elim (first_of d.closed cause) [
  | inl now ↦ inl (λ who asked. ap (λ (k : Kept). k.closed) h ∙ now)
  | inr before ↦ inr (before.0, λ who asked. before.1, λ who asked. ap (λ (k : Kept). k.closed) h ∙ before.2)
]
