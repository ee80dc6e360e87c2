-- How a session is closed.
use Rattle.std.specs.Prelude.{◌⊎◌, ℕ, List}
use Rattle.juses.specs.declared.uses.Cause.{Cause}
use Rattle.juses.specs.declared.uses.Halt.{Halt}
use Rattle.juses.specs.declared.uses.Halt.TheVariants.{Closed}
use Rattle.juses.specs.declared.uses.Use.{Use}

-- each use of each activity is refused with this cause
abbrev pub IsClosed : {S : Type 0} → (S → List ℕ → Use → Halt → Type 0) → S → Cause → Type 0
IsClosed refuses uses cause = (who : List ℕ) (asked : Use) → refuses uses who asked (Closed cause)

-- it was closed with this cause, or it had been closed before, and that cause still counts
abbrev pub ClosedWith : {S : Type 0} → (S → List ℕ → Use → Halt → Type 0) → S → S → Cause → Type 0
ClosedWith refuses old new cause = IsClosed refuses new cause ⊎ ((first : Cause) × IsClosed refuses old first × IsClosed refuses new first)
