use Rattle.jscalar.proofs.Bounds.{fitted_some, fitted_none}
use Rattle.jscalar.proofs.fitting.fitted.Goals as goal

pub returns-in-Some : goal.returns-in-Some
returns-in-Some c = λ exact h. fitted_some c.in-Some.number exact (rw c.in-Some.is at h)

pub returns-in-None : goal.returns-in-None
returns-in-None c = λ exact h. fitted_none exact (rw c.in-None.is at h)
