use Rattle.std.proofs.Common.{◌≡◌, subst, FitsSigned, SomeIff}
use mir.Syntax.{w64, w128}
use Rattle.jscalar.proofs.Bounds.{fitted_some, fitted_none}
use Rattle.jradix.proofs.Steps.{wider, same_bits}
use Rattle.jradix.proofs.narrow.narrow.Goals as goal

pub returns-in_default : goal.returns-in_default
returns-in_default c = (λ number h.
    let beyond : ¬ FitsSigned w128 number = subst (λ exact. SomeIff exact (FitsSigned w128 number) number) c.in_default.is h in
    fitted_none number (λ fits. beyond (wider number fits)))

pub returns-in-Ok : goal.returns-in-Ok
returns-in-Ok c = (λ number h.
    let same = same_bits c.in-Some.exact number (subst (λ exact. SomeIff exact (FitsSigned w128 number) number) c.in-Some.is h) in
    fitted_some c.in-Ok.number number (subst (λ z. FitsSigned w64 z × (c.in-Ok.number ≡ z)) same c.in-Ok.ensures))

pub returns-in-Err : goal.returns-in-Err
returns-in-Err c = (λ number h.
    let same = same_bits c.in-Some.exact number (subst (λ exact. SomeIff exact (FitsSigned w128 number) number) c.in-Some.is h) in
    fitted_none number (subst (λ z. ¬ FitsSigned w64 z) same c.in-Err.ensures))
