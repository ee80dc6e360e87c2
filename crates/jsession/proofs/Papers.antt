-- What a sink took of pieces, one after another.
use Rattle.std.proofs.Common.{◌≡◌, ◌≤◌, ◌+◌, ℕ, List, [], ◌∷◌, ◌++◌, refl, ◌∙◌, arith}
use Rattle.jio.specs.Sink.{Writes, TookAll}
use Rattle.jio.proofs.Writing.{appends_nothing, appends_on}
use Rattle.jsession.specs.Ran.{calls_after}

pub took_nothing : (p : Writes) → TookAll p [] p
took_nothing p = record { took = appends_nothing p.took; faults = refl; whole = refl }

pub took_on : (p q r : Writes) (xs ys : List ℕ) → TookAll p xs q → TookAll q ys r → TookAll p (xs ++ ys) r
took_on p q r xs ys h k = record { took = appends_on p.took q.took r.took xs ys h.took k.took; faults = k.faults ∙ h.faults; whole = k.whole ∙ h.whole }

-- a piece is at most one write
pub one_call : (piece : List ℕ) (calls after : ℕ) → after ≡ calls_after piece calls → after ≤ calls + 1
one_call [] calls after is = omega (arith, is)
one_call (byte ∷ piece) calls after is = omega (arith, is)
