use Rattle.std.proofs.Common.{sym, subst, ap, ◌∙◌, ◌≢◌, IfNone, ℤ}
use Rattle.jdata.specs.Noun.{int_atom}
use Rattle.jarray.specs.Arrays.{seen}
use Rattle.jarray.specs.Placed.{Placed}
use Rattle.jarray.proofs.array.Array.integer.Goals as goal

pub returns-in-Own-clause-none : goal.returns-in-Own-clause-none
returns-in-Own-clause-none c =
    subst (λ v. IfNone c.integer.result ((n : ℤ) → v ≢ int_atom n)) (ap (λ (a : Placed). a.noun) (sym (ap seen c.in-Own.is) ∙ c.self.view_is)) c.integer.ensures.none
