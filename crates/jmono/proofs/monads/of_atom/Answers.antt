use Rattle.std.proofs.Common.{sym, ◌∙◌, ap, Ok, rules}
use Rattle.std.specs.Prelude.{FitsSigned}
use Rattle.std.proofs.lemmas.Int.{to_z-of_z}
use mir.Syntax.{w64}
use Rattle.jdata.specs.Noun.{int_atom}
use Rattle.jarray.specs.Placed.{Placed}
use Rattle.jmono.proofs.Lists.{one_given, one_refused}
use Rattle.jmono.proofs.monads.of_atom.Goals as goal

pub returns-then-none-clause-answer : goal.returns-then-none-clause-answer
returns-then-none-clause-answer g c =
    let f = c.ranges.number in
    let told = simp to_z-of_z at c.raw-value.ensures in
    one_refused g.V.Monad.meant c.args.number c.raw-value.result.0 c.raw-value.result.1 told c.if-none.true

pub returns-else-none-clause-answer : goal.returns-else-none-clause-answer
returns-else-none-clause-answer g c =
    let f = c.ranges.number in
    let told = simp to_z-of_z at c.raw-value.ensures in
    let kept : FitsSigned w64 c.raw-value.result.0 = search rules in
    one_given g.V.Monad.meant c.args.number c.raw-value.result.0 c.raw-value.result.1 told c.if-none.false
    ∙ ap Ok (sym (ap (λ (p : Placed). p.noun) c.atom.ensures ∙ ap int_atom (to_z-of_z w64 c.raw-value.result.0 kept)))
