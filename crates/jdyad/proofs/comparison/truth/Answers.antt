use Rattle.std.proofs.Common.{rules, sym, ap, ◌∙◌, w64}
use Rattle.std.specs.Prelude.{Ok}
use mir.Val.{SFits}
use Rattle.std.proofs.lemmas.Int.{to_z-of_z}
use Rattle.jdyad.specs.Atoms.{compared}
use Rattle.jdyad.proofs.Comparing.{of_equal, of_unequal}
use Rattle.jdyad.proofs.comparison.truth.Goals as goal

pub returns-in-Equal : goal.returns-in-Equal
returns-in-Equal c =
    let fits : SFits w64 c.number.result = search rules in
    ap (λ v. compared v c.args.equal) c.in-Equal.is ∙ of_equal c.args.equal ∙ ap (λ n. Ok n) (sym (to_z-of_z w64 c.number.result fits ∙ c.number.ensures))

pub returns-in_default : goal.returns-in_default
returns-in_default c =
    let fits : SFits w64 c.number-in_default.result = search rules in
    of_unequal c.args.verb c.args.equal c.requires c.in_default.not-Equal ∙ ap (λ n. Ok n) (sym (to_z-of_z w64 c.number-in_default.result fits ∙ c.number-in_default.ensures))
