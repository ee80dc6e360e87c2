use Rattle.std.proofs.Common.{drop, length, ◌∙◌}
use Rattle.std.proofs.lemmas.Slice.Eq.{starts_is}
use Rattle.std.proofs.lemmas.Bool.Decides.{Decides-eqb}
use Rattle.jshape.proofs.Agreeing.{by_axes}
use Rattle.jshape.proofs.agreement.is_prefix.Goals as goal

pub returns-clause-prefix : goal.returns-clause-prefix
returns-clause-prefix c =
    let h = starts_is Decides-eqb c.args.long.now c.args.short.now c.starts_with.result c.starts_with.ensures.value in
    (λ e. (drop (length c.args.short.now) c.args.long.now, h.0 e), λ p. h.1 p.0 p.1)

pub returns-clause-test : goal.returns-clause-test
returns-clause-test c = c.starts_with.ensures.value ∙ by_axes c.args.short.now c.args.long.now
