use Rattle.std.proofs.Common.{◌∙◌}
use Rattle.jarray.specs.Matches.{matches}
use Rattle.jplan.proofs.Repeated.{same_test}
use Rattle.jplan.proofs.repeating.matches.Goals as goal

pub returns : goal.returns
returns c =
    same_test c.match_with.result c.array.result.now.noun c.array-2.result.now.noun c.match_with.ensures ∙ (λ i. matches (c.array.ensures i) (c.array-2.ensures i))
