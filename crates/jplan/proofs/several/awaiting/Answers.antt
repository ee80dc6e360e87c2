use Rattle.std.proofs.Common.{◌+◌, ◌++◌, ◌∷◌, [], ap}
use Rattle.juses.specs.Program.{Ask}
use Rattle.jplan.specs.Derivations.{on, on_value}
use Rattle.jplan.specs.Several.{from_on, several_of}
use Rattle.jplan.specs.declared.series.Series.{Series}
use Rattle.jplan.proofs.several.awaiting.Goals as goal

pub returns-clause-rest : goal.returns-clause-rest
returns-clause-rest c =
    let u = c.args.verb.now in
    ap (λ (s : Series). Ask (on u c.args.x c.args.y) (on_value (λ value. from_on u (several_of s.parts) (s.at + 1) (s.results ++ value ∷ [])))) c.in_ok-series.ensures.ok
