use Rattle.std.proofs.Common.{sym, ap, ◌∙◌}
use Rattle.jkept.specs.Keeping.{kept_after}
use Rattle.jkept.proofs.Values.{keeps}
use Rattle.jkept.proofs.kept.Kept.keep.Goals as goal

pub returns-in-Ok-clause-ok : goal.returns-in-Ok-clause-ok
returns-in-Ok-clause-ok c =
    keeps c.self.inside.result c.self.inside.values.entries c.args.self.now c.self.view_is c.in-Some.word c.insert.new.self.entries c.args.value c.in-Ok.ensures.updates.0
    ∙ ap (λ test. kept_after test c.args.value c.args.self.now) (sym c.in-Some.is)
