use Rattle.std.proofs.Common.{◌∙◌, sym, ap}
use Rattle.std.specs.Map.{lookup}
use Rattle.juses.specs.Keys.{same}
use Rattle.juses.proofs.Tables.{lookup-by_items}
use Rattle.juses.proofs.by_maker.ByMaker.made.Goals as goal

pub returns : goal.returns
returns g c =
    c.get.ensures.value
    ∙ (sym (lookup-by_items (λ k. k.items) c.args.maker.now c.self.inside.makers.entries)
    ∙ ap (lookup (same c.args.maker.now)) c.self.view_is)
