use Rattle.std.proofs.Common.{◌∙◌, sym, ap}
use Rattle.std.specs.Map.{lookup}
use Rattle.juses.specs.Keys.{same}
use Rattle.juses.proofs.Tables.{lookup-by_items}
use Rattle.juses.proofs.locales.Locales.names.Goals as goal

pub returns : goal.returns
returns c =
    c.get.ensures.value
    ∙ (sym (lookup-by_items (λ k. k.items) c.args.place.now c.self.inside.places.entries)
    ∙ ap (lookup (same c.args.place.now)) c.self.view_is)
