use Rattle.std.proofs.Common.{◌∙◌, sym}
use Rattle.std.specs.Map.{lookup}
use Rattle.juses.specs.Keys.{same}
use Rattle.juses.proofs.Tables.{lookup-by_items}
use Rattle.juses.proofs.locales.Names.get.Goals as goal

pub returns : goal.returns
returns c =
    c.get.ensures.value
    ∙ (sym (lookup-by_items (λ k. k.items) c.items.result.now c.self.inside.values.entries)
    ∙ λ i. lookup (same (c.items.ensures i)) (c.self.view_is i))
