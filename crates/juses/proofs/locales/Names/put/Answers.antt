use Rattle.std.proofs.Common.{◌∙◌, ap}
use Rattle.std.specs.BTreeMap.{insert_entry}
use Rattle.std.specs.Cmp.Lexicographic.{slice_cmp}
use Rattle.std.specs.Ordering.{nat_cmp}
use Rattle.juses.specs.Tables.{by_items}
use Rattle.juses.proofs.Tables.{insert_entry-by_items}
use Rattle.juses.proofs.locales.Names.put.Goals as goal

pub returns-clause-ok : goal.returns-clause-ok
returns-clause-ok c =
    ap (by_items (λ k. k.items)) c.in_ok-insert.ensures.entries
    ∙ (insert_entry-by_items (λ k. k.items) c.self.inside.values.entries c.into_items.result c.args.value
    ∙ λ i. insert_entry (slice_cmp nat_cmp) (c.self.view_is i) (c.into_items.ensures i) c.args.value)
