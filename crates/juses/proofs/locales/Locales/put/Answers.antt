use Rattle.std.proofs.Common.{◌∙◌, sym, ap}
use Rattle.std.specs.BTreeMap.{insert_entry}
use Rattle.juses.specs.Keeping.{with_value}
use Rattle.juses.proofs.Tables.{by_those, written_through, kept_through, inserted_anew, on_ok, on_err}
use Rattle.juses.proofs.locales.Locales.put.Goals as goal

pub returns-in-Some-clause-ok : goal.returns-in-Some-clause-ok
returns-in-Some-clause-ok c =
    on_ok c.put.result
    (λ inserted. written_through (λ k. k.items) c.self.inside.places.entries (c.get_mut.follows.lender c.put.new.self).entries c.items.result.now c.in-Some.names.now c.put.new.self c.args.name c.args.value (sym c.in-Some.ensures.value) c.in-Some.ensures.ordered (c.get_mut.follows.holds c.put.new.self).0 inserted
    ∙ λ i. with_value (c.self.view_is i) (c.items.ensures i) c.args.name c.args.value)
    c.put.ensures.ok

pub returns-in-Some-clause-err : goal.returns-in-Some-clause-err
returns-in-Some-clause-err c =
    on_err c.put.result
    (λ same_names. kept_through (λ k. k.items) c.self.inside.places.entries (c.get_mut.follows.lender c.put.new.self).entries c.items.result.now c.in-Some.names.now c.put.new.self (sym c.in-Some.ensures.value) (c.get_mut.follows.holds c.put.new.self).0 same_names
    ∙ c.self.view_is)
    c.put.ensures.err

pub returns-clause-ok : goal.returns-clause-ok
returns-clause-ok c =
    let inserted = c.in_ok-insert.ensures.entries ∙ ap (λ m. insert_entry (by_those (λ k. k.items)) m.entries c.into_items.result c.put-2.new.self) c.get_mut.follows.holds-at-none in
    inserted_anew (λ k. k.items) c.self.inside.places.entries c.insert.new.self.entries c.items.result.now c.new-names.result c.put-2.new.self c.into_items.result c.args.name c.args.value (c.into_items.ensures ∙ sym c.items.ensures) (sym c.in_default.ensures.value) inserted c.in_ok-put.ensures.ok c.new-names.ensures
    ∙ λ i. with_value (c.self.view_is i) (c.items.ensures i) c.args.name c.args.value
