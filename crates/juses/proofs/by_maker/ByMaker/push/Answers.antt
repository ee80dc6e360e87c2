use Rattle.std.proofs.Common.{◌≡◌, ◌∙◌, ◌++◌, ◌∷◌, [], sym, ap}
use Rattle.std.specs.BTreeMap.{insert_entry}
use Rattle.juses.specs.Tables.{made_in, with_made}
use Rattle.juses.proofs.Tables.{by_those, on_ok, on_err}
use Rattle.juses.proofs.Makers.{found, missing, through, unchanged, anew}
use Rattle.juses.proofs.by_maker.ByMaker.push.Goals as goal

pub returns-in-Some-clause-ok : goal.returns-in-Some-clause-ok
returns-in-Some-clause-ok g c =
    let here = sym (ap (λ t. made_in t c.args.maker.now) c.self.view_is) ∙ found (λ k. k.items) c.self.inside.makers.entries [] c.args.maker.now c.in-Some.made.now [] (sym c.in-Some.ensures.value) in
    on_ok c.push.result
    (λ pushed. through (λ k. k.items) c.self.inside.makers.entries (c.get_mut.follows.lender c.push.new.self).entries c.args.maker.now c.in-Some.made.now c.push.new.self (sym c.in-Some.ensures.value) c.in-Some.ensures.ordered (c.get_mut.follows.holds c.push.new.self).0
    ∙ λ i. with_made (c.self.view_is i) c.args.maker.now ((pushed ∙ ap (λ l. l ++ c.args.item ∷ []) (sym here)) i))
    c.push.ensures.ok

pub returns-in-Some-clause-err : goal.returns-in-Some-clause-err
returns-in-Some-clause-err g c =
    on_err c.push.result
    (λ as_before. unchanged (λ k. k.items) c.self.inside.makers.entries (c.get_mut.follows.lender c.push.new.self).entries c.args.maker.now c.in-Some.made.now c.push.new.self (sym c.in-Some.ensures.value) (c.get_mut.follows.holds c.push.new.self).0 as_before
    ∙ c.self.view_is)
    c.push.ensures.err

pub returns-clause-ok : goal.returns-clause-ok
returns-clause-ok g c =
    let none = sym (ap (λ t. made_in t c.args.maker.now) c.self.view_is) ∙ missing (λ k. k.items) c.self.inside.makers.entries [] c.args.maker.now [] [] (sym c.in_default.ensures.value) in
    let inserted = c.in_ok-insert.ensures.entries ∙ ap (λ m. insert_entry (by_those (λ k. k.items)) m.entries c.in_ok-from_slice.field-0 c.push-2.new.self) c.get_mut.follows.holds-at-none in
    let one = c.in_ok-push.ensures.ok ∙ ap (λ l. l ++ c.args.item ∷ []) (c.of-made.ensures ∙ c.new.ensures.items) in
    anew (λ k. k.items) c.self.inside.makers.entries c.insert.new.self.entries c.args.maker.now [] c.push-2.new.self c.in_ok-from_slice.field-0 c.in_ok-from_slice.ensures.items inserted
    ∙ λ i. with_made (c.self.view_is i) c.args.maker.now ((one ∙ ap (λ l. l ++ c.args.item ∷ []) (sym none)) i)
