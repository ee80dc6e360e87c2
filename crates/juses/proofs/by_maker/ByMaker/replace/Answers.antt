use Rattle.std.proofs.Common.{◌≡◌, ◌∙◌, ◌-◌, sym, ap, subst, IsSome, [], Some, slice_set}
use Rattle.juses.specs.Tables.{made_in, numbered, with_made}
use Rattle.juses.proofs.Makers.{found, missing, through, numbered_within, numbered_is, none_numbered}
use Rattle.juses.proofs.by_maker.ByMaker.replace.Goals as goal

pub replace-requires : goal.replace-requires
replace-requires g c =
    let here = sym (ap (λ t. made_in t c.args.maker.now) c.self.view_is) ∙ found (λ k. k.items) c.self.inside.makers.entries [] c.args.maker.now c.in-Some.made.now [] (sym c.in-Some.ensures.value) in
    numbered_within c.in-Some.made.now c.args.number (subst (λ l. IsSome (numbered l c.args.number)) here c.requires)

pub unreachable-requires : goal.unreachable-requires
unreachable-requires g c =
    let here = sym (ap (λ t. made_in t c.args.maker.now) c.self.view_is) ∙ missing (λ k. k.items) c.self.inside.makers.entries [] c.args.maker.now [] [] (sym c.in-None.ensures.value) in
    none_numbered c.args.number _ here c.requires

pub returns-clause-before : goal.returns-clause-before
returns-clause-before g c =
    let here = sym (ap (λ t. made_in t c.args.maker.now) c.self.view_is) ∙ found (λ k. k.items) c.self.inside.makers.entries [] c.args.maker.now c.in-Some.made.now [] (sym c.in-Some.ensures.value) in
    ap (λ l. numbered l c.args.number) here
    ∙ numbered_is c.in-Some.made.now c.args.number c.replace.result (subst (λ l. IsSome (numbered l c.args.number)) here c.requires) c.replace.ensures.before

pub returns-clause-after : goal.returns-clause-after
returns-clause-after g c =
    let here = sym (ap (λ t. made_in t c.args.maker.now) c.self.view_is) ∙ found (λ k. k.items) c.self.inside.makers.entries [] c.args.maker.now c.in-Some.made.now [] (sym c.in-Some.ensures.value) in
    through (λ k. k.items) c.self.inside.makers.entries (c.get_mut.follows.lender c.replace.new.self).entries c.args.maker.now c.in-Some.made.now c.replace.new.self (sym c.in-Some.ensures.value) c.in-Some.ensures.ordered (c.get_mut.follows.holds c.replace.new.self).0
    ∙ λ i. with_made (c.self.view_is i) c.args.maker.now ((c.replace.ensures.after ∙ ap (λ l. slice_set l (c.args.number - 1) c.args.item) (sym here)) i)
