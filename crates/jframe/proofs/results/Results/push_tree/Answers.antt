use Rattle.std.proofs.Common.{arith, refl, sym, ap, ◌∙◌, ◌≡◌, ◌++◌, []}
use Rattle.std.proofs.lemmas.Bool.{eqb-true}
use Rattle.std.proofs.lemmas.List.{nil_from_length}
use Rattle.jdata.specs.Noun.{atoms}
use Rattle.jdata.specs.Trees.{noun_of, atoms_of}
use Rattle.jframe.proofs.Pushing.{first_kept, first_seen, more_kept, more_seen, count_within}
use Rattle.jframe.proofs.results.Results.push_tree.Goals as goal

pub invariant_of-self : goal.invariant_of-self
invariant_of-self c =
    first_kept _ c.args.tree refl (ap (λ s. noun_of s c.into_parts-axes.result.1) c.of.ensures ∙ c.into_parts-axes.ensures) c.shape-shape.ensures.array

pub returns-then-is_empty-clause-ok : goal.returns-then-is_empty-clause-ok
returns-then-is_empty-clause-ok c =
    let nothing : c.self.inside.others ≡ [] = sym c.items.ensures ∙ nil_from_length _ (eqb-true _ _ (sym c.is_empty.ensures ∙ c.if-is_empty.true)) in
    first_seen _ c.self.inside c.args.self.now c.args.tree c.self.view_is c.if-self-eq0.true nothing refl refl
    (ap (λ s. noun_of s c.into_parts-axes.result.1) c.of.ensures ∙ c.into_parts-axes.ensures) c.shape-shape.ensures.array

pub overflow_add-self : goal.overflow_add-self
overflow_add-self c = omega (arith, count_within c.self.inside c.args.self.now c.self.view_is, c.requires.few)

pub invariant_of-self-then-goes_with : goal.invariant_of-self-then-goes_with
invariant_of-self-then-goes_with c =
    let alike = c.goes_with.ensures c.if-goes_with.true in
    more_kept _ c.self.inside c.args.tree c.self.invariant refl refl alike.0 (c.in_ok-append.ensures.ok ∙ ap (λ v. atoms_of c.self.inside.atoms ++ atoms v) c.into_parts-leaves.ensures) c.shape-shape-then-goes_with.ensures.array

pub returns-then-goes_with-clause-ok : goal.returns-then-goes_with-clause-ok
returns-then-goes_with-clause-ok c =
    let alike = c.goes_with.ensures c.if-goes_with.true in
    more_seen _ c.self.inside c.args.self.now c.args.tree c.self.view_is c.self.invariant alike.2 refl c.in_ok-append.ensures.kind alike.1 refl alike.0 refl
    (c.in_ok-append.ensures.ok ∙ ap (λ v. atoms_of c.self.inside.atoms ++ atoms v) c.into_parts-leaves.ensures) c.shape-shape-then-goes_with.ensures.array
