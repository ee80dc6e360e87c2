use Rattle.std.proofs.Common.{arith, refl, sym, ap, ◌∙◌, ◌++◌, ◌∷◌, [], w64}
use Rattle.std.proofs.lemmas.Int.{to_z-of_z}
use Rattle.jdata.specs.Noun.{int_atom}
use Rattle.jdata.specs.Trees.{atoms_of}
use Rattle.jdata.specs.declared.noun.Atom.TheVariants as atom
use Rattle.jarray.proofs.Atoms.{alone_is_array}
use Rattle.jframe.proofs.Pushing.{more_kept, more_seen, count_within}
use Rattle.jframe.proofs.results.Results.push_integer.Goals as goal

pub overflow_add-self : goal.overflow_add-self
overflow_add-self c = omega (arith, count_within c.self.inside c.args.self.now c.self.view_is, c.requires.few)

pub invariant_of-self-then-are_integers : goal.invariant_of-self-then-are_integers
invariant_of-self-then-are_integers c =
    let flat = c.are_integers.ensures c.if-are_integers.true in
    let grown = c.in_ok-push_number.ensures.ok ∙ ap (λ n. atoms_of c.self.inside.atoms ++ atom.Int n ∷ []) (to_z-of_z w64 c.args.number c.ranges.number) in
    more_kept _ c.self.inside (int_atom c.args.number) c.self.invariant refl refl flat.0 grown (alone_is_array c.args.number)

pub returns-then-are_integers-clause-ok : goal.returns-then-are_integers-clause-ok
returns-then-are_integers-clause-ok c =
    let flat = c.are_integers.ensures c.if-are_integers.true in
    let grown = c.in_ok-push_number.ensures.ok ∙ ap (λ n. atoms_of c.self.inside.atoms ++ atom.Int n ∷ []) (to_z-of_z w64 c.args.number c.ranges.number) in
    more_seen _ c.self.inside c.args.self.now (int_atom c.args.number) c.self.view_is c.self.invariant flat.2 refl (c.in_ok-push_number.ensures.kind ∙ sym flat.1) flat.1 refl flat.0 refl
    grown (alone_is_array c.args.number)
