use Rattle.std.proofs.Common.{arith, sym, subst, ap, ◌∙◌, length}
use Rattle.std.proofs.lemmas.Bool.{eqb-true}
use Rattle.std.proofs.lemmas.List.{length-append}
use Rattle.jdata.specs.Limits.{IsShape}
use Rattle.jdata.specs.Trees.{kind_of, atoms_of}
use Rattle.jframe.specs.Alike.{alike}
use Rattle.jdata.proofs.Extents.{product_at_most}
use Rattle.jframe.proofs.Alike.{length-alike}
use Rattle.jframe.proofs.Pushing.{count_within}
use Rattle.jframe.proofs.results.Results.finish.Goals as goal

pub assemble_alike-requires-clause-count : goal.assemble_alike-requires-clause-count
assemble_alike-requires-clause-count c =
    let a = c.self.inside in
    let none = eqb-true _ _ (sym c.is_empty.ensures ∙ c.if-is_empty.true) in
    omega (
      arith,
      ap length c.self.view_is,
      length-append (alike a.axes (kind_of a.atoms) (atoms_of a.atoms) a.count) a.others,
      length-alike a.axes (kind_of a.atoms) (atoms_of a.atoms) a.count,
      none,
      ap length c.items.ensures,
      c.requires,
    )

pub all_trees-requires-clause-few : goal.all_trees-requires-clause-few
all_trees-requires-clause-few c =
    let within = subst IsShape c.axes-axes.ensures.axes c.axes-axes.ensures.shape in
    omega (arith, count_within c.self.inside c.args.self c.self.view_is, c.requires, product_at_most c.args.frame.now, within.extent_at_most)
