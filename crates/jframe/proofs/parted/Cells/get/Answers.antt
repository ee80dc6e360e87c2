use Rattle.std.proofs.Common.{ap, ◌∙◌, ◌≡◌, length, map, arith, []}
use Rattle.std.proofs.lemmas.List.{nil_from_length}
use Rattle.jdata.specs.Noun.{product, greatest, atom_level}
use Rattle.jarray.specs.Placed.{own}
use Rattle.jdata.proofs.Arrays.{few_atoms}
use Rattle.jdata.proofs.Levels.{level_is}
use Rattle.jframe.proofs.Arrays.{cell_ends, cell_of_range, cell_of_integer}
use Rattle.jframe.proofs.parted.Cells.get.Goals as goal

pub overflow_mul-at : goal.overflow_mul-at
overflow_mul-at c =
    let count = c.product-count.ensures ∙ ap (λ x. product x.cell) c.self.view_is in
    let h = cell_ends _ _ _ _ _ c.requires.within c.requires.parted c.shape-shape.ensures.array count in
    let few = few_atoms _ c.shape-shape.ensures.array in
    omega (arith, h, few)

pub cell_of-requires-clause-within : goal.cell_of-requires-clause-within
cell_of-requires-clause-within c =
    let count = c.product-count.ensures ∙ ap (λ x. product x.cell) c.self.view_is in
    let h = cell_ends _ _ _ _ _ c.requires.within c.requires.parted c.shape-shape.ensures.array count in
    omega (arith, h, ap length c.leaf.ensures.atoms)

pub cell_of-requires-clause-levels : goal.cell_of-requires-clause-levels
cell_of-requires-clause-levels c =
    let all = ap (λ l. greatest (map atom_level l)) c.leaf.ensures.atoms in
    omega (arith, all, level_is c.args.y.now.noun, c.shape-shape.ensures.array.level_at_most)

pub returns-in-empty-Int : goal.returns-in-empty-Int
returns-in-empty-Int c =
    let is = c.axes.ensures.axes ∙ ap (λ x. x.cell) c.self.view_is in
    let none : c.args.self.now.cell ≡ [] = nil_from_length _ (omega (arith, ap length is, c.in-empty-Int.len_below)) in
    c.number_at.ensures ∙ ap own (cell_of_integer c.args.self.now.cell c.args.y.now.noun c.args.at c.in-empty-Int.numbers.now none c.in-empty-Int.ensures.kind c.in-empty-Int.ensures.atoms)

pub returns-in-Ok : goal.returns-in-Ok
returns-in-Ok c =
    let count = c.product-count.ensures ∙ ap (λ x. product x.cell) c.self.view_is in
    let h = cell_ends _ _ _ _ _ c.requires.within c.requires.parted c.shape-shape.ensures.array count in
    let is = c.axes.ensures.axes ∙ ap (λ x. x.cell) c.self.view_is in
    c.of.ensures ∙ ap own (c.in-Ok.ensures ∙ cell_of_range c.args.self.now.cell c.args.y.now.noun c.args.at c.product-count.result _ _ _ count h is c.leaf.ensures.kind c.leaf.ensures.atoms)
