use Rattle.std.proofs.Common.{arith, ap, sym, ◌∙◌, ◌++◌, subst, map}
use Rattle.std.proofs.lemmas.Result.{on_ok_weaker}
use Rattle.jdata.specs.Leaf.{atoms_in, kind_in}
use Rattle.jdata.specs.Limits.{IsArray}
use Rattle.jdata.specs.Noun.{atom_level, greatest, noun}
use Rattle.jdata.specs.Trees.{atom_of}
use Rattle.jdata.specs.declared.noun.Atom.TheVariants as atom
use Rattle.jdata.proofs.Extents.{product_at_most}
use Rattle.jdata.proofs.Levels.{level_of_box, level_is}
use Rattle.jsearch.specs.Codes.{atom_code, code}
use Rattle.jsearch.proofs.Deep.{level_in}
use Rattle.jsearch.proofs.Pushing.{whole_code, boxed_code}
use Rattle.jsearch.proofs.codes.+codes.Goals as goal

pub push_cells-push_cell-requires : goal.push_cells-push_cell-requires
push_cells-push_cell-requires t c = (omega (arith, level_in _ _ _ c.loop-cell-test.true c.cell-item.is), tt)

pub push_cell-push_code-requires : goal.push_cell-push_code-requires
push_cell-push_code-requires t c =
    let v = c.in-Boxed.content in
    let deep = level_of_box v in
    let this = ap (λ x. atom_level (atom_of x)) c.in-Boxed.is in
    let inner = level_is v in
    let seen = ap (λ l. greatest (map atom_level l)) c.leaf.ensures.atoms in (
      omega (arith, deep, this, inner, seen),
      subst IsArray (λ i. noun (sym c.shape.ensures.value i) (sym c.leaf.ensures.kind i) (sym c.leaf.ensures.atoms i)) c.shape.ensures.array,
    )

pub push_cell-returns-in_ok-push-in-Boxed : goal.push_cell-returns-in_ok-push-in-Boxed
push_cell-returns-in_ok-push-in-Boxed t c =
    let v = c.in-Boxed.content in
    on_ok_weaker c.push_code.result
    (λ h. boxed_code v c.args.into.now.items c.push.new.self.items _ c.in_ok-push-in-Boxed.ensures.items
    (h ∙ (λ i. c.push.new.self.items ++ code (noun (c.shape.ensures.value i) (c.leaf.ensures.kind i) (c.leaf.ensures.atoms i))))
    ∙ ap (λ x. c.args.into.now.items ++ atom_code (atom_of x)) (sym c.in-Boxed.is))
    c.push_code.ensures

pub push_code-push_head-requires-clause-count : goal.push_code-push_head-requires-clause-count
push_code-push_head-requires-clause-count t c =
    let most = product_at_most c.args.axes.now in
    let bound = c.requires.within.extent_at_most in
    let many = c.requires.whole in
    let long = c.len.ensures in
    omega (arith, most, bound, many, long)

pub push_code-returns-in-Int : goal.push_code-returns-in-Int
push_code-returns-in-Int t c =
    on_ok_weaker c.push_integers.result
    (λ h. whole_code c.args.axes.now (kind_in c.args.atoms) (atoms_in c.args.atoms) c.kind.result c.len.result c.args.into.now.items _ _ (map atom.Int c.in-Int.numbers.now)
    c.kind.ensures c.len.ensures (ap atoms_in (sym c.in-Int.is)) c.in_ok-push_head.ensures h)
    c.push_integers.ensures

pub push_code-returns-in-Char : goal.push_code-returns-in-Char
push_code-returns-in-Char t c =
    on_ok_weaker c.push_characters.result
    (λ h. whole_code c.args.axes.now (kind_in c.args.atoms) (atoms_in c.args.atoms) c.kind.result c.len.result c.args.into.now.items _ _ (map atom.Char c.in-Char.bytes.now)
    c.kind.ensures c.len.ensures (ap atoms_in (sym c.in-Char.is)) c.in_ok-push_head.ensures h)
    c.push_characters.ensures

pub push_code-returns-in-Cell : goal.push_code-returns-in-Cell
push_code-returns-in-Cell t c =
    on_ok_weaker c.push_cells.result
    (λ h. whole_code c.args.axes.now (kind_in c.args.atoms) (atoms_in c.args.atoms) c.kind.result c.len.result c.args.into.now.items _ _ (map atom_of c.in-Cell.cells.now)
    c.kind.ensures c.len.ensures (ap atoms_in (sym c.in-Cell.is)) c.in_ok-push_head.ensures h)
    c.push_cells.ensures
