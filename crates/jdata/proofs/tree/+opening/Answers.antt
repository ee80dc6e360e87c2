use Rattle.std.proofs.Common.{arith, refl, ◌∙◌, sym, ap, map, is_some, true≢false}
use Rattle.std.proofs.lemmas.Result.{err_from_is_err_and}
use Rattle.jdata.specs.Noun.{atom_level, greatest, noun}
use Rattle.jdata.specs.Pyxes.{first_pyx, atom_pyx, first_some, opened, opened_atom}
use Rattle.jdata.specs.Trees.{atom_of, atoms_of, value_of, noun_of}
use Rattle.jdata.specs.Falls.{falls}
use Rattle.jdata.specs.declared.noun.Noun.{size-Noun}
use Rattle.jdata.specs.declared.tree.Leaves.TheVariants as leaf
use Rattle.jdata.specs.declared.noun.Kind.TheVariants as sort
use Rattle.jdata.specs.declared.noun.Atom.TheVariants as atom
use Rattle.jdata.specs.declared.tree.Tree.TheDeep.{deep-Cell}
use Rattle.jdata.proofs.Sizes.{cells_within}
use Rattle.jdata.proofs.FirstPyx.{pyx_is, pyx_of_box, pyx_of_ints, pyx_of_chars}
use Rattle.jdata.proofs.Levels.{level_is, level_of_box}
use Rattle.jdata.proofs.Opening.{opened_box, opened_pyx, opened_kept, opened_level, still_array, cells_written, cells_too_deep}
use Rattle.jdata.proofs.tree.+opening.Goals as goal

pub Cell::open_first-open_first-requires : goal.Cell::open_first-open_first-requires
Cell::open_first-open_first-requires t c = (
  omega (arith, ap deep-Cell c.in-Boxed.is),
  sym (ap is_some (ap (λ x. atom_pyx (atom_of x)) c.in-Boxed.is ∙ pyx_of_box c.in-Boxed.content)) ∙ c.requires,
)

pub Cell::open_first-returns-in_err-open_first-in-Boxed-clause-limit :
    goal.Cell::open_first-returns-in_err-open_first-in-Boxed-clause-limit
Cell::open_first-returns-in_err-open_first-in-Boxed-clause-limit t c =
    let p = err_from_is_err_and c.from_residual.result c.from_residual.ensures.1 in
    let h = c.in_err-open_first-in-Boxed.ensures.limit in
    let box = ap (λ x. opened_atom c.args.value (atom_of x)) c.in-Boxed.is ∙ opened_box c.args.value c.in-Boxed.content in
    rw (p.1, p.2) (h.0, omega (arith, h.1, ap atom_level box, level_of_box (opened c.args.value c.in-Boxed.content)))

pub Cell::open_first-returns-in_ok-open_first-in-Boxed-clause-ok :
    goal.Cell::open_first-returns-in_ok-open_first-in-Boxed-clause-ok
Cell::open_first-returns-in_ok-open_first-in-Boxed-clause-ok t c =
    ap (λ v. atom.Box v) c.in_ok-open_first-in-Boxed.ensures.ok.0
    ∙ sym (ap (λ x. opened_atom c.args.value (atom_of x)) c.in-Boxed.is ∙ opened_box c.args.value c.in-Boxed.content)

pub Cell::open_first-returns-in-Pyx-clause-ok : goal.Cell::open_first-returns-in-Pyx-clause-ok
Cell::open_first-returns-in-Pyx-clause-ok t c = sym (ap (λ x. opened_atom c.args.value (atom_of x)) c.in-Pyx.is ∙ opened_pyx c.args.value c.in-Pyx.field-0)

pub Tree::open_first-unreachable-requires : goal.Tree::open_first-unreachable-requires
Tree::open_first-unreachable-requires t c =
    let none = ap first_pyx (sym c.self.view_is) ∙ pyx_is (value_of c.self.inside) ∙ ap (λ l. first_some (map atom_pyx (atoms_of l))) c.in-Int.is ∙ pyx_of_ints _ in
    true≢false (sym c.requires ∙ ap is_some none)

pub Tree::open_first-unreachable-requires-in-Char :
    goal.Tree::open_first-unreachable-requires-in-Char
Tree::open_first-unreachable-requires-in-Char t c =
    let none = ap first_pyx (sym c.self.view_is) ∙ pyx_is (value_of c.self.inside) ∙ ap (λ l. first_some (map atom_pyx (atoms_of l))) c.in-Char.is ∙ pyx_of_chars _ in
    true≢false (sym c.requires ∙ ap is_some none)

pub Tree::open_first-open_cells-requires : goal.Tree::open_first-open_cells-requires
Tree::open_first-open_cells-requires t c = (
  omega (arith, cells_within _ _ _ c.in-Cell.is refl, falls c.self.inside, ap size-Noun c.self.view_is),
  sym (ap is_some (ap first_pyx (sym c.self.view_is) ∙ pyx_is (value_of c.self.inside) ∙ ap (λ l. first_some (map atom_pyx (atoms_of l))) c.in-Cell.is)) ∙ c.requires,
)

pub Tree::open_first-returns-in_err-cells-in-Cell-clause-limit :
    goal.Tree::open_first-returns-in_err-cells-in-Cell-clause-limit
Tree::open_first-returns-in_err-cells-in-Cell-clause-limit t c =
    let p = err_from_is_err_and c.from_residual.result c.from_residual.ensures.1 in
    let h = c.in_err-cells-in-Cell.ensures.limit in
    rw (p.1, p.2) (h.0, rw (opened_level c.args.value _ _ _ _ c.self.view_is c.in-Cell.is) h.1)

pub Tree::open_first-returns-then-depth-gt-MAX_LEVEL-clause-limit :
    goal.Tree::open_first-returns-then-depth-gt-MAX_LEVEL-clause-limit
Tree::open_first-returns-then-depth-gt-MAX_LEVEL-clause-limit t c =
    let same = c.greatest_level-depth.ensures ∙ ap (λ m. greatest (map atom_level (map atom_of m))) c.items.ensures ∙ ap (λ m. greatest (map atom_level m)) c.in_ok-cells-in-Cell.ensures.ok in
    (refl, omega (arith, same, opened_level c.args.value _ _ _ _ c.self.view_is c.in-Cell.is, c.if-depth-gt-MAX_LEVEL.true))

pub Tree::open_first-invariant_of-result : goal.Tree::open_first-invariant_of-result
Tree::open_first-invariant_of-result t c =
    still_array c.args.value _ _ _ _ _ c.self.invariant.array c.in-Cell.is c.in_ok-cells-in-Cell.ensures.ok
    (c.greatest_level-depth.ensures ∙ ap (λ m. greatest (map atom_level (map atom_of m))) c.items.ensures) c.if-depth-gt-MAX_LEVEL.false

pub Tree::open_first-returns-clause-ok : goal.Tree::open_first-returns-clause-ok
Tree::open_first-returns-clause-ok t c =
    let same = c.greatest_level-depth.ensures ∙ ap (λ m. greatest (map atom_level (map atom_of m))) c.items.ensures in
    let v = noun_of c.self.inside.axes (leaf.Cell c.in_ok-cells-in-Cell.cells) in (
      ap (noun c.self.inside.axes sort.Boxed) c.in_ok-cells-in-Cell.ensures.ok ∙ sym (opened_kept c.args.value _ _ _ _ c.self.view_is c.in-Cell.is),
      omega (arith, same, level_is v, c.if-depth-gt-MAX_LEVEL.false),
    )

pub pyxes::open_cells-returns-in_err-opened-clause-limit :
    goal.pyxes::open_cells-returns-in_err-opened-clause-limit
pyxes::open_cells-returns-in_err-opened-clause-limit t c =
    let p = err_from_is_err_and c.from_residual.result c.from_residual.ensures.1 in
    let h = c.in_err-opened.ensures.limit in
    rw (p.1, p.2) (h.0, cells_too_deep c.args.value _ _ _ _ c.items.ensures c.place_of_pyx-at.ensures.within c.place_of_pyx-at.ensures.found c.place_of_pyx-at.ensures.before c.replace-cell.ensures.before h.1)

pub pyxes::open_cells-returns-clause-ok : goal.pyxes::open_cells-returns-clause-ok
pyxes::open_cells-returns-clause-ok t c =
    cells_written c.args.value _ _ _ _ _ _ _ _ c.items.ensures c.place_of_pyx-at.ensures.within c.place_of_pyx-at.ensures.found c.place_of_pyx-at.ensures.before c.replace-cell.ensures.before c.replace-cell.ensures.after c.replace-nothing.ensures.after c.in_ok-opened.ensures.ok
