use Rattle.std.proofs.Common.{arith, ◌∙◌, sym, ap, map}
use Rattle.jdata.specs.Falls.{falls}
use Rattle.jdata.specs.Pyxes.{first_pyx, atom_pyx, first_some}
use Rattle.jdata.specs.declared.noun.Noun.{size-Noun}
use Rattle.jdata.specs.Trees.{atom_of, atoms_of, value_of}
use Rattle.jdata.proofs.Sizes.{cells_within}
use Rattle.jdata.proofs.FirstPyx.{pyx_is, pyx_of_box, pyx_of_pyx, pyx_of_ints, pyx_of_chars, found_here, first_in}
use Rattle.jdata.proofs.tree.+pyxes.Goals as goal

pub Cell::first_pyx-returns-in-Boxed : goal.Cell::first_pyx-returns-in-Boxed
Cell::first_pyx-returns-in-Boxed t c = c.first_pyx.ensures ∙ sym (pyx_of_box c.in-Boxed.content) ∙ ap (λ x. atom_pyx (atom_of x)) (sym c.in-Boxed.is)

pub Cell::first_pyx-returns-in-Pyx : goal.Cell::first_pyx-returns-in-Pyx
Cell::first_pyx-returns-in-Pyx t c = sym (pyx_of_pyx c.in-Pyx.name) ∙ ap (λ x. atom_pyx (atom_of x)) (sym c.in-Pyx.is)

pub Tree::first_pyx-first_of-requires : goal.Tree::first_pyx-first_of-requires
Tree::first_pyx-first_of-requires t c = (omega (arith, cells_within _ _ _ c.in-Cell.is c.items.ensures, falls c.self.inside, ap size-Noun c.self.view_is), tt)

pub Tree::first_pyx-returns-in-Int : goal.Tree::first_pyx-returns-in-Int
Tree::first_pyx-returns-in-Int t c =
    sym (ap first_pyx (sym c.self.view_is) ∙ pyx_is (value_of c.self.inside) ∙ ap (λ l. first_some (map atom_pyx (atoms_of l))) c.in-Int.is ∙ pyx_of_ints _)

pub Tree::first_pyx-returns-in-Char : goal.Tree::first_pyx-returns-in-Char
Tree::first_pyx-returns-in-Char t c =
    sym (ap first_pyx (sym c.self.view_is) ∙ pyx_is (value_of c.self.inside) ∙ ap (λ l. first_some (map atom_pyx (atoms_of l))) c.in-Char.is ∙ pyx_of_chars _)

pub Tree::first_pyx-returns-in-Cell : goal.Tree::first_pyx-returns-in-Cell
Tree::first_pyx-returns-in-Cell t c =
    c.first_of.ensures
    ∙ ap first_in c.items.ensures
    ∙ sym (ap first_pyx (sym c.self.view_is) ∙ pyx_is (value_of c.self.inside) ∙ ap (λ l. first_some (map atom_pyx (atoms_of l))) c.in-Cell.is)

pub pyxes::first_of-returns-in-Some : goal.pyxes::first_of-returns-in-Some
pyxes::first_of-returns-in-Some t c = found_here _ _ _ _ c.loop-cell-test.true c.cell-item.is (sym c.first_pyx.ensures ∙ c.in-Some.is) c.loop-cell.invariant
