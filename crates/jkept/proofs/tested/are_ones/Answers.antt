use Rattle.std.proofs.Common.{sym, ap, ◌∙◌}
use Rattle.jkept.proofs.Atoms.{ones, number_ones, char_ones, cell_ones}
use Rattle.jkept.proofs.tested.are_ones.Goals as goal

pub returns-in-Int : goal.returns-in-Int
returns-in-Int c = c.all_ones.ensures ∙ (sym (number_ones c.in-Int.numbers.now) ∙ ap ones c.in-Int.ensures.atoms)

pub returns-in-Char : goal.returns-in-Char
returns-in-Char c = c.is_empty.ensures ∙ (sym (char_ones c.in-Char.bytes.now) ∙ ap ones c.in-Char.ensures.atoms)

pub returns-in-Cell : goal.returns-in-Cell
returns-in-Cell c = c.is_empty-in-Cell.ensures ∙ (sym (cell_ones c.in-Cell.cells.now) ∙ ap ones c.in-Cell.ensures.atoms)
