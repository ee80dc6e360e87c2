use Rattle.std.proofs.Common.{sym, ap, ◌∙◌}
use Rattle.jkept.specs.Tested.{first_holds}
use Rattle.jkept.proofs.Atoms.{chars_hold, cells_hold}
use Rattle.jkept.proofs.tested.holds.Goals as goal

pub returns-in-Char : goal.returns-in-Char
returns-in-Char c = sym (chars_hold c.in-Char.field-0.now) ∙ ap first_holds c.in-Char.ensures.atoms

pub returns-in-Cell : goal.returns-in-Cell
returns-in-Cell c = sym (cells_hold c.in-Cell.field-0.now) ∙ ap first_holds c.in-Cell.ensures.atoms
