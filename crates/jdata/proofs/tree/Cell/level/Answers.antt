use Rattle.std.proofs.Common.{◌∙◌, sym, ap, ◌+◌}
use Rattle.jdata.specs.Noun.{atom_level}
use Rattle.jdata.specs.Trees.{atom_of}
use Rattle.jdata.proofs.Levels.{level_of_box, level_of_pyx}
use Rattle.jdata.proofs.tree.Cell.level.Goals as goal

pub returns-in-Boxed-clause-value : goal.returns-in-Boxed-clause-value
returns-in-Boxed-clause-value c = ap (λ n. n + 1) c.level.ensures.value ∙ sym (level_of_box c.in-Boxed.content) ∙ ap (λ x. atom_level (atom_of x)) (sym c.in-Boxed.is)

pub returns-in-Pyx-clause-value : goal.returns-in-Pyx-clause-value
returns-in-Pyx-clause-value c = sym (level_of_pyx c.in-Pyx.field-0) ∙ ap (λ x. atom_level (atom_of x)) (sym c.in-Pyx.is)
