use Rattle.std.proofs.Common.{ap, sym, ◌∙◌}
use Rattle.jdata.specs.Trees.{atom_of}
use Rattle.jdata.specs.declared.noun.Atom.{out-Atom}
use Rattle.jamend.specs.Naming as meant
use Rattle.jamend.proofs.Boxes.{nested_box, nested_pyx}
use Rattle.jamend.proofs.naming.is_nested.Goals as goal

pub returns-in-Boxed : goal.returns-in-Boxed
returns-in-Boxed c = c.has_boxes.ensures ∙ sym (ap (λ a. meant.is_nested (out-Atom (atom_of a))) c.in-Boxed.is ∙ nested_box c.in-Boxed.content)

pub returns-in-Pyx : goal.returns-in-Pyx
returns-in-Pyx c = sym (ap (λ a. meant.is_nested (out-Atom (atom_of a))) c.in-Pyx.is ∙ nested_pyx c.in-Pyx.field-0)
