use Rattle.std.proofs.Common.{ap, ◌∙◌, ◌≡◌}
use Rattle.std.proofs.lemmas.Result.{MatchResult-weaker}
use Rattle.jdata.specs.Trees.{atom_of}
use Rattle.jdata.specs.declared.noun.Atom.{out-Atom}
use Rattle.jselect.specs.From.{numbers_boxed}
use Rattle.jamend.specs.Naming as meant
use Rattle.jamend.proofs.Boxes.{in_box, in_pyx}
use Rattle.jamend.proofs.naming.box_numbers.Goals as goal

pub returns-in-Boxed : goal.returns-in-Boxed
returns-in-Boxed c =
    let same : meant.box_numbers (out-Atom (atom_of c.args.cell.now)) ≡ numbers_boxed c.in-Boxed.content =
    ap (λ a. meant.box_numbers (out-Atom (atom_of a))) c.in-Boxed.is ∙ in_box c.in-Boxed.content in
    MatchResult-weaker c.numbers_boxed.result c.numbers_boxed.ensures (λ l h. same ∙ h) (λ why h. same ∙ h)

pub returns-in-Pyx : goal.returns-in-Pyx
returns-in-Pyx c = ap (λ a. meant.box_numbers (out-Atom (atom_of a))) c.in-Pyx.is ∙ in_pyx c.in-Pyx.field-0
