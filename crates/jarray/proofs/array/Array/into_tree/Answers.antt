use Rattle.std.proofs.Common.{◌≡◌, ◌∙◌, sym, ap}
use Rattle.jdata.specs.Noun.{int_atom}
use Rattle.jarray.specs.Arrays.{seen}
use Rattle.jarray.specs.Placed.{Placed}
use Rattle.jarray.proofs.array.Array.into_tree.Goals as goal

pub returns-in-Atom-clause-own : goal.returns-in-Atom-clause-own
returns-in-Atom-clause-own c = λ b alone. absurd (alone c.in-Atom.number (ap (λ (p : Placed). p.noun) (sym c.self.view_is ∙ ap seen c.in-Atom.is)))
