use Rattle.std.proofs.Common.{sym, subst, ap, ◌∙◌}
use Rattle.jdata.specs.Limits.{IsArray}
use Rattle.jarray.specs.Arrays.{seen}
use Rattle.jarray.proofs.Atoms.{alone_is_array}
use Rattle.jarray.specs.Placed.{Placed}
use Rattle.jarray.proofs.array.Array.shape.Goals as goal

pub returns-in-Atom-clause-array : goal.returns-in-Atom-clause-array
returns-in-Atom-clause-array c = subst IsArray (ap (λ (a : Placed). a.noun) (sym (ap seen c.in-Atom.is) ∙ c.self.view_is)) (alone_is_array c.in-Atom.field-0)
