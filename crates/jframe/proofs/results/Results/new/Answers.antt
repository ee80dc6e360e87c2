use Rattle.std.proofs.Common.{◌≡◌, [], ◌++◌}
use Rattle.jdata.specs.Trees.{kind_of, atoms_of}
use Rattle.jdata.specs.declared.tree.Leaves.TheVariants as leaf
use Rattle.jframe.proofs.Alike.{alike_none}
use Rattle.jframe.proofs.results.Results.new.Goals as goal

pub returns : goal.returns
returns c =
    let none : c.of-3.result ≡ [] = cc in
    λ i. alike_none c.of.result (kind_of (leaf.Int c.of-2.result)) (atoms_of (leaf.Int c.of-2.result)) i ++ none i
