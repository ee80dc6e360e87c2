use Rattle.std.proofs.Common.{ap, ◌∙◌, ◌≡◌, length, arith}
use Rattle.jdata.specs.Noun.{atoms}
use Rattle.jdata.specs.Trees.{kind_of, atoms_of}
use Rattle.jdata.proofs.Arrays.{no_error}
use Rattle.jstruct.proofs.Layers.{kind_made}
use Rattle.jstruct.proofs.joins.as_kind.Goals as goal

pub unreachable-requires : goal.unreachable-requires
unreachable-requires c =
    let y = c.args.y.noun in
    let same = ap length c.leaf.ensures.atoms in
    let none : length (atoms y) ≡ 0 = omega (arith, same, c.len.ensures, c.if-len-gt0.false) in
    let made = kind_made c.args.kind (kind_of c.in_ok-none.none) y c.in_ok-axes.axes.items (atoms_of c.in_ok-none.none) c.shape.ensures.array none
    (c.in_ok-axes.ensures.items ∙ c.shape.ensures.value) c.in_ok-none.ensures.kind c.in_ok-none.ensures.atoms in
    no_error _ _ _ _ c.new.ensures made c.in-Err.is
