use Rattle.std.proofs.Common.{◌≡◌, ◌≢◌, ◌<◌, ◌∙◌, ap, sym, map, length, arith}
use Rattle.jdata.specs.Leaf.{atoms_in, kind_in}
use Rattle.jdata.specs.Noun.{atoms, kind, shape}
use Rattle.jdata.specs.declared.noun.Atom.TheVariants as atom
use Rattle.jdata.specs.declared.noun.Kind.TheVariants as sort
use Rattle.jeval.proofs.Quoted.{characters_read}
use Rattle.jeval.proofs.targets.text_of.Goals as goal

pub returns-in-Char : goal.returns-in-Char
returns-in-Char c =
    let v = c.args.target.now.noun in
    let k : kind v ≡ sort.Char = sym c.leaf-leaf.ensures.kind ∙ ap kind_in c.in-Char.is in
    let a : atoms v ≡ map atom.Char c.in-Char.bytes.now = sym c.leaf-leaf.ensures.atoms ∙ ap atoms_in c.in-Char.is in
    let same = ap length c.leaf-leaf.ensures.atoms in
    let axes = ap length c.shape-axes.ensures.value in
    let some : length (atoms v) ≢ 0 = omega (arith, same, c.len.ensures, c.if-len-eq0.false) in
    let few : length (shape v) < 2 = omega (arith, axes, c.if-axes-lt2.true) in
    characters_read v c.in-Char.bytes.now k a some few
