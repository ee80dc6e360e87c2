-- Contents are a level less deep than their boxes.
use Rattle.std.proofs.Common.{◌≡◌, ℕ, zero, suc, ◌<◌, ◌≤◌, List, [], ◌∷◌, length, get_or, map, sym, ap, ◌∙◌, arith}
use Rattle.jdata.specs.Noun.{atoms, level, atom_level, greatest}
use Rattle.jdata.specs.Trees.{atom_of, atoms_of}
use Rattle.jdata.specs.declared.noun.Noun.{Noun}
use Rattle.jdata.specs.declared.tree.Cell.{Cell}
use Rattle.jdata.specs.declared.tree.Leaves.{Leaves}
use Rattle.jdata.specs.declared.tree.Leaves.TheVariants as leaf
use Rattle.jdata.proofs.Levels.{level_is, greatest_of}

pub level_in : (cs : List Cell) (i : ℕ) (c : Cell) → i < length cs → c ≡ get_or cs i c → atom_level (atom_of c) ≤ greatest_of cs
level_in [] i c h e = omega (arith, h)
level_in (x ∷ cs) zero c h e = omega (arith, ap (λ y. atom_level (atom_of y)) e)
level_in (x ∷ cs) (suc i) c h e = omega (arith, level_in cs i c (omega (arith, h)) e)

pub level_of_cells : (v : Noun) (leaves : Leaves) (cs xs : List Cell) → atoms_of leaves ≡ atoms v → leaves ≡ leaf.Cell cs → xs ≡ cs → greatest_of xs ≡ level v
level_of_cells v leaves cs xs are is same = ap greatest_of same ∙ ap (λ l. greatest (map atom_level l)) (ap atoms_of (sym is) ∙ are) ∙ sym (level_is v)
