-- Contents are a level less deep than their boxes.
use Rattle.std.proofs.Common.{◌≡◌, ℕ, zero, suc, ◌<◌, ◌≤◌, List, [], ◌∷◌, length, get_or, ap, arith}
use Rattle.jdata.specs.Noun.{atom_level}
use Rattle.jdata.specs.Trees.{atom_of}
use Rattle.jdata.specs.declared.tree.Cell.{Cell}
use Rattle.jdata.proofs.Levels.{greatest_of}

pub level_in : (cs : List Cell) (i : ℕ) (c : Cell) → i < length cs → c ≡ get_or cs i c → atom_level (atom_of c) ≤ greatest_of cs
level_in [] i c h e = omega (arith, h)
level_in (x ∷ cs) zero c h e = omega (arith, ap (λ y. atom_level (atom_of y)) e)
level_in (x ∷ cs) (suc i) c h e = omega (arith, level_in cs i c (omega (arith, h)) e)
