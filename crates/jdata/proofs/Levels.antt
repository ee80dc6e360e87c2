-- The level of a noun, level by level.
use Rattle.std.specs.Prelude.{ℕ, ℤ, ◌+◌, ◌≡◌, List, [], ◌∷◌, map}
use Rattle.std.proofs.Common.{arith, sym, ◌∙◌, ap, refl}
use Rattle.jdata.specs.Noun.{atoms, level, atom_level, level_step, greatest}
use Rattle.jdata.specs.Trees.{atom_of}
use Rattle.jdata.specs.declared.noun.Noun.{Noun, fold_out-Noun}
use Rattle.jdata.specs.declared.noun.Atom.{fold-roll-Atom}
use Rattle.jdata.specs.declared.noun.Atom.TheOpen as one
use Rattle.jdata.specs.declared.noun.Atom.TheVariants as atom
use Rattle.jdata.specs.declared.tree.Cell.{Cell}
use Rattle.jdata.specs.declared.path.PyxId.{PyxId}

pub level_is : (v : Noun) → level v ≡ greatest (map atom_level (atoms v))
level_is v = fold_out-Noun ℕ ℕ level_step (λ w. greatest w.atoms) v

pub level_of_box : (v : Noun) → atom_level (atom.Box v) ≡ level v + 1
level_of_box v = ap atom_level (sym (atom.rolls-Box v)) ∙ fold-roll-Atom ℕ ℕ level_step (λ w. greatest w.atoms) (one.Box v)

pub level_of_pyx : (p : PyxId) → atom_level (atom.Pyx p) ≡ 1
level_of_pyx p = ap atom_level (sym (atom.rolls-Pyx p)) ∙ fold-roll-Atom ℕ ℕ level_step (λ w. greatest w.atoms) (one.Pyx p)

abbrev pub greatest_of : List Cell → ℕ
greatest_of cs = greatest (map atom_level (map atom_of cs))

pub level_of_int : (n : ℤ) → atom_level (atom.Int n) ≡ 0
level_of_int n = ap atom_level (sym (atom.rolls-Int n)) ∙ fold-roll-Atom ℕ ℕ level_step (λ w. greatest w.atoms) (one.Int n)

pub level_of_char : (n : ℕ) → atom_level (atom.Char n) ≡ 0
level_of_char n = ap atom_level (sym (atom.rolls-Char n)) ∙ fold-roll-Atom ℕ ℕ level_step (λ w. greatest w.atoms) (one.Char n)

pub level_of_ints : (ns : List ℤ) → greatest (map atom_level (map atom.Int ns)) ≡ 0
level_of_ints [] = refl
level_of_ints (n ∷ ns) = omega (arith, level_of_int n, level_of_ints ns)

pub level_of_chars : (ns : List ℕ) → greatest (map atom_level (map atom.Char ns)) ≡ 0
level_of_chars [] = refl
level_of_chars (n ∷ ns) = omega (arith, level_of_char n, level_of_chars ns)
