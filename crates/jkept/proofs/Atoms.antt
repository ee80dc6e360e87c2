-- Tests of atoms, by what the code keeps of them.
use Rattle.std.specs.Prelude.{◌≡◌, ℕ, ◌≤◌, ◌==◌, ◌&&◌, not, ℤ, pos, Bool, true, false, List, [], ◌∷◌, length, map}
use Rattle.std.proofs.Common.{refl, sym, ap, ◌∙◌, arith, get_or}
use Rattle.std.proofs.Math.Dec.{eqb-suc-zero}
use Rattle.std.specs.Cmp.{int_eq_equiv}
use Rattle.std.specs.List.{list_all}
use Rattle.std.specs.Ordering.{int_eq}
use Rattle.jarray.specs.Matches.{is_int}
use Rattle.jdata.specs.Trees.{atom_of}
use Rattle.jdata.specs.declared.noun.Noun.{Noun}
use Rattle.jdata.specs.declared.noun.Atom.{Atom, out-Atom, out-roll-Atom}
use Rattle.jdata.specs.declared.noun.Atom.TheOpen as one
use Rattle.jdata.specs.declared.noun.Atom.TheVariants as atom
use Rattle.jdata.specs.declared.path.PyxId.{PyxId}
use Rattle.jdata.specs.declared.tree.Cell.{Cell}
use Rattle.jdata.specs.declared.tree.Cell.TheVariants as cell
use Rattle.jkept.specs.Tested.{first_holds}

-- ---- what stands in an atom

pub int_in : (n : ℤ) → out-Atom (atom.Int n) ≡ one.Int n
int_in n = ap out-Atom (sym (atom.rolls-Int n)) ∙ out-roll-Atom (one.Int n)

pub char_in : (n : ℕ) → out-Atom (atom.Char n) ≡ one.Char n
char_in n = ap out-Atom (sym (atom.rolls-Char n)) ∙ out-roll-Atom (one.Char n)

pub box_in : (v : Noun) → out-Atom (atom.Box v) ≡ one.Box v
box_in v = ap out-Atom (sym (atom.rolls-Box v)) ∙ out-roll-Atom (one.Box v)

pub pyx_in : (p : PyxId) → out-Atom (atom.Pyx p) ≡ one.Pyx p
pyx_in p = ap out-Atom (sym (atom.rolls-Pyx p)) ∙ out-roll-Atom (one.Pyx p)

-- ---- numbers

number_is : (m n : ℤ) → is_int m (out-Atom (atom.Int n)) ≡ int_eq n m
number_is m n = ap (is_int m) (int_in n) ∙ int_eq_equiv.symm m n

char_is_none : (m : ℤ) (n : ℕ) → is_int m (out-Atom (atom.Char n)) ≡ false
char_is_none m n = ap (is_int m) (char_in n)

cell_is_none : (m : ℤ) (c : Cell) → is_int m (out-Atom (atom_of c)) ≡ false
cell_is_none m (cell.Boxed v) = ap (is_int m) (box_in v)
cell_is_none m (cell.Pyx p) = ap (is_int m) (pyx_in p)

-- ---- tests

-- the first of some numbers
pub number_holds : (l : List ℤ) (n : ℤ) → 1 ≤ length l → n ≡ get_or l 0 (pos 0) → not (int_eq n (pos 0)) ≡ first_holds (map atom.Int l)
number_holds [] n h e = absurd (omega (arith, h))
number_holds (m ∷ l) n h e = ap (λ k. not (int_eq k (pos 0))) e ∙ sym (ap not (number_is (pos 0) m))

pub chars_hold : (l : List ℕ) → first_holds (map atom.Char l) ≡ true
chars_hold [] = refl
chars_hold (n ∷ l) = ap not (char_is_none (pos 0) n)

pub cells_hold : (l : List Cell) → first_holds (map atom_of l) ≡ true
cells_hold [] = refl
cells_hold (c ∷ l) = ap not (cell_is_none (pos 0) c)

-- ---- assertions

abbrev pub ones : List Atom → Bool
ones l = list_all (λ a. is_int (pos 1) (out-Atom a)) l

pub number_ones : (l : List ℤ) → ones (map atom.Int l) ≡ list_all (λ n. int_eq n (pos 1)) l
number_ones [] = refl
number_ones (n ∷ l) = λ i. number_is (pos 1) n i && number_ones l i

pub char_ones : (l : List ℕ) → ones (map atom.Char l) ≡ (length l == 0)
char_ones [] = refl
char_ones (n ∷ l) = ap (λ b. b && ones (map atom.Char l)) (char_is_none (pos 1) n) ∙ sym (eqb-suc-zero (length l))

pub cell_ones : (l : List Cell) → ones (map atom_of l) ≡ (length l == 0)
cell_ones [] = refl
cell_ones (c ∷ l) = ap (λ b. b && ones (map atom_of l)) (cell_is_none (pos 1) c) ∙ sym (eqb-suc-zero (length l))
