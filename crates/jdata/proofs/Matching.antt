-- What matches, level by level.
use Rattle.std.specs.Prelude.{ℕ, ℤ, ◌<◌, ◌≡◌, ◌↔◌, length, List, [], ◌∷◌, map}
use Rattle.std.proofs.Common.{arith, sym, ◌∙◌, ap, refl, drop, get_or}
use Rattle.std.proofs.lemmas.List.{at_drop_more, drop-map}
use Rattle.jdata.specs.Noun.{atoms, shape, kind, noun}
use Rattle.jdata.specs.Match.{plain, plain_atom, plain_kind}
use Rattle.jdata.specs.Trees.{atom_of, atoms_of, kind_of, noun_of}
use Rattle.jdata.specs.declared.noun.Kind.TheVariants as sort
use Rattle.jdata.specs.declared.tree.Cell.{Cell}
use Rattle.jdata.specs.declared.tree.Cell.TheVariants as cell
use Rattle.jdata.specs.declared.tree.Leaves.{Leaves}
use Rattle.jdata.specs.declared.tree.Leaves.TheVariants as leaf
use Rattle.jdata.specs.declared.noun.Noun.{Noun, fold_out-Noun}
use Rattle.jdata.specs.declared.noun.Atom.{Atom, Atom-F, fold-roll-Atom, map-Atom, roll-Atom, out-Atom}
use Rattle.jdata.specs.declared.noun.Atom.TheOpen as one
use Rattle.jdata.specs.declared.noun.Atom.TheVariants as atom
use Rattle.jdata.specs.declared.path.PyxId.{PyxId}

pub plain_is : (v : Noun) → plain v ≡ noun (shape v) (plain_kind (kind v) (map plain_atom (atoms v))) (map plain_atom (atoms v))
plain_is v = fold_out-Noun Atom Noun roll-Atom (λ w. noun w.shape (plain_kind w.kind w.atoms) w.atoms) v

plain_of : (a : Atom-F Atom Noun) → plain_atom (roll-Atom a) ≡ roll-Atom (map-Atom Atom Noun Atom Noun plain_atom plain a)
plain_of a = fold-roll-Atom Atom Noun roll-Atom (λ w. noun w.shape (plain_kind w.kind w.atoms) w.atoms) a

pub plain_int : (n : ℤ) → plain_atom (atom.Int n) ≡ atom.Int n
plain_int n = ap plain_atom (sym (atom.rolls-Int n)) ∙ plain_of (one.Int n) ∙ atom.rolls-Int n

pub plain_char : (n : ℕ) → plain_atom (atom.Char n) ≡ atom.Char n
plain_char n = ap plain_atom (sym (atom.rolls-Char n)) ∙ plain_of (one.Char n) ∙ atom.rolls-Char n

pub plain_box : (v : Noun) → plain_atom (atom.Box v) ≡ atom.Box (plain v)
plain_box v = ap plain_atom (sym (atom.rolls-Box v)) ∙ plain_of (one.Box v) ∙ atom.rolls-Box (plain v)

pub plain_pyx : (p : PyxId) → plain_atom (atom.Pyx p) ≡ atom.Pyx p
plain_pyx p = ap plain_atom (sym (atom.rolls-Pyx p)) ∙ plain_of (one.Pyx p) ∙ atom.rolls-Pyx p

pub same_box : (v w : Noun) → atom.Box v ≡ atom.Box w → v ≡ w
same_box v w e = let f = sym (atom.outs-Box v) ∙ ap out-Atom e ∙ atom.outs-Box w in cc f

pub ints_back : (ns ms : List ℤ) → map plain_atom (map atom.Int ns) ≡ map plain_atom (map atom.Int ms) → ns ≡ ms
ints_back [] [] e = refl
ints_back [] (m ∷ ms) e = cc
ints_back (n ∷ ns) [] e = cc
ints_back (n ∷ ns) (m ∷ ms) e =
    let tails : map plain_atom (map atom.Int ns) ≡ map plain_atom (map atom.Int ms) = cc in
    let heads : plain_atom (atom.Int n) ≡ plain_atom (atom.Int m) = cc in
    cc (plain_int n, plain_int m, ints_back ns ms tails)

pub chars_back : (ns ms : List ℕ) → map plain_atom (map atom.Char ns) ≡ map plain_atom (map atom.Char ms) → ns ≡ ms
chars_back [] [] e = refl
chars_back [] (m ∷ ms) e = cc
chars_back (n ∷ ns) [] e = cc
chars_back (n ∷ ns) (m ∷ ms) e =
    let tails : map plain_atom (map atom.Char ns) ≡ map plain_atom (map atom.Char ms) = cc in
    let heads : plain_atom (atom.Char n) ≡ plain_atom (atom.Char m) = cc in
    cc (plain_char n, plain_char m, chars_back ns ms tails)

-- no cell is an integer or a character
not_int : (n : ℤ) (c : Cell) → plain_atom (atom.Int n) ≡ plain_atom (atom_of c) → ⊥
not_int n (cell.Boxed v) e = cc (plain_int n, plain_box v)
not_int n (cell.Pyx p) e = cc (plain_int n, plain_pyx p)

not_char : (n : ℕ) (c : Cell) → plain_atom (atom.Char n) ≡ plain_atom (atom_of c) → ⊥
not_char n (cell.Boxed v) e = cc (plain_char n, plain_box v)
not_char n (cell.Pyx p) e = cc (plain_char n, plain_pyx p)

abbrev pub plain_leaves : Leaves → List Atom
plain_leaves l = map plain_atom (atoms_of l)

head_is : (a b : Atom) (l m : List Atom) → a ∷ l ≡ b ∷ m → a ≡ b
head_is a b l m e = cc

-- equal atoms, of which there are some, are of one kind
pub one_kind : (l m : Leaves) → 0 < length (atoms_of l) → plain_leaves l ≡ plain_leaves m → kind_of l ≡ kind_of m
one_kind (leaf.Int ns) (leaf.Int ms) some e = refl
one_kind (leaf.Char ns) (leaf.Char ms) some e = refl
one_kind (leaf.Cell ns) (leaf.Cell ms) some e = refl
one_kind (leaf.Int []) m some e = absurd (omega arith)
one_kind (leaf.Char []) m some e = absurd (omega arith)
one_kind (leaf.Cell []) m some e = absurd (omega arith)
one_kind (leaf.Int (n ∷ ns)) (leaf.Char []) some e = cc
one_kind (leaf.Int (n ∷ ns)) (leaf.Char (m ∷ ms)) some e = cc (plain_int n, plain_char m)
one_kind (leaf.Int (n ∷ ns)) (leaf.Cell []) some e = cc
one_kind (leaf.Int (n ∷ ns)) (leaf.Cell (m ∷ ms)) some e = absurd (not_int n m (head_is _ _ _ _ e))
one_kind (leaf.Char (n ∷ ns)) (leaf.Int []) some e = cc
one_kind (leaf.Char (n ∷ ns)) (leaf.Int (m ∷ ms)) some e = cc (plain_char n, plain_int m)
one_kind (leaf.Char (n ∷ ns)) (leaf.Cell []) some e = cc
one_kind (leaf.Char (n ∷ ns)) (leaf.Cell (m ∷ ms)) some e = absurd (not_char n m (head_is _ _ _ _ e))
one_kind (leaf.Cell (n ∷ ns)) (leaf.Int []) some e = cc
one_kind (leaf.Cell (n ∷ ns)) (leaf.Int (m ∷ ms)) some e = absurd (not_int m n (sym (head_is _ _ _ _ e)))
one_kind (leaf.Cell (n ∷ ns)) (leaf.Char []) some e = cc
one_kind (leaf.Cell (n ∷ ns)) (leaf.Char (m ∷ ms)) some e = absurd (not_char m n (sym (head_is _ _ _ _ e)))

ints_alone : (l : Leaves) → ((ns : List ℤ) → l ≡ leaf.Int ns → ⊥) → kind_of l ≡ sort.Int → ⊥
ints_alone (leaf.Int ns) other k = other ns refl
ints_alone (leaf.Char ns) other k = cc
ints_alone (leaf.Cell ns) other k = cc

chars_alone : (l : Leaves) → ((ns : List ℕ) → l ≡ leaf.Char ns → ⊥) → kind_of l ≡ sort.Char → ⊥
chars_alone (leaf.Int ns) other k = cc
chars_alone (leaf.Char ns) other k = other ns refl
chars_alone (leaf.Cell ns) other k = cc

cells_alone : (l : Leaves) → ((ns : List Cell) → l ≡ leaf.Cell ns → ⊥) → kind_of l ≡ sort.Boxed → ⊥
cells_alone (leaf.Int ns) other k = cc
cells_alone (leaf.Char ns) other k = cc
cells_alone (leaf.Cell ns) other k = other ns refl

-- leaves of other kinds don't match
pub apart_int : (l m : Leaves) (ns : List ℤ) → l ≡ leaf.Int ns → ((ms : List ℤ) → m ≡ leaf.Int ms → ⊥) → 0 < length (atoms_of l) → plain_leaves l ≡ plain_leaves m → ⊥
apart_int l m ns is other some e = ints_alone m other (sym (one_kind l m some e) ∙ ap kind_of is)

pub apart_char : (l m : Leaves) (ns : List ℕ) → l ≡ leaf.Char ns → ((ms : List ℕ) → m ≡ leaf.Char ms → ⊥) → 0 < length (atoms_of l) → plain_leaves l ≡ plain_leaves m → ⊥
apart_char l m ns is other some e = chars_alone m other (sym (one_kind l m some e) ∙ ap kind_of is)

pub apart_cell : (l m : Leaves) (ns : List Cell) → l ≡ leaf.Cell ns → ((ms : List Cell) → m ≡ leaf.Cell ms → ⊥) → 0 < length (atoms_of l) → plain_leaves l ≡ plain_leaves m → ⊥
apart_cell l m ns is other some e = cells_alone m other (sym (one_kind l m some e) ∙ ap kind_of is)

-- a box and a pyx don't match
pub box_is_no_pyx : (v : Noun) (p : PyxId) → plain_atom (atom.Box v) ≡ plain_atom (atom.Pyx p) → ⊥
box_is_no_pyx v p e = cc (plain_box v, plain_pyx p)

pub boxes_match : (v w : Noun) → (plain_atom (atom.Box v) ≡ plain_atom (atom.Box w)) ↔ (plain v ≡ plain w)
boxes_match v w = (λ e. same_box _ _ (sym (plain_box v) ∙ e ∙ plain_box w), λ e. plain_box v ∙ ap (λ x. atom.Box x) e ∙ sym (plain_box w))

pub pyxes_match : (p q : PyxId) → (plain_atom (atom.Pyx p) ≡ plain_atom (atom.Pyx q)) ↔ (p ≡ q)
pyxes_match p q = (λ e. cc (plain_pyx p, plain_pyx q), λ e. ap (λ x. plain_atom (atom.Pyx x)) e)

-- arrays of one shape whose leaves match
pub nouns_match : (s : List ℕ) (l m : Leaves) → 0 < length (atoms_of l) → plain_leaves l ≡ plain_leaves m → plain (noun_of s l) ≡ plain (noun_of s m)
nouns_match s l m some e =
    let k = one_kind l m some e in
    plain_is (noun_of s l) ∙ (λ i. noun s (plain_kind (k i) (e i)) (e i)) ∙ sym (plain_is (noun_of s m))

none : (l : List Atom) → length l ≡ 0 → map plain_atom l ≡ []
none [] e = refl
none (a ∷ l) e = absurd (omega arith)

no_atoms : (l : Leaves) → length (atoms_of l) ≡ 0 → plain_leaves l ≡ []
no_atoms l e = none (atoms_of l) e

pub empty_match : (s : List ℕ) (l m : Leaves) → length (atoms_of l) ≡ 0 → length (atoms_of m) ≡ 0 → plain (noun_of s l) ≡ plain (noun_of s m)
empty_match s l m e f =
    let forget : (n : Leaves) → length (atoms_of n) ≡ 0 → plain (noun_of s n) ≡ noun s sort.Int [] = λ n h. plain_is (noun_of s n) ∙ ap (λ l. noun s (plain_kind (kind_of n) l) l) (no_atoms n h) in
    forget l e ∙ sym (forget m f)

pub match_shape : (v w : Noun) → plain v ≡ plain w → shape v ≡ shape w
match_shape v w e = ap shape (sym (plain_is v) ∙ e ∙ plain_is w)

pub match_atoms : (v w : Noun) → plain v ≡ plain w → map plain_atom (atoms v) ≡ map plain_atom (atoms w)
match_atoms v w e = ap atoms (sym (plain_is v) ∙ e ∙ plain_is w)

abbrev pub plain_cells : List Cell → List Atom
plain_cells cs = map plain_atom (map atom_of cs)

-- two lists of cells that match, match at each place
pub match_at : (l m : List Cell) (i : ℕ) (x y : Cell) → i < length l → i < length m → x ≡ get_or l i x → y ≡ get_or m i y →
    plain_cells l ≡ plain_cells m → plain_atom (atom_of x) ≡ plain_atom (atom_of y)
match_at l m i x y h k at this e =
    let drops : (n : List Cell) → drop i (plain_cells n) ≡ plain_cells (drop i n) = λ n. drop-map plain_atom i (map atom_of n) ∙ ap (map plain_atom) (drop-map atom_of i n) in
    let left = drops l ∙ at_drop_more plain_cells l i x h in
    let right = drops m ∙ at_drop_more plain_cells m i y k in
    let heads = head_is _ _ _ _ (sym left ∙ ap (drop i) e ∙ right) in
    ap (λ z. plain_atom (atom_of z)) at ∙ heads ∙ ap (λ z. plain_atom (atom_of z)) (sym this)
