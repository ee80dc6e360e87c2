-- Atoms that are compared, and what `=` and `~:` give of them.
use Rattle.std.specs.Prelude.{ℕ, zero, suc, ℤ, pos, ◌/◌, ◌+◌, ◌<◌, Bool, true, false, not, ◌≡◌, Result, Ok, List, [], ◌∷◌, map}
use Rattle.jscalar.specs.Places.{by_place}
use Rattle.std.proofs.Common.{arith, sym, ◌∙◌, ap, refl, get_or, length, ◌*◌, subst}
use Rattle.std.proofs.lemmas.List.{get_or-map}
use Rattle.std.proofs.Math.Nat.{div-lt_iff_lt-mul}
use Rattle.std.specs.Bool.{Decides}
use Rattle.std.proofs.lemmas.Bool.Decides.{same_from_decides, Decides-like}
use Rattle.jdata.specs.Match.{plain_atom}
use Rattle.jdata.specs.declared.fault.Fault.{Fault}
use Rattle.jdata.specs.declared.noun.Atom.{Atom}
use Rattle.jdata.specs.declared.noun.Atom.TheVariants as atom
use Rattle.jdata.specs.declared.primitive.Primitive.{Primitive}
use Rattle.jdata.specs.declared.primitive.Primitive.TheVariants.{Equal, TildeColon}
use Rattle.jdata.proofs.Matching.{plain_int, plain_char, plain_box, plain_pyx}
use Rattle.jscalar.specs.Truths.{truth}
use Rattle.jarray.specs.Matches.{equal_atoms}
use Rattle.jarray.proofs.Equality.{equal_decides}
use Rattle.jdyad.specs.Atoms.{is_comparison, compared}
use Rattle.jdata.specs.Leaf.{atoms_in, kind_in}
use Rattle.jdata.specs.declared.leaf.Leaf.{Leaf}
use Rattle.jdata.specs.declared.leaf.Leaf.TheVariants as items
use Rattle.jdata.specs.declared.noun.Kind.{Kind}
use Rattle.jdata.specs.declared.noun.Kind.TheVariants as sort
use Rattle.jdata.specs.declared.noun.Noun.{Noun}
use Rattle.jdata.specs.declared.noun.Atom.{Atom-F, out-Atom, roll-Atom, roll-out-Atom}
use Rattle.jdata.specs.declared.noun.Atom.TheOpen as one
use Rattle.jdata.specs.declared.tree.Cell.{Cell}
use Rattle.jdata.specs.declared.tree.Cell.TheVariants as cell_
use Rattle.jdata.specs.Trees.{atom_of}
use Rattle.jdyad.proofs.Filling.{in_use, same_by_place}

-- a test that tells whether the atoms are plainly the same
pub equal_when : {P : Type 0} (a b : Atom) (r : Bool) → Decides r P → (P → plain_atom a ≡ plain_atom b) → (plain_atom a ≡ plain_atom b → P) → r ≡ equal_atoms a b
equal_when a b r d there back = same_from_decides r (equal_atoms a b) d (Decides-like _ back there (equal_decides a b))

pub equal_ints : (x y : ℤ) (r : Bool) → Decides r (x ≡ y) → r ≡ equal_atoms (atom.Int x) (atom.Int y)
equal_ints x y r d = equal_when (atom.Int x) (atom.Int y) r d (λ e. ap (λ n. plain_atom (atom.Int n)) e) (λ e. cc (plain_int x, plain_int y))

pub equal_chars : (x y : ℕ) (r : Bool) → Decides r (x ≡ y) → r ≡ equal_atoms (atom.Char x) (atom.Char y)
equal_chars x y r d = equal_when (atom.Char x) (atom.Char y) r d (λ e. ap (λ n. plain_atom (atom.Char n)) e) (λ e. cc (plain_char x, plain_char y))

pub of_equal : (equal : Bool) → compared Equal equal ≡ Ok (truth equal)
unfolding compared
of_equal equal = refl

pub of_unequal : (verb : Primitive) (equal : Bool) → is_comparison verb ≡ true → (verb ≡ Equal → ⊥) → compared verb equal ≡ Ok (truth (not equal))
unfolding is_comparison compared
of_unequal Equal equal h other = absurd (other refl)
of_unequal TildeColon equal h other = refl
of_unequal verb equal h other = cc

-- what the verb gives of the j-th of ys and the one of xs that serves it
abbrev pub pair_at : Primitive → List Atom → ℕ → List Atom → ℕ → Result ℤ Fault
pair_at verb xs cell ys j = compared verb (equal_atoms (get_or xs (j / cell) (atom.Int (pos 0))) (get_or ys j (atom.Int (pos 0))))

-- the atom in use is one of xs
pub is_there : (item used cell i n m : ℕ) → item * cell + used ≡ i → used < cell → i < m → m ≡ n * cell → item < n
is_there item used cell i n m e h k whole =
    let some : 0 < cell = omega arith in
    let below : i < n * cell = omega arith in
    subst (λ x. x < n) (in_use item used cell i e h) ((div-lt_iff_lt-mul {k = cell} {x = i} {y = n} some).1 below)

mapped : {L : Type 0} (f : L → Atom) (xs : List L) (i : ℕ) (x : L) (d : Atom) → i < length xs → x ≡ get_or xs i x → get_or (map f xs) i d ≡ f x
mapped f xs i x d h e = get_or-map f xs i x d h ∙ ap f (sym e)

pub pair_is : {L : Type 0} (f : L → Atom) (verb : Primitive) (xs ys : List L) (cell item used i : ℕ) (x y : L) (equal : Bool) (n : ℤ) →
    item * cell + used ≡ i → used < cell → length ys ≡ length xs * cell → i < length ys → x ≡ get_or xs item x → y ≡ get_or ys i y →
    equal ≡ equal_atoms (f x) (f y) → compared verb equal ≡ Ok n → pair_at verb (map f xs) cell (map f ys) i ≡ Ok n
pair_is f verb xs ys cell item used i x y equal n e h whole below left right test is =
    let there = is_there item used cell i (length xs) (length ys) e h below whole in
    let a : get_or (map f xs) (i / cell) (atom.Int (pos 0)) ≡ f x = ap (λ k. get_or (map f xs) k (atom.Int (pos 0))) (in_use item used cell i e h) ∙ mapped f xs item x _ there left in
    let b : get_or (map f ys) i (atom.Int (pos 0)) ≡ f y = mapped f ys i y _ below right in
    (λ k. compared verb (equal_atoms (a k) (b k))) ∙ ap (compared verb) (sym test) ∙ is

-- the kind of an array with this atom
abbrev layer_kind : Atom-F Atom Noun → Kind
layer_kind (one.Int n) = sort.Int
layer_kind (one.Char n) = sort.Char
layer_kind (one.Box v) = sort.Boxed
layer_kind (one.Pyx p) = sort.Boxed

abbrev kind_of_atom : Atom → Kind
kind_of_atom a = layer_kind (out-Atom a)

kind_int : (n : ℤ) → kind_of_atom (atom.Int n) ≡ sort.Int
kind_int n = ap layer_kind (atom.outs-Int n)

kind_char : (n : ℕ) → kind_of_atom (atom.Char n) ≡ sort.Char
kind_char n = ap layer_kind (atom.outs-Char n)

kind_cell : (c : Cell) → kind_of_atom (atom_of c) ≡ sort.Boxed
kind_cell (cell_.Boxed v) = ap layer_kind (atom.outs-Box v)
kind_cell (cell_.Pyx p) = ap layer_kind (atom.outs-Pyx p)

plain_layer_kind : (a : Atom-F Atom Noun) → kind_of_atom (plain_atom (roll-Atom a)) ≡ kind_of_atom (roll-Atom a)
plain_layer_kind (one.Int n) = ap kind_of_atom (ap plain_atom (atom.rolls-Int n) ∙ plain_int n ∙ sym (atom.rolls-Int n))
plain_layer_kind (one.Char n) = ap kind_of_atom (ap plain_atom (atom.rolls-Char n) ∙ plain_char n ∙ sym (atom.rolls-Char n))
plain_layer_kind (one.Box v) = ap kind_of_atom (ap plain_atom (atom.rolls-Box v) ∙ plain_box v) ∙ ap layer_kind (atom.outs-Box _) ∙ sym (ap kind_of_atom (atom.rolls-Box v) ∙ ap layer_kind (atom.outs-Box v))
plain_layer_kind (one.Pyx p) = ap kind_of_atom (ap plain_atom (atom.rolls-Pyx p) ∙ plain_pyx p ∙ sym (atom.rolls-Pyx p))

plain_kind_of : (a : Atom) → kind_of_atom (plain_atom a) ≡ kind_of_atom a
plain_kind_of a = ap (λ x. kind_of_atom (plain_atom x)) (sym (roll-out-Atom a)) ∙ plain_layer_kind (out-Atom a) ∙ ap kind_of_atom (roll-out-Atom a)

is_false : (b : Bool) → (b ≡ true → ⊥) → b ≡ false
is_false true h = absurd (h refl)
is_false false h = refl

-- atoms of two kinds aren't equal
unequal : (a b : Atom) → (kind_of_atom a ≡ kind_of_atom b → ⊥) → equal_atoms a b ≡ false
unequal a b other = is_false (equal_atoms a b) (λ e. other (sym (plain_kind_of a) ∙ ap kind_of_atom ((equal_decides a b).0 e) ∙ plain_kind_of b))

seen_of : {L : Type 0} (f : L → Atom) (k : Kind) → ((x : L) → kind_of_atom (f x) ≡ k) → (xs : List L) (j : ℕ) (d : Atom) → j < length (map f xs) → kind_of_atom (get_or (map f xs) j d) ≡ k
seen_of f k each [] j d h = absurd (omega arith)
seen_of f k each (x ∷ xs) zero d h = each x
seen_of f k each (x ∷ xs) (suc j) d h = seen_of f k each xs j d (omega arith)

-- the kind of each atom that is seen
pub seen_kind : (a : Leaf) (j : ℕ) (d : Atom) → j < length (atoms_in a) → kind_of_atom (get_or (atoms_in a) j d) ≡ kind_in a
seen_kind (items.Int xs) j d h = seen_of atom.Int sort.Int kind_int xs.now j d h
seen_kind (items.Char xs) j d h = seen_of atom.Char sort.Char kind_char xs.now j d h
seen_kind (items.Cell xs) j d h = seen_of atom_of sort.Boxed kind_cell xs.now j d h

pub apart : (verb : Primitive) (a b : Leaf) (cell : ℕ) → (kind_in a ≡ kind_in b → ⊥) → 0 < cell → length (atoms_in b) ≡ length (atoms_in a) * cell →
    by_place (pair_at verb (atoms_in a) cell (atoms_in b)) (length (atoms_in b)) ≡ by_place (λ j. compared verb false) (length (atoms_in b))
apart verb a b cell other some whole =
    same_by_place _ _ _ (λ j h.
    let there : j / cell < length (atoms_in a) = (div-lt_iff_lt-mul {k = cell} {x = j} {y = length (atoms_in a)} some).1 (omega arith) in
    ap (compared verb) (unequal _ _ (λ e. other (sym (seen_kind a (j / cell) _ there) ∙ e ∙ seen_kind b j _ h))))

pub not_ints : (b : Leaf) → ((xs : _) → b ≡ items.Int xs → ⊥) → sort.Int ≡ kind_in b → ⊥
not_ints (items.Int xs) h e = h xs refl
not_ints (items.Char xs) h e = cc
not_ints (items.Cell xs) h e = cc

pub not_chars : (b : Leaf) → ((xs : _) → b ≡ items.Char xs → ⊥) → sort.Char ≡ kind_in b → ⊥
not_chars (items.Int xs) h e = cc
not_chars (items.Char xs) h e = h xs refl
not_chars (items.Cell xs) h e = cc

pub not_cells : (b : Leaf) → ((xs : _) → b ≡ items.Cell xs → ⊥) → sort.Boxed ≡ kind_in b → ⊥
not_cells (items.Int xs) h e = cc
not_cells (items.Char xs) h e = cc
not_cells (items.Cell xs) h e = h xs refl
