-- Two arrays match exactly where their codes are equal.
use Rattle.std.specs.Prelude.{ℕ, ℤ, pos, ◌≡◌, List, [], ◌∷◌, ◌++◌, length, map}
use Rattle.std.proofs.Common.{sym, ◌∙◌, ap, refl, subst, arith}
use Rattle.std.proofs.lemmas.List.{append_assoc, length-map}
use Rattle.jdata.specs.Noun.{noun, shape, kind, atoms}
use Rattle.jdata.specs.Match.{plain, plain_atom, plain_kind}
use Rattle.jdata.specs.declared.noun.Kind.{Kind}
use Rattle.jdata.specs.declared.noun.Kind.TheVariants as sort
use Rattle.jdata.specs.declared.noun.Noun.{Noun, Noun-F, roll-Noun, ind-Noun, fold_out-Noun}
use Rattle.jdata.specs.declared.noun.Atom.{Atom, Atom-F, map-Atom, roll-Atom, out-Atom, roll-out-Atom, fold-roll-Atom}
use Rattle.jdata.specs.declared.noun.Atom.TheOpen as one
use Rattle.jdata.specs.declared.noun.Atom.TheVariants as atom
use Rattle.jdata.specs.declared.path.PyxId.{PyxId}
use Rattle.jdata.proofs.Matching.{plain_is, plain_int, plain_char, plain_box, plain_pyx, match_shape, match_atoms, same_box}
use Rattle.jsearch.specs.Codes.{code, atom_code, code_step, atom_code_step, head_code, counted_code, kind_number, joined}

-- what a code and what follows it tell
abbrev Tells : Atom → Type 0
Tells a = (b : Atom) (r s : List ℤ) → atom_code a ++ r ≡ atom_code b ++ s → (plain_atom a ≡ plain_atom b) × (r ≡ s)

abbrev pub TellsArray : Noun → Type 0
TellsArray v = (w : Noun) (r s : List ℤ) → code v ++ r ≡ code w ++ s → (plain v ≡ plain w) × (r ≡ s)

-- an atom without the kinds that don't count, one layer of it
abbrev plainly : Atom-F Atom Noun → Atom
plainly (one.Int n) = atom.Int n
plainly (one.Char n) = atom.Char n
plainly (one.Box v) = atom.Box (plain v)
plainly (one.Pyx p) = atom.Pyx p

plain_layer : (a : Atom-F Atom Noun) → plain_atom (roll-Atom a) ≡ plainly a
plain_layer (one.Int n) = ap plain_atom (atom.rolls-Int n) ∙ plain_int n
plain_layer (one.Char n) = ap plain_atom (atom.rolls-Char n) ∙ plain_char n
plain_layer (one.Box v) = ap plain_atom (atom.rolls-Box v) ∙ plain_box v
plain_layer (one.Pyx p) = ap plain_atom (atom.rolls-Pyx p) ∙ plain_pyx p

plain_out : (b : Atom) → plain_atom b ≡ plainly (out-Atom b)
plain_out b = ap plain_atom (sym (roll-out-Atom b)) ∙ plain_layer (out-Atom b)

-- the code of one layer
abbrev coded : Atom-F Atom Noun → List ℤ
coded a = atom_code_step (map-Atom Atom Noun (List ℤ) (List ℤ) atom_code code a)

coded_layer : (a : Atom-F Atom Noun) → atom_code (roll-Atom a) ≡ coded a
coded_layer a = fold-roll-Atom (List ℤ) (List ℤ) atom_code_step code_step a

coded_out : (b : Atom) → atom_code b ≡ coded (out-Atom b)
coded_out b = ap atom_code (sym (roll-out-Atom b)) ∙ coded_layer (out-Atom b)

pub code_is : (v : Noun) → code v ≡ head_code (shape v) (kind v) (length (map atom_code (atoms v))) ++ joined (map atom_code (atoms v))
code_is v = fold_out-Noun (List ℤ) (List ℤ) atom_code_step code_step v

-- a counted list of numbers and what follows it
numbers_told : (l m : List ℕ) (r s : List ℤ) → length l ≡ length m → map pos l ++ r ≡ map pos m ++ s → (l ≡ m) × (r ≡ s)
numbers_told [] [] r s n e = (refl, e)
numbers_told [] (y ∷ m) r s n e = absurd (omega arith)
numbers_told (x ∷ l) [] r s n e = absurd (omega arith)
numbers_told (x ∷ l) (y ∷ m) r s n e =
    let one : x ≡ y = cc in
    let rest : map pos l ++ r ≡ map pos m ++ s = cc in
    let shorter : length l ≡ length m = omega arith in
    let told = numbers_told l m r s shorter rest in
    ((λ i. one i ∷ told.0 i), told.1)

counted_told : (l m : List ℕ) (r s : List ℤ) → counted_code l ++ r ≡ counted_code m ++ s → (l ≡ m) × (r ≡ s)
counted_told l m r s e =
    let long : length l ≡ length m = cc in
    let rest : map pos l ++ r ≡ map pos m ++ s = cc in
    numbers_told l m r s long rest

int_told : (n : ℤ) (b : Atom-F Atom Noun) (r s : List ℤ) → pos 0 ∷ n ∷ r ≡ coded b ++ s → (atom.Int n ≡ plainly b) × (r ≡ s)
int_told n (one.Int m) r s e = let same : n ≡ m = cc in let rest : r ≡ s = cc in (ap atom.Int same, rest)
int_told n (one.Char m) r s e = cc
int_told n (one.Box v) r s e = cc
int_told n (one.Pyx p) r s e = cc

char_told : (n : ℕ) (b : Atom-F Atom Noun) (r s : List ℤ) → pos 1 ∷ pos n ∷ r ≡ coded b ++ s → (atom.Char n ≡ plainly b) × (r ≡ s)
char_told n (one.Char m) r s e = let same : n ≡ m = cc in let rest : r ≡ s = cc in (ap atom.Char same, rest)
char_told n (one.Int m) r s e = cc
char_told n (one.Box v) r s e = cc
char_told n (one.Pyx p) r s e = cc

box_told : (v : Noun) → TellsArray v → (b : Atom-F Atom Noun) (r s : List ℤ) → pos 2 ∷ code v ++ r ≡ coded b ++ s → (atom.Box (plain v) ≡ plainly b) × (r ≡ s)
box_told v h (one.Box w) r s e =
    let rest : code v ++ r ≡ code w ++ s = cc in
    let told = h w r s rest in
    (ap (λ x. atom.Box x) told.0, told.1)
box_told v h (one.Int m) r s e = cc
box_told v h (one.Char m) r s e = cc
box_told v h (one.Pyx p) r s e = cc

pyx_told : (p : PyxId) (b : Atom-F Atom Noun) (r s : List ℤ) → pos 3 ∷ pos p.number ∷ counted_code p.path ++ r ≡ coded b ++ s → (atom.Pyx p ≡ plainly b) × (r ≡ s)
pyx_told p (one.Pyx q) r s e =
    let number : p.number ≡ q.number = cc in
    let rest : counted_code p.path ++ r ≡ counted_code q.path ++ s = cc in
    let told = counted_told p.path q.path r s rest in
    let same : p ≡ q = λ i. record { path = told.0 i; number = number i } in
    (ap atom.Pyx same, told.1)
pyx_told p (one.Int m) r s e = cc
pyx_told p (one.Char m) r s e = cc
pyx_told p (one.Box v) r s e = cc

abbrev Held : Type 0
Held = (a : Atom) × Tells a

abbrev Known : Type 0
Known = (v : Noun) × TellsArray v

abbrev layer_of : Atom-F Held Known → Atom-F Atom Noun
layer_of = map-Atom Held Known Atom Noun (λ e. e.0) (λ e. e.0)

layer_told : (y : Atom-F Held Known) (b : Atom-F Atom Noun) (r s : List ℤ) → coded (layer_of y) ++ r ≡ coded b ++ s → (plainly (layer_of y) ≡ plainly b) × (r ≡ s)
layer_told (one.Int n) b r s e = int_told n b r s e
layer_told (one.Char n) b r s e = char_told n b r s e
layer_told (one.Box v) b r s e = box_told v.0 v.1 b r s e
layer_told (one.Pyx p) b r s e = pyx_told p b r s e

atom_told : (y : Atom-F Held Known) → Tells (roll-Atom (layer_of y))
atom_told y b r s e =
    let a = layer_of y in
    let told = layer_told y (out-Atom b) r s (ap (λ c. c ++ r) (sym (coded_layer a)) ∙ e ∙ ap (λ c. c ++ s) (coded_out b)) in
    (plain_layer a ∙ told.0 ∙ sym (plain_out b), told.1)

-- the atoms of a list
abbrev firsts : List Held → List Atom
firsts = map (λ (e : Held). e.0)

atoms_told : (l : List Held) (m : List Atom) (r s : List ℤ) → length (map atom_code (firsts l)) ≡ length (map atom_code m) →
    joined (map atom_code (firsts l)) ++ r ≡ joined (map atom_code m) ++ s → (map plain_atom (firsts l) ≡ map plain_atom m) × (r ≡ s)
atoms_told [] [] r s n e = (refl, e)
atoms_told [] (b ∷ m) r s n e = absurd (omega arith)
atoms_told (a ∷ l) [] r s n e = absurd (omega arith)
atoms_told (a ∷ l) (b ∷ m) r s n e =
    let shorter : length (map atom_code (firsts l)) ≡ length (map atom_code m) = omega arith in
    let left = sym (append_assoc (atom_code a.0) (joined (map atom_code (firsts l))) r) in
    let right = append_assoc (atom_code b) (joined (map atom_code m)) s in
    let head = a.1 b (joined (map atom_code (firsts l)) ++ r) (joined (map atom_code m) ++ s) (left ∙ e ∙ right) in
    let tail = atoms_told l m r s shorter head.1 in
    ((λ i. head.0 i ∷ tail.0 i), tail.1)

abbrev kept : Noun-F Held Known → Noun
kept y = noun y.shape y.kind (firsts y.atoms)

-- of arrays with as many atoms, one number of a kind is one kind that counts
kind_told : (k m : Kind) (l : List Atom) → kind_number k (length l) ≡ kind_number m (length l) → plain_kind k l ≡ plain_kind m l
kind_told k m [] e = refl
kind_told sort.Int sort.Int (a ∷ l) e = refl
kind_told sort.Int sort.Char (a ∷ l) e = absurd (omega arith)
kind_told sort.Int sort.Boxed (a ∷ l) e = absurd (omega arith)
kind_told sort.Char sort.Int (a ∷ l) e = absurd (omega arith)
kind_told sort.Char sort.Char (a ∷ l) e = refl
kind_told sort.Char sort.Boxed (a ∷ l) e = absurd (omega arith)
kind_told sort.Boxed sort.Int (a ∷ l) e = absurd (omega arith)
kind_told sort.Boxed sort.Char (a ∷ l) e = absurd (omega arith)
kind_told sort.Boxed sort.Boxed (a ∷ l) e = refl

head_told : (s t : List ℕ) (k m : Kind) (n o : ℕ) (q r : List ℤ) → head_code s k n ++ q ≡ head_code t m o ++ r →
    (s ≡ t) × (kind_number k n ≡ kind_number m o) × (n ≡ o) × (q ≡ r)
head_told s t k m n o q r e =
    let left = sym (append_assoc (counted_code s) (pos (kind_number k n) ∷ pos n ∷ []) q) in
    let right = append_assoc (counted_code t) (pos (kind_number m o) ∷ pos o ∷ []) r in
    let told = counted_told s t (pos (kind_number k n) ∷ pos n ∷ q) (pos (kind_number m o) ∷ pos o ∷ r) (left ∙ e ∙ right) in
    let rest = told.1 in
    let kinds : kind_number k n ≡ kind_number m o = cc in
    let counts : n ≡ o = cc in
    let after : q ≡ r = cc in
    (told.0, kinds, counts, after)

array_told : (y : Noun-F Held Known) → TellsArray (kept y)
array_told y w r s e =
    let v = kept y in
    let l = map atom_code (firsts y.atoms) in
    let m = map atom_code (atoms w) in
    let left = sym (append_assoc (head_code y.shape y.kind (length l)) (joined l) r) ∙ ap (λ c. c ++ r) (sym (code_is v)) in
    let right = ap (λ c. c ++ s) (code_is w) ∙ append_assoc (head_code (shape w) (kind w) (length m)) (joined m) s in
    let head = head_told y.shape (shape w) y.kind (kind w) (length l) (length m) (joined l ++ r) (joined m ++ s) (left ∙ e ∙ right) in
    let told = atoms_told y.atoms (atoms w) r s head.2 head.3 in
    let few : length (map plain_atom (atoms w)) ≡ length m = length-map (atoms w) plain_atom ∙ sym (length-map (atoms w) atom_code) in
    let kinds : kind_number y.kind (length (map plain_atom (atoms w))) ≡ kind_number (kind w) (length (map plain_atom (atoms w))) =
    ap (kind_number y.kind) (few ∙ sym head.2) ∙ head.1 ∙ ap (kind_number (kind w)) (sym few) in (
      plain_is v ∙ (λ i. noun (head.0 i) (plain_kind y.kind (told.0 i)) (told.0 i))
          ∙ ap (λ k. noun (shape w) k (map plain_atom (atoms w))) (kind_told y.kind (kind w) (map plain_atom (atoms w)) kinds) ∙ sym (plain_is w),
      told.1,
    )

pub code_tells : (v : Noun) → TellsArray v
code_tells = ind-Noun Tells TellsArray
    (λ x y is. subst (λ z. Tells (roll-Atom z)) is (atom_told y))
    (λ x y is. subst (λ z. TellsArray (roll-Noun z)) is (array_told y))

-- what matches has one code
abbrev One : Atom → Type 0
One a = (b : Atom) → plain_atom a ≡ plain_atom b → atom_code a ≡ atom_code b

abbrev OneArray : Noun → Type 0
OneArray v = (w : Noun) → plain v ≡ plain w → code v ≡ code w

abbrev HeldOne : Type 0
HeldOne = (a : Atom) × One a

abbrev KnownOne : Type 0
KnownOne = (v : Noun) × OneArray v

abbrev ones_of : Atom-F HeldOne KnownOne → Atom-F Atom Noun
ones_of = map-Atom HeldOne KnownOne Atom Noun (λ e. e.0) (λ e. e.0)

layer_one : (y : Atom-F HeldOne KnownOne) (b : Atom-F Atom Noun) → plainly (ones_of y) ≡ plainly b → coded (ones_of y) ≡ coded b
layer_one (one.Int n) (one.Int m) e = cc
layer_one (one.Int n) (one.Char m) e = cc
layer_one (one.Int n) (one.Box m) e = cc
layer_one (one.Int n) (one.Pyx m) e = cc
layer_one (one.Char n) (one.Int m) e = cc
layer_one (one.Char n) (one.Char m) e = cc
layer_one (one.Char n) (one.Box m) e = cc
layer_one (one.Char n) (one.Pyx m) e = cc
layer_one (one.Box v) (one.Int m) e = cc
layer_one (one.Box v) (one.Char m) e = cc
layer_one (one.Box v) (one.Box w) e = ap (λ c. pos 2 ∷ c) (v.1 w (same_box _ _ e))
layer_one (one.Box v) (one.Pyx m) e = cc
layer_one (one.Pyx p) (one.Int m) e = cc
layer_one (one.Pyx p) (one.Char m) e = cc
layer_one (one.Pyx p) (one.Box m) e = cc
layer_one (one.Pyx p) (one.Pyx q) e = let same : p ≡ q = cc in ap (λ x. pos 3 ∷ pos x.number ∷ counted_code x.path) same

atom_one : (y : Atom-F HeldOne KnownOne) → One (roll-Atom (ones_of y))
atom_one y b e =
    let a = ones_of y in
    coded_layer a ∙ layer_one y (out-Atom b) (sym (plain_layer a) ∙ e ∙ plain_out b) ∙ sym (coded_out b)

abbrev firsts_one : List HeldOne → List Atom
firsts_one = map (λ (e : HeldOne). e.0)

atoms_one : (l : List HeldOne) (m : List Atom) → map plain_atom (firsts_one l) ≡ map plain_atom m → map atom_code (firsts_one l) ≡ map atom_code m
atoms_one [] [] e = refl
atoms_one [] (b ∷ m) e = cc
atoms_one (a ∷ l) [] e = cc
atoms_one (a ∷ l) (b ∷ m) e =
    let head : plain_atom a.0 ≡ plain_atom b = cc in
    let tail : map plain_atom (firsts_one l) ≡ map plain_atom m = cc in
    (λ i. a.1 b head i ∷ atoms_one l m tail i)

abbrev kept_one : Noun-F HeldOne KnownOne → Noun
kept_one y = noun y.shape y.kind (firsts_one y.atoms)

-- kinds that count alike have one number
kind_one : (k m : Kind) (l : List Atom) → plain_kind k l ≡ plain_kind m l → kind_number k (length l) ≡ kind_number m (length l)
kind_one k m [] e = refl
kind_one sort.Int sort.Int (a ∷ l) e = refl
kind_one sort.Int sort.Char (a ∷ l) e = cc
kind_one sort.Int sort.Boxed (a ∷ l) e = cc
kind_one sort.Char sort.Int (a ∷ l) e = cc
kind_one sort.Char sort.Char (a ∷ l) e = refl
kind_one sort.Char sort.Boxed (a ∷ l) e = cc
kind_one sort.Boxed sort.Int (a ∷ l) e = cc
kind_one sort.Boxed sort.Char (a ∷ l) e = cc
kind_one sort.Boxed sort.Boxed (a ∷ l) e = refl

array_one : (y : Noun-F HeldOne KnownOne) → OneArray (kept_one y)
array_one y w e =
    let v = kept_one y in
    let l = atoms v in
    let same = match_atoms v w e in
    let codes = atoms_one y.atoms (atoms w) same in
    let kinds : plain_kind y.kind (map plain_atom (atoms w)) ≡ plain_kind (kind w) (map plain_atom (atoms w)) =
    ap (plain_kind y.kind) (sym same) ∙ ap kind (sym (plain_is v) ∙ e ∙ plain_is w) in
    let few : length (map plain_atom (atoms w)) ≡ length (map atom_code (atoms w)) = length-map (atoms w) plain_atom ∙ sym (length-map (atoms w) atom_code) in
    let numbers : kind_number y.kind (length (map atom_code (atoms w))) ≡ kind_number (kind w) (length (map atom_code (atoms w))) =
    ap (kind_number y.kind) (sym few) ∙ kind_one y.kind (kind w) (map plain_atom (atoms w)) kinds ∙ ap (kind_number (kind w)) few in
    code_is v
    ∙ (λ i. head_code (match_shape v w e i) y.kind (length (codes i)) ++ joined (codes i))
    ∙ ap (λ k. (counted_code (shape w) ++ pos k ∷ pos (length (map atom_code (atoms w))) ∷ []) ++ joined (map atom_code (atoms w))) numbers
    ∙ sym (code_is w)

pub one_code : (v : Noun) → OneArray v
one_code = ind-Noun One OneArray
    (λ x y is. subst (λ z. One (roll-Atom z)) is (atom_one y))
    (λ x y is. subst (λ z. OneArray (roll-Noun z)) is (array_one y))
