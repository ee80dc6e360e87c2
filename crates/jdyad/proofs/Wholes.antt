-- The whole of two arrays that agree, where one or the other has the longer shape.
use Rattle.std.specs.Prelude.{IfNone, ◌≢◌, ℕ, ℤ, zero, suc, ◌*◌, ◌/◌, ◌<◌, ◌≤◌, ◌⊎◌, ◌==◌, ◌&&◌, ◌||◌, Bool, true, false, cond, ◌≡◌, Option, Some, None, Result, Ok, Err, List, [], ◌∷◌, length, map}
use Rattle.jscalar.specs.Places.{by_place}
use Rattle.std.proofs.Common.{arith, sym, ◌∙◌, ap, refl, inl, inr, mul_assoc}
use Rattle.std.proofs.lemmas.Bool.Decides.{Decides-eqb}
use Rattle.std.proofs.Math.Nat.{div-eq_of_eq-mul_right}
use Rattle.std.proofs.Math.Seq.{drop-length}
use Rattle.jdata.specs.Noun.{noun, shape, kind, atoms, level, product, extent, int_atom}
use Rattle.jdata.specs.Limits.{IsArray, checked}
use Rattle.jdata.specs.declared.fault.Fault.{Fault}
use Rattle.jdata.specs.declared.fault.Fault.TheVariants.{Domain, Length, Nonce}
use Rattle.jdata.proofs.Checks.{passes}
use Rattle.jdata.proofs.Levels.{level_is, level_of_ints}
use Rattle.std.specs.List.{range_with_len}
use Rattle.std.proofs.lemmas.List.FromFn.{length-map-range_with_len}
use Rattle.std.proofs.Math.Nat.{mul-zero}
use Rattle.jscalar.specs.Dyads.{two_of, is_scalar_dyad}
use Rattle.jdyad.proofs.Verbs.{of_ints}
use Rattle.jdata.specs.declared.fault.Trouble.{Trouble}
use Rattle.jdata.specs.declared.fault.Trouble.TheVariants as trouble
use Rattle.jdata.specs.declared.noun.Kind.{Kind}
use Rattle.jdata.specs.declared.noun.Kind.TheVariants as sort
use Rattle.jdata.specs.declared.noun.Noun.{Noun}
use Rattle.jdata.specs.Trees.{noun_of, kind_of, atoms_of}
use Rattle.jdata.specs.declared.tree.Leaves.{Leaves}
use Rattle.jdata.specs.declared.noun.Atom.{Atom}
use Rattle.jdata.specs.declared.noun.Atom.TheVariants as atom
use Rattle.jdata.specs.declared.primitive.Primitive.{Primitive}
use Rattle.jdata.specs.Answers.{Answers}
use Rattle.jdata.specs.Kinds.{kinds_match}
use Rattle.jshape.specs.Agreement.{is_prefix, longer, repeated}
use Rattle.jdyad.specs.Atoms.{is_comparison}
use Rattle.jarray.specs.Numbers.{is_integers, integers}
use Rattle.jdata.specs.Firsts.{all_or_first, in_front}
use Rattle.jdyad.specs.Dyads.{scalar_dyad, each_pair, takes, spread, of_shape}

both : (a b : Bool) → (a && b) ≡ true → (a ≡ true) × (b ≡ true)
both true true e = (refl, refl)
both true false e = cc
both false b e = cc

-- the axes behind the common ones
pub repeated_is : (part whole : List ℕ) → is_prefix part whole ≡ true → product whole ≡ product part * repeated part whole
repeated_is [] whole h = omega arith
repeated_is (n ∷ ns) [] h = cc
repeated_is (n ∷ ns) (m ∷ ms) h =
    let parts = both (n == m) (is_prefix ns ms) h in
    let same : n ≡ m = (Decides-eqb n m).0 parts.0 in
    ap (λ k. k * product ms) (sym same) ∙ ap (λ k. n * k) (repeated_is ns ms parts.1) ∙ sym (mul_assoc n (product ns) (repeated ns ms))

pub itself : (axes : List ℕ) → repeated axes axes ≡ 1
itself axes = ap product (drop-length axes)

either : (a b : Bool) → (a || b) ≡ true → (a ≡ true) ⊎ (b ≡ true)
either true b e = inl refl
either false b e = inr e

int_kind : (k : Kind) (l : List Atom) → 0 < length l → kinds_match k sort.Int l ≡ true → k ≡ sort.Int
int_kind k [] some h = absurd (omega arith)
int_kind sort.Int (a ∷ l) some h = refl
int_kind sort.Char (a ∷ l) some h = cc
int_kind sort.Boxed (a ∷ l) some h = cc

pub kinds_of : (verb : Primitive) (x y : Noun) → takes verb x y ≡ true → 0 < length (atoms x) → 0 < length (atoms y) → (is_comparison verb ≡ true) ⊎ ((kind x ≡ sort.Int) × (kind y ≡ sort.Int))
kinds_of verb x y h some more = elim (either (is_comparison verb) (is_integers x && is_integers y) h) [
  | inl c ↦ inl c
  | inr c ↦ let parts = both (is_integers x) (is_integers y) c in inr (int_kind (kind x) (atoms x) some parts.0, int_kind (kind y) (atoms y) more parts.1)
]

or_true : (b : Bool) → (b || true) ≡ true
or_true true = refl
or_true false = refl

taken : (verb : Primitive) (x y : Noun) → takes verb x y ≡ true → each_pair verb x y ≡ of_shape verb x y (longer (shape x) (shape y))
unfolding each_pair
taken verb x y h = ap (λ b. cond b (of_shape verb x y (longer (shape x) (shape y))) (Err Domain)) h

pub refused : (verb : Primitive) (x y : Noun) → takes verb x y ≡ false → each_pair verb x y ≡ Err Domain
unfolding each_pair
refused verb x y h = ap (λ b. cond b (of_shape verb x y (longer (shape x) (shape y))) (Err Domain)) h

right_longer : (left right : List ℕ) → is_prefix left right ≡ true → longer left right ≡ Some right
right_longer left right h = ap (λ b. cond b (Some right) (cond (is_prefix right left) (Some left) None)) h

left_longer : (left right : List ℕ) → is_prefix left right ≡ false → is_prefix right left ≡ true → longer left right ≡ Some left
left_longer left right h k =
    ap (λ b. cond b (Some right) (cond (is_prefix right left) (Some left) None)) h ∙ ap (λ b. cond b (Some left) None) k

pub apart_shapes : (verb : Primitive) (x y : Noun) → takes verb x y ≡ true → is_prefix (shape x) (shape y) ≡ false → is_prefix (shape y) (shape x) ≡ false → each_pair verb x y ≡ Err Length
apart_shapes verb x y t h k =
    taken verb x y t ∙ ap (of_shape verb x y) (ap (λ b. cond b (Some (shape y)) (cond (is_prefix (shape y) (shape x)) (Some (shape x)) None)) h ∙ ap (λ b. cond b (Some (shape x)) None) k)

pub right_dyad : (verb : Primitive) (x y : Noun) → takes verb x y ≡ true → is_prefix (shape x) (shape y) ≡ true → IsArray y →
    each_pair verb x y ≡ integers (shape y) (by_place (spread verb (atoms x) (repeated (shape x) (shape y)) (atoms y) 1) (length (atoms y)))
right_dyad verb x y t h array =
    taken verb x y t ∙ ap (of_shape verb x y) (right_longer (shape x) (shape y) h)
    ∙ ap (λ cell. integers (shape y) (by_place (spread verb (atoms x) (repeated (shape x) (shape y)) (atoms y) cell) (product (shape y)))) (itself (shape y))
    ∙ ap (λ n. integers (shape y) (by_place (spread verb (atoms x) (repeated (shape x) (shape y)) (atoms y) 1) n)) (sym array.whole)

pub left_dyad : (verb : Primitive) (x y : Noun) → takes verb x y ≡ true → is_prefix (shape x) (shape y) ≡ false → is_prefix (shape y) (shape x) ≡ true → IsArray x →
    each_pair verb x y ≡ integers (shape x) (by_place (spread verb (atoms x) 1 (atoms y) (repeated (shape y) (shape x))) (length (atoms x)))
left_dyad verb x y t h k array =
    taken verb x y t ∙ ap (of_shape verb x y) (left_longer (shape x) (shape y) h k)
    ∙ ap (λ cell. integers (shape x) (by_place (spread verb (atoms x) cell (atoms y) (repeated (shape y) (shape x))) (product (shape x)))) (itself (shape x))
    ∙ ap (λ n. integers (shape x) (by_place (spread verb (atoms x) 1 (atoms y) (repeated (shape y) (shape x))) n)) (sym array.whole)

-- how the atoms of the shorter argument serve those of the longer
pub record Serves (part whole cell : ℕ) : Type 0 where
  pub product : whole ≡ part * cell
  pub some_part : 0 < part
  pub some : 0 < cell
  pub quotient : whole / part ≡ cell

some_of : (a b c : ℕ) → a ≡ b * c → 0 < a → (0 < b) × (0 < c)
some_of a zero c e h = absurd (omega arith)
some_of a (suc b) zero e h = absurd (omega (arith, e, mul-zero (suc b)))
some_of a (suc b) (suc c) e h = (omega arith, omega arith)

pub serves : (x y : Noun) → IsArray x → IsArray y → is_prefix (shape x) (shape y) ≡ true → 0 < length (atoms y) → Serves (length (atoms x)) (length (atoms y)) (repeated (shape x) (shape y))
serves x y left right h some =
    let e : length (atoms y) ≡ length (atoms x) * repeated (shape x) (shape y) = right.whole ∙ repeated_is (shape x) (shape y) h ∙ ap (λ n. n * repeated (shape x) (shape y)) (sym left.whole) in
    let parts = some_of (length (atoms y)) (length (atoms x)) (repeated (shape x) (shape y)) e some in
    record { product = e; some_part = parts.0; some = parts.1; quotient = div-eq_of_eq-mul_right parts.0 e }

-- the same where the numbers were computed
pub served : (a b c n q : ℕ) → Serves a b c → n ≡ b → q ≡ a → n / q ≡ c
served a b c n q s e f = (λ i. e i / f i) ∙ s.quotient

in_front_length : (n : ℤ) (r : Result (List ℤ) Fault) (ns : List ℤ) (k : ℕ) → ((ms : List ℤ) → r ≡ Ok ms → length ms ≡ k) → in_front n r ≡ Ok ns → length ns ≡ suc k
in_front_length n (Ok ms) ns k h e = let f : ns ≡ n ∷ ms = cc in ap length f ∙ ap suc (h ms refl)
in_front_length n (Err f) ns k h e = cc

all_length : (l : List (Result ℤ Fault)) (ns : List ℤ) → all_or_first l ≡ Ok ns → length ns ≡ length l
all_length [] ns e = let h : ns ≡ [] = cc in ap length h
all_length (Ok n ∷ l) ns e = in_front_length n (all_or_first l) ns (length l) (λ ms f. all_length l ms f) e
all_length (Err f ∷ l) ns e = cc

-- as many numbers as there are places
pub as_many : (at : ℕ → Result ℤ Fault) (n : ℕ) (ns : List ℤ) → by_place at n ≡ Ok ns → length ns ≡ n
unfolding by_place
as_many at n ns e = all_length (map at (range_with_len 0 n)) ns e ∙ length-map-range_with_len at 0 n

pub no_places : (at : ℕ → Result ℤ Fault) (n : ℕ) → n ≡ 0 → by_place at n ≡ Ok []
unfolding by_place
no_places at n e = ap (by_place at) e

int_length : (ns : List ℤ) → length (map atom.Int ns) ≡ length ns
int_length [] = refl
int_length (n ∷ ns) = ap suc (int_length ns)

-- what is answered of the numbers is answered of the whole
pub whole_answers : (axes : List ℕ) (meant : Result (List ℤ) Fault) (dyad : Result Noun Fault) (why : Trouble) → dyad ≡ integers axes meant → Answers meant (Err why) → Answers dyad (Err why)
whole_answers axes meant dyad (trouble.Fault f) e h = e ∙ ap (integers axes) h
whole_answers axes meant dyad trouble.NoMemory e h = tt

-- two integers that stand alone
alone_dyad : (verb : Primitive) (m n : ℤ) → each_pair verb (int_atom m) (int_atom n) ≡ integers [] (all_or_first (two_of verb m n ∷ []))
unfolding by_place
alone_dyad verb m n =
    let t : takes verb (int_atom m) (int_atom n) ≡ true = or_true (is_comparison verb) in
    taken verb (int_atom m) (int_atom n) t ∙ ap (λ r. integers [] (all_or_first (r ∷ []))) (of_ints verb m n)

pub alone_number : (verb : Primitive) (m n k : ℤ) → two_of verb m n ≡ Ok k → each_pair verb (int_atom m) (int_atom n) ≡ Ok (int_atom k)
alone_number verb m n k e = alone_dyad verb m n ∙ ap (λ r. integers [] (all_or_first (r ∷ []))) e

pub alone_fault : (verb : Primitive) (m n : ℤ) (f : Fault) → two_of verb m n ≡ Err f → each_pair verb (int_atom m) (int_atom n) ≡ Err f
alone_fault verb m n f e = alone_dyad verb m n ∙ ap (λ r. integers [] (all_or_first (r ∷ []))) e

pub none_alone : (r : Option ℤ) (x : Noun) (m : ℤ) → r ≡ None → IfNone r ((n : ℤ) → x ≢ int_atom n) → x ≡ int_atom m → ⊥
none_alone None x m e h f = h m f
none_alone (Some k) x m e h f = cc

-- an array's shape, kind and atoms, by the parts of its tree
pub record Parts (v : Noun) (axes : List ℕ) (leaves : Leaves) : Type 0 where
  pub shape_is : shape v ≡ axes
  pub kind_is : kind v ≡ kind_of leaves
  pub atoms_are : atoms v ≡ atoms_of leaves

pub parts_of : (v t : Noun) (axes : List ℕ) (leaves : Leaves) → noun_of axes leaves ≡ t → t ≡ v → Parts v axes leaves
parts_of v t axes leaves e f = let whole = sym f ∙ sym e in record { shape_is = ap shape whole; kind_is = ap kind whole; atoms_are = ap atoms whole }

pub right_meant : (verb : Primitive) (x y : Noun) (axes : List ℕ) (xs : List Atom) (cell : ℕ) (ys : List Atom) → takes verb x y ≡ true → is_prefix (shape x) (shape y) ≡ true → IsArray y →
    shape y ≡ axes → xs ≡ atoms x → cell ≡ repeated (shape x) (shape y) → atoms y ≡ ys → each_pair verb x y ≡ integers axes (by_place (spread verb xs cell ys 1) (length ys))
right_meant verb x y axes xs cell ys t h array s a c b =
    right_dyad verb x y t h array ∙ (λ i. integers (s i) (by_place (spread verb (sym a i) (sym c i) (b i) 1) (length (b i))))

pub left_meant : (verb : Primitive) (x y : Noun) (axes : List ℕ) (xs ys : List Atom) (cell : ℕ) → takes verb x y ≡ true → is_prefix (shape x) (shape y) ≡ false → is_prefix (shape y) (shape x) ≡ true → IsArray x →
    shape x ≡ axes → atoms x ≡ xs → ys ≡ atoms y → cell ≡ repeated (shape y) (shape x) → each_pair verb x y ≡ integers axes (by_place (spread verb xs 1 ys cell) (length xs))
left_meant verb x y axes xs ys cell t h k array s a b c =
    left_dyad verb x y t h k array ∙ (λ i. integers (s i) (by_place (spread verb (a i) 1 (sym b i) (sym c i)) (length (a i))))

pub right_none : (verb : Primitive) (x y : Noun) (axes : List ℕ) (whole : Noun) (ns : List ℤ) → takes verb x y ≡ true → is_prefix (shape x) (shape y) ≡ true → IsArray y →
    shape y ≡ axes → length (atoms y) ≡ 0 → ns ≡ [] → whole ≡ noun axes sort.Int (map atom.Int ns) → each_pair verb x y ≡ Ok whole
right_none verb x y axes whole ns t h array s none e f =
    right_dyad verb x y t h array ∙ ap (integers (shape y)) (no_places _ _ none) ∙ (λ i. Ok (noun (s i) sort.Int (map atom.Int (sym e i)))) ∙ ap (λ v. Ok v) (sym f)

pub left_none : (verb : Primitive) (x y : Noun) (axes : List ℕ) (whole : Noun) (ns : List ℤ) → takes verb x y ≡ true → is_prefix (shape x) (shape y) ≡ false → is_prefix (shape y) (shape x) ≡ true → IsArray x →
    shape x ≡ axes → length (atoms x) ≡ 0 → ns ≡ [] → whole ≡ noun axes sort.Int (map atom.Int ns) → each_pair verb x y ≡ Ok whole
left_none verb x y axes whole ns t h k array s none e f =
    left_dyad verb x y t h k array ∙ ap (integers (shape x)) (no_places _ _ none) ∙ (λ i. Ok (noun (s i) sort.Int (map atom.Int (sym e i)))) ∙ ap (λ v. Ok v) (sym f)

pub in_numbers : (axes : List ℕ) (meant : Result (List ℤ) Fault) (ns : List ℤ) (dyad : Result Noun Fault) (whole : Noun) → dyad ≡ integers axes meant → meant ≡ Ok ns → whole ≡ noun axes sort.Int (map atom.Int ns) → dyad ≡ Ok whole
in_numbers axes meant ns dyad whole e f g = e ∙ ap (integers axes) f ∙ ap (λ v. Ok v) (sym g)

pub both_kinds : (verb : Primitive) (x y : Noun) (k m : Kind) → takes verb x y ≡ true → 0 < length (atoms x) → 0 < length (atoms y) → k ≡ kind x → m ≡ kind y → (is_comparison verb ≡ true) ⊎ ((k ≡ sort.Int) × (m ≡ sort.Int))
both_kinds verb x y k m t some more e f = elim (kinds_of verb x y t some more) [ inl c ↦ inl c | inr h ↦ inr (e ∙ h.0, f ∙ h.1) ]

-- a verb that is one of these, or isn't
pub listed : (verb : Primitive) (x y : Noun) → is_scalar_dyad verb ≡ true → scalar_dyad verb x y ≡ each_pair verb x y
unfolding scalar_dyad
listed verb x y h = ap (λ b. cond b (each_pair verb x y) (Err Nonce)) h

pub unlisted : (verb : Primitive) (x y : Noun) → is_scalar_dyad verb ≡ false → scalar_dyad verb x y ≡ Err Nonce
unfolding scalar_dyad
unlisted verb x y h = ap (λ b. cond b (each_pair verb x y) (Err Nonce)) h

-- the longer shape has axes where one of two has
pub longer_some : (short long : List ℕ) → is_prefix short long ≡ true → (short ≢ []) ⊎ (long ≢ []) → long ≢ []
longer_some [] long h (inl f) e = f refl
longer_some [] long h (inr f) e = f e
longer_some (n ∷ ns) [] h some e = cc
longer_some (n ∷ ns) (m ∷ ms) h some e = cc

pub not_alone : (v : Noun) → shape v ≢ [] → (n : ℤ) → v ≢ int_atom n
not_alone v some n e = some (ap shape e)
