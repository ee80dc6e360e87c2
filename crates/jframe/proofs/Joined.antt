-- The atoms of one result in the common shape.
use Rattle.std.proofs.Common.{◌≡◌, ℕ, ◌+◌, ◌-◌, ◌*◌, ◌≤◌, zero, suc, Bool, true, false, List, [], ◌∷◌, ◌++◌, length, get_or, map, replicate, refl, sym, ap, ◌∙◌, arith}
use Rattle.std.specs.Prelude.{if◌then◌else◌}
use Rattle.std.specs.List.{range_with_len}
use Rattle.std.proofs.lemmas.List.{map-append, take_all, length-map}
use Rattle.jdata.specs.Noun.{shape, atoms, product}
use Rattle.jdata.specs.Limits.{IsArray}
use Rattle.jdata.specs.declared.noun.Noun.{Noun}
use Rattle.jdata.specs.declared.noun.Kind.{Kind}
use Rattle.jdata.specs.declared.noun.Atom.{Atom}
use Rattle.jframe.specs.Assembly.{raised}
use Rattle.jdata.specs.Fills.{fill_of}
use Rattle.jdata.specs.Indexes.{index_at, place_at, has_index, at_or}
use Rattle.jframe.specs.Padding.{spread, joined}
use Rattle.jdata.proofs.Extents.{product-append}
use Rattle.jframe.proofs.Arrays.{get_or-mapped}
use Rattle.jframe.proofs.Spreading.{spread_same}

-- a shape that has the rank is not raised
pub raised_same : (axes whole : List ℕ) → axes ≡ whole → raised (length whole) axes ≡ whole
raised_same axes whole e =
    let none : length whole - length axes ≡ 0 = omega (arith, ap length e) in
    ap (λ n. replicate n 1 ++ axes) none ∙ e

product_of_ones : (n : ℕ) → product (replicate n 1) ≡ 1
product_of_ones zero = refl
product_of_ones (suc n) = omega (arith, product_of_ones n)

pub product_raised : (rank : ℕ) (axes : List ℕ) → product (raised rank axes) ≡ product axes
product_raised rank axes =
    let one = product_of_ones (rank - length axes) in
    product-append (replicate (rank - length axes) 1) axes ∙ ap (λ x. x * product axes) one ∙ omega arith

at_or-mapped : {A B : Type 0} (f : A → B) (d : A) (axes : List ℕ) (l : List A) (index : List ℕ) → f (at_or d axes l index) ≡ at_or (f d) axes (map f l) index
at_or-mapped {A = A} {B = B} f d axes l index =
    let go : (b : Bool) (x : A) (y : B) → f x ≡ y → f (if b then x else d) ≡ (if b then y else f d) = λ b x y e. elim b as (λ c. f (if c then x else d) ≡ (if c then y else f d)) [ true ↦ e | false ↦ refl ] in
    go (has_index axes index) (get_or l (place_at axes index) d) (get_or (map f l) (place_at axes index) (f d)) (get_or-mapped f l (place_at axes index) d)

map-made : {A B : Type 0} (f : A → B) (g : ℕ → A) (h : ℕ → B) (a n : ℕ) → ((p : ℕ) → f (g p) ≡ h p) → map f (map g (range_with_len a n)) ≡ map h (range_with_len a n)
map-made f g h a zero e = refl
map-made f g h a (suc n) e = λ i. e a i ∷ map-made f g h (a + 1) n e i

pub map-spread : {A B : Type 0} (f : A → B) (d : A) (whole part : List ℕ) (l : List A) → map f (spread d whole part l) ≡ spread (f d) whole part (map f l)
unfolding spread
map-spread f d whole part l =
    map-made f (λ p. at_or d part l (index_at whole p)) (λ p. at_or (f d) part (map f l) (index_at whole p)) 0 (product whole) (λ p. at_or-mapped f d part l (index_at whole p))

-- where the shape is the common one, the atoms stay as they are
pub joined_same : (k : Kind) (whole : List ℕ) (v : Noun) → shape v ≡ whole → IsArray v → joined k whole v ≡ atoms v
joined_same k whole v e a =
    let long : length (atoms v) ≡ product whole = a.whole ∙ ap product e in
    ap (λ part. spread (fill_of k) whole part (atoms v)) (raised_same (shape v) whole e)
    ∙ spread_same (fill_of k) whole (atoms v) (omega (arith, long))
    ∙ take_all (product whole) (atoms v) (omega (arith, long))

-- the atoms of a result behind those before
pub added_same : {T : Type 0} (atom : T → Atom) (k : Kind) (whole : List ℕ) (own old new : List T) (v : Noun) →
    shape v ≡ whole → IsArray v → map atom own ≡ atoms v → new ≡ old ++ own → map atom new ≡ map atom old ++ joined k whole v
added_same atom k whole own old new v e a mine is =
    ap (map atom) is ∙ map-append atom old own ∙ ap (λ l. map atom old ++ l) (mine ∙ sym (joined_same k whole v e a))

pub added : {T : Type 0} (atom : T → Atom) (blank : T) (k : Kind) (whole part : List ℕ) (own old new : List T) (v : Noun) →
    atom blank ≡ fill_of k → part ≡ raised (length whole) (shape v) → map atom own ≡ atoms v → new ≡ old ++ spread blank whole part own →
    map atom new ≡ map atom old ++ joined k whole v
added atom blank k whole part own old new v fill raise mine is =
    ap (map atom) is ∙ map-append atom old (spread blank whole part own)
    ∙ ap (λ l. map atom old ++ l) (map-spread atom blank whole part own ∙ (λ i. spread (fill i) whole (raise i) (mine i)))

pub enough : {T : Type 0} (atom : T → Atom) (rank : ℕ) (part : List ℕ) (own : List T) (v : Noun) → part ≡ raised rank (shape v) → map atom own ≡ atoms v → IsArray v →
    product part ≤ length own
enough atom rank part own v raise mine a =
    omega (arith, ap product raise, product_raised rank (shape v), ap length mine, length-map own atom, a.whole)
