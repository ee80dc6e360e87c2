-- The product of the axes, one axis after another.
use Rattle.std.specs.Prelude.{ℕ, ◌+◌, ◌-◌, ◌*◌, ◌/◌, ◌<◌, ◌≤◌, ◌≡◌, ◌≢◌, max, Bool, true, false, List, [], ◌∷◌, ◌++◌, length, take}
use Rattle.std.proofs.Common.{arith, sym, ◌∙◌, ap, refl, subst, drop, get_or}
use Rattle.std.proofs.Math.Nat.{mul_assoc, zero-mul, mul-zero, mul-le-mul_left, mul-div-le, lt-mul-div-succ, one-le-mul, le-mul_of_pos_right, mul-le-mul_right, mul_comm}
use Rattle.std.proofs.lemmas.List.{at_drop_more, take-append-drop, length-take, length-drop, take_rest}
use Rattle.jdata.specs.Limits.{IsShape}
use Rattle.jdata.specs.Noun.{product, extent}

-- what the axes before i came to: their extent e, which is at most m, and whether one of them is 0
pub record IsMeasured (m : ℕ) (axes : List ℕ) (i e : ℕ) (b : Bool) : Type 0 where
  pub left : e * extent (drop i axes) ≡ extent axes
  pub full : b ≡ false → e * product (drop i axes) ≡ product axes
  pub none : b ≡ true → product axes ≡ 0
  pub some : 1 ≤ e
  pub bound : e ≤ m

pub extent_some : (axes : List ℕ) → 1 ≤ extent axes
extent_some [] = omega arith
extent_some (n ∷ ns) = let one : 1 ≤ max n 1 = omega arith in one-le-mul one (extent_some ns)

pub extent_more : (axes : List ℕ) (i d : ℕ) → i < length axes → get_or axes i 0 ≡ d → extent (drop i axes) ≡ max d 1 * extent (drop (i + 1) axes)
extent_more axes i d h at = at_drop_more extent axes i 0 h ∙ ap (λ x. max x 1 * extent (drop (i + 1) axes)) at

pub product_more : (axes : List ℕ) (i d : ℕ) → i < length axes → get_or axes i 0 ≡ d → product (drop i axes) ≡ d * product (drop (i + 1) axes)
product_more axes i d h at = at_drop_more product axes i 0 h ∙ ap (λ x. x * product (drop (i + 1) axes)) at

no_product : (axes : List ℕ) (e p : ℕ) → p ≡ 0 * product axes → e * p ≡ 0
no_product axes e p at = ap (λ x. e * x) (at ∙ zero-mul _) ∙ mul-zero e

empty_from : (b : Bool) (p q : ℕ) → q ≡ 0 → (b ≡ false → q ≡ p) → (b ≡ true → p ≡ 0) → p ≡ 0
empty_from true p q z full none = none refl
empty_from false p q z full none = sym (full refl) ∙ z

-- an axis that is 0
pub measured_zero : (m : ℕ) (axes : List ℕ) (i e : ℕ) (b : Bool) → i < length axes → get_or axes i 0 ≡ 0 →
    IsMeasured m axes i e b → IsMeasured m axes (i + 1) e true
measured_zero m axes i e b h at was = record {
  left = ap (λ x. e * x) (sym (extent_more axes i 0 h at ∙ omega arith)) ∙ was.left;
  full = λ no. cc;
  none = λ _. empty_from b (product axes) _ (no_product (drop (i + 1) axes) e _ (product_more axes i 0 h at)) was.full was.none;
  some = was.some;
  bound = was.bound;
}

-- an axis that isn't 0, and keeps the product within the limit
pub measured_axis : (m : ℕ) (axes : List ℕ) (i e d : ℕ) (b : Bool) → i < length axes → get_or axes i 0 ≡ d → d ≢ 0 → d ≤ m / e →
    IsMeasured m axes i e b → IsMeasured m axes (i + 1) (e * d) b
measured_axis m axes i e d b h at nonzero within was =
    let big : max d 1 ≡ d = omega arith in
    let one : 1 ≤ d = omega arith in
    record {
      left = mul_assoc e d _ ∙ ap (λ x. e * (x * extent (drop (i + 1) axes))) (sym big) ∙ ap (λ x. e * x) (sym (extent_more axes i d h at)) ∙ was.left;
      full = λ no. mul_assoc e d _ ∙ ap (λ x. e * x) (sym (product_more axes i d h at)) ∙ was.full no;
      none = was.none;
      some = one-le-mul was.some one;
      bound = let step = mul-le-mul_left e within in let fall = mul-div-le m e in omega (arith, step, fall);
    }

-- an axis that takes the product beyond it
pub beyond : (m : ℕ) (axes : List ℕ) (i e d : ℕ) (b : Bool) → i < length axes → get_or axes i 0 ≡ d → d ≢ 0 → m / e < d →
    IsMeasured m axes i e b → m < extent axes
beyond m axes i e d b h at nonzero more was =
    let big : max d 1 ≡ d = omega arith in
    let next : m / e + 1 ≤ d = omega arith in
    let over = lt-mul-div-succ m {b = e} (omega (arith, was.some)) in
    let up = mul-le-mul_left e next in
    let rest : extent axes ≡ (e * d) * extent (drop (i + 1) axes) = sym (mul_assoc e d _ ∙ ap (λ x. e * (x * extent (drop (i + 1) axes))) (sym big) ∙ ap (λ x. e * x) (sym (extent_more axes i d h at)) ∙ was.left) in
    let grow = le-mul_of_pos_right {m = extent (drop (i + 1) axes)} (e * d) (omega (arith, extent_some (drop (i + 1) axes))) in
    omega (arith, over, up, rest, grow)

-- the product of the axes before i is p, and it stays within m
pub record IsMultiplied (m p : ℕ) (rest axes : List ℕ) : Type 0 where
  pub left : p * product rest ≡ product axes
  pub bound : p * extent rest ≤ m

pub multiplied_fits : (m : ℕ) (axes : List ℕ) (i p : ℕ) → i < length axes → IsMultiplied m p (drop i axes) axes → p * get_or axes i 0 ≤ m
multiplied_fits m axes i p h was =
    let d : get_or axes i 0 ≤ max (get_or axes i 0) 1 = omega arith in
    let up = mul-le-mul_left p d in
    let e : p * extent (drop i axes) ≡ (p * max (get_or axes i 0) 1) * extent (drop (i + 1) axes) =
    ap (λ x. p * x) (extent_more axes i (get_or axes i 0) h refl) ∙ sym (mul_assoc p (max (get_or axes i 0) 1) (extent (drop (i + 1) axes))) in
    let grow = le-mul_of_pos_right {m = extent (drop (i + 1) axes)} (p * max (get_or axes i 0) 1) (omega (arith, extent_some (drop (i + 1) axes))) in
    omega (arith, up, e, grow, was.bound)

pub multiplied_more : (m : ℕ) (axes : List ℕ) (i p : ℕ) → i < length axes → IsMultiplied m p (drop i axes) axes → IsMultiplied m (p * get_or axes i 0) (drop (i + 1) axes) axes
multiplied_more m axes i p h was = record {
  left = mul_assoc p (get_or axes i 0) (product (drop (i + 1) axes)) ∙ ap (λ x. p * x) (sym (product_more axes i (get_or axes i 0) h refl)) ∙ was.left;
  bound =
      let d : get_or axes i 0 ≤ max (get_or axes i 0) 1 = omega arith in
      let up = mul-le-mul_left p d in
      let e : p * extent (drop i axes) ≡ (p * max (get_or axes i 0) 1) * extent (drop (i + 1) axes) =
      ap (λ x. p * x) (extent_more axes i (get_or axes i 0) h refl) ∙ sym (mul_assoc p (max (get_or axes i 0) 1) (extent (drop (i + 1) axes))) in
      let less = mul-le-mul_right (extent (drop (i + 1) axes)) up in
      omega (arith, e, less, was.bound);
}

-- a part of a shape is a shape
pub extent-append : (xs ys : List ℕ) → extent (xs ++ ys) ≡ extent xs * extent ys
extent-append [] ys = omega arith
extent-append (n ∷ ns) ys = ap (λ x. max n 1 * x) (extent-append ns ys) ∙ sym (mul_assoc (max n 1) (extent ns) (extent ys))

pub parts_are_within : (n : ℕ) (axes : List ℕ) → (extent (take n axes) ≤ extent axes) × (extent (drop n axes) ≤ extent axes)
parts_are_within n axes =
    let e : extent axes ≡ extent (take n axes) * extent (drop n axes) = ap extent (sym (take-append-drop n axes)) ∙ extent-append (take n axes) (drop n axes) in
    let left = le-mul_of_pos_right {m = extent (drop n axes)} (extent (take n axes)) (omega (arith, extent_some (drop n axes))) in
    let right = le-mul_of_pos_right {m = extent (take n axes)} (extent (drop n axes)) (omega (arith, extent_some (take n axes))) in
    let swapped = mul_comm (extent (take n axes)) (extent (drop n axes)) in
    ((omega (arith, e, left)), (omega (arith, e, right, swapped)))

pub frame_is_shape : (n : ℕ) (axes : List ℕ) → IsShape axes → IsShape (take n axes)
frame_is_shape n axes s = record {
  rank = let l = length-take n axes in omega (arith, l, s.rank);
  extent_at_most = omega (arith, (parts_are_within n axes).0, s.extent_at_most);
}

rest_is_shape : (n : ℕ) (axes : List ℕ) → IsShape axes → IsShape (drop n axes)
rest_is_shape n axes s = record {
  rank = let l = length-drop n axes in omega (arith, l, s.rank);
  extent_at_most = omega (arith, (parts_are_within n axes).1, s.extent_at_most);
}

pub cell_is_shape : (n : ℕ) (axes : List ℕ) → IsShape axes → IsShape (take (length axes - n) (drop n axes))
cell_is_shape n axes s = subst IsShape (sym (take_rest axes n)) (rest_is_shape n axes s)

pub product-append : (xs ys : List ℕ) → product (xs ++ ys) ≡ product xs * product ys
product-append [] ys = omega arith
product-append (n ∷ ns) ys = ap (λ x. n * x) (product-append ns ys) ∙ sym (mul_assoc n (product ns) (product ys))

pub product_at_most : (axes : List ℕ) → product axes ≤ extent axes
product_at_most [] = omega arith
product_at_most (n ∷ ns) =
    let up = mul-le-mul_left n (product_at_most ns) in
    let wide : n ≤ max n 1 = omega arith in
    let more = mul-le-mul_right (extent ns) wide in
    omega (arith, up, more)
