-- Products of axes: of two parts, of the rows and the columns.
use Rattle.std.proofs.Common.{◌≡◌, ℕ, zero, suc, ◌+◌, ◌-◌, ◌*◌, ◌<◌, ◌≤◌, List, [], ◌∷◌, ◌++◌, length, get_or, take, drop, sym, ap, ◌∙◌, arith}
use Rattle.std.specs.Prelude.{max}
use Rattle.std.proofs.Math.Nat.{mul_assoc, mul-le-mul_left, mul-le-mul_right, zero-mul, mul-zero, le-mul_of_pos_right, mul_comm}
use Rattle.std.proofs.lemmas.List.{take-append-drop, drop_more, drop_all}
use Rattle.jdata.specs.Noun.{product, extent}
use Rattle.jformat.specs.Rows.{row_axes, last_axis}

pub some_left : (a b : ℕ) → 0 < a * b → 0 < a
some_left zero b h = omega (arith, zero-mul b)
some_left (suc a) b h = omega arith

pub some_right : (a b : ℕ) → 0 < a * b → 0 < b
some_right a zero h = omega (arith, mul-zero a)
some_right a (suc b) h = omega arith

pub product-append : (xs ys : List ℕ) → product (xs ++ ys) ≡ product xs * product ys
product-append [] ys = omega arith
product-append (n ∷ ns) ys = ap (λ x. n * x) (product-append ns ys) ∙ sym (mul_assoc n (product ns) (product ys))

pub product_le_extent : (xs : List ℕ) → product xs ≤ extent xs
product_le_extent [] = omega arith
product_le_extent (n ∷ ns) =
    let up = mul-le-mul_left n (product_le_extent ns) in
    let wide : n ≤ max n 1 = omega arith in
    let out = mul-le-mul_right (extent ns) wide in
    omega (arith, up, out)

pub product_parts : (n : ℕ) (xs : List ℕ) → product xs ≡ product (take n xs) * product (drop n xs)
product_parts n xs = ap product (sym (take-append-drop n xs)) ∙ product-append (take n xs) (drop n xs)

-- where there are atoms, a part of the axes has a product above 0 that is no greater
pub record IsSome (part whole : ℕ) : Type 0 where
  pub some : 0 < part
  pub at_most : part ≤ whole

pub first_part : (n : ℕ) (xs : List ℕ) → 0 < product xs → IsSome (product (take n xs)) (product xs)
first_part n xs h =
    let e = product_parts n xs in
    let l = some_left (product (take n xs)) (product (drop n xs)) (omega (arith, e)) in
    let r = some_right (product (take n xs)) (product (drop n xs)) (omega (arith, e)) in
    let grow = le-mul_of_pos_right (product (take n xs)) r in
    record { some = l; at_most = omega (arith, grow, e) }

pub last_part : (n : ℕ) (xs : List ℕ) → 0 < product xs → IsSome (product (drop n xs)) (product xs)
last_part n xs h =
    let e = product_parts n xs in
    let l = some_left (product (take n xs)) (product (drop n xs)) (omega (arith, e)) in
    let r = some_right (product (take n xs)) (product (drop n xs)) (omega (arith, e)) in
    let grow = le-mul_of_pos_right (product (drop n xs)) l in
    let turned = mul_comm (product (take n xs)) (product (drop n xs)) in
    record { some = r; at_most = omega (arith, grow, e, turned) }

pub product_more : (xs : List ℕ) (i : ℕ) → i < length xs → product (drop i xs) ≡ get_or xs i 0 * product (drop (i + 1) xs)
product_more xs i h = ap product (drop_more xs i 0 h)

-- the axis at a place where there are atoms
pub some_axis : (xs : List ℕ) (i : ℕ) → i < length xs → 0 < product xs → 0 < get_or xs i 0
some_axis xs i h some =
    let part = last_part i xs some in
    some_left (get_or xs i 0) (product (drop (i + 1) xs)) (omega (arith, part.some, product_more xs i h))

-- as many atoms as rows times columns
pub rows_times_columns : (axes : List ℕ) → product axes ≡ product (row_axes axes) * last_axis axes
rows_times_columns [] = omega arith
rows_times_columns (n ∷ ns) =
    let axes = n ∷ ns in
    let k = length axes - 1 in
    let last : drop k axes ≡ get_or axes k 1 ∷ drop (k + 1) axes = drop_more axes k 1 (omega arith) in
    let none : drop (k + 1) axes ≡ [] = drop_all (k + 1) axes (omega arith) in
    let one : product (drop k axes) ≡ get_or axes k 1 * product (drop (k + 1) axes) = ap product last in
    let end : product (drop (k + 1) axes) ≡ 1 = ap product none in
    product_parts k axes ∙ ap (λ x. product (take k axes) * x) (one ∙ ap (λ x. get_or axes k 1 * x) end ∙ omega arith)
