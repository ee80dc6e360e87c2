-- Items in a greater shape, axis by axis.
use Rattle.std.proofs.Common.{◌≡◌, ℕ, ◌+◌, ◌-◌, ◌*◌, ◌/◌, ◌%◌, ◌<◌, ◌≤◌, zero, suc, Bool, true, false, List, [], ◌∷◌, ◌++◌, length, get_or, take, drop, map, replicate, refl, sym, ap, ◌∙◌, arith}
use Rattle.std.specs.Prelude.{nat_lt, ◌&&◌, if◌then◌else◌, max}
use Rattle.std.specs.List.{range_with_len}
use Rattle.std.proofs.lemmas.Bool.{lt-ltb, le-ltb}
use Rattle.std.proofs.Math.Nat.{zero-mul, mul-zero, mul-le-mul_left, mul-le-mul_right}
use Rattle.std.proofs.lemmas.List.{get_or-drop, append_assoc, append-nil, length-drop, take-take, drop-take, take-append-drop, take_rest}
use Rattle.std.proofs.lemmas.List.FromFn.{fill_by_all, map-range_with_len_more, length-map-range_with_len, get_or-map-range_with_len}
use Rattle.std.proofs.lemmas.Nat.{div-mul-add, mod-mul-add, div_below, le-div}
use Rattle.jdata.specs.Noun.{product, extent}
use Rattle.jdata.proofs.Extents.{parts_are_within, product_at_most}
use Rattle.jdata.proofs.Lists.{same_map, split_map, constant_map, factor_some, take_more_of}
use Rattle.jdata.specs.Indexes.{index_at, place_at, has_index, at_or}
use Rattle.jframe.specs.Padding.{FitsIn, spread}

-- an index whose first number is beyond the first axis, or within it
beyond : {A : Type 0} (f : A) (m : ℕ) (ms : List ℕ) (items : List A) (i : ℕ) (is : List ℕ) → m ≤ i → at_or f (m ∷ ms) items (i ∷ is) ≡ f
beyond {A = A} f m ms items i is h =
    let go : (b : Bool) (x : A) → b ≡ false → (if b && has_index ms is then x else f) ≡ f = λ b x e. rw e refl in
    go (nat_lt i m) (get_or items (i * product ms + place_at ms is) f) (le-ltb i m h)

within : {A : Type 0} (f : A) (m : ℕ) (ms : List ℕ) (items : List A) (i : ℕ) (is : List ℕ) → i < m → at_or f (m ∷ ms) items (i ∷ is) ≡ at_or f ms (drop (i * product ms) items) is
within {A = A} f m ms items i is h =
    let go : (b : Bool) (x y : A) → b ≡ true → x ≡ y → (if b && has_index ms is then x else f) ≡ (if has_index ms is then y else f) = λ b x y e g. rw (e, g) refl in
    go (nat_lt i m) (get_or items (i * product ms + place_at ms is) f) (get_or (drop (i * product ms) items) (place_at ms is) f) (lt-ltb i m h)
    (sym (get_or-drop (i * product ms) items (place_at ms is) f))

two_parts : (m k c : ℕ) → (m + k) * c ≡ m * c + k * c
two_parts m k c = omega arith

-- the item at a place, or the filler
abbrev item : {A : Type 0} → A → List ℕ → List ℕ → List A → ℕ → A
item f whole part items place = at_or f part items (index_at whole place)

pub spread_none : {A : Type 0} (f : A) (ns ms : List ℕ) (items : List A) → spread f (0 ∷ ns) (0 ∷ ms) items ≡ []
unfolding spread
spread_none f ns ms items = ap (λ n. map (item f (0 ∷ ns) (0 ∷ ms) items) (range_with_len 0 n)) (zero-mul (product ns))

pub spread_atom : {A : Type 0} (f : A) (items : List A) → 1 ≤ length items → spread f [] [] items ≡ take 1 items
unfolding spread
spread_atom f [] h = absurd (omega arith)
spread_atom f (x ∷ items) h = refl

-- one more along the first axis
pub spread_more : {A : Type 0} (f : A) (ns ms : List ℕ) (items : List A) (i : ℕ) →
    spread f ((i + 1) ∷ ns) ((i + 1) ∷ ms) items ≡ spread f (i ∷ ns) (i ∷ ms) items ++ spread f ns ms (drop (i * product ms) items)
unfolding spread
spread_more {A = A} f ns ms items i =
    let c = product ns in
    let longer : ℕ → A = item f ((i + 1) ∷ ns) ((i + 1) ∷ ms) items in
    let shorter : ℕ → A = item f (i ∷ ns) (i ∷ ms) items in
    let last : ℕ → A = item f ns ms (drop (i * product ms) items) in
    let count : (i + 1) * c ≡ i * c + c = omega arith in
    let front : (p : ℕ) → p < i * c → longer p ≡ shorter p = λ p below.
    let some : 0 < c = factor_some p i c below in
    let row : p / c < i = div_below p c i some below in
    within f (i + 1) ms items (p / c) (index_at ns (p % c)) (omega arith) ∙ sym (within f i ms items (p / c) (index_at ns (p % c)) row) in
    let back : (q : ℕ) → q < c → longer (i * c + q) ≡ last q = λ q below.
    ap (λ x. at_or f ((i + 1) ∷ ms) items (x ∷ index_at ns ((i * c + q) % c))) (div-mul-add i c q below)
    ∙ ap (λ x. at_or f ((i + 1) ∷ ms) items (i ∷ index_at ns x)) (mod-mul-add i c q below)
    ∙ within f (i + 1) ms items i (index_at ns q) (omega arith) in
    ap (λ n. map longer (range_with_len 0 n)) count
    ∙ split_map longer (i * c) c
    ∙ ap (λ l. l ++ map (λ q. longer (i * c + q)) (range_with_len 0 c)) (same_map longer shorter (i * c) f front)
    ∙ ap (λ l. map shorter (range_with_len 0 (i * c)) ++ l) (same_map (λ q. longer (i * c + q)) last c f back)

-- a longer first axis is filled
pub spread_filled : {A : Type 0} (f : A) (m n : ℕ) (ns ms : List ℕ) (items : List A) → m ≤ n →
    spread f (n ∷ ns) (m ∷ ms) items ≡ spread f (m ∷ ns) (m ∷ ms) items ++ replicate ((n - m) * product ns) f
unfolding spread
spread_filled {A = A} f m n ns ms items h =
    let c = product ns in
    let all : ℕ → A = item f (n ∷ ns) (m ∷ ms) items in
    let count : n * c ≡ m * c + (n - m) * c = let whole : n ≡ m + (n - m) = omega arith in ap (λ x. x * c) whole ∙ two_parts m (n - m) c in
    let back : (q : ℕ) → q < (n - m) * c → all (m * c + q) ≡ f = λ q below.
    let some : 0 < c = factor_some q (n - m) c below in
    let row : m ≤ (m * c + q) / c = le-div m (m * c + q) c some (omega arith) in
    beyond f m ms items ((m * c + q) / c) (index_at ns ((m * c + q) % c)) row in
    ap (λ k. map all (range_with_len 0 k)) count
    ∙ split_map all (m * c) ((n - m) * c)
    ∙ ap (λ l. map all (range_with_len 0 (m * c)) ++ l) (same_map (λ q. all (m * c + q)) (λ q. f) ((n - m) * c) f back ∙ constant_map f 0 ((n - m) * c))

-- so many rows whose items are all there
spread_rows : {A : Type 0} (f : A) (n : ℕ) (ns : List ℕ) (items : List A) →
    ((rest : List A) → product ns ≤ length rest → spread f ns ns rest ≡ take (product ns) rest) →
    n * product ns ≤ length items → spread f (n ∷ ns) (n ∷ ns) items ≡ take (n * product ns) items
spread_rows f zero ns items row h = spread_none f ns ns items ∙ ap (λ k. take k items) (sym (zero-mul (product ns)))
spread_rows f (suc n) ns items row h =
    let c = product ns in
    let one : suc n ≡ n + 1 = omega arith in
    let more : n * c + c ≡ suc n * c = omega arith in
    let before : n * c ≤ length items = omega arith in
    let rest : c ≤ length (drop (n * c) items) = omega (arith, length-drop (n * c) items) in
    ap (λ k. spread f (k ∷ ns) (k ∷ ns) items) one
    ∙ spread_more f ns ns items n
    ∙ ap (λ l. l ++ spread f ns ns (drop (n * c) items)) (spread_rows f n ns items row before)
    ∙ ap (λ l. take (n * c) items ++ l) (row (drop (n * c) items) rest)
    ∙ take_more_of (n * c) c items
    ∙ ap (λ k. take k items) more

-- the items of an array in its own shape
pub spread_same : {A : Type 0} (f : A) (ns : List ℕ) (items : List A) → product ns ≤ length items → spread f ns ns items ≡ take (product ns) items
spread_same f [] items h = spread_atom f items h
spread_same f (n ∷ ns) items h = spread_rows f n ns items (spread_same f ns) h

-- the axes behind the first
abbrev pub rest_of : List ℕ → List ℕ
rest_of axes = take (length axes - 1) (drop 1 axes)

pub rest_within : (axes : List ℕ) (m : ℕ) → extent axes ≤ m → extent (rest_of axes) ≤ m
rest_within axes m h =
    let less = (parts_are_within 1 axes).1 in
    omega (arith, less, ap extent (take_rest axes 1), h)

pub fills_fit : (axes : List ℕ) (m n p : ℕ) → p ≡ product (rest_of axes) → extent axes ≤ m → (get_or axes 0 0 - n) * p ≤ m
fills_fit [] m n p is h =
    let none : 0 - n ≡ 0 = omega arith in
    let e = ap (λ x. x * p) none ∙ zero-mul p in
    omega (arith, e)
fills_fit (a ∷ axes) m n p is h =
    let rest : p ≡ product axes = is ∙ ap product (take_rest (a ∷ axes) 1) in
    let less : a - n ≤ max a 1 = omega arith in
    let first = mul-le-mul_right p less in
    let second = mul-le-mul_left (max a 1) (product_at_most axes) in
    let whole : max a 1 * p ≡ max a 1 * product axes = ap (λ x. max a 1 * x) rest in
    omega (arith, first, second, whole, h)

pub fits_long : (part whole : List ℕ) → FitsIn part whole → length part ≡ length whole
fits_long [] [] h = refl
fits_long [] (n ∷ ns) h = absurd h
fits_long (m ∷ ms) [] h = absurd h
fits_long (m ∷ ms) (n ∷ ns) h = ap suc (fits_long ms ns h.1)

-- an array that fits and has no axis is an atom
pub atoms_alone : (part whole : List ℕ) → FitsIn part whole → length whole ≡ 0 → (part ≡ []) × (whole ≡ [])
atoms_alone [] [] h none = (refl, refl)
atoms_alone [] (n ∷ ns) h none = absurd h
atoms_alone (m ∷ ms) [] h none = absurd h
atoms_alone (m ∷ ms) (n ∷ ns) h none = absurd (omega arith)

pub some_item : {A : Type 0} (part whole : List ℕ) (items : List A) → FitsIn part whole → length whole ≡ 0 → product part ≤ length items → 1 ≤ length items
some_item part whole items fits none h = omega (arith, h, ap product (atoms_alone part whole fits none).0)

pub one_item : {A : Type 0} (f : A) (part whole : List ℕ) (items : List A) → FitsIn part whole → length whole ≡ 0 → product part ≤ length items →
    (take 1 items ≡ spread f whole part items) × (drop 1 items ≡ drop (product part) items)
one_item f part whole items fits none h =
    let alone = atoms_alone part whole fits none in (
      sym (spread_atom f items (some_item part whole items fits none h)) ∙ (λ i. spread f (sym alone.1 i) (sym alone.0 i) items),
      ap (λ l. drop (product l) items) (sym alone.0),
    )

-- one axis: the rows of the array, and then fills
pub one_axis : {A : Type 0} (f : A) (part whole : List ℕ) (items : List A) (p : ℕ) → FitsIn part whole → 1 ≤ length whole → 1 ≤ length part → p ≡ product (rest_of whole) →
    spread f (get_or part 0 0 ∷ rest_of whole) (get_or part 0 0 ∷ rest_of part) items ++ replicate ((get_or whole 0 0 - get_or part 0 0) * p) f ≡ spread f whole part items
one_axis f [] whole items p fits some any is = absurd (omega arith)
one_axis f (m ∷ ms) [] items p fits some any is = absurd (omega arith)
one_axis f (m ∷ ms) (n ∷ ns) items p fits some any is =
    let outer = take_rest (n ∷ ns) 1 in
    let inner = take_rest (m ∷ ms) 1 in
    (λ i. spread f (m ∷ outer i) (m ∷ inner i) items ++ replicate ((n - m) * (is ∙ ap product outer) i) f)
    ∙ sym (spread_filled f m n ns ms items fits.0)
