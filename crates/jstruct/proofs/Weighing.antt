-- Places by weights, and axes read backwards.
use Rattle.std.proofs.Common.{◌≡◌, ℕ, ◌+◌, ◌-◌, ◌*◌, ◌%◌, ◌<◌, ◌≤◌, ◌^◌, zero, suc, Bool, true, false, List, [], ◌∷◌, ◌++◌, length, get_or, drop, map, reverse, max, refl, sym, ap, ◌∙◌, arith}
use Rattle.std.specs.List.{range_with_len, flat_map}
use Rattle.std.proofs.Math.Nat.{mul-le-mul_left, mul-le-mul_right}
use Rattle.std.proofs.Math.ListN.{get_or-map}
use Rattle.std.proofs.lemmas.List.{take_rest, append_assoc, drop_more, length-drop, get_or-drop, length-reverse, reverse-append, reverse-reverse, get_or-reverse}
use Rattle.std.specs.Prelude.{nat_lt}
use Rattle.std.proofs.lemmas.Bool.{ltb-true, ltb-false}
use Rattle.std.proofs.lemmas.List.FromFn.{length-map-range_with_len}
use Rattle.jdata.specs.Fills.{fill_of}
use Rattle.jdata.specs.Indexes.{index_at, place_at}
use Rattle.jdata.specs.Limits.{limited, IsShape, most_atoms}
use Rattle.jdata.specs.Noun.{noun, shape, kind, atoms, product, extent}
use Rattle.jdata.specs.declared.noun.Noun.{Noun}
use Rattle.jdata.specs.declared.noun.Kind.{Kind}
use Rattle.jdata.specs.declared.noun.Atom.{Atom}
use Rattle.jdata.proofs.Arrays.{same_noun}
use Rattle.jdata.proofs.Extents.{product_at_most, parts_are_within}
use Rattle.jstruct.specs.Transposing.{transposed}
use Rattle.jstruct.specs.Weights.{weights_of, weighed, picked}
use Rattle.jstruct.proofs.Counting.{axis_at_most}
use Rattle.jstruct.proofs.Rows.{by_rows, over_more, map_twice}
use Rattle.jstruct.proofs.Stretches.{rest}

-- no axis is left
pub picked_one : {A : Type 0} (f : A) (ns ws : List ℕ) (s : ℕ) (items : List A) → length ns ≡ 0 → length ws ≡ length ns → get_or items s f ∷ [] ≡ picked f ns ws s items
unfolding picked
picked_one f [] [] s items none same = ap (λ p. get_or items p f ∷ []) (let e : s ≡ s + 0 = omega arith in e)
picked_one f [] (w ∷ ws) s items none same = absurd (omega arith)
picked_one f (n ∷ ns) ws s items none same = absurd (omega arith)

picked_rows : {A : Type 0} (f : A) (n w : ℕ) (ns ws : List ℕ) (s : ℕ) (items : List A) →
    picked f (n ∷ ns) (w ∷ ws) s items ≡ flat_map (λ i. picked f ns ws (s + i * w) items) (range_with_len 0 n)
unfolding picked
picked_rows {A = A} f n w ns ws s items =
    let c = product ns in
    let cell : ℕ → ℕ → A = λ i q. get_or items (s + (i * w + weighed ws (index_at ns q))) f in
    let same : (i q : ℕ) → s + (i * w + weighed ws (index_at ns q)) ≡ (s + i * w) + weighed ws (index_at ns q) = λ i q. omega arith in
    by_rows f cell c n
    ∙ (λ k. flat_map (λ i. map (λ q. get_or items (same i q k) f) (range_with_len 0 c)) (range_with_len 0 n))

-- so many rows
abbrev pub rows_picked : {A : Type 0} → A → ℕ → List ℕ → List ℕ → ℕ → List A → ℕ → List A
rows_picked f w ns ws s items k = flat_map (λ i. picked f ns ws (s + i * w) items) (range_with_len 0 k)

pub rows_more : {A : Type 0} (f : A) (w : ℕ) (ns ws : List ℕ) (s i : ℕ) (items before : List A) →
    (before ++ rows_picked f w ns ws s items i) ++ picked f ns ws (s + i * w) items ≡ before ++ rows_picked f w ns ws s items (i + 1)
rows_more f w ns ws s i items before =
    let none : i ≡ 0 + i = omega arith in
    append_assoc before _ _
    ∙ ap (λ r. before ++ r)
    (ap (λ k. rows_picked f w ns ws s items i ++ picked f ns ws (s + k * w) items) none
    ∙ sym (over_more (λ k. picked f ns ws (s + k * w) items) 0 i))

pub all_rows : {A : Type 0} (f : A) (ns ws : List ℕ) (s : ℕ) (items : List A) → 1 ≤ length ns → length ws ≡ length ns →
    rows_picked f (get_or ws 0 0) (rest ns) (rest ws) s items (get_or ns 0 0) ≡ picked f ns ws s items
all_rows f [] ws s items some same = absurd (omega arith)
all_rows f (n ∷ ns) [] s items some same = absurd (omega arith)
all_rows f (n ∷ ns) (w ∷ ws) s items some same =
    (λ k. rows_picked f w (take_rest (n ∷ ns) 1 k) (take_rest (w ∷ ws) 1 k) s items n) ∙ sym (picked_rows f n w ns ws s items)

-- one axis, item by item
pub run_more : {A : Type 0} (f : A) (w s i : ℕ) (items before : List A) →
    (before ++ rows_picked f w [] [] s items i) ++ get_or items (s + i * w) f ∷ [] ≡ before ++ rows_picked f w [] [] s items (i + 1)
run_more f w s i items before =
    ap (λ r. (before ++ rows_picked f w [] [] s items i) ++ r) (picked_one f [] [] (s + i * w) items refl refl) ∙ rows_more f w [] [] s i items before

pub whole_run : {A : Type 0} (f : A) (n w s : ℕ) (items : List A) → rows_picked f w [] [] s items n ≡ picked f (n ∷ []) (w ∷ []) s items
whole_run f n w s items = sym (picked_rows f n w [] [] s items)

alone : (l : List ℕ) → length l ≡ 1 → get_or l 0 0 ∷ [] ≡ l
alone [] h = absurd (omega arith)
alone (x ∷ []) h = refl
alone (x ∷ (y ∷ l)) h = absurd (omega arith)

-- where one axis is left
pub picked_run : {A : Type 0} (f : A) (ns ws : List ℕ) (s : ℕ) (items : List A) → length ns ≡ 1 → length ws ≡ length ns →
    picked f (get_or ns 0 0 ∷ []) (get_or ws 0 0 ∷ []) s items ≡ picked f ns ws s items
picked_run f ns ws s items one same = λ i. picked f (alone ns one i) (alone ws (same ∙ one) i) s items

pub rest_short : (ns : List ℕ) (m : ℕ) → ((k : ℕ) → get_or ns k 0 ≤ m) → (k : ℕ) → get_or (rest ns) k 0 ≤ m
rest_short ns m h k =
    let e : get_or (rest ns) k 0 ≡ get_or ns (1 + k) 0 = ap (λ l. get_or l k 0) (take_rest ns 1) ∙ get_or-drop 1 ns k 0 in
    omega (arith, e, h (1 + k))

pub rest_long : {A : Type 0} (l : List A) → length (rest l) ≡ length l - 1
rest_long l = ap length (take_rest l 1) ∙ length-drop 1 l

pub step_fits : (i n w : ℕ) → i < n → n ≤ most_atoms → w ≤ most_atoms → i * w ≤ 2 ^ 54
step_fits i n w h short light =
    let few : i ≤ most_atoms = omega arith in
    let a = mul-le-mul_right w few in
    let b = mul-le-mul_left most_atoms light in
    omega (arith, a, b)

pub picked-map : {A B : Type 0} (h : A → B) (f : A) (ns ws : List ℕ) (s : ℕ) (items : List A) → map h (picked f ns ws s items) ≡ picked (h f) ns ws s (map h items)
unfolding picked
picked-map h f ns ws s items =
    map_twice h (λ p. get_or items (s + weighed ws (index_at ns p)) f) (range_with_len 0 (product ns))
    ∙ (λ i. map (λ p. sym (get_or-map h items (s + weighed ws (index_at ns p)) f) i) (range_with_len 0 (product ns)))

-- ---- axes read backwards

weighed-append : (ws is : List ℕ) (w i : ℕ) → length ws ≡ length is → weighed (ws ++ w ∷ []) (is ++ i ∷ []) ≡ weighed ws is + i * w
weighed-append [] [] w i e = omega arith
weighed-append [] (j ∷ is) w i e = absurd (omega arith)
weighed-append (v ∷ ws) [] w i e = absurd (omega arith)
weighed-append (v ∷ ws) (j ∷ is) w i e = let h = weighed-append ws is w i (omega arith) in omega (arith, h)

reverse_cons : {A : Type 0} (x : A) (l : List A) → reverse (x ∷ l) ≡ reverse l ++ x ∷ []
reverse_cons x l = reverse-append (x ∷ []) l

weighed-reverse : (ws is : List ℕ) → length ws ≡ length is → weighed (reverse ws) (reverse is) ≡ weighed ws is
weighed-reverse [] [] e = refl
weighed-reverse [] (j ∷ is) e = absurd (omega arith)
weighed-reverse (v ∷ ws) [] e = absurd (omega arith)
weighed-reverse (v ∷ ws) (j ∷ is) e =
    let same : length ws ≡ length is = omega arith in
    (λ k. weighed (reverse_cons v ws k) (reverse_cons j is k))
    ∙ weighed-append (reverse ws) (reverse is) v j (length-reverse ws ∙ same ∙ sym (length-reverse is))
    ∙ (let h = weighed-reverse ws is same in omega (arith, h))

place_is : (axes index : List ℕ) → length index ≡ length axes → place_at axes index ≡ weighed (weights_of axes) index
place_is [] [] e = refl
place_is [] (i ∷ is) e = absurd (omega arith)
place_is (n ∷ ns) [] e = absurd (omega arith)
place_is (n ∷ ns) (i ∷ is) e = ap (λ p. i * product ns + p) (place_is ns is (omega arith))

pub weights-length : (axes : List ℕ) → length (weights_of axes) ≡ length axes
weights-length [] = refl
weights-length (n ∷ ns) = ap suc (weights-length ns)

index-length : (axes : List ℕ) (p : ℕ) → length (index_at axes p) ≡ length axes
index-length [] p = refl
index-length (n ∷ ns) p = ap suc (index-length ns (p % product ns))

-- the place of an index read backwards
backward_place : (axes : List ℕ) (p : ℕ) → place_at axes (reverse (index_at (reverse axes) p)) ≡ weighed (reverse (weights_of axes)) (index_at (reverse axes) p)
backward_place axes p =
    let index = index_at (reverse axes) p in
    let long : length index ≡ length axes = index-length (reverse axes) p ∙ length-reverse axes in
    let same : length (weights_of axes) ≡ length (reverse index) = weights-length axes ∙ sym long ∙ sym (length-reverse index) in
    place_is axes (reverse index) (length-reverse index ∙ long)
    ∙ sym (weighed-reverse (weights_of axes) (reverse index) same)
    ∙ ap (weighed (reverse (weights_of axes))) (reverse-reverse index)

pub transposed_is : (y : Noun) (axes weights : List ℕ) (k : Kind) (l : List Atom) → axes ≡ reverse (shape y) → weights ≡ reverse (weights_of (shape y)) → k ≡ kind y →
    l ≡ picked (fill_of (kind y)) axes weights 0 (atoms y) → limited (noun axes k l) ≡ transposed y
unfolding picked
transposed_is y axes weights k l e w f g =
    let s = shape y in
    let d = fill_of (kind y) in
    let none : (p : ℕ) → 0 + weighed (reverse (weights_of s)) (index_at (reverse s) p) ≡ place_at s (reverse (index_at (reverse s) p)) =
    λ p. let h = backward_place s p in omega (arith, h) in
    ap limited (same_noun axes (reverse s) k (kind y) l _ e f
    (g ∙ (λ i. map (λ p. get_or (atoms y) (0 + weighed (w i) (index_at (e i) p)) d) (range_with_len 0 (product (e i))))
    ∙ (λ i. map (λ p. get_or (atoms y) (none p i) d) (range_with_len 0 (product (reverse s))))))

pub picked-length : {A : Type 0} (f : A) (ns ws : List ℕ) (s : ℕ) (items : List A) → length (picked f ns ws s items) ≡ product ns
unfolding picked
picked-length f ns ws s items = length-map-range_with_len (λ p. get_or items (s + weighed ws (index_at ns p)) f) 0 (product ns)

-- one more axis, from the last on
pub axis_before : (l : List ℕ) (k : ℕ) → k < length l → drop (length l - (k + 1)) l ≡ get_or l (length l - 1 - k) 0 ∷ drop (length l - k) l
axis_before l k h =
    let at : length l - 1 - k ≡ length l - (k + 1) = omega arith in
    let next : (length l - (k + 1)) + 1 ≡ length l - k = omega arith in
    drop_more l (length l - (k + 1)) 0 (omega arith) ∙ (λ i. get_or l (sym at i) 0 ∷ drop (next i) l)

pub backward_axis : (l : List ℕ) (k : ℕ) → k < length l → reverse (drop (length l - (k + 1)) l) ≡ reverse (drop (length l - k) l) ++ get_or l (length l - 1 - k) 0 ∷ []
backward_axis l k h = ap reverse (axis_before l k h) ∙ reverse_cons (get_or l (length l - 1 - k) 0) (drop (length l - k) l)

pub backward_weight : (l : List ℕ) (k : ℕ) → k < length l →
    reverse (weights_of (drop (length l - (k + 1)) l)) ≡ reverse (weights_of (drop (length l - k) l)) ++ product (drop (length l - k) l) ∷ []
backward_weight l k h =
    ap (λ a. reverse (weights_of a)) (axis_before l k h) ∙ reverse_cons (product (drop (length l - k) l)) (weights_of (drop (length l - k) l))

pub next_weight : (l : List ℕ) (k : ℕ) → k < length l → product (drop (length l - (k + 1)) l) ≡ get_or l (length l - 1 - k) 0 * product (drop (length l - k) l)
next_weight l k h = ap product (axis_before l k h)

pub weight_fits : (l : List ℕ) (n m : ℕ) → extent l ≤ m → product (drop n l) ≤ m
weight_fits l n m h = omega (arith, product_at_most (drop n l), (parts_are_within n l).1, h)

-- no axis and no weight is beyond the extent
past : (l : List ℕ) (k : ℕ) → length l ≤ k → get_or l k 0 ≡ 0
past [] k h = refl
past (x ∷ l) zero h = absurd (omega arith)
past (x ∷ l) (suc k) h = past l k (omega arith)

pub short_back : (l : List ℕ) (m : ℕ) → ((k : ℕ) → get_or l k 0 ≤ m) → (k : ℕ) → get_or (reverse l) k 0 ≤ m
short_back l m h k =
    let go : (b : Bool) → nat_lt k (length l) ≡ b → get_or (reverse l) k 0 ≤ m =
    λ b. elim b as (λ w. nat_lt k (length l) ≡ w → get_or (reverse l) k 0 ≤ m) [
      | true ↦ λ e. omega (arith, get_or-reverse l k 0 (ltb-true k (length l) e), h (length l - 1 - k))
      | false ↦ λ e. omega (arith, past (reverse l) k (omega (arith, length-reverse l, ltb-false k (length l) e)))
    ] in
    go (nat_lt k (length l)) refl

weight_at_most : (axes : List ℕ) (k : ℕ) → get_or (weights_of axes) k 0 ≤ extent axes
weight_at_most [] k = omega arith
weight_at_most (n ∷ ns) zero =
    let some : 1 ≤ max n 1 = omega arith in
    let grow = mul-le-mul_right (extent ns) some in
    omega (arith, grow, product_at_most ns)
weight_at_most (n ∷ ns) (suc k) =
    let some : 1 ≤ max n 1 = omega arith in
    let grow = mul-le-mul_right (extent ns) some in
    omega (arith, grow, weight_at_most ns k)

pub axes_short : (s axes : List ℕ) → IsShape s → axes ≡ reverse s → (k : ℕ) → get_or axes k 0 ≤ most_atoms
axes_short s axes is e k =
    let h = short_back s most_atoms (λ j. omega (arith, axis_at_most s j, is.extent_at_most)) k in
    omega (arith, ap (λ l. get_or l k 0) e, h)

pub weights_light : (s weights : List ℕ) → IsShape s → weights ≡ reverse (weights_of s) → (k : ℕ) → get_or weights k 0 ≤ most_atoms
weights_light s weights is e k =
    let h = short_back (weights_of s) most_atoms (λ j. omega (arith, weight_at_most s j, is.extent_at_most)) k in
    omega (arith, ap (λ l. get_or l k 0) e, h)

pub weights_same : (s axes weights : List ℕ) → axes ≡ reverse s → weights ≡ reverse (weights_of s) → length weights ≡ length axes
weights_same s axes weights e w =
    ap length w ∙ length-reverse (weights_of s) ∙ weights-length s ∙ sym (ap length e ∙ length-reverse s)
