-- Items along axes that are laid anew, stretch by stretch.
use Rattle.std.proofs.Common.{◌≡◌, ℕ, ◌+◌, ◌-◌, ◌*◌, ◌<◌, ◌≤◌, zero, suc, Bool, true, false, List, [], ◌∷◌, ◌++◌, length, get_or, take, drop, map, replicate, refl, sym, ap, ◌∙◌, arith}
use Rattle.std.specs.Prelude.{nat_lt, ◌&&◌, if◌then◌else◌}
use Rattle.std.specs.List.{range_with_len, flat_map}
use Rattle.std.proofs.lemmas.Bool.{lt-ltb, le-ltb}
use Rattle.std.proofs.Math.Nat.{zero-mul, mul-le-mul_right}
use Rattle.std.proofs.Math.ListN.{get_or-map}
use Rattle.std.proofs.lemmas.List.{get_or-drop, get_or-take, length-take, length-drop, drop-drop}
use Rattle.std.proofs.lemmas.List.FromFn.{fill_by_all}
use Rattle.jdata.specs.Indexes.{index_at, place_at, has_index, at_or}
use Rattle.jdata.specs.Noun.{product}
use Rattle.jdata.proofs.Indexing.{place_of_index, has_index_at}
use Rattle.jdata.proofs.Lists.{same_map, split_map, constant_map, take_more_of}
use Rattle.jstruct.specs.declared.change.Layout.{Layout}
use Rattle.jstruct.specs.Layouts.{number_at, laid_axes, laid_index, laid, laid_row, stretch_laid}
use Rattle.jstruct.proofs.Rows.{over_more, by_rows, over_map, over_append, shifted, replicate-add, map_twice}

chosen : {A : Type 0} (b : Bool) (u v : A) → b ≡ true → (if b then u else v) ≡ u
chosen b u v e = rw e refl

refused : {A : Type 0} (b : Bool) (u v : A) → b ≡ false → (if b then u else v) ≡ v
refused b u v e = rw e refl

-- an index whose first number is beyond the first axis, or within it
beyond : {A : Type 0} (f : A) (m : ℕ) (ms : List ℕ) (items : List A) (i : ℕ) (is : List ℕ) → nat_lt i m ≡ false → at_or f (m ∷ ms) items (i ∷ is) ≡ f
beyond {A = A} f m ms items i is h =
    let go : (b : Bool) (x : A) → b ≡ false → (if b && has_index ms is then x else f) ≡ f = λ b x e. rw e refl in
    go (nat_lt i m) (get_or items (i * product ms + place_at ms is) f) h

within : {A : Type 0} (f : A) (m : ℕ) (ms : List ℕ) (items : List A) (i : ℕ) (is : List ℕ) → nat_lt i m ≡ true → at_or f (m ∷ ms) items (i ∷ is) ≡ at_or f ms (drop (i * product ms) items) is
within {A = A} f m ms items i is h =
    let go : (b : Bool) (x y : A) → b ≡ true → x ≡ y → (if b && has_index ms is then x else f) ≡ (if has_index ms is then y else f) = λ b x y e g. rw (e, g) refl in
    go (nat_lt i m) (get_or items (i * product ms + place_at ms is) f) (get_or (drop (i * product ms) items) (place_at ms is) f) h
    (sym (get_or-drop (i * product ms) items (place_at ms is) f))

-- without layouts the items stay
pub laid_none : {A : Type 0} (f : A) (ns : List ℕ) (items : List A) → product ns ≤ length items → laid f [] ns items ≡ take (product ns) items
unfolding laid
laid_none {A = A} f ns items h =
    let n = product ns in
    let same : (p : ℕ) → p < n → at_or f ns items (index_at ns p) ≡ get_or items p f = λ p below.
    chosen (has_index ns (index_at ns p)) (get_or items (place_at ns (index_at ns p)) f) f (has_index_at ns p below) ∙ ap (λ q. get_or items q f) (place_of_index ns p below) in
    same_map (λ p. at_or f ns items (index_at ns p)) (λ p. get_or items p f) n f same
    ∙ sym (fill_by_all (λ p. get_or items p f) (take n items) n f (omega (arith, length-take n items)) (λ k below. get_or-take n items k f below))

-- what stands at a number of the first axis
pub row_is : {A : Type 0} (f : A) (ls : List Layout) (n : ℕ) (ns : List ℕ) (items : List A) (s : ℕ) →
    map (λ q. at_or f (n ∷ ns) items (s ∷ laid_index ls (index_at (laid_axes ls ns) q))) (range_with_len 0 (product (laid_axes ls ns))) ≡ laid_row f ls n ns items s
unfolding laid laid_row
row_is {A = A} f ls n ns items s =
    let c = product (laid_axes ls ns) in
    let index : ℕ → List ℕ = λ q. laid_index ls (index_at (laid_axes ls ns) q) in
    let there : List A = map (λ q. at_or f ns (drop (s * product ns) items) (index q)) (range_with_len 0 c) in
    let go : (b : Bool) → nat_lt s n ≡ b → map (λ q. at_or f (n ∷ ns) items (s ∷ index q)) (range_with_len 0 c) ≡ (if b then there else replicate c f) =
    λ b. elim b as (λ w. nat_lt s n ≡ w → map (λ q. at_or f (n ∷ ns) items (s ∷ index q)) (range_with_len 0 c) ≡ (if w then there else replicate c f)) [
      | true ↦ λ e. same_map (λ q. at_or f (n ∷ ns) items (s ∷ index q)) (λ q. at_or f ns (drop (s * product ns) items) (index q)) c f (λ q below. within f n ns items s (index q) e)
      | false ↦ λ e. same_map (λ q. at_or f (n ∷ ns) items (s ∷ index q)) (λ q. f) c f (λ q below. beyond f n ns items s (index q) e) ∙ constant_map f 0 c
    ] in
    go (nat_lt s n) refl

pub row_within : {A : Type 0} (f : A) (ls : List Layout) (n : ℕ) (ns : List ℕ) (items : List A) (s : ℕ) → s < n →
    laid_row f ls n ns items s ≡ laid f ls ns (drop (s * product ns) items)
unfolding laid_row
row_within f ls n ns items s h = chosen (nat_lt s n) (laid f ls ns (drop (s * product ns) items)) (replicate (product (laid_axes ls ns)) f) (lt-ltb s n h)

row_beyond : {A : Type 0} (f : A) (ls : List Layout) (n : ℕ) (ns : List ℕ) (items : List A) (s : ℕ) → n ≤ s →
    laid_row f ls n ns items s ≡ replicate (product (laid_axes ls ns)) f
unfolding laid_row
row_beyond f ls n ns items s h = refused (nat_lt s n) (laid f ls ns (drop (s * product ns) items)) (replicate (product (laid_axes ls ns)) f) (le-ltb s n h)

before_is : (l : Layout) (i : ℕ) → i < l.first.count → number_at l i ≡ l.first.start + i
before_is l i h = chosen (nat_lt i l.first.count) (l.first.start + i) (l.second.start + (i - l.first.count)) (lt-ltb i l.first.count h)

behind_is : (l : Layout) (i : ℕ) → number_at l (l.first.count + i) ≡ l.second.start + i
behind_is l i =
    refused (nat_lt (l.first.count + i) l.first.count) (l.first.start + (l.first.count + i)) (l.second.start + ((l.first.count + i) - l.first.count)) (le-ltb (l.first.count + i) l.first.count (omega arith))
    ∙ ap (λ k. l.second.start + k) (let e : (l.first.count + i) - l.first.count ≡ i = omega arith in e)

-- the two stretches of the first axis
pub laid_more : {A : Type 0} (f : A) (l : Layout) (ls : List Layout) (n : ℕ) (ns : List ℕ) (items : List A) →
    laid f (l ∷ ls) (n ∷ ns) items ≡ stretch_laid f l.first (l ∷ ls) (n ∷ ns) items ++ stretch_laid f l.second (l ∷ ls) (n ∷ ns) items
unfolding laid
laid_more {A = A} f l ls n ns items =
    let c = product (laid_axes ls ns) in
    let a = l.first.count in
    let b = l.second.count in
    let row : ℕ → List A = laid_row f ls n ns items in
    let cell : ℕ → ℕ → A = λ i q. at_or f (n ∷ ns) items (number_at l i ∷ laid_index ls (index_at (laid_axes ls ns) q)) in
    let rows : (i : ℕ) → map (cell i) (range_with_len 0 c) ≡ row (number_at l i) = λ i. row_is f ls n ns items (number_at l i) in
    by_rows f cell c (a + b)
    ∙ (λ i. flat_map (λ k. rows k i) (range_with_len 0 (a + b)))
    ∙ over_map row (number_at l) (range_with_len 0 (a + b))
    ∙ ap (flat_map row) (split_map (number_at l) a b)
    ∙ over_append row (map (number_at l) (range_with_len 0 a)) (map (λ q. number_at l (a + q)) (range_with_len 0 b))
    ∙ (λ i. flat_map row (shifted (number_at l) l.first.start a (before_is l) i) ++ flat_map row (shifted (λ q. number_at l (a + q)) l.second.start b (λ q below. behind_is l q) i))

-- a stretch beyond the axis is of fills
pub stretch_filled : {A : Type 0} (f : A) (ls : List Layout) (n : ℕ) (ns : List ℕ) (items : List A) (s k : ℕ) → n ≤ s →
    flat_map (laid_row f ls n ns items) (range_with_len s k) ≡ replicate (k * product (laid_axes ls ns)) f
stretch_filled f ls n ns items s zero h = ap (λ k. replicate k f) (sym (zero-mul (product (laid_axes ls ns))))
stretch_filled f ls n ns items s (suc k) h =
    let c = product (laid_axes ls ns) in
    let count : c + k * c ≡ suc k * c = omega arith in
    (λ i. row_beyond f ls n ns items s h i ++ stretch_filled f ls n ns items (s + 1) k (omega arith) i)
    ∙ sym (replicate-add c (k * c) f)
    ∙ ap (λ m. replicate m f) count

-- a stretch of the last of the changed axes is a range
pub stretch_range : {A : Type 0} (f : A) (n : ℕ) (ns : List ℕ) (items : List A) (s k : ℕ) → s + k ≤ n → n * product ns ≤ length items →
    flat_map (laid_row f [] n ns items) (range_with_len s k) ≡ take (k * product ns) (drop (s * product ns) items)
stretch_range f n ns items s zero h long = ap (λ m. take m (drop (s * product ns) items)) (sym (zero-mul (product ns)))
stretch_range f n ns items s (suc k) h long =
    let c = product ns in
    let one : suc k ≡ k + 1 = omega arith in
    let count : k * c + c ≡ suc k * c = omega arith in
    let place : s * c + k * c ≡ (s + k) * c = omega arith in
    let most = mul-le-mul_right c h in
    let sum : (s + suc k) * c ≡ (s + k) * c + c = omega arith in
    let rest : c ≤ length (drop ((s + k) * c) items) = omega (arith, length-drop ((s + k) * c) items, most, sum, long) in
    ap (λ m. flat_map (laid_row f [] n ns items) (range_with_len s m)) one
    ∙ over_more (laid_row f [] n ns items) s k
    ∙ (λ i. stretch_range f n ns items s k (omega arith) long i ++ (row_within f [] n ns items (s + k) (omega arith) ∙ laid_none f ns (drop ((s + k) * c) items) rest) i)
    ∙ ap (λ r. take (k * c) (drop (s * c) items) ++ take c r) (ap (λ m. drop m items) (sym place) ∙ sym (drop-drop (k * c) (s * c) items))
    ∙ take_more_of (k * c) c (drop (s * c) items)
    ∙ ap (λ m. take m (drop (s * c) items)) count

-- the same of items that a function maps
at_or-map : {A B : Type 0} (h : A → B) (f : A) (ns : List ℕ) (items : List A) (index : List ℕ) → h (at_or f ns items index) ≡ at_or (h f) ns (map h items) index
at_or-map {A = A} {B = B} h f ns items index =
    let go : (b : Bool) (x : A) (y : B) → h x ≡ y → h (if b then x else f) ≡ (if b then y else h f) = λ b x y e. elim b as (λ w. h (if w then x else f) ≡ (if w then y else h f)) [ true ↦ e | false ↦ refl ] in
    go (has_index ns index) (get_or items (place_at ns index) f) (get_or (map h items) (place_at ns index) (h f)) (sym (get_or-map h items (place_at ns index) f))

pub laid-map : {A B : Type 0} (h : A → B) (f : A) (ls : List Layout) (ns : List ℕ) (items : List A) → map h (laid f ls ns items) ≡ laid (h f) ls ns (map h items)
unfolding laid
laid-map {A = A} {B = B} h f ls ns items =
    let index : ℕ → List ℕ = λ p. laid_index ls (index_at (laid_axes ls ns) p) in
    map_twice h (λ p. at_or f ns items (index p)) (range_with_len 0 (product (laid_axes ls ns)))
    ∙ (λ i. map (λ p. at_or-map h f ns items (index p) i) (range_with_len 0 (product (laid_axes ls ns))))
