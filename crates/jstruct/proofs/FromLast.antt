-- Items from the last on.
use Rattle.std.proofs.Common.{◌≡◌, ℕ, ◌+◌, ◌-◌, ◌*◌, ◌<◌, ◌≤◌, zero, suc, List, [], ◌∷◌, ◌++◌, length, get_or, take, drop, map, replicate, reverse, refl, sym, ap, ◌∙◌, arith}
use Rattle.std.specs.List.{range_with_len, flat_map}
use Rattle.std.proofs.Math.Nat.{mul-le-mul_right}
use Rattle.std.proofs.lemmas.List.{length-drop, reverse-append}
use Rattle.std.proofs.lemmas.List.FromFn.{length-map-range_with_len}
use Rattle.jdata.specs.Fills.{fill_of}
use Rattle.jdata.specs.Indexes.{index_at, at_or}
use Rattle.jdata.specs.Limits.{limited}
use Rattle.jdata.specs.Noun.{noun, shape, kind, atoms, product}
use Rattle.jdata.specs.declared.noun.Noun.{Noun}
use Rattle.jdata.specs.declared.noun.Kind.{Kind}
use Rattle.jdata.specs.declared.noun.Atom.{Atom}
use Rattle.jdata.proofs.Arrays.{same_noun}
use Rattle.jdata.proofs.Lists.{map-gathered, window, constant_map, same_map}
use Rattle.jstruct.specs.Backward.{backward}
use Rattle.jstruct.specs.Ends.{from_last, reversed}
use Rattle.jstruct.specs.Items.{first_axis, further_axes, item_at, item_axes}
use Rattle.jstruct.proofs.LaidAxes.{laid_none, row_is, row_within}
use Rattle.jstruct.proofs.Rows.{by_rows, over_more, over_map}

-- two functions that agree below n
same_over : {A : Type 0} (f h : ℕ → List A) (n : ℕ) → ((i : ℕ) → i < n → f i ≡ h i) → flat_map f (range_with_len 0 n) ≡ flat_map h (range_with_len 0 n)
same_over f h zero same = refl
same_over f h (suc n) same =
    let one : suc n ≡ n + 1 = omega arith in
    let last : f (0 + n) ≡ h (0 + n) = same (0 + n) (omega arith) in
    ap (λ k. flat_map f (range_with_len 0 k)) one ∙ over_more f 0 n
    ∙ (λ i. same_over f h n (λ k below. same k (omega arith)) i ++ last i)
    ∙ sym (ap (λ k. flat_map h (range_with_len 0 k)) one ∙ over_more h 0 n)

pub backward_more : {A : Type 0} (count size i : ℕ) (l : List A) →
    flat_map (λ k. take size (drop ((count - suc k) * size) l)) (range_with_len 0 (i + 1))
    ≡ flat_map (λ k. take size (drop ((count - suc k) * size) l)) (range_with_len 0 i) ++ take size (drop ((count - 1 - i) * size) l)
backward_more count size i l =
    let place : count - suc (0 + i) ≡ count - 1 - i = omega arith in
    over_more (λ k. take size (drop ((count - suc k) * size) l)) 0 i
    ∙ ap (λ s. flat_map (λ k. take size (drop ((count - suc k) * size) l)) (range_with_len 0 i) ++ take size (drop (s * size) l)) place

pub backward-map : {A B : Type 0} (f : A → B) (count size : ℕ) (l : List A) → map f (backward count size l) ≡ backward count size (map f l)
unfolding backward
backward-map f count size l =
    ap (map f) (over_map (λ p. take size (drop p l)) (λ i. (count - suc i) * size) (range_with_len 0 count))
    ∙ map-gathered f size l (map (λ i. (count - suc i) * size) (range_with_len 0 count))
    ∙ sym (over_map (λ p. take size (drop p (map f l))) (λ i. (count - suc i) * size) (range_with_len 0 count))

one_atom : {A : Type 0} (f : A) (l : List A) → length l ≡ 1 → get_or l 0 f ∷ [] ≡ take 1 (drop ((1 - 1) * 1) l) ++ []
one_atom f [] h = absurd (omega arith)
one_atom f (x ∷ []) h = refl
one_atom f (x ∷ (y ∷ l)) h = absurd (omega arith)

-- the atoms from the last item on
atoms_back : {A : Type 0} (f : A) (ns : List ℕ) (l : List A) → length l ≡ product ns →
    backward (first_axis ns) (product (further_axes ns)) l ≡ map (λ p. at_or f ns l (from_last ns (index_at ns p))) (range_with_len 0 (product ns))
unfolding backward
atoms_back f [] l h = sym (one_atom f l h)
atoms_back {A = A} f (n ∷ ns) l h =
    let c = product ns in
    let cell : ℕ → ℕ → A = λ i q. at_or f (n ∷ ns) l ((n - suc i) ∷ index_at ns q) in
    let row : (i : ℕ) → i < n → take c (drop ((n - suc i) * c) l) ≡ map (cell i) (range_with_len 0 c) = λ i below.
    let s = n - suc i in
    let there : s < n = omega arith in
    let most = mul-le-mul_right c there in
    let more : suc s * c ≡ s * c + c = omega arith in
    let long : c ≤ length (drop (s * c) l) = omega (arith, length-drop (s * c) l, most, more, h) in
    sym (row_is f [] n ns l s ∙ row_within f [] n ns l s there ∙ laid_none f ns (drop (s * c) l) long) in
    same_over (λ i. take c (drop ((n - suc i) * c) l)) (λ i. map (cell i) (range_with_len 0 c)) n row
    ∙ sym (by_rows f cell c n)

pub reversed_is : (y : Noun) (axes : List ℕ) (k : Kind) (l : List Atom) → length (atoms y) ≡ product (shape y) → axes ≡ shape y → k ≡ kind y →
    l ≡ backward (first_axis (shape y)) (product (further_axes (shape y))) (atoms y) → limited (noun axes k l) ≡ reversed y
reversed_is y axes k l whole e f g =
    ap limited (same_noun axes (shape y) k (kind y) l _ e f (g ∙ atoms_back (fill_of (kind y)) (shape y) (atoms y) whole))

pub counted_atoms : (y : Noun) (s : List ℕ) → shape y ≡ s → length (atoms y) ≡ product (shape y) → length (atoms y) ≡ first_axis (shape y) * product (further_axes (shape y))
counted_atoms y [] e h = h ∙ rw e (omega arith)
counted_atoms y (n ∷ ns) e h = h ∙ rw e refl

pub backward-length : (ns : List ℕ) (y : Noun) → shape y ≡ ns → length (atoms y) ≡ product (shape y) →
    length (backward (first_axis (shape y)) (product (further_axes (shape y))) (atoms y)) ≡ product (shape y)
backward-length ns y e whole =
    ap length (atoms_back (fill_of (kind y)) (shape y) (atoms y) whole)
    ∙ length-map-range_with_len (λ p. at_or (fill_of (kind y)) (shape y) (atoms y) (from_last (shape y) (index_at (shape y) p))) 0 (product (shape y))

-- an item that is there, and one that isn't
pub item_there : {A : Type 0} (l : List A) (at size count : ℕ) (d : A) → at < count → length l ≡ count * size →
    take size (drop (at * size) l) ≡ map (λ j. get_or l (at * size + j) d) (range_with_len 0 size)
item_there l at size count d h whole =
    let most = mul-le-mul_right size h in
    let more : suc at * size ≡ at * size + size = omega arith in
    window l (at * size) size d (omega (arith, most, more, whole))

pub item_fits : (at size count m : ℕ) → at < count → count * size ≤ m → at * size + size ≤ m
item_fits at size count m h whole =
    let most = mul-le-mul_right size h in
    let more : suc at * size ≡ at * size + size = omega arith in
    omega (arith, most, more, whole)

past : {A : Type 0} (l : List A) (i : ℕ) (d : A) → length l ≤ i → get_or l i d ≡ d
past [] i d h = refl
past (x ∷ l) zero d h = absurd (omega arith)
past (x ∷ l) (suc i) d h = past l i d (omega arith)

pub item_missing : {A : Type 0} (l : List A) (at size count : ℕ) (d : A) → count ≤ at → length l ≡ count * size →
    replicate size d ≡ map (λ j. get_or l (at * size + j) d) (range_with_len 0 size)
item_missing l at size count d h whole =
    let most = mul-le-mul_right size h in
    sym (constant_map d 0 size) ∙ same_map (λ j. d) (λ j. get_or l (at * size + j) d) size d (λ j below. sym (past l (at * size + j) d (omega (arith, most, whole))))

pub item_is : (y : Noun) (at : ℕ) (axes : List ℕ) (k : Kind) (l : List Atom) → axes ≡ item_axes y → k ≡ kind y →
    l ≡ map (λ j. get_or (atoms y) (at * product (item_axes y) + j) (fill_of (kind y))) (range_with_len 0 (product (item_axes y))) →
    limited (noun axes k l) ≡ limited (item_at y at)
item_is y at axes k l e f g = ap limited (same_noun axes (item_axes y) k (kind y) l _ e f g)

-- one after another from the last on
pub backward_one : {A : Type 0} (l : List A) (n : ℕ) → length l ≡ n → reverse l ≡ backward n 1 l
unfolding backward
backward_one [] zero h = refl
backward_one [] (suc n) h = absurd (omega arith)
backward_one (x ∷ l) zero h = absurd (omega arith)
backward_one {A = A} (x ∷ l) (suc n) h =
    let f : ℕ → List A = λ i. take 1 (drop ((suc n - suc i) * 1) (x ∷ l)) in
    let one : suc n ≡ n + 1 = omega arith in
    let none : (suc n - suc (0 + n)) * 1 ≡ 0 = omega arith in
    reverse-append (x ∷ []) l
    ∙ ap (λ r. r ++ x ∷ []) (backward_one l n (omega arith))
    ∙ (λ k. same_over (λ i. take 1 (drop ((n - suc i) * 1) l)) f n
    (λ i below. let e : suc ((n - suc i) * 1) ≡ (suc n - suc i) * 1 = omega arith in ap (λ j. take 1 (drop j (x ∷ l))) e) k
    ++ ap (λ j. take 1 (drop j (x ∷ l))) (sym none) k)
    ∙ sym (ap (λ m. flat_map f (range_with_len 0 m)) one ∙ over_more f 0 n)

pub reversed_items : {A B : Type 0} (f : A → B) (l : List A) (count size : ℕ) → size ≡ 1 → length l ≡ count * size → map f (reverse l) ≡ backward count size (map f l)
reversed_items f l count size one whole =
    let long : length l ≡ count = whole ∙ ap (λ s. count * s) one ∙ (let e : count * 1 ≡ count = omega arith in e) in
    ap (map f) (backward_one l count long) ∙ backward-map f count 1 l ∙ ap (λ s. backward count s (map f l)) (sym one)
