-- Axes in another order.
use Rattle.std.proofs.Common.{◌≡◌, ◌≢◌, ℕ, ℤ, pos, negsuc, ◌+◌, ◌-◌, ◌*◌, ◌<◌, ◌≤◌, zero, suc, Bool, true, false, cond, List, [], ◌∷◌, ◌++◌, length, get_or, take, drop, map, refl, sym, ap, subst, ◌∙◌, arith, Ok, Err}
use Rattle.std.specs.Prelude.{◌==◌, ◌||◌, ◌&&◌, not, if◌then◌else◌}
use Rattle.std.specs.List.{range_with_len, filter, list_all, IsDistinct, AllByRecursion}
use Rattle.std.specs.Ordering.{int_eq}
use Rattle.std.specs.Set.{distinct_count}
use Rattle.std.proofs.Math.Nat.{zero-mul}
use Rattle.std.proofs.lemmas.Bool.{eqb-true, eqb-false, ne_eqb, ltb-true}
use Rattle.std.proofs.lemmas.Bool.Decides.{Decides-int_eq}
use Rattle.std.proofs.lemmas.Cmp.{int_eq_equiv}
use Rattle.std.proofs.lemmas.List.{append-nil, take_rest}
use Rattle.std.proofs.lemmas.List.Elements.{filter-append}
use Rattle.std.proofs.lemmas.Map.Made.{IsDistinct-from_count}
use Rattle.jdata.specs.Fills.{fill_of}
use Rattle.jdata.specs.Indexes.{index_at, place_at}
use Rattle.jdata.specs.Limits.{limited}
use Rattle.jdata.specs.Noun.{noun, shape, kind, atoms, product, extent}
use Rattle.jdata.specs.declared.fault.Fault.TheVariants as fault
use Rattle.jdata.specs.declared.noun.Noun.{Noun}
use Rattle.jdata.specs.declared.noun.Kind.{Kind}
use Rattle.jdata.specs.declared.noun.Atom.{Atom}
use Rattle.jdata.proofs.Arrays.{same_noun}
use Rattle.jdata.proofs.Extents.{product_at_most, parts_are_within}
use Rattle.jframe.proofs.Assembling.{chosen, refused}
use Rattle.jstruct.specs.Arguments.{is_count, count_of}
use Rattle.jstruct.specs.Axes.{is_axis, are_distinct, axes_of, is_among, new_order, number_on, reordered}
use Rattle.jstruct.specs.Orders.{IsOrder, weight_of}
use Rattle.jstruct.specs.Weights.{weighed, picked}
use Rattle.jstruct.proofs.Rows.{range_more}

-- the place of an index that is given by axes, from the first of these axes on
abbrev placed : (ℕ → ℕ) → ℕ → List ℕ → ℕ
placed f b s = place_at s (map f (range_with_len b (length s)))

placed_none : (b : ℕ) (s : List ℕ) → placed (λ a. 0) b s ≡ 0
placed_none b [] = refl
placed_none b (n ∷ ns) = omega (arith, zero-mul (product ns), placed_none (b + 1) ns)

behind : (p i : ℕ) (g : ℕ → ℕ) (b : ℕ) (s : List ℕ) → p < b → placed (λ a. if p == a then i else g a) b s ≡ placed g b s
behind p i g b [] h = refl
behind p i g b (n ∷ ns) h =
    let apart : p ≢ b = λ e. omega arith in
    let here : (if p == b then i else g b) ≡ g b = refused (p == b) i (g b) (ne_eqb p b apart) in
    λ k. here k * product ns + behind p i g (b + 1) ns (omega arith) k

swap_sum : (x y z : ℕ) → x + (y + z) ≡ y + (x + z)
swap_sum x y z = omega arith

one_more : (p i : ℕ) (g : ℕ → ℕ) (b : ℕ) (s : List ℕ) → b ≤ p → p < b + length s → g p ≡ 0 →
    placed (λ a. if p == a then i else g a) b s ≡ i * product (drop (suc (p - b)) s) + placed g b s
one_more p i g b [] low high none = absurd (omega arith)
one_more p i g b (n ∷ ns) low high none = from (p == b) refl (λ more. one_more p i g (b + 1) ns more (omega arith) none)
  where
    from : (t : Bool) → (p == b) ≡ t →
        (b + 1 ≤ p → placed (λ a. if p == a then i else g a) (b + 1) ns ≡ i * product (drop (suc (p - (b + 1))) ns) + placed g (b + 1) ns) →
        placed (λ a. if p == a then i else g a) b (n ∷ ns) ≡ i * product (drop (p - b) ns) + placed g b (n ∷ ns)
    from true e more =
        let same : p ≡ b = eqb-true p b e in
        let here : (if p == b then i else g b) ≡ i = chosen (p == b) i (g b) e in
        let off : p - b ≡ 0 = omega arith in
        let gone : g b ≡ 0 = ap g (sym same) ∙ none in
        let rest = placed g (b + 1) ns in
        let empty : 0 * product ns + rest ≡ rest = ap (λ x. x + rest) (zero-mul (product ns)) ∙ omega arith in
        (λ k. here k * product ns + behind p i g (b + 1) ns (omega arith) k)
        ∙ ap (λ m. i * product (drop m ns) + rest) (sym off)
        ∙ ap (λ x. i * product (drop (p - b) ns) + x) (sym (ap (λ x. x * product ns + rest) gone ∙ empty))
    from false e more =
        let apart : p ≢ b = eqb-false p b e in
        let here : (if p == b then i else g b) ≡ g b = refused (p == b) i (g b) e in
        let off : p - b ≡ suc (p - (b + 1)) = omega arith in
        let rest = placed g (b + 1) ns in
        (λ k. here k * product ns + more (omega arith) k)
        ∙ ap (λ m. g b * product ns + (i * product (drop m ns) + rest)) (sym off)
        ∙ swap_sum (g b * product ns) (i * product (drop (p - b) ns)) rest

or_first : (a b : Bool) → a || b ≡ false → a ≡ false
or_first true b h = h
or_first false b h = refl

or_second : (a b : Bool) → a || b ≡ false → b ≡ false
or_second true b h = cc
or_second false b h = h

not_there : (ps is : List ℕ) (p : ℕ) → is_among ps p ≡ false → number_on ps is p ≡ 0
not_there [] is p h = refl
not_there (q ∷ ps) [] p h = refl
not_there (q ∷ ps) (i ∷ is) p h =
    refused (q == p) i (number_on ps is p) (or_first (q == p) (is_among ps p) h) ∙ not_there ps is p (or_second (q == p) (is_among ps p) h)

-- the place of the index of the old array, by the weights of its axes in the new order
place_reordered : (s order index : List ℕ) → IsOrder (length s) order → placed (number_on order index) 0 s ≡ weighed (map (weight_of s) order) index
place_reordered s [] [] h = placed_none 0 s
place_reordered s [] (i ∷ is) h = placed_none 0 s
place_reordered s (p ∷ ps) [] h = placed_none 0 s
place_reordered s (p ∷ ps) (i ∷ is) h =
    let off : p - 0 ≡ p = omega arith in
    one_more p i (number_on ps is) 0 s (omega arith) (omega (arith, h.1)) (not_there ps is p h.0)
    ∙ (λ k. i * product (drop (suc (off k)) s) + place_reordered s ps is h.2 k)

pub reordered_is : (y : Noun) (order axes weights : List ℕ) (k : Kind) (l : List Atom) → IsOrder (length (shape y)) order →
    axes ≡ map (λ a. get_or (shape y) a 0) order → weights ≡ map (weight_of (shape y)) order → k ≡ kind y →
    l ≡ picked (fill_of (kind y)) axes weights 0 (atoms y) → limited (noun axes k l) ≡ limited (reordered order y)
unfolding picked
reordered_is y order axes weights k l o e w f g =
    let s = shape y in
    let d = fill_of (kind y) in
    let new = map (λ a. get_or s a 0) order in
    let same : (p : ℕ) → 0 + weighed (map (weight_of s) order) (index_at new p) ≡ placed (number_on order (index_at new p)) 0 s =
    λ p. let h = place_reordered s order (index_at new p) o in omega (arith, h) in
    ap limited (same_noun axes new k (kind y) l _ e f
    (g ∙ (λ i. map (λ p. get_or (atoms y) (0 + weighed (w i) (index_at (e i) p)) d) (range_with_len 0 (product (e i))))
    ∙ (λ i. map (λ p. get_or (atoms y) (same p i) d) (range_with_len 0 (product new)))))

-- no weight is beyond the extent
pub weight_light : (s order : List ℕ) (m : ℕ) → extent s ≤ m → (k : ℕ) → get_or (map (weight_of s) order) k 0 ≤ m
weight_light s [] m h k = omega arith
weight_light s (p ∷ ps) m h zero = omega (arith, product_at_most (drop (suc p) s), (parts_are_within (suc p) s).1, h)
weight_light s (p ∷ ps) m h (suc k) = weight_light s ps m h k

-- the new order has each axis at most once
abbrev kept : List ℕ → ℕ → ℕ → List ℕ
kept last b n = filter (λ a. not (is_among last a)) (range_with_len b n)

not_kept : (last : List ℕ) (c b n : ℕ) → c < b → is_among last c ≡ false → is_among (kept last b n ++ last) c ≡ false
not_kept last c b zero h none = none
not_kept last c b (suc n) h none =
    let rest = not_kept last c (b + 1) n (omega arith) none in
    let apart : b ≢ c = λ e. omega arith in
    elim (not (is_among last b)) as (λ t. is_among (cond t (b ∷ kept last (b + 1) n) (kept last (b + 1) n) ++ last) c ≡ false) [
      | true ↦ ap (λ t. t || is_among (kept last (b + 1) n ++ last) c) (ne_eqb b c apart) ∙ rest
      | false ↦ rest
    ]

not_true : (b : Bool) → not b ≡ true → b ≡ false
not_true true h = cc
not_true false h = refl

order_kept : (m : ℕ) (last : List ℕ) (b n : ℕ) → b + n ≤ m → IsOrder m last → IsOrder m (kept last b n ++ last)
order_kept m last b zero h o = o
order_kept m last b (suc n) h o = from (not (is_among last b)) refl (order_kept m last (b + 1) n (omega arith) o)
  where
    from : (t : Bool) → not (is_among last b) ≡ t → IsOrder m (kept last (b + 1) n ++ last) → IsOrder m (cond t (b ∷ kept last (b + 1) n) (kept last (b + 1) n) ++ last)
    from true e rest = (not_kept last b (b + 1) n (omega arith) (not_true (is_among last b) e), omega arith, rest)
    from false e rest = rest

pub new_is_order : (rank : ℕ) (last : List ℕ) → IsOrder rank last → IsOrder rank (new_order rank last)
new_is_order rank last o = order_kept rank last 0 rank (omega arith) o

and_first : (a b : Bool) → a && b ≡ true → a ≡ true
and_first true b e = refl
and_first false b e = cc

and_second : (a b : Bool) → a && b ≡ true → b ≡ true
and_second true b e = e
and_second false b e = cc

-- the axes that numbers name are an order
apart_numbers : (rank n : ℕ) (zs : List ℤ) → AllByRecursion (λ y. int_eq (pos n) y ≡ false) zs → list_all (is_axis rank) zs ≡ true → is_among (map count_of zs) n ≡ false
apart_numbers rank n [] h all = refl
apart_numbers rank n (negsuc m ∷ zs) h all = cc
apart_numbers rank n (pos m ∷ zs) h all =
    let differ : m ≢ n = λ e. cc ((Decides-int_eq (pos n) (pos m)).1 (ap pos (sym e)), h.0) in
    ap (λ t. t || is_among (map count_of zs) n) (ne_eqb m n differ) ∙ apart_numbers rank n zs h.1 (and_second (is_axis rank (pos m)) (list_all (is_axis rank) zs) all)

order_of_axes : (rank : ℕ) (zs : List ℤ) → IsDistinct int_eq zs → list_all (is_axis rank) zs ≡ true → IsOrder rank (map count_of zs)
unfolding IsDistinct
order_of_axes rank [] d all = tt
order_of_axes rank (negsuc n ∷ zs) d all = cc
order_of_axes rank (pos n ∷ zs) d all =
    let rest = and_second (is_axis rank (pos n)) (list_all (is_axis rank) zs) all in
    (apart_numbers rank n zs d.0 rest, ltb-true n rank (and_first (is_axis rank (pos n)) (list_all (is_axis rank) zs) all), order_of_axes rank zs d.1 rest)

pub last_is_order : (rank : ℕ) (zs : List ℤ) (last : List ℕ) → axes_of rank zs ≡ Ok last → IsOrder rank last
last_is_order rank zs last h = from (are_distinct zs) (list_all (is_axis rank) zs) refl refl h
  where
    from : (a b : Bool) → are_distinct zs ≡ a → list_all (is_axis rank) zs ≡ b → (if a then (if b then Ok (map count_of zs) else Err fault.Index) else Err fault.Nonce) ≡ Ok last → IsOrder rank last
    from true true e f g =
        let is : map count_of zs ≡ last = cc in
        subst (IsOrder rank) is (order_of_axes rank zs (IsDistinct-from_count int_eq_equiv zs (eqb-true (distinct_count int_eq zs) (length zs) e)) f)
    from true false e f g = cc
    from false b e f g = cc

pub axes_count : (rank : ℕ) (zs : List ℤ) → list_all (is_axis rank) zs ≡ true → list_all is_count zs ≡ true
axes_count rank [] all = refl
axes_count rank (pos n ∷ zs) all = axes_count rank zs (and_second (is_axis rank (pos n)) (list_all (is_axis rank) zs) all)
axes_count rank (negsuc n ∷ zs) all = cc

pub are_these : (rank : ℕ) (zs : List ℤ) → are_distinct zs ≡ true → list_all (is_axis rank) zs ≡ true → axes_of rank zs ≡ Ok (map count_of zs)
are_these rank zs e f =
    chosen (are_distinct zs) (if list_all (is_axis rank) zs then Ok (map count_of zs) else Err fault.Index) (Err fault.Nonce) e
    ∙ chosen (list_all (is_axis rank) zs) (Ok (map count_of zs)) (Err fault.Index) f

pub are_beyond : (rank : ℕ) (zs : List ℤ) → are_distinct zs ≡ true → list_all (is_axis rank) zs ≡ false → axes_of rank zs ≡ Err fault.Index
are_beyond rank zs e f =
    chosen (are_distinct zs) (if list_all (is_axis rank) zs then Ok (map count_of zs) else Err fault.Index) (Err fault.Nonce) e
    ∙ refused (list_all (is_axis rank) zs) (Ok (map count_of zs)) (Err fault.Index) f

pub are_twice : (rank : ℕ) (zs : List ℤ) → are_distinct zs ≡ false → axes_of rank zs ≡ Err fault.Nonce
are_twice rank zs e = refused (are_distinct zs) (if list_all (is_axis rank) zs then Ok (map count_of zs) else Err fault.Index) (Err fault.Nonce) e

-- one axis more
pub left_out : (last before : List ℕ) (a : ℕ) (b : Bool) → b ≡ is_among last a → b ≡ true → before ≡ before ++ filter (λ x. not (is_among last x)) (a ∷ [])
left_out last before a b is e =
    sym (append-nil before) ∙ ap (λ t. before ++ cond (not t) (a ∷ []) []) (sym e ∙ is)

pub put_in : (last before after : List ℕ) (a : ℕ) (b : Bool) → b ≡ is_among last a → b ≡ false → after ≡ before ++ a ∷ [] → after ≡ before ++ filter (λ x. not (is_among last x)) (a ∷ [])
put_in last before after a b is e more = more ∙ ap (λ t. before ++ cond (not t) (a ∷ []) []) (sym e ∙ is)

pub kept_more : (last before : List ℕ) (i j : ℕ) → i ≡ j → before ≡ filter (λ x. not (is_among last x)) (range_with_len 0 i) →
    before ++ filter (λ x. not (is_among last x)) (j ∷ []) ≡ filter (λ x. not (is_among last x)) (range_with_len 0 (i + 1))
kept_more last before i j same is =
    let start : j ≡ 0 + i = omega arith in
    (λ k. is k ++ filter (λ x. not (is_among last x)) (start k ∷ []))
    ∙ sym (filter-append (λ x. not (is_among last x)) (range_with_len 0 i) ((0 + i) ∷ []))
    ∙ ap (filter (λ x. not (is_among last x))) (sym (range_more 0 i))

pub axis_there : (n : ℕ) (order : List ℕ) (i : ℕ) → IsOrder n order → i < length order → get_or order i 0 < n
axis_there n [] i o h = absurd (omega arith)
axis_there n (p ∷ ps) zero o h = o.1
axis_there n (p ∷ ps) (suc i) o h = axis_there n ps i o.2 (omega arith)

pub extent_behind : (s : List ℕ) (n m : ℕ) → extent s ≤ m → extent (take (length s - n) (drop n s)) ≤ m
extent_behind s n m h = omega (arith, ap extent (take_rest s n), (parts_are_within n s).1, h)
