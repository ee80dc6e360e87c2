-- Results that are all of one shape and kind: their assembly is their atoms, one after the other.
use Rattle.std.proofs.Common.{◌≡◌, ℕ, ◌+◌, ◌*◌, ◌<◌, ◌≤◌, zero, suc, Bool, true, false, cond, List, [], ◌∷◌, ◌++◌, length, get_or, take, drop, map, refl, sym, ap, ◌∙◌, arith, Ok, Err}
use Rattle.std.specs.Prelude.{◌&&◌, max}
use Rattle.std.specs.List.{range_with_len, flat_map, filter, list_all}
use Rattle.std.proofs.Math.Nat.{zero-mul, mul-le-mul_right}
use Rattle.std.proofs.lemmas.List.{drop-drop, take_all, take-append-le, drop-append-le, drop_at, length-drop, append-nil, append_assoc, length-append}
use Rattle.std.proofs.lemmas.List.FromFn.{fill_by_all, map-range_with_len_more, length-map-range_with_len}
use Rattle.std.proofs.lemmas.Nat.{row_fits}
use Rattle.jdata.specs.Kinds.{same_kind}
use Rattle.jdata.specs.Limits.{limited, most_atoms, most_levels, IsShape, IsArray}
use Rattle.jdata.specs.Noun.{shape, kind, atoms, noun, product, greatest, level, atom_level}
use Rattle.jdata.specs.declared.noun.Noun.{Noun}
use Rattle.jdata.specs.declared.noun.Kind.{Kind}
use Rattle.jdata.specs.declared.noun.Kind.TheVariants as sort
use Rattle.jdata.specs.declared.noun.Atom.{Atom}
use Rattle.jdata.proofs.Arrays.{range_is_array}
use Rattle.jdata.proofs.Extents.{product-append, product_at_most}
use Rattle.jdata.proofs.Levels.{level_is}
use Rattle.jdata.proofs.Lists.{same_map, take_more_of}
use Rattle.jframe.specs.Alike.{nth_alike, alike}
use Rattle.jframe.specs.Assembly.{raised, greatest_rank, greatest_on, common_shape, has_atoms, first_kind, common_kind, kinds_agree, whole_atom, whole, assembled}
use Rattle.jframe.specs.Padding.{joined}
use Rattle.jframe.proofs.Assembling.{all_atoms, assembled_of_a_kind}
use Rattle.jframe.proofs.Joined.{raised_same, joined_same}

abbrev pub AreAlike : List ℕ → Kind → List Noun → Type 0
AreAlike axes k [] = Unit {0}
AreAlike axes k (v ∷ vs) = (shape v ≡ axes) × (kind v ≡ k) × IsArray v × AreAlike axes k vs

-- the shape in which they are put is their own
most_rank : (axes : List ℕ) (k : Kind) (vs : List Noun) → AreAlike axes k vs → greatest_rank vs ≤ length axes
most_rank axes k [] h = omega arith
most_rank axes k (v ∷ vs) h = omega (arith, ap length h.0, most_rank axes k vs h.3)

rank_alike : (axes : List ℕ) (k : Kind) (v : Noun) (vs : List Noun) → AreAlike axes k (v ∷ vs) → greatest_rank (v ∷ vs) ≡ length axes
rank_alike axes k v vs h = omega (arith, ap length h.0, most_rank axes k vs h.3)

axis_of : (axes : List ℕ) (r a : ℕ) (v : Noun) → r ≡ length axes → shape v ≡ axes → get_or (raised r (shape v)) a 1 ≡ get_or axes a 1
axis_of axes r a v is e = ap (λ q. get_or (raised q (shape v)) a 1) is ∙ ap (λ l. get_or l a 1) (raised_same (shape v) axes e)

most_on : (axes : List ℕ) (k : Kind) (r a : ℕ) (vs : List Noun) → r ≡ length axes → AreAlike axes k vs →
    greatest (map (λ v. get_or (raised r (shape v)) a 1) vs) ≤ get_or axes a 1
most_on axes k r a [] is h = omega arith
most_on axes k r a (v ∷ vs) is h = omega (arith, axis_of axes r a v is h.0, most_on axes k r a vs is h.3)

axis_alike : (axes : List ℕ) (k : Kind) (v : Noun) (vs : List Noun) (a : ℕ) → AreAlike axes k (v ∷ vs) → greatest_on (v ∷ vs) a ≡ get_or axes a 1
axis_alike axes k v vs a h =
    let r = greatest_rank (v ∷ vs) in
    let is = rank_alike axes k v vs h in
    omega (arith, axis_of axes r a v is h.0, most_on axes k r a vs is h.3)

pub common_alike : (axes : List ℕ) (k : Kind) (v : Noun) (vs : List Noun) → AreAlike axes k (v ∷ vs) → common_shape (v ∷ vs) ≡ axes
common_alike axes k v vs h =
    sym (fill_by_all (greatest_on (v ∷ vs)) axes (greatest_rank (v ∷ vs)) 1 (sym (rank_alike axes k v vs h)) (λ a below. sym (axis_alike axes k v vs a h)))

-- and their kind is the common one
first_alike : (axes : List ℕ) (k : Kind) (vs rest : List Noun) → AreAlike axes k vs → first_kind rest ≡ k → first_kind (filter has_atoms vs ++ rest) ≡ k
first_alike axes k [] rest h e = e
first_alike axes k (v ∷ vs) rest h e =
    elim (has_atoms v) as (λ b. first_kind (cond b (v ∷ filter has_atoms vs) (filter has_atoms vs) ++ rest) ≡ k) [
      | true ↦ h.1
      | false ↦ first_alike axes k vs rest h.3 e
    ]

pub kind_alike : (axes : List ℕ) (k : Kind) (v : Noun) (vs : List Noun) → AreAlike axes k (v ∷ vs) → common_kind (v ∷ vs) ≡ k
kind_alike axes k v vs h = first_alike axes k (v ∷ vs) (v ∷ vs) h h.1

same_itself : (k : Kind) → same_kind k k ≡ true
same_itself sort.Int = refl
same_itself sort.Char = refl
same_itself sort.Boxed = refl

all_of : (axes : List ℕ) (k : Kind) (vs : List Noun) → AreAlike axes k vs → list_all (λ v. same_kind (kind v) k) (filter has_atoms vs) ≡ true
all_of axes k [] h = refl
all_of axes k (v ∷ vs) h =
    let here : same_kind (kind v) k ≡ true = ap (λ m. same_kind m k) h.1 ∙ same_itself k in
    let rest = all_of axes k vs h.3 in
    elim (has_atoms v) as (λ b. list_all (λ w. same_kind (kind w) k) (cond b (v ∷ filter has_atoms vs) (filter has_atoms vs)) ≡ true) [
      | true ↦ ap (λ b. b && list_all (λ w. same_kind (kind w) k) (filter has_atoms vs)) here ∙ rest
      | false ↦ rest
    ]

pub kinds_alike : (axes : List ℕ) (k : Kind) (v : Noun) (vs : List Noun) → AreAlike axes k (v ∷ vs) → kinds_agree (v ∷ vs) ≡ true
kinds_alike axes k v vs h =
    ap (λ m. list_all (λ w. same_kind (kind w) m) (filter has_atoms (v ∷ vs))) (kind_alike axes k v vs h) ∙ all_of axes k (v ∷ vs) h

-- the atoms of each in the common shape are its own
own_atoms : (axes : List ℕ) (k : Kind) (vs : List Noun) → AreAlike axes k vs → flat_map (λ v. joined k axes v) vs ≡ flat_map (λ v. atoms v) vs
own_atoms axes k [] h = refl
own_atoms axes k (v ∷ vs) h = λ i. joined_same k axes v h.0 h.2 i ++ own_atoms axes k vs h.3 i

-- all of one shape and kind: the plain concatenation, within the limits
pub assembled_alike : (frame axes : List ℕ) (k : Kind) (v : Noun) (vs : List Noun) → AreAlike axes k (v ∷ vs) → product frame ≡ length (v ∷ vs) →
    assembled frame (v ∷ vs) ≡ limited (noun (frame ++ axes) k (flat_map (λ w. atoms w) (v ∷ vs)))
assembled_alike frame axes k v vs h many =
    let us = v ∷ vs in
    let common = common_alike axes k v vs h in
    let of = kind_alike axes k v vs h in
    let count : product (frame ++ common_shape us) ≡ length us * product axes =
    product-append frame (common_shape us) ∙ (λ i. many i * product (common i)) in
    let all = all_atoms us k k axes (product (frame ++ common_shape us)) (sym of) (sym common) refl count in
    assembled_of_a_kind frame us (kinds_alike axes k v vs h)
    ∙ ap limited (λ i. noun (frame ++ common i) (of i) ((sym all ∙ own_atoms axes k us h) i))

-- of a frame with a 0 only the shape and the kind are left
pub assembled_none : (frame : List ℕ) (v : Noun) → IsArray v → product frame ≡ 0 → assembled frame (v ∷ []) ≡ limited (noun (frame ++ shape v) (kind v) [])
assembled_none frame v a none =
    let us = v ∷ [] in
    let h : AreAlike (shape v) (kind v) us = (refl, refl, a, tt) in
    let common = common_alike (shape v) (kind v) v [] h in
    let of = kind_alike (shape v) (kind v) v [] h in
    let count : product (frame ++ common_shape us) ≡ 0 = product-append frame (common_shape us) ∙ ap (λ x. x * product (common_shape us)) none ∙ zero-mul (product (common_shape us)) in
    assembled_of_a_kind frame us (kinds_alike (shape v) (kind v) v [] h)
    ∙ ap limited (λ i. noun (frame ++ common i) (of i) (map (whole_atom us) (range_with_len 0 (count i))))

-- each is an array where all their atoms together are within the limits
pub nth_is_array : (axes : List ℕ) (k : Kind) (from : List Atom) (n i : ℕ) → IsShape axes → length from ≡ n * product axes →
    greatest (map atom_level from) ≤ most_levels → i < n → IsArray (nth_alike axes k from i)
nth_is_array axes k from n i within whole deep below =
    let y = noun [] k from in
    let fits : i * product axes + product axes ≤ n * product axes = row_fits i (product axes) n (product axes) below (omega arith) in
    let levels : level y ≤ most_levels = omega (arith, level_is y, deep) in
    range_is_array axes y (i * product axes) (omega (arith, fits, whole)) within levels

each_alike : (axes : List ℕ) (k : Kind) (from : List Atom) (a n : ℕ) → ((i : ℕ) → i < a + n → IsArray (nth_alike axes k from i)) →
    AreAlike axes k (map (nth_alike axes k from) (range_with_len a n))
each_alike axes k from a zero each = tt
each_alike axes k from a (suc n) each = (refl, refl, each a (omega arith), each_alike axes k from (a + 1) n (λ i below. each i (omega arith)))

-- and their atoms one after the other are those again
ranges_joined : (axes : List ℕ) (k : Kind) (from : List Atom) (a n : ℕ) →
    flat_map (λ v. atoms v) (map (nth_alike axes k from) (range_with_len a n)) ≡ take (n * product axes) (drop (a * product axes) from)
ranges_joined axes k from a zero = ap (λ q. take q (drop (a * product axes) from)) (sym (zero-mul (product axes)))
ranges_joined axes k from a (suc n) =
    let c = product axes in
    let next : a * c + c ≡ (a + 1) * c = omega arith in
    let count : c + n * c ≡ suc n * c = omega arith in
    ap (λ l. take c (drop (a * c) from) ++ l) (ranges_joined axes k from (a + 1) n)
    ∙ ap (λ l. take c (drop (a * c) from) ++ take (n * c) l) (sym (drop-drop c (a * c) from ∙ ap (λ q. drop q from) next))
    ∙ take_more_of c (n * c) (drop (a * c) from)
    ∙ ap (λ q. take q (drop (a * c) from)) count

pub length-alike : (axes : List ℕ) (k : Kind) (from : List Atom) (n : ℕ) → length (alike axes k from n) ≡ n
unfolding alike
length-alike axes k from n = length-map-range_with_len (nth_alike axes k from) 0 n

-- so the assembly of results that are kept so is their atoms as they are
pub assembled_kept : (frame axes : List ℕ) (k : Kind) (from : List Atom) (n : ℕ) → IsShape axes → length from ≡ n * product axes →
    greatest (map atom_level from) ≤ most_levels → n ≡ product frame → 1 ≤ n →
    assembled frame (alike axes k from n) ≡ limited (noun (frame ++ axes) k from)
unfolding alike
assembled_kept frame axes k from zero within whole deep many some = absurd (omega arith)
assembled_kept frame axes k from (suc n) within whole deep many some =
    let each = each_alike axes k from 0 (suc n) (λ i below. nth_is_array axes k from (suc n) i within whole deep (omega arith)) in
    let rest = map (nth_alike axes k from) (range_with_len (0 + 1) n) in
    let count : product frame ≡ length (nth_alike axes k from 0 ∷ rest) = omega (arith, length-map-range_with_len (nth_alike axes k from) (0 + 1) n) in
    let start : 0 * product axes ≡ 0 = zero-mul (product axes) in
    assembled_alike frame axes k (nth_alike axes k from 0) rest each count
    ∙ ap (λ l. limited (noun (frame ++ axes) k l)) (ranges_joined axes k from 0 (suc n) ∙ ap (λ q. take (suc n * product axes) (drop q from)) start ∙ take_all (suc n * product axes) from (omega (arith, whole)))

pub assembled_kept_none : (frame axes : List ℕ) (k : Kind) (from : List Atom) → IsShape axes → length from ≡ 1 * product axes →
    greatest (map atom_level from) ≤ most_levels → product frame ≡ 0 →
    assembled frame (alike axes k from 1) ≡ limited (noun (frame ++ axes) k [])
unfolding alike
assembled_kept_none frame axes k from within whole deep none =
    assembled_none frame (nth_alike axes k from 0) (nth_is_array axes k from 1 0 within whole deep (omega arith)) none

-- one result more
pub alike_more : (axes : List ℕ) (k : Kind) (from more : List Atom) (n : ℕ) → length from ≡ n * product axes → length more ≡ product axes →
    alike axes k (from ++ more) (n + 1) ≡ alike axes k from n ++ noun axes k more ∷ []
unfolding alike
alike_more axes k from more n whole long =
    let c = product axes in
    let d = noun axes k more in
    let before : (i : ℕ) → i < n → nth_alike axes k (from ++ more) i ≡ nth_alike axes k from i = λ i below.
    let fits : i * c + c ≤ n * c = row_fits i c n c below (omega arith) in
    let start : i * c ≤ length from = omega (arith, fits, whole) in
    let left : c ≤ length (drop (i * c) from) = omega (arith, length-drop (i * c) from, fits, whole) in
    ap (noun axes k) (ap (take c) (drop-append-le (i * c) from more start) ∙ take-append-le c (drop (i * c) from) more left) in
    let last : nth_alike axes k (from ++ more) n ≡ noun axes k more =
    ap (noun axes k) (ap (take c) (drop_at from more (n * c) whole) ∙ take_all c more (omega (arith, long))) in
    map-range_with_len_more (nth_alike axes k (from ++ more)) 0 n n (omega arith)
    ∙ (λ i. same_map (nth_alike axes k (from ++ more)) (nth_alike axes k from) n d before i ++ last i ∷ [])

-- the first one
pub alike_first : (axes : List ℕ) (k : Kind) (from : List Atom) → length from ≡ product axes → alike axes k from 1 ≡ noun axes k from ∷ []
unfolding alike
alike_first axes k from long =
    let start : 0 * product axes ≡ 0 = zero-mul (product axes) in
    λ i. noun axes k ((ap (λ q. take (product axes) (drop q from)) start ∙ take_all (product axes) from (omega (arith, long))) i) ∷ []

pub alike_none : (axes : List ℕ) (k : Kind) (from : List Atom) → alike axes k from 0 ≡ []
unfolding alike
alike_none axes k from = refl

pub greatest-append : (l m : List ℕ) → greatest (l ++ m) ≡ max (greatest l) (greatest m)
greatest-append [] m = omega arith
greatest-append (x ∷ l) m = omega (arith, greatest-append l m)

pub alike_next : (axes : List ℕ) (k : Kind) (from : List Atom) (n : ℕ) → alike axes k from (n + 1) ≡ alike axes k from n ++ nth_alike axes k from n ∷ []
unfolding alike
alike_next axes k from n = map-range_with_len_more (nth_alike axes k from) 0 n n (omega arith)

-- where the range of a result ends
pub range_ends : (axes : List ℕ) (count i size long : ℕ) → size ≡ product axes → long ≡ count * product axes → i < count → i * size + size ≤ long
range_ends axes count i size long is whole below =
    let fits : i * size + size ≤ count * size = row_fits i size count size below (omega arith) in
    omega (arith, fits, ap (λ n. count * n) is, whole)

pub range_fits : (axes : List ℕ) (count i size : ℕ) → size ≡ product axes → IsShape axes → count ≤ most_atoms → i < count → i * size ≤ most_atoms * most_atoms
range_fits axes count i size is within few below =
    let small : size ≤ most_atoms = omega (arith, is, product_at_most axes, within.extent_at_most) in
    let rows = mul-le-mul_right size few in
    let fits : i * size + size ≤ count * size = row_fits i size count size below (omega arith) in
    omega (arith, fits, rows, small)
