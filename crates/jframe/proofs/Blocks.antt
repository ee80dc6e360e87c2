-- The items of arrays in a whole, one array after the other.
use Rattle.std.proofs.Common.{◌≡◌, ℕ, ◌+◌, ◌-◌, ◌*◌, ◌/◌, ◌%◌, ◌<◌, ◌≤◌, zero, suc, Bool, true, false, List, [], ◌∷◌, ◌++◌, length, get_or, map, replicate, max, refl, sym, ap, ◌∙◌, arith, Err}
use Rattle.std.specs.Prelude.{◌⊎◌, nat_lt, if◌then◌else◌}
use Rattle.std.specs.List.{range_with_len, flat_map, All}
use Rattle.std.proofs.Math.Nat.{zero-mul, mul-le-mul_left, mul-le-mul_right}
use Rattle.std.proofs.lemmas.Bool.{lt-ltb, le-ltb, ltb-false}
use Rattle.std.proofs.lemmas.List.{length-append, length-replicate, map-append, append_assoc, append-nil, nil_from_length}
use Rattle.std.proofs.lemmas.List.FromFn.{length-map-range_with_len, get_or-map-range_with_len}
use Rattle.std.proofs.lemmas.Nat.{div-mul-add, mod-mul-add, mod_below, div_below, div-add-mod'}
use Rattle.jdata.specs.Fills.{fill_of}
use Rattle.jdata.specs.Indexes.{index_at, at_or}
use Rattle.jdata.specs.Limits.{limited, most_atoms, IsArray}
use Rattle.jdata.specs.Noun.{shape, kind, atoms, noun, product, extent, greatest}
use Rattle.jdata.specs.declared.fault.Fault.TheVariants as fault
use Rattle.jdata.specs.declared.noun.Noun.{Noun}
use Rattle.jdata.specs.declared.noun.Kind.{Kind}
use Rattle.jdata.specs.declared.noun.Atom.{Atom}
use Rattle.jdata.proofs.Arrays.{same_noun}
use Rattle.jdata.proofs.Extents.{extent_some}
use Rattle.jdata.proofs.Lists.{same_map, split_map, factor_some}
use Rattle.jframe.specs.Assembly.{raised, greatest_rank, common_kind, kinds_agree}
use Rattle.jframe.specs.Blocks.{block_axes, block, CanJoin}
use Rattle.jframe.specs.Joining.{joined_rank, items_given, has_axes, axis_given, item_joined, atom_given, atom_joined, count_joined, whole_joined, items_joined}
use Rattle.jframe.specs.Padding.{FitsIn, spread, Joins, joined}
use Rattle.jframe.proofs.Assembling.{are_of, greatest_at, fits_by_axis, kind_at, chosen, refused}

row_of : (m c q : ℕ) → 0 < c → (m * c + q) / c ≡ m + q / c
row_of m c q some =
    let left = div-add-mod' q c in
    let place : (m + q / c) * c + q % c ≡ m * c + q = omega (arith, left) in
    ap (λ x. x / c) (sym place) ∙ div-mul-add (m + q / c) c (q % c) (mod_below q c some)

column_of : (m c q : ℕ) → 0 < c → (m * c + q) % c ≡ q % c
column_of m c q some =
    let left = div-add-mod' q c in
    let place : (m + q / c) * c + q % c ≡ m * c + q = omega (arith, left) in
    ap (λ x. x % c) (sym place) ∙ mod-mul-add (m + q / c) c (q % c) (mod_below q c some)

pub blocks_are : (k : Kind) (item : List ℕ) (vs : List Noun) →
    flat_map (block k item) vs ≡ map (λ p. atom_joined k (suc (length item)) vs (index_at (count_joined (suc (length item)) vs ∷ item) p)) (range_with_len 0 (count_joined (suc (length item)) vs * product item))
unfolding block
blocks_are k item [] = ap (λ n. map (λ p. atom_joined k (suc (length item)) [] (index_at (0 ∷ item) p)) (range_with_len 0 n)) (sym (zero-mul (product item)))
blocks_are k item (v ∷ vs) =
    let r = suc (length item) in
    let c = product item in
    let m = items_given r v in
    let n = count_joined r vs in
    let own : ℕ → Atom = λ p. atom_given k r v (p / c ∷ index_at item (p % c)) in
    let rest : ℕ → Atom = λ p. atom_joined k r vs (p / c ∷ index_at item (p % c)) in
    let all : ℕ → Atom = λ p. atom_joined k r (v ∷ vs) (p / c ∷ index_at item (p % c)) in
    let front : (p : ℕ) → p < m * c → own p ≡ all p = λ p below.
    let row : p / c < m = div_below p c m (factor_some p m c below) below in
    sym (chosen (nat_lt (p / c) m) (own p) (atom_joined k r vs ((p / c - m) ∷ index_at item (p % c))) (lt-ltb (p / c) m row)) in
    let back : (q : ℕ) → q < n * c → rest q ≡ all (m * c + q) = λ q below.
    let some : 0 < c = factor_some q n c below in
    let row = row_of m c q some in
    let behind : m ≤ (m * c + q) / c = omega (arith, row) in
    let left : (m * c + q) / c - m ≡ q / c = omega (arith, row) in
    let column = column_of m c q some in
    (λ i. atom_joined k r vs (sym left i ∷ index_at item (sym column i)))
    ∙ sym (refused (nat_lt ((m * c + q) / c) m) (own (m * c + q)) (atom_joined k r vs (((m * c + q) / c - m) ∷ index_at item ((m * c + q) % c))) (le-ltb ((m * c + q) / c) m behind)) in
    let count : m * c + n * c ≡ (m + n) * c = omega arith in
    ap (λ l. map own (range_with_len 0 (m * c)) ++ l) (blocks_are k item vs)
    ∙ ap (λ l. l ++ map rest (range_with_len 0 (n * c))) (same_map own all (m * c) (fill_of k) front)
    ∙ ap (λ l. map all (range_with_len 0 (m * c)) ++ l) (same_map rest (λ q. all (m * c + q)) (n * c) (fill_of k) back)
    ∙ sym (split_map all (m * c) (n * c))
    ∙ ap (λ x. map all (range_with_len 0 x)) count

-- the items have the rank of the whole, less one
pub item_rank : (vs : List Noun) → suc (length (item_joined vs)) ≡ joined_rank vs
item_rank vs =
    let long = length-map-range_with_len (λ axis. greatest (map (axis_given (joined_rank vs) axis) vs)) 1 (joined_rank vs - 1) in
    omega (arith, long)

-- each array can be one of the whole
given_there : (rank axis : ℕ) (v : Noun) → has_axes v ≡ true → axis_given rank axis v ≡ get_or (raised rank (shape v)) axis 1
given_there rank axis v h = chosen (has_axes v) (get_or (raised rank (shape v)) axis 1) 0 h

raised_long : (rank : ℕ) (axes : List ℕ) → length axes ≤ rank → length (raised rank axes) ≡ rank
raised_long rank axes h = omega (arith, length-append (replicate (rank - length axes) 1) axes, length-replicate {A = ℕ} (rank - length axes) 1)

fits_whole : (vs : List Noun) (i : ℕ) (d : Noun) → i < length vs → has_axes (get_or vs i d) ≡ true →
    FitsIn (raised (joined_rank vs) (shape (get_or vs i d))) (items_given (joined_rank vs) (get_or vs i d) ∷ item_joined vs)
fits_whole vs i d below has =
    let v = get_or vs i d in
    let r = joined_rank vs in
    let least = greatest_at (λ w. length (shape w)) vs i d below in
    let long = raised_long r (shape v) (omega (arith, least)) in
    let rank = item_rank vs in
    let each : (a : ℕ) → a < suc (length (item_joined vs)) → get_or (raised r (shape v)) a 1 ≤ get_or (items_given r v ∷ item_joined vs) a 1 = λ a inside. axis_fits a inside in
    fits_by_axis (raised r (shape v)) (items_given r v ∷ item_joined vs) (omega (arith, long, rank)) each
  where
    axis_fits : (a : ℕ) → a < suc (length (item_joined vs)) → get_or (raised (joined_rank vs) (shape (get_or vs i d))) a 1 ≤ get_or (items_given (joined_rank vs) (get_or vs i d) ∷ item_joined vs) a 1
    axis_fits zero inside = omega arith
    axis_fits (suc a) inside =
        let r = joined_rank vs in
        let axis = get_or-map-range_with_len (λ b. greatest (map (axis_given r b) vs)) 1 (r - 1) a (suc a) 1 (omega (arith, item_rank vs)) (omega arith) in
        let most = greatest_at (axis_given r (suc a)) vs i d below in
        let own = given_there r (suc a) (get_or vs i d) has in
        omega (arith, axis, most, own)

given_at_most : (rank : ℕ) (vs : List Noun) (i : ℕ) (d : Noun) → i < length vs → items_given rank (get_or vs i d) ≤ count_joined rank vs
given_at_most rank [] i d below = absurd (omega arith)
given_at_most rank (v ∷ vs) zero d below = omega arith
given_at_most rank (v ∷ vs) (suc i) d below = let rest = given_at_most rank vs i d (omega arith) in omega (arith, rest)

pub all_can_join : (vs : List Noun) (k l : Kind) (item : List ℕ) (count : ℕ) → k ≡ common_kind vs → kinds_agree vs ≡ true → item ≡ item_joined vs →
    count ≡ count_joined (joined_rank vs) vs → extent (count ∷ item) ≤ most_atoms → k ≡ l → All (CanJoin l item) vs
all_can_join vs k l item count of agree same many within is =
    let kinds : are_of l vs ≡ true = ap (λ m. are_of m vs) (sym is ∙ of) ∙ agree in
    let rank : suc (length item) ≡ joined_rank vs = ap (λ s. suc (length s)) same ∙ item_rank vs in
    λ i d below. record {
      fits = λ has. let fit = fits_whole vs i d below has in rw (rank, same) fit;
      bound =
          let v = get_or vs i d in
          let most = given_at_most (joined_rank vs) vs i d below in
          let own = ap (λ r. items_given r v) rank in
          let less : max (items_given (suc (length item)) v) 1 ≤ max count 1 = omega (arith, most, own, many) in
          let grow = mul-le-mul_right (extent item) less in
          omega (arith, grow, within);
      of_kind = kind_at l vs i d below kinds;
    }

-- the two cases of the definition
pub joined_of_a_kind : (vs : List Noun) → kinds_agree vs ≡ true → items_joined vs ≡ limited (whole_joined vs)
unfolding items_joined
joined_of_a_kind vs agree = chosen (kinds_agree vs) (limited (whole_joined vs)) (Err fault.Domain) agree

pub joined_of_kinds : (vs : List Noun) → kinds_agree vs ≡ false → items_joined vs ≡ Err fault.Domain
unfolding items_joined
joined_of_kinds vs differ = refused (kinds_agree vs) (limited (whole_joined vs)) (Err fault.Domain) differ

-- the whole, from the blocks
pub whole_of_blocks : (vs : List Noun) (k l : Kind) (item axes : List ℕ) (count : ℕ) (from : List Atom) → k ≡ common_kind vs → l ≡ k → item ≡ item_joined vs →
    count ≡ count_joined (joined_rank vs) vs → axes ≡ count ∷ item → from ≡ flat_map (block k item) vs → noun axes l from ≡ whole_joined vs
whole_of_blocks vs k l item axes count from of is same many e mine =
    let rank : suc (length (item_joined vs)) ≡ joined_rank vs = item_rank vs in
    let whole : axes ≡ count_joined (joined_rank vs) vs ∷ item_joined vs = e ∙ (λ i. many i ∷ same i) in
    let all : from ≡ map (λ p. atom_joined (common_kind vs) (joined_rank vs) vs (index_at (count_joined (joined_rank vs) vs ∷ item_joined vs) p)) (range_with_len 0 (count_joined (joined_rank vs) vs * product (item_joined vs))) =
    mine ∙ (λ i. flat_map (block (of i) (same i)) vs) ∙ blocks_are (common_kind vs) (item_joined vs) vs
    ∙ (λ i. map (λ p. atom_joined (common_kind vs) (rank i) vs (index_at (count_joined (rank i) vs ∷ item_joined vs) p)) (range_with_len 0 (count_joined (rank i) vs * product (item_joined vs)))) in
    same_noun axes (count_joined (joined_rank vs) vs ∷ item_joined vs) l (common_kind vs) from _ whole (is ∙ of) all

pub block-length : (k : Kind) (item : List ℕ) (v : Noun) → length (block k item v) ≡ items_given (suc (length item)) v * product item
unfolding block
block-length k item v = length-map-range_with_len (λ place. atom_given k (suc (length item)) v (index_at (block_axes item v) place)) 0 (product (block_axes item v))

pub blocks-length : (k : Kind) (item : List ℕ) (vs : List Noun) → length (flat_map (block k item) vs) ≡ count_joined (suc (length item)) vs * product item
blocks-length k item [] = sym (zero-mul (product item))
blocks-length k item (v ∷ vs) =
    let m = items_given (suc (length item)) v in
    let n = count_joined (suc (length item)) vs in
    let sum : m * product item + n * product item ≡ (m + n) * product item = omega arith in
    length-append (block k item v) (flat_map (block k item) vs) ∙ (λ i. block-length k item v i + blocks-length k item vs i) ∙ sum

-- the atoms in a whole of its own
pub block_of_array : (k : Kind) (item axes : List ℕ) (v : Noun) → has_axes v ≡ true → axes ≡ block_axes item v → joined k axes v ≡ block k item v
unfolding spread block
block_of_array k item axes v has e =
    let r = suc (length item) in
    let whole = block_axes item v in
    let same : (p : ℕ) → at_or (fill_of k) (raised r (shape v)) (atoms v) (index_at whole p) ≡ atom_given k r v (index_at whole p) =
    λ p. sym (chosen (has_axes v) (at_or (fill_of k) (raised r (shape v)) (atoms v) (index_at whole p)) (get_or (atoms v) 0 (fill_of k)) has) in
    (λ i. map (λ p. at_or (fill_of k) (raised (length (e i)) (shape v)) (atoms v) (index_at (e i) p)) (range_with_len 0 (product (e i))))
    ∙ (λ i. map (λ p. same p i) (range_with_len 0 (product whole)))

pub array_joins : (k : Kind) (item axes : List ℕ) (v : Noun) → CanJoin k item v → has_axes v ≡ true → axes ≡ block_axes item v → Joins k axes v
array_joins k item axes v can has e = record {
  fits = let fit = can.fits has in rw e fit;
  of_kind = can.of_kind;
}

-- an atom
no_axes : (axes : List ℕ) → nat_lt 0 (length axes) ≡ false → axes ≡ []
no_axes axes h = nil_from_length axes (let none = ltb-false 0 (length axes) h in omega arith)

one_given : (rank : ℕ) → get_or (raised rank []) 0 1 ≡ 1
one_given zero = refl
one_given (suc rank) = let e : suc rank - 0 ≡ suc rank = omega arith in ap (λ n. get_or (replicate n 1 ++ []) 0 1) e

one_everywhere : {A : Type 0} (l : List A) (d : A) (from : List ℕ) → length l ≡ 1 → flat_map (λ p. l) from ≡ map (λ p. get_or l 0 d) from
one_everywhere [] d from one = absurd (omega arith)
one_everywhere (x ∷ (y ∷ l)) d from one = absurd (omega arith)
one_everywhere (x ∷ []) d [] one = refl
one_everywhere (x ∷ []) d (p ∷ from) one = ap (λ r. x ∷ r) (one_everywhere (x ∷ []) d from one)

pub block_of_atom : (k : Kind) (item : List ℕ) (v : Noun) (n : ℕ) → has_axes v ≡ false → IsArray v → n ≡ product item →
    flat_map (λ p. atoms v) (range_with_len 0 n) ≡ block k item v
unfolding block
block_of_atom k item v n has a is =
    let r = suc (length item) in
    let none = no_axes (shape v) has in
    let one : length (atoms v) ≡ 1 = a.whole ∙ ap product none in
    let given : items_given r v ≡ 1 = ap (λ s. get_or (raised r s) 0 1) none ∙ one_given r in
    let size : n ≡ items_given r v * product item = is ∙ sym (ap (λ m. m * product item) given ∙ omega arith) in
    let same : (p : ℕ) → get_or (atoms v) 0 (fill_of k) ≡ atom_given k r v (index_at (block_axes item v) p) =
    λ p. sym (refused (has_axes v) (at_or (fill_of k) (raised r (shape v)) (atoms v) (index_at (block_axes item v) p)) (get_or (atoms v) 0 (fill_of k)) has) in
    ap (λ m. flat_map (λ p. atoms v) (range_with_len 0 m)) size
    ∙ one_everywhere (atoms v) (fill_of k) (range_with_len 0 (items_given r v * product item)) one
    ∙ (λ i. map (λ p. same p i) (range_with_len 0 (items_given r v * product item)))

pub item_bound : (k : Kind) (item : List ℕ) (v : Noun) → CanJoin k item v → extent item ≤ most_atoms
item_bound k item v can =
    let some : 1 ≤ max (items_given (suc (length item)) v) 1 = omega arith in
    let grow = mul-le-mul_right (extent item) some in
    omega (arith, grow, can.bound)

pub once_more : {A : Type 0} (x : List A) (a n : ℕ) → flat_map (λ p. x) (range_with_len a (n + 1)) ≡ flat_map (λ p. x) (range_with_len a n) ++ x
once_more x a zero = append-nil x
once_more x a (suc n) =
    let one : suc n + 1 ≡ suc (n + 1) = omega arith in
    ap (λ m. flat_map (λ p. x) (range_with_len a m)) one
    ∙ ap (λ l. x ++ l) (once_more x (a + 1) n)
    ∙ sym (append_assoc x (flat_map (λ p. x) (range_with_len (a + 1) n)) x)

pub once_more_mapped : {T : Type 0} (atom : T → Atom) (own old now new : List T) (mine : List Atom) (n : ℕ) → map atom own ≡ mine →
    map atom now ≡ map atom old ++ flat_map (λ p. mine) (range_with_len 0 n) → new ≡ now ++ own →
    map atom new ≡ map atom old ++ flat_map (λ p. mine) (range_with_len 0 (n + 1))
once_more_mapped atom own old now new mine n of before is =
    ap (map atom) is ∙ map-append atom now own ∙ (λ i. before i ++ of i)
    ∙ append_assoc (map atom old) (flat_map (λ p. mine) (range_with_len 0 n)) mine
    ∙ ap (λ l. map atom old ++ l) (sym (once_more mine 0 n))

-- an array gives no more items than an axis may be long
first_at_most : (ones : ℕ) (axes : List ℕ) (m : ℕ) → extent axes ≤ m → get_or (replicate ones 1 ++ axes) 0 1 ≤ m
first_at_most (suc ones) axes m h = omega (arith, extent_some axes, h)
first_at_most zero [] m h = omega (arith, h)
first_at_most zero (n ∷ ns) m h =
    let grow = mul-le-mul_left (max n 1) (extent_some ns) in
    omega (arith, grow, h)

pub given_few : (rank : ℕ) (axes : List ℕ) (m : ℕ) → extent axes ≤ m → get_or (raised rank axes) 0 1 ≤ m
given_few rank axes m h = first_at_most (rank - length axes) axes m h

pub blocks_fill : (vs : List Noun) (k : Kind) (item axes : List ℕ) (count : ℕ) (from : List Atom) → item ≡ item_joined vs →
    count ≡ count_joined (joined_rank vs) vs → axes ≡ count ∷ item → from ≡ flat_map (block k item) vs → length from ≡ product axes
blocks_fill vs k item axes count from same many e mine =
    let rank : suc (length item) ≡ joined_rank vs = ap (λ s. suc (length s)) same ∙ item_rank vs in
    ap length mine ∙ blocks-length k item vs ∙ ap (λ r. count_joined r vs * product item) rank ∙ ap (λ n. n * product item) (sym many) ∙ sym (ap product e)
