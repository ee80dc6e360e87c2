-- The atoms of all results, and the whole that they make.
use Rattle.std.proofs.Common.{◌≡◌, ℕ, ◌+◌, ◌-◌, ◌*◌, ◌/◌, ◌%◌, ◌<◌, ◌≤◌, zero, suc, Bool, true, false, cond, List, [], ◌∷◌, ◌++◌, length, get_or, map, replicate, refl, sym, ap, ◌∙◌, arith, inl, inr, Err}
use Rattle.std.specs.Prelude.{◌⊎◌, ◌&&◌, nat_lt, if◌then◌else◌}
use Rattle.std.specs.List.{range_with_len, flat_map, filter, list_all, All}
use Rattle.std.proofs.Math.Nat.{zero-mul}
use Rattle.std.proofs.lemmas.Bool.{ltb-false}
use Rattle.std.proofs.lemmas.List.{length-append, length-replicate, drop_at, nil_from_length}
use Rattle.std.proofs.lemmas.List.FromFn.{length-map-range_with_len, get_or-map-range_with_len}
use Rattle.std.proofs.lemmas.Nat.{div-mul-add, mod-mul-add, mod_below, div-add-mod'}
use Rattle.jdata.specs.Noun.{shape, kind, atoms, product, extent, greatest}
use Rattle.jdata.specs.declared.noun.Noun.{Noun}
use Rattle.jdata.specs.declared.noun.Kind.{Kind}
use Rattle.jdata.specs.declared.noun.Kind.TheVariants as sort
use Rattle.jdata.specs.declared.noun.Atom.{Atom}
use Rattle.jdata.specs.declared.fault.Fault.TheVariants as fault
use Rattle.jdata.proofs.Extents.{parts_are_within, product-append}
use Rattle.jdata.proofs.Lists.{same_map, split_map, factor_some}
use Rattle.jdata.specs.Limits.{limited}
use Rattle.jframe.specs.Assembly.{raised, greatest_rank, greatest_on, common_shape, has_atoms, common_kind, kinds_agree, atom_of_result, whole_atom, no_result, whole, assembled, AreResults}
use Rattle.jdata.specs.Fills.{fill_of}
use Rattle.jdata.specs.Indexes.{index_at, at_or}
use Rattle.jdata.specs.Kinds.{same_kind}
use Rattle.jframe.specs.Padding.{FitsIn, Joins, joined, spread}

-- pieces of c, one for each element, place by place
pub pieces : {V A : Type 0} (g : V → ℕ → A) (us : List V) (c : ℕ) (d : V) (e : A) →
    flat_map (λ v. map (g v) (range_with_len 0 c)) us ≡ map (λ p. g (get_or us (p / c) d) (p % c)) (range_with_len 0 (length us * c))
pieces g [] c d e = ap (λ n. map (λ p. g d (p % c)) (range_with_len 0 n)) (sym (zero-mul c))
pieces {V = V} {A = A} g (u ∷ us) c d e =
    let all : ℕ → A = λ p. g (get_or (u ∷ us) (p / c) d) (p % c) in
    let rest : ℕ → A = λ p. g (get_or us (p / c) d) (p % c) in
    let front : (q : ℕ) → q < c → g u q ≡ all q = λ q below.
    let place : 0 * c + q ≡ q = ap (λ x. x + q) (zero-mul c) ∙ omega arith in
    let row : q / c ≡ 0 = ap (λ x. x / c) (sym place) ∙ div-mul-add 0 c q below in
    let column : q % c ≡ q = ap (λ x. x % c) (sym place) ∙ mod-mul-add 0 c q below in
    λ i. g (get_or (u ∷ us) (sym row i) d) (sym column i) in
    let back : (q : ℕ) → q < length us * c → rest q ≡ all (c + q) = λ q below.
    let some : 0 < c = factor_some q (length us) c below in
    let left : (q / c) * c + q % c ≡ q = div-add-mod' q c in
    let place : (q / c + 1) * c + q % c ≡ c + q = omega arith in
    let row : (c + q) / c ≡ q / c + 1 = ap (λ x. x / c) (sym place) ∙ div-mul-add (q / c + 1) c (q % c) (mod_below q c some) in
    let next : (c + q) / c ≡ suc (q / c) = omega (arith, row) in
    let column : (c + q) % c ≡ q % c = ap (λ x. x % c) (sym place) ∙ mod-mul-add (q / c + 1) c (q % c) (mod_below q c some) in
    λ i. g (get_or (u ∷ us) (sym next i) d) (sym column i) in
    let count : c + length us * c ≡ suc (length us) * c = omega arith in
    ap (λ l. map (g u) (range_with_len 0 c) ++ l) (pieces g us c d e)
    ∙ ap (λ l. l ++ map rest (range_with_len 0 (length us * c))) (same_map (g u) all c e front)
    ∙ ap (λ l. map all (range_with_len 0 c) ++ l) (same_map rest (λ q. all (c + q)) (length us * c) e back)
    ∙ sym (split_map all c (length us * c))
    ∙ ap (λ n. map all (range_with_len 0 n)) count

-- what is true of the kinds
same_means : (k l : Kind) → same_kind k l ≡ true → k ≡ l
same_means sort.Int sort.Int e = refl
same_means sort.Char sort.Char e = refl
same_means sort.Boxed sort.Boxed e = refl
same_means sort.Int sort.Char e = cc
same_means sort.Int sort.Boxed e = cc
same_means sort.Char sort.Int e = cc
same_means sort.Char sort.Boxed e = cc
same_means sort.Boxed sort.Int e = cc
same_means sort.Boxed sort.Char e = cc

abbrev pub are_of : Kind → List Noun → Bool
are_of k vs = list_all (λ v. same_kind (kind v) k) (filter has_atoms vs)

and_first : (a b : Bool) → a && b ≡ true → a ≡ true
and_first true b e = refl
and_first false b e = cc

and_second : (a b : Bool) → a && b ≡ true → b ≡ true
and_second true b e = e
and_second false b e = cc

no_atoms : (l : List Atom) → nat_lt 0 (length l) ≡ false → l ≡ []
no_atoms l e = nil_from_length l (let none = ltb-false 0 (length l) e in omega arith)

kind_here : (b : Bool) (k : Kind) (v : Noun) (rest : List Noun) → has_atoms v ≡ b → list_all (λ w. same_kind (kind w) k) (cond b (v ∷ rest) rest) ≡ true →
    ((kind v ≡ k) ⊎ (atoms v ≡ [])) × (list_all (λ w. same_kind (kind w) k) rest ≡ true)
kind_here true k v rest e h = (inl (same_means (kind v) k (and_first _ _ h)), and_second (same_kind (kind v) k) _ h)
kind_here false k v rest e h = (inr (no_atoms (atoms v) e), h)

pub kind_at : (k : Kind) (vs : List Noun) (i : ℕ) (d : Noun) → i < length vs → are_of k vs ≡ true → (kind (get_or vs i d) ≡ k) ⊎ (atoms (get_or vs i d) ≡ [])
kind_at k [] i d below h = absurd (omega arith)
kind_at k (v ∷ vs) zero d below h = (kind_here (has_atoms v) k v (filter has_atoms vs) refl h).0
kind_at k (v ∷ vs) (suc i) d below h = kind_at k vs i d (omega arith) (kind_here (has_atoms v) k v (filter has_atoms vs) refl h).1

-- each result fits in the common shape
pub greatest_at : (f : Noun → ℕ) (vs : List Noun) (i : ℕ) (d : Noun) → i < length vs → f (get_or vs i d) ≤ greatest (map f vs)
greatest_at f [] i d below = absurd (omega arith)
greatest_at f (v ∷ vs) zero d below = omega arith
greatest_at f (v ∷ vs) (suc i) d below = let rest = greatest_at f vs i d (omega arith) in omega (arith, rest)

pub fits_by_axis : (part whole : List ℕ) → length part ≡ length whole → ((a : ℕ) → a < length whole → get_or part a 1 ≤ get_or whole a 1) → FitsIn part whole
fits_by_axis [] [] long each = tt
fits_by_axis [] (n ∷ ns) long each = absurd (omega arith)
fits_by_axis (m ∷ ms) [] long each = absurd (omega arith)
fits_by_axis (m ∷ ms) (n ∷ ns) long each = (each 0 (omega arith), fits_by_axis ms ns (omega arith) (λ a below. each (suc a) (omega arith)))

pub common_rank : (vs : List Noun) → length (common_shape vs) ≡ greatest_rank vs
common_rank vs = length-map-range_with_len (greatest_on vs) 0 (greatest_rank vs)

fits_in_common : (vs : List Noun) (i : ℕ) (d : Noun) → i < length vs → FitsIn (raised (greatest_rank vs) (shape (get_or vs i d))) (common_shape vs)
fits_in_common vs i d below =
    let v = get_or vs i d in
    let least = greatest_at (λ w. length (shape w)) vs i d below in
    let parts = length-append (replicate (greatest_rank vs - length (shape v)) 1) (shape v) in
    let ones = length-replicate {A = ℕ} (greatest_rank vs - length (shape v)) 1 in
    fits_by_axis (raised (greatest_rank vs) (shape v)) (common_shape vs) (omega (arith, least, parts, ones, common_rank vs))
    (λ a inside.
    let within : a < greatest_rank vs = omega (arith, common_rank vs) in
    let axis = get_or-map-range_with_len (greatest_on vs) 0 (greatest_rank vs) a a 1 within (omega arith) in
    let most = greatest_at (λ w. get_or (raised (greatest_rank vs) (shape w)) a 1) vs i d below in
    omega (arith, axis, most))

pub all_join : (vs : List Noun) (k l : Kind) (common : List ℕ) → k ≡ common_kind vs → kinds_agree vs ≡ true → common ≡ common_shape vs → k ≡ l → All (λ v. Joins l common v) vs
all_join vs k l common of agree same is =
    let kinds : are_of l vs ≡ true = ap (λ m. are_of m vs) (sym is ∙ of) ∙ agree in
    let rank : length common ≡ greatest_rank vs = ap length same ∙ common_rank vs in
    λ i d below. record {
      fits = let fit = fits_in_common vs i d below in rw (rank, same) fit;
      of_kind = kind_at l vs i d below kinds;
    }

-- and all atoms are those of the whole
pub all_atoms : (vs : List Noun) (k l : Kind) (common : List ℕ) (count : ℕ) → k ≡ common_kind vs → common ≡ common_shape vs → k ≡ l → count ≡ length vs * product common →
    flat_map (λ v. joined l common v) vs ≡ map (whole_atom vs) (range_with_len 0 count)
unfolding spread
all_atoms vs k l common count of same is many =
    let rank : length common ≡ greatest_rank vs = ap length same ∙ common_rank vs in
    let kinds : l ≡ common_kind vs = sym is ∙ of in
    let total : length vs * product (common_shape vs) ≡ count = sym (many ∙ ap (λ s. length vs * product s) same) in
    (λ i. flat_map (λ v. map (λ q. at_or (fill_of (kinds i)) (raised (rank i) (shape v)) (atoms v) (index_at (same i) q)) (range_with_len 0 (product (same i)))) vs)
    ∙ pieces (λ v q. atom_of_result vs v (index_at (common_shape vs) q)) vs (product (common_shape vs)) no_result (fill_of (common_kind vs))
    ∙ ap (λ n. map (whole_atom vs) (range_with_len 0 n)) total

pub none_of_all : (vs : List Noun) (k : Kind) (count : ℕ) → count ≡ 0 → replicate 0 (fill_of k) ≡ map (whole_atom vs) (range_with_len 0 count)
none_of_all vs k count none = ap (λ n. map (whole_atom vs) (range_with_len 0 n)) (sym none)

-- the counts
pub count_is : (frame common : List ℕ) (vs : List Noun) (n : ℕ) → AreResults frame vs → n ≡ product (frame ++ common) → (n ≡ 0) ⊎ (n ≡ length vs * product common)
count_is frame common vs n many is = from (product frame) refl
  where
    from : (p : ℕ) → product frame ≡ p → (n ≡ 0) ⊎ (n ≡ length vs * product common)
    from zero e = inl (is ∙ product-append frame common ∙ ap (λ x. x * product common) e ∙ zero-mul (product common))
    from (suc p) e =
        let all : length vs ≡ product frame = omega (arith, many, e) in
        inr (is ∙ product-append frame common ∙ ap (λ x. x * product common) (sym all))

pub common_within : (frame common : List ℕ) (m : ℕ) → extent (frame ++ common) ≤ m → extent common ≤ m
common_within frame common m h =
    let part = (parts_are_within (length frame) (frame ++ common)).1 in
    omega (arith, part, h, ap extent (drop_at frame common (length frame) refl))

pub counted : (n m : ℕ) → (n ≡ 0 → ⊥) → (n ≡ 0) ⊎ (n ≡ m) → n ≡ m
counted n m some (inl none) = absurd (some none)
counted n m some (inr is) = is

-- the two cases of the definition
pub chosen : {X : Type 0} (b : Bool) (x y : X) → b ≡ true → (if b then x else y) ≡ x
chosen true x y e = refl
chosen false x y e = cc

pub refused : {X : Type 0} (b : Bool) (x y : X) → b ≡ false → (if b then x else y) ≡ y
refused true x y e = cc
refused false x y e = refl

pub assembled_of_a_kind : (frame : List ℕ) (vs : List Noun) → kinds_agree vs ≡ true → assembled frame vs ≡ limited (whole frame vs)
unfolding assembled
assembled_of_a_kind frame vs agree = chosen (kinds_agree vs) (limited (whole frame vs)) (Err fault.Domain) agree

pub assembled_of_kinds : (frame : List ℕ) (vs : List Noun) → kinds_agree vs ≡ false → assembled frame vs ≡ Err fault.Domain
unfolding assembled
assembled_of_kinds frame vs differ = refused (kinds_agree vs) (limited (whole frame vs)) (Err fault.Domain) differ
