-- Indexes and places: each names the same atom.
use Rattle.std.specs.Prelude.{ℕ, ◌+◌, ◌*◌, ◌/◌, ◌%◌, ◌<◌, ◌≤◌, ◌≡◌, ◌&&◌, nat_lt, Bool, true, false, List, [], ◌∷◌, length, map, get_or}
use Rattle.std.specs.List.{range_with_len}
use Rattle.std.proofs.Common.{arith, sym, ◌∙◌, ap, refl}
use Rattle.std.proofs.lemmas.Bool.{lt-ltb, ltb-true}
use Rattle.std.proofs.lemmas.List.FromFn.{length-map-range_with_len, get_or-map-range_with_len}
use Rattle.std.proofs.lemmas.Nat.{div-mul-add, mod-mul-add, mod_below, div_below, div-add-mod', row_fits}
use Rattle.jdata.specs.Indexes.{index_at, place_at, has_index}
use Rattle.jdata.specs.Noun.{atoms, product}
use Rattle.jdata.specs.Tabulated.{tabulated, indexed}
use Rattle.jdata.specs.declared.noun.Kind.{Kind}
use Rattle.jdata.specs.declared.noun.Atom.{Atom}
use Rattle.jdata.proofs.Lists.{factor_some}

and_first : (a b : Bool) → a && b ≡ true → a ≡ true
and_first true b e = refl
and_first false b e = cc

and_second : (a b : Bool) → a && b ≡ true → b ≡ true
and_second true b e = e
and_second false b e = cc

both : (a b : Bool) → a ≡ true → b ≡ true → a && b ≡ true
both a b e f = rw (e, f) refl

pub place_of_index : (axes : List ℕ) (p : ℕ) → p < product axes → place_at axes (index_at axes p) ≡ p
place_of_index [] p h = omega arith
place_of_index (n ∷ ns) p h =
    let c = product ns in
    let some : 0 < c = factor_some p n c h in
    ap (λ q. p / c * c + q) (place_of_index ns (p % c) (mod_below p c some)) ∙ div-add-mod' p c

pub place_within : (axes index : List ℕ) → has_index axes index ≡ true → place_at axes index < product axes
place_within [] [] h = omega arith
place_within [] (i ∷ is) h = cc
place_within (n ∷ ns) [] h = cc
place_within (n ∷ ns) (i ∷ is) h =
    let row : i < n = ltb-true i n (and_first (nat_lt i n) (has_index ns is) h) in
    let rest = place_within ns is (and_second (nat_lt i n) (has_index ns is) h) in
    let fits : i * product ns + product ns ≤ n * product ns = row_fits i (product ns) n (product ns) row (omega arith) in
    omega (arith, rest, fits)

pub index_of_place : (axes index : List ℕ) → has_index axes index ≡ true → index_at axes (place_at axes index) ≡ index
index_of_place [] [] h = refl
index_of_place [] (i ∷ is) h = cc
index_of_place (n ∷ ns) [] h = cc
index_of_place (n ∷ ns) (i ∷ is) h =
    let inner = and_second (nat_lt i n) (has_index ns is) h in
    let below = place_within ns is inner in
    let row = div-mul-add i (product ns) (place_at ns is) below in
    let column = mod-mul-add i (product ns) (place_at ns is) below in
    λ k. row k ∷ (ap (index_at ns) column ∙ index_of_place ns is inner) k

pub has_index_at : (axes : List ℕ) (p : ℕ) → p < product axes → has_index axes (index_at axes p) ≡ true
has_index_at [] p h = refl
has_index_at (n ∷ ns) p h =
    let c = product ns in
    let some : 0 < c = factor_some p n c h in
    both (nat_lt (p / c) n) (has_index ns (index_at ns (p % c))) (lt-ltb (p / c) n (div_below p c n some h)) (has_index_at ns (p % c) (mod_below p c some))

-- an array by its atoms has as many as its shape wants, and each in its place
pub tabulated_whole : (axes : List ℕ) (k : Kind) (f : ℕ → Atom) → length (atoms (tabulated axes k f)) ≡ product axes
tabulated_whole axes k f = length-map-range_with_len f 0 (product axes)

pub tabulated_at : (axes : List ℕ) (k : Kind) (f : ℕ → Atom) (p : ℕ) (d : Atom) → p < product axes → get_or (atoms (tabulated axes k f)) p d ≡ f p
tabulated_at axes k f p d h = get_or-map-range_with_len f 0 (product axes) p p d h (omega arith)

pub indexed_at : (axes : List ℕ) (k : Kind) (f : List ℕ → Atom) (index : List ℕ) (d : Atom) → has_index axes index ≡ true →
    get_or (atoms (indexed axes k f)) (place_at axes index) d ≡ f index
indexed_at axes k f index d h =
    tabulated_at axes k (λ p. f (index_at axes p)) (place_at axes index) d (place_within axes index h) ∙ ap f (index_of_place axes index h)
