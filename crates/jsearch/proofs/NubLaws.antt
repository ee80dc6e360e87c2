-- The nub has each item once.
use Rattle.std.specs.Prelude.{ℕ, ◌<◌, ◌≤◌, ◌≡◌, Bool, true, false, List, get_or, length}
use Rattle.std.specs.List.{position_or_len}
use Rattle.std.proofs.Common.{arith, sym, ◌∙◌, ap, refl}
use Rattle.std.proofs.Common.{eq-eqb}
use Rattle.std.proofs.Math.Dec.{leb}
use Rattle.std.proofs.lemmas.Bool.{leb-false, leb-true}
use Rattle.std.proofs.lemmas.Bool.Decides.{Decides-eqb, same_from_decides}
use Rattle.std.proofs.lemmas.List.FromFn.{get_or-map-range_with_len, length-map-range_with_len}
use Rattle.std.proofs.lemmas.List.Sums.{fails_before_first, passes_at_first}
use Rattle.jarray.proofs.Equality.{matches_decides}
use Rattle.jarray.specs.Matches.{matches}
use Rattle.jdata.specs.Match.{IsMatch}
use Rattle.jdata.specs.declared.noun.Noun.{Noun}
use Rattle.jselect.specs.Items.{item_count}
use Rattle.jsearch.specs.Finding.{first_place, item, items}
use Rattle.jsearch.specs.Laws.{EachIsKept, KeptAreDifferent}

-- what one array matches, an array that matches it does
same_test : (v w u : Noun) → IsMatch v w → matches v u ≡ matches w u
same_test v w u h = same_from_decides (matches v u) (matches w u) (matches_decides v u) (let d = matches_decides w u in (λ t. h ∙ d.0 t, λ m. d.1 (sym h ∙ m)))

same_place : (v w : Noun) (among : List Noun) → IsMatch v w → first_place among v ≡ first_place among w
unfolding first_place
same_place v w among h = ap (λ (test : Noun → Bool). position_or_len test among) (λ i u. same_test v w u h i)

item_at : (y : Noun) (i : ℕ) (d : Noun) → i < item_count y → get_or (items y) i d ≡ item y i
item_at y i d below = get_or-map-range_with_len (item y) 0 (item_count y) i i d below (omega arith)

count : (y : Noun) → length (items y) ≡ item_count y
count y = length-map-range_with_len (item y) 0 (item_count y)

at_most : (f i : ℕ) → (i < f → ⊥) → (b : Bool) → leb f i ≡ b → f ≤ i
at_most f i h true e = leb-true f i e
at_most f i h false e = absurd (h (leb-false f i e))

differs : (b : Bool) → b ≡ true → b ≡ false → ⊥
differs true e f = cc
differs false e f = cc

-- an item is found where it stands, or before
not_behind : (y : Noun) (i : ℕ) → i < item_count y → first_place (items y) (item y i) ≤ i
unfolding first_place
not_behind y i below =
    let v : Noun = item y i in
    let own : matches v (get_or (items y) i v) ≡ true = ap (matches v) (item_at y i v below) ∙ (matches_decides v v).1 refl in
    at_most (first_place (items y) v) i (λ early. differs _ own (fails_before_first (matches v) (items y) i v early)) (leb (first_place (items y) v) i) refl

-- and what is found there matches it
found_matches : (y : Noun) (i : ℕ) → i < item_count y → IsMatch (item y i) (item y (first_place (items y) (item y i)))
unfolding first_place
found_matches y i below =
    let v : Noun = item y i in
    let f : ℕ = first_place (items y) v in
    let near : f ≤ i = not_behind y i below in
    let inside : f < length (items y) = omega (arith, near, below, count y) in
    (matches_decides v (item y f)).0 (ap (matches v) (sym (item_at y f v (omega (arith, near, below)))) ∙ passes_at_first (matches v) (items y) v inside)

pub each_is_kept : EachIsKept
each_is_kept y i below =
    let j : ℕ = first_place (items y) (item y i) in
    let near : j ≤ i = not_behind y i below in
    let match : IsMatch (item y i) (item y j) = found_matches y i below in
    let new : first_place (items y) (item y j) ≡ j = sym (same_place (item y i) (item y j) (items y) match) in
    (j, near, eq-eqb _ _ new, match)

pub kept_are_different : KeptAreDifferent
kept_are_different y i j here there new other match =
    sym ((Decides-eqb _ _).0 new) ∙ same_place (item y i) (item y j) (items y) match ∙ (Decides-eqb _ _).0 other
