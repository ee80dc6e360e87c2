-- Layers, and arrays without atoms.
use Rattle.std.proofs.Common.{◌≡◌, ℕ, ◌<◌, ◌≤◌, suc, Bool, true, false, cond, List, [], ◌∷◌, ◌++◌, length, replicate, refl, sym, ap, ◌∙◌, arith, Result, Ok, Err, inl, inr}
use Rattle.std.specs.Prelude.{◌⊎◌, ◌&&◌, nat_le, if◌then◌else◌}
use Rattle.std.specs.List.{list_all}
use Rattle.std.proofs.lemmas.Bool.{lt-ltb, le-ltb, lt-leb}
use Rattle.std.proofs.lemmas.List.{nil_from_length}
use Rattle.jdata.specs.Fills.{fill_of}
use Rattle.jdata.specs.Kinds.{same_kind}
use Rattle.jdata.specs.Limits.{checked, limited, most_axes, most_atoms, most_levels, IsArray}
use Rattle.jdata.specs.Noun.{shape, kind, atoms, noun, product, extent, level}
use Rattle.jdata.specs.declared.fault.Fault.{Fault}
use Rattle.jdata.specs.declared.fault.Fault.TheVariants as fault
use Rattle.jdata.specs.declared.noun.Noun.{Noun}
use Rattle.jdata.specs.declared.noun.Kind.{Kind}
use Rattle.jdata.specs.declared.noun.Atom.{Atom}
use Rattle.jdata.proofs.Arrays.{made}
use Rattle.jdata.proofs.Levels.{level_is}
use Rattle.jframe.specs.Assembly.{has_atoms, first_kind, common_kind, kinds_agree}
use Rattle.jframe.specs.Joining.{whole_joined}
use Rattle.jframe.proofs.Assembling.{chosen, refused}
use Rattle.jframe.proofs.Blocks.{item_rank, joined_of_a_kind, joined_of_kinds}
use Rattle.jstruct.specs.Joins.{layer_axes, layer, laminated, as_kind}

-- a layer of an array with an axis to spare is an array
layer_long : (axes : List ℕ) → length (layer_axes axes) ≤ suc (length axes)
layer_long [] = omega arith
layer_long (n ∷ ns) = omega arith

layer_product : (axes : List ℕ) → product (layer_axes axes) ≡ product axes
layer_product [] = refl
layer_product (n ∷ ns) = omega arith

layer_extent : (axes : List ℕ) → extent (layer_axes axes) ≡ extent axes
layer_extent [] = refl
layer_extent (n ∷ ns) = omega arith

pub layer_is_array : (v : Noun) → IsArray v → length (shape v) < most_axes → IsArray (layer v)
layer_is_array v a short = record {
  whole = a.whole ∙ sym (layer_product (shape v));
  within = record {
    rank = omega (arith, layer_long (shape v));
    extent_at_most = omega (arith, layer_extent (shape v), a.within.extent_at_most);
  };
  level_at_most = let same = level_is (layer v) ∙ sym (level_is v) in omega (arith, same, a.level_at_most);
}

-- and one of an array that has all axes is none
layer_more : (axes : List ℕ) → 1 ≤ length axes → length (layer_axes axes) ≡ suc (length axes)
layer_more [] h = absurd (omega arith)
layer_more (n ∷ ns) h = refl

too_long : (b c : Bool) (r : Result Noun Fault) → b ≡ false → (if b && c then r else Err fault.Limit) ≡ Err fault.Limit
too_long true c r e = cc
too_long false c r e = refl

beyond : (v : Noun) → most_axes < length (shape v) → limited v ≡ Err fault.Limit
beyond v h = too_long (nat_le (length (shape v)) most_axes) (nat_le (extent (shape v)) most_atoms && nat_le (level v) most_levels) (Ok v) (lt-leb _ _ h)

layers_long : (x y : Noun) → (most_axes ≤ length (shape x)) ⊎ (most_axes ≤ length (shape y)) → most_axes < length (shape (whole_joined (layer x ∷ layer y ∷ [])))
layers_long x y (inl h) = omega (arith, item_rank (layer x ∷ layer y ∷ []), layer_more (shape x) (omega arith))
layers_long x y (inr h) = omega (arith, item_rank (layer x ∷ layer y ∷ []), layer_more (shape y) (omega arith))

-- the kinds of layers are those of their arrays
abbrev with_atoms : Bool → Bool → Noun → Noun → List Noun
with_atoms a b x y = cond a (x ∷ cond b (y ∷ []) []) (cond b (y ∷ []) [])

abbrev agree_of : Bool → Bool → Noun → Noun → Bool
agree_of a b x y = list_all (λ v. same_kind (kind v) (first_kind (with_atoms a b x y ++ x ∷ y ∷ []))) (with_atoms a b x y)

same_agree : (a b : Bool) (x y : Noun) → agree_of a b (layer x) (layer y) ≡ agree_of a b x y
same_agree true true x y = refl
same_agree true false x y = refl
same_agree false true x y = refl
same_agree false false x y = refl

layers_agree : (x y : Noun) → kinds_agree (layer x ∷ layer y ∷ []) ≡ kinds_agree (x ∷ y ∷ [])
layers_agree x y = same_agree (has_atoms x) (has_atoms y) x y

pub laminated_beyond : (x y : Noun) (vs : List Noun) → (most_axes ≤ length (shape x)) ⊎ (most_axes ≤ length (shape y)) → vs ≡ x ∷ y ∷ [] → kinds_agree vs ≡ true → laminated x y ≡ Err fault.Limit
laminated_beyond x y vs h e agree =
    joined_of_a_kind (layer x ∷ layer y ∷ []) (layers_agree x y ∙ sym (ap kinds_agree e) ∙ agree) ∙ beyond (whole_joined (layer x ∷ layer y ∷ [])) (layers_long x y h)

pub laminated_of_kinds : (x y : Noun) (vs : List Noun) → vs ≡ x ∷ y ∷ [] → kinds_agree vs ≡ false → laminated x y ≡ Err fault.Domain
laminated_of_kinds x y vs e differ = joined_of_kinds (layer x ∷ layer y ∷ []) (layers_agree x y ∙ sym (ap kinds_agree e) ∙ differ)

-- the kind of both
first_of : (a b : Bool) (x y : Noun) → (a ≡ true) ⊎ (b ≡ false) → kind x ≡ first_kind (with_atoms a b x y ++ x ∷ y ∷ [])
first_of true b x y h = refl
first_of false false x y h = refl
first_of false true x y (inl h) = cc
first_of false true x y (inr h) = cc

second_of : (a b : Bool) (x y : Noun) → a ≡ false → b ≡ true → kind y ≡ first_kind (with_atoms a b x y ++ x ∷ y ∷ [])
second_of false true x y e f = refl
second_of true b x y e f = cc
second_of false false x y e f = cc

pub kind_of_first : (x y : Noun) → (0 < length (atoms x)) ⊎ (length (atoms y) ≡ 0) → kind x ≡ common_kind (x ∷ y ∷ [])
kind_of_first x y (inl h) = first_of (has_atoms x) (has_atoms y) x y (inl (lt-ltb 0 (length (atoms x)) h))
kind_of_first x y (inr h) = first_of (has_atoms x) (has_atoms y) x y (inr (le-ltb 0 (length (atoms y)) (omega arith)))

pub kind_of_second : (x y : Noun) → length (atoms x) ≡ 0 → 0 < length (atoms y) → kind y ≡ common_kind (x ∷ y ∷ [])
kind_of_second x y none some = second_of (has_atoms x) (has_atoms y) x y (le-ltb 0 (length (atoms x)) (omega arith)) (lt-ltb 0 (length (atoms y)) some)

-- of a kind
pub kind_kept : (k : Kind) (v : Noun) → 0 < length (atoms v) → v ≡ as_kind k v
kind_kept k v some = sym (chosen (has_atoms v) v (noun (shape v) k (atoms v)) (lt-ltb 0 (length (atoms v)) some))

pub none_is_array : (k : Kind) (v : Noun) → IsArray v → length (atoms v) ≡ 0 → IsArray (noun (shape v) k [])
none_is_array k v a none = record {
  whole = omega (arith, a.whole, none);
  within = a.within;
  level_at_most = let flat = level_is (noun (shape v) k []) in omega (arith, flat);
}

pub kind_turned : (k l : Kind) (v : Noun) (axes : List ℕ) (from : List Atom) → length (atoms v) ≡ 0 → axes ≡ shape v → l ≡ k → from ≡ replicate 0 (fill_of k) → noun axes l from ≡ as_kind k v
kind_turned k l v axes from none e f g =
    let empty : atoms v ≡ [] = nil_from_length (atoms v) none in
    (λ i. noun (e i) (f i) ((g ∙ sym empty) i))
    ∙ sym (refused (has_atoms v) v (noun (shape v) k (atoms v)) (le-ltb 0 (length (atoms v)) (omega arith)))

pub kind_made : (k l : Kind) (v : Noun) (axes : List ℕ) (from : List Atom) → IsArray v → length (atoms v) ≡ 0 → axes ≡ shape v → l ≡ k → from ≡ replicate 0 (fill_of k) →
    checked (noun axes l from) ≡ Ok (as_kind k v)
kind_made k l v axes from a none e f g =
    let turned = kind_turned k l v axes from none e f g in
    let array : IsArray (noun axes l from) = rw (e, f, g) (none_is_array k v a none) in
    made (noun axes l from) array ∙ ap (λ w. Ok w) turned
