-- The test of the limits and of the length, case by case.
use Rattle.std.specs.Prelude.{◌<◌, ◌≤◌, ◌≡◌, ◌≢◌, ◌&&◌, ◌==◌, nat_le, Bool, true, false, cond, Result, Ok, Err, length}
use Rattle.std.proofs.Common.{refl, ◌∙◌, eq-eqb}
use Rattle.std.proofs.lemmas.Bool.{lt-leb, le-leb, ne_eqb}
use Rattle.jdata.specs.Noun.{shape, atoms, level, product, extent}
use Rattle.jdata.specs.Limits.{checked, most_axes, most_atoms, most_levels}
use Rattle.jdata.specs.declared.noun.Noun.{Noun}
use Rattle.jdata.specs.declared.tree.BadTree.{BadTree}
use Rattle.jdata.specs.declared.tree.BadTree.TheVariants as bad

abbrev size_answer : Noun → Result Noun BadTree
size_answer v = cond (length (atoms v) == product (shape v)) (Ok v) (Err (bad.Length (product (shape v)) (length (atoms v))))

abbrev answer : Bool → Noun → Result Noun BadTree → Result Noun BadTree
answer b v r = cond b r (Err bad.Limit)

first : (a b c : Bool) (v : Noun) (r : Result Noun BadTree) → a ≡ false → answer (a && (b && c)) v r ≡ Err bad.Limit
first true b c v r h = cc
first false b c v r h = refl

second : (a b c : Bool) (v : Noun) (r : Result Noun BadTree) → b ≡ false → answer (a && (b && c)) v r ≡ Err bad.Limit
second true true c v r h = cc
second true false c v r h = refl
second false b c v r h = refl

third : (a b c : Bool) (v : Noun) (r : Result Noun BadTree) → c ≡ false → answer (a && (b && c)) v r ≡ Err bad.Limit
third true true true v r h = cc
third true true false v r h = refl
third true false c v r h = refl
third false b c v r h = refl

pub too_many_axes : (v : Noun) → most_axes < length (shape v) → checked v ≡ Err bad.Limit
too_many_axes v h = first (nat_le (length (shape v)) most_axes) (nat_le (extent (shape v)) most_atoms) (nat_le (level v) most_levels) v (size_answer v) (lt-leb _ _ h)

pub too_large : (v : Noun) → most_atoms < extent (shape v) → checked v ≡ Err bad.Limit
too_large v h = second (nat_le (length (shape v)) most_axes) (nat_le (extent (shape v)) most_atoms) (nat_le (level v) most_levels) v (size_answer v) (lt-leb _ _ h)

pub too_deep : (v : Noun) → most_levels < level v → checked v ≡ Err bad.Limit
too_deep v h = third (nat_le (length (shape v)) most_axes) (nat_le (extent (shape v)) most_atoms) (nat_le (level v) most_levels) v (size_answer v) (lt-leb _ _ h)

all : (a b c : Bool) (v : Noun) (r : Result Noun BadTree) → a ≡ true → b ≡ true → c ≡ true → answer (a && (b && c)) v r ≡ r
all a b c v r p q s = rw (p, q, s) refl

pub wrong_length : (v : Noun) → length (shape v) ≤ most_axes → extent (shape v) ≤ most_atoms → level v ≤ most_levels →
    length (atoms v) ≢ product (shape v) → checked v ≡ Err (bad.Length (product (shape v)) (length (atoms v)))
wrong_length v rank ext deep other =
    let go : (b : Bool) → b ≡ false → cond b (Ok v) (Err (bad.Length (product (shape v)) (length (atoms v)))) ≡ Err (bad.Length (product (shape v)) (length (atoms v))) = λ b e. rw e refl in
    all (nat_le (length (shape v)) most_axes) (nat_le (extent (shape v)) most_atoms) (nat_le (level v) most_levels) v (size_answer v) (le-leb _ _ rank) (le-leb _ _ ext) (le-leb _ _ deep) ∙ go _ (ne_eqb _ _ other)

pub passes : (v : Noun) → length (shape v) ≤ most_axes → extent (shape v) ≤ most_atoms → level v ≤ most_levels →
    length (atoms v) ≡ product (shape v) → checked v ≡ Ok v
passes v rank ext deep whole =
    let go : (b : Bool) → b ≡ true → cond b (Ok v) (Err (bad.Length (product (shape v)) (length (atoms v)))) ≡ Ok v = λ b e. rw e refl in
    all (nat_le (length (shape v)) most_axes) (nat_le (extent (shape v)) most_atoms) (nat_le (level v) most_levels) v (size_answer v) (le-leb _ _ rank) (le-leb _ _ ext) (le-leb _ _ deep) ∙ go _ (eq-eqb _ _ whole)
