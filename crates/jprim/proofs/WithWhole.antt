-- The cells of one array, each with the whole of another: the pairs are these cells in ravel order.
use Rattle.std.proofs.Common.{◌≡◌, ◌≢◌, ℕ, ◌+◌, ◌<◌, ◌≤◌, ◌/◌, ℤ, zero, suc, List, [], ◌∷◌, map, length, Option, None, Result, Ok, Err, refl, sym, ap, subst, ◌∙◌, arith}
use Rattle.std.specs.Prelude.{◌==◌}
use Rattle.std.specs.List.{range_with_len}
use Rattle.std.proofs.Math.Nat.{div-eq_of_lt, div-one}
use Rattle.std.proofs.lemmas.Bool.{ne_eqb}
use Rattle.std.proofs.lemmas.List.{drop_all}
use Rattle.jarray.specs.Placed.{Placed, Gives}
use Rattle.jdata.specs.Answers.{Answers}
use Rattle.jdata.specs.Firsts.{all_or_first, and_then}
use Rattle.jdata.specs.Limits.{IsArray}
use Rattle.jdata.specs.Noun.{shape, product}
use Rattle.jdata.specs.declared.fault.Fault.{Fault}
use Rattle.jdata.specs.declared.fault.Trouble.{Trouble}
use Rattle.jdata.specs.declared.fault.Trouble.TheVariants as trouble
use Rattle.jdata.specs.declared.noun.Noun.{Noun}
use Rattle.jshape.specs.Agreement.{agreed, repeated}
use Rattle.jframe.specs.Assembly.{assembled}
use Rattle.jframe.specs.Cells.{Parted, parted, nth_cell}
use Rattle.jframe.specs.Ranks.{at_ranks}
use Rattle.jframe.proofs.Assembling.{refused}
use Rattle.jframe.proofs.Pairing.{at_ranks_is}
use Rattle.jprim.proofs.OneCell.{whole_cell}

pub same_places : {A : Type 0} (at other : ℕ → A) (a n : ℕ) → ((j : ℕ) → a ≤ j → j < a + n → at j ≡ other j) → map at (range_with_len a n) ≡ map other (range_with_len a n)
same_places at other a zero h = refl
same_places at other a (suc n) h =
    let first = h a (omega arith) (omega arith) in
    let rest = same_places at other (a + 1) n (λ j below above. h j (omega arith) (omega arith)) in
    λ i. first i ∷ rest i

alone_agrees : (s : List ℕ) → agreed s [] ≡ Ok s
alone_agrees [] = refl
alone_agrees (n ∷ ns) = refl

once : (s : List ℕ) (i : ℕ) → i / repeated s s ≡ i
once s i = ap (λ r. i / product r) (drop_all (length s) s (omega arith)) ∙ div-one i

first_alone : (s : List ℕ) (i : ℕ) → i < product s → i / repeated [] s ≡ 0
first_alone s i h = div-eq_of_lt h

pair_is : (meant : Noun → Noun → Result Noun Fault) (x y : Noun) (p : Parted) → IsArray y → (i : ℕ) → i < product p.frame →
    meant (nth_cell p.cell x (i / repeated p.frame p.frame)) (nth_cell (shape y) y (i / repeated [] p.frame)) ≡ meant (nth_cell p.cell x i) y
pair_is meant x y p a i h =
    (λ k. meant (nth_cell p.cell x (once p.frame i k)) (nth_cell (shape y) y (first_alone p.frame i h k)))
    ∙ ap (meant (nth_cell p.cell x i)) (whole_cell y a)

-- what comes of the cells, each with the whole
abbrev pub of_each : (Noun → Noun → Result Noun Fault) → List ℕ → Noun → Noun → ℕ → Result (List Noun) Fault
of_each meant cell x y n = all_or_first (map (λ i. meant (nth_cell cell x i) y) (range_with_len 0 n))

pub look_is : (left : Option ℤ) (meant : Noun → Noun → Result Noun Fault) (x y : Noun) (p : Parted) → p ≡ parted left (shape x) → IsArray y → product p.frame ≢ 0 →
    at_ranks left None meant x y ≡ and_then (of_each meant p.cell x y (product p.frame)) (assembled p.frame)
look_is left meant x y p e a some =
    at_ranks_is left None meant x y p (parted None (shape y)) p.frame e refl (alone_agrees p.frame)
    ∙ refused (product p.frame == 0) _ _ (ne_eqb _ _ some)
    ∙ ap (λ l. and_then (all_or_first l) (assembled p.frame))
    (same_places (λ i. meant (nth_cell p.cell x (i / repeated p.frame p.frame)) (nth_cell (shape y) y (i / repeated [] p.frame))) (λ i. meant (nth_cell p.cell x i) y) 0 (product p.frame)
    (λ j low high. pair_is meant x y p a j (omega arith)))

pub look_gives : (left : Option ℤ) (meant : Noun → Noun → Result Noun Fault) (x y : Noun) (p : Parted) (vs : List Noun) (r : Result Placed Trouble) →
    p ≡ parted left (shape x) → IsArray y → product p.frame ≢ 0 → of_each meant p.cell x y (product p.frame) ≡ Ok vs → Gives (assembled p.frame vs) r →
    Gives (at_ranks left None meant x y) r
look_gives left meant x y p vs r e a some all h =
    subst (λ d. Gives d r) (sym (look_is left meant x y p e a some ∙ ap (λ q. and_then q (assembled p.frame)) all)) h

pub look_fails : (left : Option ℤ) (meant : Noun → Noun → Result Noun Fault) (x y : Noun) (p : Parted) (why : Trouble) →
    p ≡ parted left (shape x) → IsArray y → product p.frame ≢ 0 → Answers {Value = List Noun} (of_each meant p.cell x y (product p.frame)) (Err why) →
    Answers {Value = Noun} (at_ranks left None meant x y) (Err why)
look_fails left meant x y p (trouble.Fault f) e a some h = look_is left meant x y p e a some ∙ ap (λ q. and_then q (assembled p.frame)) h
look_fails left meant x y p trouble.NoMemory e a some h = tt
