-- Pairs of cells of agreeing frames.
use Rattle.std.proofs.Common.{◌≡◌, ◌≢◌, ℕ, ℤ, ◌+◌, ◌*◌, ◌/◌, ◌<◌, ◌≤◌, Bool, true, false, List, [], ◌++◌, length, drop, Option, Some, None, Result, Ok, Err, refl, sym, subst, ap, ◌∙◌, arith}
use Rattle.std.specs.Prelude.{if◌then◌else◌}
use Rattle.std.proofs.Math.Nat.{mul-zero}
use Rattle.std.proofs.lemmas.List.{append-nil, drop_at}
use Rattle.std.proofs.lemmas.Nat.{div_below}
use Rattle.jdata.specs.Answers.{Answers}
use Rattle.jdata.specs.Firsts.{and_then}
use Rattle.jdata.specs.Noun.{shape, product}
use Rattle.jdata.specs.declared.fault.Fault.{Fault}
use Rattle.jdata.specs.declared.fault.Trouble.{Trouble}
use Rattle.jdata.specs.declared.fault.Trouble.TheVariants as trouble
use Rattle.jdata.specs.declared.noun.Noun.{Noun}
use Rattle.jdata.proofs.Extents.{product-append}
use Rattle.jdata.proofs.Lists.{factor_some}
use Rattle.jshape.specs.Agreement.{is_prefix, longer, or_length, agreed, repeated}
use Rattle.jshape.specs.Frames.{IsPrefix, frame_of}
use Rattle.jshape.proofs.Agreeing.{prefix_decides}
use Rattle.jframe.specs.Cells.{Parted, parted, nth_cell, filled_cell}
use Rattle.jframe.specs.Ranks.{of_cells, paired, at_ranks}

-- each of two frames that agree begins the frame of both
pub both_begin : (l r f : List ℕ) → agreed l r ≡ Ok f → IsPrefix l f × IsPrefix r f
both_begin l r f e = go (is_prefix l r) (is_prefix r l) (prefix_decides l r).0 (prefix_decides r l).0 e
  where
    itself : (s : List ℕ) → IsPrefix s s
    itself s = ([], sym (append-nil s))

    go : (b c : Bool) → (b ≡ true → IsPrefix l r) → (c ≡ true → IsPrefix r l) → or_length (if b then Some r else (if c then Some l else None)) ≡ Ok f → IsPrefix l f × IsPrefix r f
    go true c p q h = let is : r ≡ f = cc in (subst (IsPrefix l) is (p refl), subst (IsPrefix r) is (itself r))
    go false true p q h = let is : l ≡ f = cc in (subst (IsPrefix l) is (itself l), subst (IsPrefix r) is (q refl))
    go false false p q h = cc

pub whole_is : (part whole : List ℕ) → IsPrefix part whole → product whole ≡ product part * repeated part whole
whole_is part whole p =
    let rest : drop (length part) whole ≡ p.0 = ap (drop (length part)) p.1 ∙ drop_at part p.0 (length part) refl in
    ap product p.1 ∙ product-append part p.0 ∙ ap (λ l. product part * product l) (sym rest)

pub repeats_some : (part whole : List ℕ) (n : ℕ) → IsPrefix part whole → n ≡ repeated part whole → product whole ≢ 0 → n ≢ 0
repeats_some part whole n p is some none =
    some (whole_is part whole p ∙ ap (λ m. product part * m) (sym is ∙ none) ∙ mul-zero (product part))

-- the cell of the part that goes with a cell of the whole
pub place_within : (part whole : List ℕ) (n i : ℕ) → IsPrefix part whole → n ≡ repeated part whole → i < product whole → i / n < product part
place_within part whole n i p is below =
    let inside : i < product part * n = omega (arith, below, whole_is part whole p, ap (λ m. product part * m) is) in
    div_below i n (product part) (factor_some i (product part) n inside) inside

-- the definition, by the cells as they were parted and the frame of both
pub at_ranks_is : (left right : Option ℤ) (meant : Noun → Noun → Result Noun Fault) (x y : Noun) (p q : Parted) (frame : List ℕ) →
    p ≡ parted left (shape x) → q ≡ parted right (shape y) → agreed p.frame q.frame ≡ Ok frame →
    at_ranks left right meant x y ≡ of_cells frame (λ i. meant (nth_cell p.cell x (i / repeated p.frame frame)) (nth_cell q.cell y (i / repeated q.frame frame))) (meant (filled_cell left x) (filled_cell right y))
unfolding at_ranks
at_ranks_is left right meant x y p q frame e f agree =
    let whole : Parted → Parted → List ℕ → Result Noun Fault = λ a b s.
    of_cells s (λ i. meant (nth_cell a.cell x (i / repeated a.frame s)) (nth_cell b.cell y (i / repeated b.frame s))) (meant (filled_cell left x) (filled_cell right y)) in
    (λ i. and_then (agreed ((sym e i).frame) ((sym f i).frame)) (whole (sym e i) (sym f i))) ∙ ap (λ a. and_then a (whole p q)) agree

-- frames that don't agree
pub differ_gives : (left right : Option ℤ) (meant : Noun → Noun → Result Noun Fault) (x y : Noun) (why : Trouble) →
    Answers {Value = List ℕ} (agreed (frame_of left (shape x)) (frame_of right (shape y))) (Err why) → Answers {Value = Noun} (at_ranks left right meant x y) (Err why)
unfolding at_ranks
differ_gives left right meant x y (trouble.Fault f) h =
    let next : List ℕ → Result Noun Fault = λ frame. of_cells frame (λ i. meant (paired left frame x i) (paired right frame y i)) (meant (filled_cell left x) (filled_cell right y)) in
    ap (λ a. and_then a next) h
differ_gives left right meant x y trouble.NoMemory h = tt
