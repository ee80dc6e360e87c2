-- An array that is all one cell: at its rank a verb gives what it gives of the whole.
use Rattle.std.specs.Prelude.{ℕ, ◌/◌, ◌&&◌, nat_le, Bool, true, cond, ℤ, pos, negsuc, ◌≤ℤ◌, unsigned_abs, Option, Some, [], ◌∷◌, length, take, Result, Ok, Err, IfOk}
use Rattle.std.proofs.Common.{◌≡◌, ◌+◌, ◌*◌, ◌≤◌, ◌∙◌, refl, ap, drop, arith}
use Rattle.std.proofs.Math.Nat.{zero-mul}
use Rattle.std.proofs.lemmas.Bool.{le-leb}
use Rattle.std.proofs.lemmas.List.{append-nil, take_all}
use Rattle.jdata.specs.Firsts.{all_or_first, and_then}
use Rattle.jdata.specs.Limits.{limited, most_axes, most_atoms, most_levels, IsArray}
use Rattle.jdata.specs.Noun.{shape, kind, atoms, noun, product, extent, level}
use Rattle.jdata.specs.declared.fault.Fault.{Fault}
use Rattle.jdata.specs.declared.fault.Fault.TheVariants as fault
use Rattle.jdata.specs.declared.fault.Trouble.{Trouble}
use Rattle.jdata.specs.declared.fault.Trouble.TheVariants as trouble
use Rattle.jdata.specs.declared.noun.Noun.{Noun, roll-out-Noun}
use Rattle.jarray.specs.Placed.{Placed, Gives}
use Rattle.jshape.specs.Agreement.{agreed, repeated}
use Rattle.jshape.specs.Frames.{frame_length}
use Rattle.jframe.specs.Assembly.{assembled}
use Rattle.jframe.specs.Cells.{nth_cell, filled_cell}
use Rattle.jframe.specs.Ranks.{of_cells, at_rank, at_ranks}
use Rattle.jframe.proofs.Alike.{assembled_alike}
use Rattle.jframe.proofs.Arrays.{cut}

passes : (a b c : Bool) (v : Noun) → a ≡ true → b ≡ true → c ≡ true → cond (a && (b && c)) (Ok v) (Err fault.Limit) ≡ Ok v
passes a b c v p q s = rw (p, q, s) refl

pub within_limits : (v : Noun) → IsArray v → limited v ≡ Ok v
within_limits v a =
    passes (nat_le (length (shape v)) most_axes) (nat_le (extent (shape v)) most_atoms) (nat_le (level v) most_levels) v
    (le-leb _ _ a.within.rank) (le-leb _ _ a.within.extent_at_most) (le-leb _ _ a.level_at_most)

-- one result, in no frame
abbrev alone : Noun → Result Noun Fault
alone v = assembled [] (v ∷ [])

alone_is : (v : Noun) → IsArray v → alone v ≡ Ok v
alone_is v a =
    assembled_alike [] (shape v) (kind v) v [] (refl, refl, a, tt) refl
    ∙ ap (λ l. limited (noun (shape v) (kind v) l)) (append-nil (atoms v))
    ∙ ap limited (roll-out-Noun v)
    ∙ within_limits v a

pub whole_cell : (y : Noun) → IsArray y → nth_cell (shape y) y 0 ≡ y
whole_cell y a =
    let c = product (shape y) in
    let start : 0 * c ≡ 0 = zero-mul c in
    let ends : 0 * c + c ≤ length (atoms y) = omega (arith, start, a.whole) in
    cut (shape y) y 0 ends
    ∙ ap (λ q. noun (shape y) (kind y) (take c (drop q (atoms y)))) start
    ∙ ap (noun (shape y) (kind y)) (take_all c (atoms y) (omega (arith, a.whole)))
    ∙ roll-out-Noun y

of_one : (each : ℕ → Result Noun Fault) (filled r : Result Noun Fault) → each 0 ≡ r → of_cells [] each filled ≡ and_then r alone
of_one each filled (Ok v) e = ap (λ d. and_then (all_or_first (d ∷ [])) (assembled [])) e
of_one each filled (Err f) e = ap (λ d. and_then (all_or_first (d ∷ [])) (assembled [])) e

one_cell : (rank : Option ℤ) (meant : Noun → Result Noun Fault) (y : Noun) → frame_length rank (length (shape y)) ≡ 0 → IsArray y →
    at_rank rank meant y ≡ and_then (meant y) alone
unfolding at_rank
one_cell rank meant y none a =
    ap (λ n. of_cells (take n (shape y)) (λ i. meant (nth_cell (drop n (shape y)) y i)) (meant (filled_cell rank y))) none
    ∙ of_one (λ i. meant (nth_cell (shape y) y i)) (meant (filled_cell rank y)) (meant y) (ap meant (whole_cell y a))

-- two arrays whose frames are these many of their first axes
abbrev framed : (Noun → Noun → Result Noun Fault) → Noun → Noun → Result Noun Fault → ℕ → ℕ → Result Noun Fault
framed meant x y filled m n =
    and_then (agreed (take m (shape x)) (take n (shape y))) (λ frame.
    of_cells frame (λ i. meant (nth_cell (drop m (shape x)) x (i / repeated (take m (shape x)) frame)) (nth_cell (drop n (shape y)) y (i / repeated (take n (shape y)) frame))) filled)

one_pair : (left right : Option ℤ) (meant : Noun → Noun → Result Noun Fault) (x y : Noun) →
    frame_length left (length (shape x)) ≡ 0 → frame_length right (length (shape y)) ≡ 0 → IsArray x → IsArray y →
    at_ranks left right meant x y ≡ and_then (meant x y) alone
unfolding at_ranks
one_pair left right meant x y m n a b =
    let filled = meant (filled_cell left x) (filled_cell right y) in
    let both : framed meant x y filled (frame_length left (length (shape x))) (frame_length right (length (shape y))) ≡ framed meant x y filled 0 0 =
    λ i. framed meant x y filled (m i) (n i) in
    both
    ∙ of_one (λ i. meant (nth_cell (shape x) x (i / 1)) (nth_cell (shape y) y (i / 1))) filled (meant x y) (λ i. meant (whole_cell x a i) (whole_cell y b i))

-- so what a kernel answers is what the verb gives at its rank
answers : (whole at : Result Noun Fault) (r : Result Placed Trouble) → at ≡ and_then whole alone → Gives whole r → IfOk r (λ p. IsArray p.noun) → Gives at r
answers whole at (Ok p) e h a = e ∙ ap (λ d. and_then d alone) h ∙ alone_is p.noun a
answers whole at (Err (trouble.Fault f)) e h a = e ∙ ap (λ d. and_then d alone) h
answers whole at (Err trouble.NoMemory) e h a = tt

pub one_cell_gives : (rank : Option ℤ) (meant : Noun → Result Noun Fault) (y : Noun) (r : Result Placed Trouble) →
    frame_length rank (length (shape y)) ≡ 0 → IsArray y → Gives (meant y) r → IfOk r (λ p. IsArray p.noun) → Gives (at_rank rank meant y) r
one_cell_gives rank meant y r none a h is = answers (meant y) (at_rank rank meant y) r (one_cell rank meant y none a) h is

pub one_pair_gives : (left right : Option ℤ) (meant : Noun → Noun → Result Noun Fault) (x y : Noun) (r : Result Placed Trouble) →
    frame_length left (length (shape x)) ≡ 0 → frame_length right (length (shape y)) ≡ 0 → IsArray x → IsArray y →
    Gives (meant x y) r → IfOk r (λ p. IsArray p.noun) → Gives (at_ranks left right meant x y) r
one_pair_gives left right meant x y r m n a b h is = answers (meant x y) (at_ranks left right meant x y) r (one_pair left right meant x y m n a b) h is

pub within_rank : (most : ℤ) (axes : ℕ) → pos 0 ≤ℤ most → axes ≤ unsigned_abs most → frame_length (Some most) axes ≡ 0
within_rank (pos n) axes some few = omega (arith, few)
within_rank (negsuc n) axes some few = absurd (omega (arith, some))
