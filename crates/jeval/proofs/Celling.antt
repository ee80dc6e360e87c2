-- The cells of a derived verb, one after the other.
use Rattle.std.proofs.Common.{◌≡◌, ◌≢◌, ◌<◌, ◌+◌, ◌-◌, ◌==◌, ℕ, ℤ, zero, suc, Bool, true, false, if◌then◌else◌, Option, List, [], ◌∷◌, ◌++◌, Result, Ok, Err, refl, sym, ap, subst, ◌∙◌, arith, eq-eqb}
use Rattle.std.proofs.lemmas.Bool.{ne_eqb}
use Rattle.std.specs.List.{range_with_len}
use Rattle.jdata.specs.Noun.{product}
use Rattle.jdata.specs.declared.fault.Fault.{Fault}
use Rattle.jdata.specs.declared.noun.Noun.{Noun}
use Rattle.jframe.specs.Assembly.{assembled}
use Rattle.jplan.specs.Arguments.{frame}
use Rattle.jeval.specs.Action.{Action, answers, going_on, ◌then◌}
use Rattle.juses.proofs.Doing.{Relations}
use Rattle.jeval.specs.declared.activity.Activity.{Activity}
use Rattle.jeval.specs.declared.end.EvalEnd.{EvalEnd}
use Rattle.jeval.specs.Made.{Makes}
use Rattle.jeval.proofs.Making.{made_as}
use Rattle.jeval.specs.Cells.{OnCell, cells_done, in_cells, on_cells, on_each, on_fills}
use Rattle.jeval.specs.declared.state.State.{State}

by_left : (i n : ℕ) → n ≢ 0 → range_with_len i n ≡ i ∷ range_with_len (i + 1) (n - 1)
by_left i zero some = absurd (some refl)
by_left i (suc n) some = let less : n ≡ suc n - 1 = omega arith in ap (λ m. i ∷ range_with_len (i + 1) m) less

-- the places from one on
pub places_left : (i n : ℕ) → i < n → range_with_len i (n - i) ≡ i ∷ range_with_len (i + 1) (n - (i + 1))
places_left i n below =
    let some : n - i ≢ 0 = λ none. omega (arith, below, none) in
    let less : n - i - 1 ≡ n - (i + 1) = omega arith in
    by_left i (n - i) some ∙ ap (λ m. i ∷ range_with_len (i + 1) m) less

pub no_place_left : (i n : ℕ) → i ≡ n → range_with_len i (n - i) ≡ []
no_place_left i n is = let none : n - i ≡ 0 = omega (arith, is) in ap (range_with_len i) none

module _ (one : OnCell) (u v : Option ℤ) (x : Option Noun) (y : Noun) (whole : List ℕ) where
  pub goes_to_fills : (s : State) → product whole ≡ 0 → on_cells one u v x y whole s ≡ on_fills one u v x y whole s
  goes_to_fills s none = ap (λ b. (if b then on_fills one u v x y whole else (on_each one u v x y whole then (λ results. answers (assembled whole results)))) s) (eq-eqb _ _ none)

  pub goes_to_each : (s : State) → product whole ≢ 0 → on_cells one u v x y whole s ≡ (on_each one u v x y whole then (λ results. answers (assembled whole results))) s
  goes_to_each s some = ap (λ b. (if b then on_fills one u v x y whole else (on_each one u v x y whole then (λ results. answers (assembled whole results)))) s) (ne_eqb _ _ some)

-- the next cell, behind the results so far
pub next_cell : (cell : ℕ → Action Noun) (i n : ℕ) (results : List Noun) (s : State) → i < n
    → cells_done cell (range_with_len i (n - i)) results s ≡ (cell i then (λ v. cells_done cell (range_with_len (i + 1) (n - (i + 1))) (results ++ v ∷ []))) s
next_cell cell i n results s below = ap (λ l. cells_done cell l results s) (places_left i n below)

module _ {S : Type 0} (uses : Relations S) where
  -- equal arguments give the same
  pub on_args : {a b : Activity S} {r : Result Noun EvalEnd} {x z : Option Noun} {y w : Noun} (one : OnCell) → x ≡ z → y ≡ w → Makes uses.leads uses.refuses a b (one x y) r → Makes uses.leads uses.refuses a b (one z w) r
  on_args one e f h = made_as uses (λ i. one (e i) (f i)) h
