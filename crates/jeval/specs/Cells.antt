-- Verbs that make uses, at their ranks (J Dictionary, "Verbs"; NuVoc, "Rank"): they are applied to the cells of their
-- arguments one after the other, in ravel order, and the first fault counts.
use Rattle.std.specs.Prelude.{ℕ, ℤ, ◌==◌, if◌then◌else◌, Option, Some, None, List, [], ◌∷◌, ◌++◌, Result}
use Rattle.std.specs.List.{range_with_len}
use Rattle.jdata.specs.Noun.{product}
use Rattle.jdata.specs.declared.fault.Fault.{Fault}
use Rattle.jdata.specs.declared.noun.Noun.{Noun}
use Rattle.jframe.specs.Assembly.{assembled}
use Rattle.jplan.specs.Several.{alone}
use Rattle.jplan.specs.Arguments.{frame, x_of_cell, y_of_cell, x_of_fills, y_of_fills}
use Rattle.jterm.specs.Ranks.{ranks_of}
use Rattle.jterm.specs.declared.term.Term.{Term}
use Rattle.jeval.specs.Action.{Action, gives, answers, ◌then◌, ◌hears◌}

-- what is done on the arguments of one cell
abbrev pub OnCell : Type 0
OnCell = Option Noun → Noun → Action Noun

-- the cells with these places one after the other, behind these results
abbrev pub cells_done : (ℕ → Action Noun) → List ℕ → List Noun → Action (List Noun)
cells_done cell [] results = gives results
cells_done cell (i ∷ is) results = cell i then (λ v. cells_done cell is (results ++ v ∷ []))

-- what the arguments of cell i give
abbrev pub on_cell : OnCell → Option ℤ → Option ℤ → Option Noun → Noun → List ℕ → ℕ → Action Noun
on_cell one left right x y whole i = one (x_of_cell left x whole i) (y_of_cell right y whole i)

-- each cell of a frame
abbrev pub on_each : OnCell → Option ℤ → Option ℤ → Option Noun → Noun → List ℕ → Action (List Noun)
on_each one left right x y whole = cells_done (on_cell one left right x y whole) (range_with_len 0 (product whole)) []

-- where the frame has a 0: of the answer for cells of fills only the shape and the kind count
abbrev pub on_fills : OnCell → Option ℤ → Option ℤ → Option Noun → Noun → List ℕ → Action Noun
on_fills one left right x y whole = one (x_of_fills left x) (y_of_fills right y) hears (λ answer. answers (alone whole answer))

-- the cells of a frame, and their results in one array
abbrev pub on_cells : OnCell → Option ℤ → Option ℤ → Option Noun → Noun → List ℕ → Action Noun
on_cells one left right x y whole =
    if product whole == 0
    then on_fills one left right x y whole
    else on_each one left right x y whole then (λ results. answers (assembled whole results))

abbrev pub in_cells : OnCell → Option ℤ → Option ℤ → Option Noun → Noun → Action Noun
in_cells one left right x y = answers (frame left right x y) then on_cells one left right x y

-- the ranks at which arguments are taken: those of the dyad, or that of the monad
abbrev pub limits : Term → Option Noun → Option ℤ × Option ℤ
limits t (Some x) = ((ranks_of t).left, (ranks_of t).right)
limits t None = (None, (ranks_of t).monad)

-- without a limit the arguments are the only cell
abbrev pub at_ranks : OnCell → Option ℤ × Option ℤ → Option Noun → Noun → Action Noun
at_ranks one (None, None) x y = one x y
at_ranks one (Some left, right) x y = in_cells one (Some left) right x y
at_ranks one (None, Some right) x y = in_cells one None (Some right) x y
