-- Verbs at their ranks (J Dictionary, "Verbs"; NuVoc, "Rank" and "Framing Fill"): a verb is applied to each cell, and the
-- results are assembled. Where the frame has a 0, it is applied once to the cell of fills, for the shape and the kind.
use Rattle.std.specs.Prelude.{ℕ, ◌/◌, ◌==◌, ℤ, pos, if◌then◌else◌, Option, List, [], ◌∷◌, map, Result, Ok, Err}
use Rattle.std.specs.List.{range_with_len}
use Rattle.jdata.specs.Firsts.{all_or_first, and_then}
use Rattle.jdata.specs.Noun.{shape, product, int_atom}
use Rattle.jdata.specs.declared.noun.Noun.{Noun}
use Rattle.jdata.specs.declared.fault.Fault.{Fault}
use Rattle.jdata.specs.declared.fault.Fault.TheVariants as fault
use Rattle.jshape.specs.Agreement.{agreed, repeated}
use Rattle.jshape.specs.Frames.{frame_of}
use Rattle.jframe.specs.Assembly.{assembled}
use Rattle.jframe.specs.Cells.{cell_at, filled_cell}

-- of the cell of fills only the shape and the kind count: a fault there counts as an empty shape and integers
abbrev pub for_shape : Result Noun Fault → Result Noun Fault
for_shape (Ok v) = Ok v
for_shape (Err fault.TimeLimit) = Err fault.TimeLimit
for_shape (Err other) = Ok (int_atom (pos 0))

-- the results of all cells or, where there is no cell, that of the cell of fills; the first fault counts
abbrev pub of_cells : List ℕ → (ℕ → Result Noun Fault) → Result Noun Fault → Result Noun Fault
of_cells frame each filled =
    if product frame == 0
    then and_then (for_shape filled) (λ v. assembled frame (v ∷ []))
    else and_then (all_or_first (map each (range_with_len 0 (product frame)))) (assembled frame)

unfoldable pub at_rank : Option ℤ → (Noun → Result Noun Fault) → Noun → Result Noun Fault
at_rank rank verb y = of_cells (frame_of rank (shape y)) (λ i. verb (cell_at rank y i)) (verb (filled_cell rank y))

-- which cell of an argument goes with cell i of the frame of both: the cells of the shorter frame are repeated
abbrev pub paired : Option ℤ → List ℕ → Noun → ℕ → Noun
paired rank frame y i = cell_at rank y (i / repeated (frame_of rank (shape y)) frame)

unfoldable pub at_ranks : Option ℤ → Option ℤ → (Noun → Noun → Result Noun Fault) → Noun → Noun → Result Noun Fault
at_ranks left right verb x y =
    and_then (agreed (frame_of left (shape x)) (frame_of right (shape y))) (λ frame.
    of_cells frame (λ i. verb (paired left frame x i) (paired right frame y i)) (verb (filled_cell left x) (filled_cell right y)))
