-- Cells of arrays (J Dictionary, "Verbs"; NuVoc, "Rank"). The axes of frames and cells are `frame_of` and `cell_of` of jshape.
use Rattle.std.specs.Prelude.{ℕ, ◌+◌, ◌*◌, ℤ, Option, List, map, replicate, get_or}
use Rattle.std.specs.List.{range_with_len}
use Rattle.jdata.specs.Fills.{fill_of}
use Rattle.jdata.specs.Noun.{shape, kind, atoms, noun, product}
use Rattle.jdata.specs.declared.noun.Noun.{Noun}
use Rattle.jdata.specs.declared.noun.Kind.{Kind}
use Rattle.jshape.specs.Frames.{frame_of, cell_of}

-- a shape in its two parts
pub record Parted : Type 0 where
  pub frame : List ℕ
  pub cell : List ℕ

abbrev pub parted : Option ℤ → List ℕ → Parted
parted rank axes = record { frame = frame_of rank axes; cell = cell_of rank axes }

-- how many cells there are
abbrev pub cell_count : Option ℤ → Noun → ℕ
cell_count rank y = product (frame_of rank (shape y))

-- cell i of y, where cells have this shape and so c atoms: its atom j is atom i * c + j of y
unfoldable pub nth_cell : List ℕ → Noun → ℕ → Noun
nth_cell cell y i =
    let c = product cell in
    noun cell (kind y) (map (λ j. get_or (atoms y) (i * c + j) (fill_of (kind y))) (range_with_len 0 c))

-- cell i of y at a rank
abbrev pub cell_at : Option ℤ → Noun → ℕ → Noun
cell_at rank y i = nth_cell (cell_of rank (shape y)) y i

-- a noun of fills
unfoldable pub fills : List ℕ → Kind → Noun
fills axes k = noun axes k (replicate (product axes) (fill_of k))

-- the cell of fills: of the shape of y's cells, and of y's kind
abbrev pub filled_cell : Option ℤ → Noun → Noun
filled_cell rank y = fills (cell_of rank (shape y)) (kind y)
