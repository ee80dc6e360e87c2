-- Cells of an array where they lie, as arrays.
use Rattle.std.specs.Prelude.{ℕ, List, map, take, Result, Ok, Err}
use Rattle.std.specs.List.{range_with_len}
use Rattle.jdata.specs.Leaf.{kind_in, atoms_in}
use Rattle.jdata.specs.Noun.{noun, product}
use Rattle.jdata.specs.declared.noun.Noun.{Noun}
use Rattle.jdata.specs.declared.fault.NoMemory.{NoMemory}
use Rattle.jdata.specs.declared.fault.Trouble.{Trouble}
use Rattle.jdata.specs.declared.fault.Trouble.TheVariants as trouble
use Rattle.jselect.specs.Views.{nth_range}
use Rattle.jsearch.specs.declared.cells.Cells.{Cells}

-- the array that has the cells
abbrev pub whole : Cells → Noun
whole c = noun c.axes.now (kind_in c.atoms) (atoms_in c.atoms)

-- how many cells its first axes count
abbrev pub cell_count : Cells → ℕ
cell_count c = product (take c.frame c.axes.now)

abbrev pub cell_in : Cells → ℕ → Noun
cell_in c i = nth_range c.frame i (whole c)

abbrev pub cells_in : Cells → List Noun
cells_in c = map (cell_in c) (range_with_len 0 (cell_count c))

-- a noun, or want of memory as one of the troubles
abbrev pub or_trouble : Result Noun NoMemory → Result Noun Trouble
or_trouble (Ok v) = Ok v
or_trouble (Err e) = Err trouble.NoMemory
