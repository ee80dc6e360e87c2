-- A part of an array where it lies, and the noun that it is.
use Rattle.std.specs.Prelude.{ℕ, ◌*◌, take, drop, Result, Ok, Err}
use Rattle.jdata.specs.Leaf.{kind_in, atoms_in}
use Rattle.jdata.specs.Noun.{noun, shape, kind, atoms, product}
use Rattle.jdata.specs.declared.fault.Fault.{Fault}
use Rattle.jdata.specs.declared.noun.Noun.{Noun}
use Rattle.jselect.specs.declared.view.View.{View}

abbrev pub noun_in : View → Noun
noun_in v = noun v.axes.now (kind_in v.atoms) (atoms_in v.atoms)

abbrev pub noun_or : Result View Fault → Result Noun Fault
noun_or (Ok v) = Ok (noun_in v)
noun_or (Err why) = Err why

-- of an array that the first axes part into cells, the atoms of cell `number`, which stand together
abbrev pub nth_range : ℕ → ℕ → Noun → Noun
nth_range frame number y =
    let axes = drop frame (shape y) in
    noun axes (kind y) (take (product axes) (drop (number * product axes) (atoms y)))
