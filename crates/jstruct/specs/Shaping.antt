-- Shape of, Ravel, Ravel Items, Itemize and Shape (NuVoc "$", ",", ",." and ",:"): the atoms of an array in other axes.
use Rattle.std.specs.Prelude.{ℕ, ◌%◌, ◌==◌, ◌&&◌, ◌++◌, not, ℤ, pos, if◌then◌else◌, List, [], ◌∷◌, length, map, get_or, Result, Ok, Err}
use Rattle.std.specs.List.{list_all}
use Rattle.jdata.specs.Fills.{fill_of}
use Rattle.jdata.specs.Firsts.{and_then}
use Rattle.jdata.specs.Limits.{limited}
use Rattle.jdata.specs.Noun.{noun, shape, kind, atoms, product}
use Rattle.jdata.specs.Tabulated.{tabulated}
use Rattle.jdata.specs.declared.fault.Fault.{Fault}
use Rattle.jdata.specs.declared.fault.Fault.TheVariants as fault
use Rattle.jdata.specs.declared.noun.Noun.{Noun}
use Rattle.jdata.specs.declared.noun.Atom.{Atom}
use Rattle.jdata.specs.declared.noun.Atom.TheVariants as atom
use Rattle.jdata.specs.declared.noun.Kind.TheVariants as sort
use Rattle.jarray.specs.Numbers.{is_integers}
use Rattle.jstruct.specs.Arguments.{integers_in, is_count, count_of}
use Rattle.jstruct.specs.Items.{item_count, item_axes}

abbrev pub integer_list : List ℤ → Noun
integer_list numbers = noun (length numbers ∷ []) sort.Int (map atom.Int numbers)

-- the shape is a list of integers
abbrev pub shape_of : Noun → Result Noun Fault
shape_of y = limited (integer_list (map pos (shape y)))

-- the atoms in a list
abbrev pub ravelled : Noun → Result Noun Fault
ravelled y = limited (noun (length (atoms y) ∷ []) (kind y) (atoms y))

-- the atoms of each item in a list
abbrev pub items_ravelled : Noun → Result Noun Fault
items_ravelled y = limited (noun (item_count y ∷ product (item_axes y) ∷ []) (kind y) (atoms y))

-- the array as the only item of another
abbrev pub itemized : Noun → Result Noun Fault
itemized y = limited (noun (1 ∷ shape y) (kind y) (atoms y))

-- the numbers of an argument that says how many
abbrev pub counts : Noun → Result (List ℕ) Fault
counts x = if is_integers x && list_all is_count (integers_in x) then Ok (map count_of (integers_in x)) else Err fault.Domain

-- the atoms of y in ravel order, again and again
abbrev pub again : Noun → ℕ → Atom
again y place = get_or (atoms y) (place % length (atoms y)) (fill_of (kind y))

-- the atoms of y in these axes, again and again. No items fill nothing.
abbrev pub filled_axes : List ℕ → Noun → Result Noun Fault
filled_axes axes y =
    if item_count y == 0 && not (product axes == 0) then Err fault.Length else limited (tabulated axes (kind y) (again y))

-- as many items as the counts say, each of the shape of the items of y
unfoldable pub reshaped : Noun → Noun → Result Noun Fault
reshaped x y = and_then (counts x) (λ numbers. filled_axes (numbers ++ item_axes y) y)
