-- Items (J Dictionary, "Nouns"; NuVoc, "Item"): the cells of an array that its first axis counts. An atom has one item, itself.
use Rattle.std.specs.Prelude.{ℕ, ◌+◌, ◌*◌, List, [], ◌∷◌, get_or}
use Rattle.jdata.specs.Fills.{fill_of}
use Rattle.jdata.specs.Indexes.{at_or}
use Rattle.jdata.specs.Noun.{noun, shape, kind, atoms, product}
use Rattle.jdata.specs.Tabulated.{tabulated}
use Rattle.jdata.specs.declared.noun.Noun.{Noun}
use Rattle.jdata.specs.declared.noun.Atom.{Atom}

-- the axes of an array of this shape, where an atom counts as a list of one
abbrev pub list_axes : List ℕ → List ℕ
list_axes [] = 1 ∷ []
list_axes (n ∷ ns) = n ∷ ns

-- how many items an array of this shape has
abbrev pub first_axis : List ℕ → ℕ
first_axis [] = 1
first_axis (n ∷ ns) = n

-- and the shape of each
abbrev pub further_axes : List ℕ → List ℕ
further_axes [] = []
further_axes (n ∷ ns) = ns

abbrev pub item_count : Noun → ℕ
item_count y = first_axis (shape y)

abbrev pub item_axes : Noun → List ℕ
item_axes y = further_axes (shape y)

-- the array, where an atom is a list of one
abbrev pub as_list : Noun → Noun
as_list y = noun (list_axes (shape y)) (kind y) (atoms y)

-- item i; from the number of items on it is of fills
abbrev pub item_at : Noun → ℕ → Noun
item_at y i =
    tabulated (item_axes y) (kind y) (λ j. get_or (atoms y) (i * product (item_axes y) + j) (fill_of (kind y)))

-- the atom at an index, or the fill where y has no such index
abbrev pub atom_at : Noun → List ℕ → Atom
atom_at y index = at_or (fill_of (kind y)) (shape y) (atoms y) index
