-- Insert (NuVoc, "/"): a verb between the items of its argument.
use Rattle.std.specs.Prelude.{negsuc, List, [], ◌∷◌, map, reverse, Option, Some, None, Ok}
use Rattle.std.specs.List.{range_with_len}
use Rattle.jdata.specs.declared.noun.Noun.{Noun}
use Rattle.jframe.specs.Cells.{cell_at, cell_count}
use Rattle.jsplit.specs.Identities.{identity}
use Rattle.jterm.specs.Ranks.{ranks_of}
use Rattle.jterm.specs.declared.term.Term.{Term}
use Rattle.juses.specs.Program.{Return}
use Rattle.jplan.specs.Derivations.{Derivation, applying}
use Rattle.jplan.specs.Several.{several_cells}

-- the verb between these items, the next in front, and a value: `.. (y_1 u (y_2 u value))`
abbrev pub inserted : Term → List Noun → Noun → Derivation
inserted u [] value = Return (Ok value)
inserted u (item ∷ items) value = applying u (Some item) value (λ v. inserted u items v)

-- the items, the last in front
abbrev pub items_back : Noun → List Noun
items_back y = reverse (map (cell_at (Some (negsuc 0)) y) (range_with_len 0 (cell_count (Some (negsuc 0)) y)))

-- of one item it is the item; without items it is the identity of the verb, where it has one
abbrev pub insert_in : Term → Noun → List Noun → Derivation
insert_in u y [] = Return (identity u y)
insert_in u y (item ∷ items) = inserted u items item

-- `u/ y`: `y_0 u (y_1 u ( .. y_(n-1)))`; `x u/ y`: each cell of `x` of u's left rank with the whole of `y`
abbrev pub insert : Term → Option Noun → Noun → Derivation
insert u None y = insert_in u y (items_back y)
insert u (Some x) y = several_cells u (ranks_of u).left None (Some x) y
