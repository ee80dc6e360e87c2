-- Self-Classify (NuVoc "=", the monad): which items match which. A row for each item of the nub, a column for each item.
use Rattle.std.specs.Prelude.{ℕ, List, [], ◌∷◌, length, map, filter, Result}
use Rattle.std.specs.List.{range_with_len, flat_map}
use Rattle.jdata.specs.Limits.{limited}
use Rattle.jdata.specs.Noun.{noun}
use Rattle.jdata.specs.declared.fault.Fault.{Fault}
use Rattle.jdata.specs.declared.noun.Noun.{Noun}
use Rattle.jdata.specs.declared.noun.Kind.TheVariants as sort
use Rattle.jdata.specs.declared.noun.Atom.{Atom}
use Rattle.jdata.specs.declared.noun.Atom.TheVariants as atom
use Rattle.jarray.specs.Matches.{matches}
use Rattle.jselect.specs.Items.{item_count}
use Rattle.jsearch.specs.Finding.{item, is_new, truth}

-- the places of the items that match no earlier one
abbrev pub new_places : Noun → List ℕ
new_places y = filter (is_new y) (range_with_len 0 (item_count y))

-- 1 for each item that matches the item at a place, else 0
abbrev pub class_at : Noun → ℕ → List Atom
class_at y p = map (λ j. atom.Int (truth (matches (item y p) (item y j)))) (range_with_len 0 (item_count y))

-- one row after another
unfoldable pub classified : Noun → Result Noun Fault
classified y = limited (noun (length (new_places y) ∷ item_count y ∷ []) sort.Int (flat_map (class_at y) (new_places y)))
