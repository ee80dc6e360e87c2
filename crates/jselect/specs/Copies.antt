-- Tally and Copy (NuVoc "#"): how many items an array has, and its items, each as often as a number says.
use Rattle.std.specs.Prelude.{ℕ, ◌==◌, ◌&&◌, pos, ℤ, Bool, true, false, if◌then◌else◌, List, [], ◌∷◌, length, get_or, Result, Ok, Err}
use Rattle.std.specs.List.{list_all}
use Rattle.jdata.specs.Firsts.{and_then}
use Rattle.jdata.specs.Limits.{limited}
use Rattle.jdata.specs.Noun.{shape, atoms, int_atom}
use Rattle.jdata.specs.declared.fault.Fault.{Fault}
use Rattle.jdata.specs.declared.fault.Fault.TheVariants as fault
use Rattle.jdata.specs.declared.noun.Noun.{Noun}
use Rattle.jarray.specs.Numbers.{is_integers}
use Rattle.jselect.specs.Items.{item_count}
use Rattle.jselect.specs.Arguments.{integers_in, is_count, count_of}
use Rattle.jselect.specs.Picking.{is_alone, served, repeated, items_at}

-- the number of items, which is 1 for an atom
abbrev pub counted : Noun → Result Noun Fault
counted y = Ok (int_atom (pos (item_count y)))

-- how many items both arguments have: so many numbers on the left, and the axes of the right one. An atom is extended.
abbrev pub shared_count : Bool → ℕ → List ℕ → Result ℕ Fault
shared_count true n [] = Ok 1
shared_count true n (m ∷ ms) = Ok m
shared_count false n [] = Ok n
shared_count false n (m ∷ ms) = if n == m then Ok n else Err fault.Length

-- how often the item at place i is repeated
abbrev pub count_at : Bool → List ℤ → ℕ → ℕ
count_at alone numbers i = count_of (get_or numbers (served alone i) (pos 0))

-- the places of the items that are copied
abbrev pub copied_places : Noun → Noun → ℕ → List ℕ
copied_places x y n = repeated (count_at (is_alone (shape x)) (integers_in x)) (served (is_alone (shape y))) n

-- item i of y, as often as number i of x says
unfoldable pub copied : Noun → Noun → Result Noun Fault
copied x y =
    if is_integers x && list_all is_count (integers_in x)
    then and_then (shared_count (is_alone (shape x)) (length (atoms x)) (shape y)) (λ n. limited (items_at (copied_places x y n) y))
    else Err fault.Domain
