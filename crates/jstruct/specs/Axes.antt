-- Transpose by axes (NuVoc "|:"): the axes that x names stand behind the others, in the order of x.
use Rattle.std.specs.Prelude.{ℕ, suc, ◌==◌, nat_lt, not, ℤ, pos, negsuc, ◌-ℤ◌, Bool, false, if◌then◌else◌, List, ◌∷◌, ◌++◌, length, map, get_or, Result, Ok, Err}
use Rattle.std.specs.List.{range_with_len, filter, list_all, list_any}
use Rattle.std.specs.Ordering.{int_eq}
use Rattle.std.specs.Set.{distinct_count}
use Rattle.jdata.specs.Fills.{fill_of}
use Rattle.jdata.specs.Firsts.{and_then}
use Rattle.jdata.specs.Indexes.{place_at}
use Rattle.jdata.specs.Limits.{limited}
use Rattle.jdata.specs.Noun.{shape, kind, atoms}
use Rattle.jdata.specs.Tabulated.{indexed}
use Rattle.jdata.specs.declared.fault.Fault.{Fault}
use Rattle.jdata.specs.declared.fault.Fault.TheVariants as fault
use Rattle.jdata.specs.declared.noun.Noun.{Noun}
use Rattle.jdata.specs.declared.noun.Atom.{Atom}
use Rattle.jstruct.specs.Arguments.{count_of}
use Rattle.jstruct.specs.Laying.{numbers_of}

-- an axis counted from the first: a negative number counts from the end
abbrev pub axis_named : ℕ → ℤ → ℤ
axis_named rank (pos n) = pos n
axis_named rank (negsuc n) = pos rank -ℤ pos (suc n)

-- whether an array of so many axes has it
abbrev pub is_axis : ℕ → ℤ → Bool
is_axis rank (pos n) = nat_lt n rank
is_axis rank (negsuc n) = false

-- whether no two of them are one
abbrev pub are_distinct : List ℤ → Bool
are_distinct axes = distinct_count int_eq axes == length axes

-- the axes that numbers name: a repeated one is not built, and one that there isn't is refused
abbrev pub axes_of : ℕ → List ℤ → Result (List ℕ) Fault
axes_of rank axes =
    if are_distinct axes then (if list_all (is_axis rank) axes then Ok (map count_of axes) else Err fault.Index) else Err fault.Nonce

abbrev pub last_axes : ℕ → List ℤ → Result (List ℕ) Fault
last_axes rank numbers = axes_of rank (map (axis_named rank) numbers)

-- whether an axis is among these
abbrev pub is_among : List ℕ → ℕ → Bool
is_among axes a = list_any (λ b. b == a) axes

-- all axes, with these behind the others
abbrev pub new_order : ℕ → List ℕ → List ℕ
new_order rank last = filter (λ a. not (is_among last a)) (range_with_len 0 rank) ++ last

-- the number that an index has on axis a, where its numbers are those on axes in this order
abbrev pub number_on : List ℕ → List ℕ → ℕ → ℕ
number_on (p ∷ ps) (i ∷ is) a = if p == a then i else number_on ps is a
number_on ps is a = 0

-- the atom of y at an index whose numbers stand in this order of its axes
abbrev pub atom_reordered : List ℕ → Noun → List ℕ → Atom
atom_reordered order y index =
    get_or (atoms y) (place_at (shape y) (map (number_on order index) (range_with_len 0 (length (shape y))))) (fill_of (kind y))

abbrev pub reordered : List ℕ → Noun → Noun
reordered order y = indexed (map (λ a. get_or (shape y) a 0) order) (kind y) (atom_reordered order y)

abbrev pub reordered_by : List ℤ → Noun → Result Noun Fault
reordered_by numbers y =
    and_then (last_axes (length (shape y)) numbers) (λ last. limited (reordered (new_order (length (shape y)) last) y))

abbrev pub transposed_by : Noun → Noun → Result Noun Fault
transposed_by x y = and_then (numbers_of x) (λ numbers. reordered_by numbers y)
