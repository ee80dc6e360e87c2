-- Take, Drop and Rotate (NuVoc "{.", "}." and "|."): the first axes of an array are changed, each by a number, and the atoms
-- stand where their numbers along these axes then are. What lies beyond an axis is filled.
use Rattle.std.specs.Prelude.{ℕ, suc, unsigned_abs, ◌+◌, ◌-◌, ◌%◌, nat_le, nat_lt, ℤ, pos, negsuc, if◌then◌else◌, List, [], ◌∷◌, length, replicate, Result, Ok, Err}
use Rattle.jdata.specs.Fills.{fill_of}
use Rattle.jdata.specs.Firsts.{and_then}
use Rattle.jdata.specs.Indexes.{at_or}
use Rattle.jdata.specs.Limits.{limited}
use Rattle.jdata.specs.Noun.{shape, kind, atoms}
use Rattle.jdata.specs.Tabulated.{indexed}
use Rattle.jdata.specs.declared.fault.Fault.{Fault}
use Rattle.jdata.specs.declared.fault.Fault.TheVariants as fault
use Rattle.jdata.specs.declared.noun.Noun.{Noun}
use Rattle.jstruct.specs.declared.change.Change.{Change}
use Rattle.jstruct.specs.declared.change.Change.TheVariants as change
use Rattle.jarray.specs.Numbers.{is_integers}
use Rattle.jstruct.specs.Arguments.{integers_in}

-- how far an axis of n numbers is turned to the left
abbrev pub turns : ℤ → ℕ → ℕ
turns (pos k) n = k % n
turns (negsuc k) n = n - suc (k % n)

-- the length of an axis of n numbers after the change
abbrev pub length_after : Change → ℤ → ℕ → ℕ
length_after change.Take x n = unsigned_abs x
length_after change.Drop x n = n - unsigned_abs x
length_after change.Turn x n = n

-- the last numbers of an axis are taken: those that it lacks lie beyond it
abbrev pub from_the_end : ℕ → ℕ → ℕ → ℕ
from_the_end k n i = if nat_le k (n + i) then (n + i) - k else n + i

-- which number of an axis of n numbers stands at number i after the change
abbrev pub number_before : Change → ℤ → ℕ → ℕ → ℕ
number_before change.Take (pos k) n i = i
number_before change.Take (negsuc k) n i = from_the_end (suc k) n i
number_before change.Drop (pos k) n i = k + i
number_before change.Drop (negsuc k) n i = i
number_before change.Turn x n i = (turns x n + i) % n

-- number k of the argument changes axis k
abbrev pub axes_after : Change → List ℤ → List ℕ → List ℕ
axes_after c (x ∷ xs) (n ∷ ns) = length_after c x n ∷ axes_after c xs ns
axes_after c xs ns = ns

abbrev pub index_before : Change → List ℤ → List ℕ → List ℕ → List ℕ
index_before c (x ∷ xs) (n ∷ ns) (i ∷ is) = number_before c x n i ∷ index_before c xs ns is
index_before c xs ns is = is

-- y, in these axes, with its first axes changed
abbrev pub changed : Change → List ℤ → List ℕ → Noun → Noun
changed c xs ns y = indexed (axes_after c xs ns) (kind y) (λ index. at_or (fill_of (kind y)) ns (atoms y) (index_before c xs ns index))

-- an atom has as many axes of 1 as there are numbers
abbrev pub axes_for : ℕ → List ℕ → List ℕ
axes_for count [] = replicate count 1
axes_for count (n ∷ ns) = n ∷ ns

-- more numbers than axes are refused
abbrev pub changed_by : Change → List ℤ → Noun → Result Noun Fault
changed_by c xs y =
    let ns = axes_for (length xs) (shape y) in
    if nat_lt (length ns) (length xs) then Err fault.Length else limited (changed c xs ns y)

abbrev pub numbers_of : Noun → Result (List ℤ) Fault
numbers_of x = if is_integers x then Ok (integers_in x) else Err fault.Domain

unfoldable pub taken : Noun → Noun → Result Noun Fault
taken x y = and_then (numbers_of x) (λ xs. changed_by change.Take xs y)

unfoldable pub dropped : Noun → Noun → Result Noun Fault
dropped x y = and_then (numbers_of x) (λ xs. changed_by change.Drop xs y)

abbrev pub turned_by : List ℤ → Noun → List ℕ → Result Noun Fault
turned_by xs y [] = Ok y
turned_by xs y (n ∷ ns) = changed_by change.Turn xs y

-- an atom is given as it is
unfoldable pub turned : Noun → Noun → Result Noun Fault
turned x y = and_then (numbers_of x) (λ xs. turned_by xs y (shape y))

-- all but the first item, all but the last; an atom gives no items
abbrev pub beheaded : Noun → Result Noun Fault
beheaded y = changed_by change.Drop (pos 1 ∷ []) y

abbrev pub curtailed : Noun → Result Noun Fault
curtailed y = changed_by change.Drop (negsuc 0 ∷ []) y
