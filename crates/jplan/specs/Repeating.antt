-- A verb again and again, each time on the value before (NuVoc, "^:"). Each repetition takes a turn.
use Rattle.std.specs.Prelude.{ℕ, zero, suc, ℤ, pos, negsuc, Bool, true, false, if◌then◌else◌, ◌==◌, Option, Some, None, List, [], ◌∷◌, ◌++◌, length, get_or, map, Result, Ok}
use Rattle.std.specs.List.{list_all, list_any}
use Rattle.jarray.specs.Matches.{matches}
use Rattle.jarray.specs.Numbers.{is_integers}
use Rattle.jdata.specs.Noun.{shape, int_atom, greatest}
use Rattle.jdata.specs.declared.fault.Fault.{Fault}
use Rattle.jdata.specs.declared.fault.Fault.TheVariants.{Domain, TimeLimit}
use Rattle.jdata.specs.declared.noun.Noun.{Noun}
use Rattle.jframe.specs.Assembly.{assembled}
use Rattle.jselect.specs.Arguments.{integers_in, is_count, count_of}
use Rattle.jsplit.specs.Undoing.{obverse}
use Rattle.jterm.specs.Acts.{conj_of}
use Rattle.jterm.specs.declared.term.Term.{Term}
use Rattle.jterm.specs.declared.term.Term.TheVariants as term
use Rattle.jterm.specs.declared.words.Con.TheVariants as con
use Rattle.juses.specs.Program.{Return, Ask}
use Rattle.jplan.specs.Derivations.{Derivation, again, on_value, applying, given, refused}
use Rattle.jplan.specs.Pieces.{integer_in}
use Rattle.jplan.specs.Several.{alone}

-- so many times
abbrev pub times : Term → ℕ → Noun → Derivation
times u zero y = Return (Ok y)
times u (suc n) y = Ask (again u y) (on_value (times u n))

-- until a value matches the one before, in so many repetitions
abbrev pub until_match : Term → ℕ → Noun → Derivation
until_match u zero y = refused TimeLimit
until_match u (suc n) y = Ask (again u y) (on_value (λ v. if matches v y then Return (Ok v) else until_match u n v))

-- a sentence has no more turns
unfoldable pub most_repetitions : ℕ
most_repetitions = 18446744073709551615

-- the value after so many repetitions, where a number asks for it; another counts for nothing
abbrev pub kept : List ℕ → ℕ → Noun → Noun
kept counts n value = if list_any (λ c. c == n) counts then value else int_atom (pos 0)

-- the values after 0, 1, .. repetitions
abbrev pub with_value : List ℕ → List Noun → Noun → List Noun
with_value counts values value = values ++ kept counts (length values) value ∷ []

-- each number's value, in an array of this shape
abbrev pub picked : List ℕ → List ℕ → List Noun → Result Noun Fault
picked frame counts values = assembled frame (map (λ c. get_or values c (int_atom (pos 0))) counts)

-- so many times, behind these values
abbrev pub climb : Term → List ℕ → List ℕ → ℕ → List Noun → Noun → Derivation
climb u frame counts zero values y = Return (picked frame counts (with_value counts values y))
climb u frame counts (suc n) values y = Ask (again u y) (on_value (climb u frame counts n (with_value counts values y)))

-- one run up to the greatest of these numbers. Without numbers y is the one result where the frame has a 0.
abbrev pub listed : Term → List ℕ → List ℕ → Noun → Derivation
listed u frame [] y = Return (alone frame (Ok y))
listed u frame (c ∷ cs) y = climb u frame (c ∷ cs) (greatest (c ∷ cs)) [] y

-- a number below 0 counts repetitions of the verb that undoes the other
abbrev pub number_of_times : Term → ℤ → Noun → Derivation
number_of_times u (pos n) y = times u n y
number_of_times u (negsuc n) y = given (obverse u) (λ v. times v (suc n) y)

abbrev pub list_of_times : Term → List ℕ → List ℤ → Noun → Derivation
list_of_times u (n ∷ []) numbers y = if list_all is_count numbers then listed u (n ∷ []) (map count_of numbers) y else refused Domain
list_of_times u axes numbers y = refused Domain

abbrev pub powered_by : Term → Option ℤ → Noun → Noun → Derivation
powered_by u (Some k) n y = number_of_times u k y
powered_by u None n y = if is_integers n then list_of_times u (shape n) (integers_in n) y else refused Domain

-- as often as an integer says, or a list of them
abbrev pub powered : Term → Noun → Noun → Derivation
powered u n y = powered_by u (integer_in n) n y

-- `_` alone
abbrev pub is_endless : List (Option ℤ) → Bool
is_endless (None ∷ []) = true
is_endless numbers = false

abbrev pub endless : Term → List (Option ℤ) → Noun → Derivation
endless u numbers y = if is_endless numbers then until_match u most_repetitions y else refused Domain

-- the verb that is repeated: `u`, or `x&u`
abbrev pub repeated : Term → Option Noun → Result Term Fault
repeated u None = Ok u
repeated u (Some x) = conj_of con.Ampersand (term.Noun x) u

-- `u^:n`, `u^:_`; `u^:v y` is `u^:(v y) y`, and `x u^:v y` is `x u^:(x v y) y`
abbrev pub power : Term → Term → Option Noun → Noun → Derivation
power u (term.Noun n) x y = given (repeated u x) (λ w. powered w n y)
power u (term.Ranks numbers) x y = given (repeated u x) (λ w. endless w numbers y)
power u v x y = applying v x y (λ n. given (repeated u x) (λ w. powered w n y))
