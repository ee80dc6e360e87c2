-- The nouns that words of numbers and quoted texts stand for (J Dictionary, "Constants"): one number or one character is
-- an atom, several are a list.
use Rattle.std.specs.Prelude.{ℕ, ℤ, ◌==◌, ◌-◌, if◌then◌else◌, List, [], ◌∷◌, ◌++◌, take, drop, length, map, Option, Some, None, Result, Ok, Err, codes, option_map}
use Rattle.std.specs.List.{slice_split}
use Rattle.std.specs.Str.{bytes_eq}
use Rattle.jdata.specs.Limits.{checked}
use Rattle.jdata.specs.Noun.{noun, int_atom}
use Rattle.jdata.specs.declared.noun.Noun.{Noun}
use Rattle.jdata.specs.declared.noun.Kind.TheVariants as sort
use Rattle.jdata.specs.declared.noun.Atom.TheVariants as atom
use Rattle.jdata.specs.declared.tree.BadTree.{BadTree}
use Rattle.jnumber.specs.Spelling.{number_in}
use Rattle.jwords.specs.Alphabet.{quote, is_blank}
use Rattle.jwords.specs.Numbers.{is_number}

-- the number of a run
abbrev pub number : List ℕ → Option ℤ
number run = if is_number run then Some (number_in run) else None

-- a number of a word; for the underscore alone it is none, which means no limit
abbrev pub limit : List ℕ → Option (Option ℤ)
limit run = if bytes_eq run (codes "_") then Some None else option_map (λ n. Some n) (number run)

-- these numbers and then those, where there are both
abbrev pub joined : Option (List (Option ℤ)) → Option (List (Option ℤ)) → Option (List (Option ℤ))
joined (Some ns) (Some others) = Some (ns ++ others)
joined one other = None

-- the numbers of a run: one, and none between two blanks that stand together
abbrev pub numbers_of : List ℕ → Option (List (Option ℤ))
numbers_of [] = Some []
numbers_of (byte ∷ run) = option_map (λ n. n ∷ []) (limit (byte ∷ run))

abbrev pub numbers_in : List (List ℕ) → Option (List (Option ℤ))
numbers_in [] = Some []
numbers_in (run ∷ runs) = joined (numbers_of run) (numbers_in runs)

-- the numbers of a word, whose runs are parted by blanks
abbrev pub numbers : List ℕ → Option (List (Option ℤ))
numbers word = numbers_in (slice_split is_blank word)

-- an array is within its limits, and no line is long enough for a list beyond them
abbrev pub if_array : Result Noun BadTree → Option Noun
if_array (Ok v) = Some v
if_array (Err why) = None

abbrev pub integer_list : List ℤ → Option Noun
integer_list ns = if_array (checked (noun (length ns ∷ []) sort.Int (map atom.Int ns)))

abbrev pub integers : List ℤ → Option Noun
integers (n ∷ []) = Some (int_atom n)
integers ns = integer_list ns

-- the integers, where each of the numbers is one
abbrev pub all_integers : List (Option ℤ) → Option (List ℤ)
all_integers [] = Some []
all_integers (Some n ∷ ns) = option_map (λ more. n ∷ more) (all_integers ns)
all_integers (None ∷ ns) = None

-- the characters between the quotes; of two quotes that stand together the second is left away
abbrev pub characters : List ℕ → List ℕ
characters [] = []
characters (byte ∷ []) = byte ∷ []
characters (byte ∷ next ∷ rest) = byte ∷ (if byte == quote then characters rest else characters (next ∷ rest))

abbrev pub inside : List ℕ → List ℕ
inside word = take (length word - 2) (drop 1 word)

abbrev pub text_shape : List ℕ → List ℕ
text_shape (one ∷ []) = []
text_shape bytes = length bytes ∷ []

abbrev pub text : List ℕ → Option Noun
text bytes = if_array (checked (noun (text_shape bytes) sort.Char (map atom.Char bytes)))

-- the noun of a quoted text
abbrev pub text_noun : List ℕ → Option Noun
text_noun word = text (characters (inside word))
