-- How the numbers of a word are read one byte further, and how the characters of a text are.
use Rattle.std.proofs.Common.{◌≡◌, ◌≤◌, ◌<◌, ◌+◌, ◌-◌, ◌==◌, if◌then◌else◌, ℕ, ℤ, Bool, true, false, List, [], ◌∷◌, ◌++◌, take, drop, length, get_or, Option, Some, None, arith, refl, ap, sym, ◌∙◌, length-drop, option_map}
use Rattle.std.proofs.lemmas.Grind.{common_steps}
use Rattle.std.proofs.lemmas.List.{take_more, get_or-drop, append_assoc, append-nil}
use Rattle.std.specs.List.{slice_split, onto_first}
use Rattle.std.proofs.lemmas.List.Splits.{slice_split-cons_yes, slice_split-cons_no}
use Rattle.jwords.specs.Alphabet.{is_blank, quote}
use Rattle.jeval.specs.Constants.{joined, numbers_of, numbers_in, all_integers, characters}

pub drops_one : (xs : List ℕ) (i : ℕ) → i < length xs → drop i xs ≡ get_or xs i 0 ∷ drop (i + 1) xs
drops_one xs i inside = grind (arith, common_steps)

-- the bytes from one place up to before another
abbrev pub between : List ℕ → ℕ → ℕ → List ℕ
between xs start i = take (i - start) (drop start xs)

pub between_more : (xs : List ℕ) (start i : ℕ) → start ≤ i → i < length xs → between xs start (i + 1) ≡ between xs start i ++ get_or xs i 0 ∷ []
between_more xs start i order inside =
    let one : i + 1 - start ≡ (i - start) + 1 = omega (arith, order) in
    let there : i - start < length (drop start xs) = omega (arith, length-drop start xs, order, inside) in
    let place : start + (i - start) ≡ i = omega (arith, order) in
    ap (λ n. take n (drop start xs)) one ∙ take_more (drop start xs) (i - start) 0 there
    ∙ ap (λ b. take (i - start) (drop start xs) ++ b ∷ []) (get_or-drop start xs (i - start) 0 ∙ ap (λ n. get_or xs n 0) place)

-- the runs of which the first was begun with these bytes
abbrev pub begun : List ℕ → List (List ℕ) → List (List ℕ)
begun run [] = run ∷ []
begun run (first ∷ runs) = (run ++ first) ∷ runs

begun_none : (runs : List (List ℕ)) → numbers_in (begun [] runs) ≡ numbers_in runs
begun_none [] = refl
begun_none (first ∷ runs) = refl

pub begun_more : (run : List ℕ) (byte : ℕ) (runs : List (List ℕ)) → begun run (onto_first byte runs) ≡ begun (run ++ byte ∷ []) runs
begun_more run byte [] = refl
begun_more run byte (first ∷ runs) = ap (λ r. r ∷ runs) (sym (append_assoc run (byte ∷ []) first))

joins : (a b c : Option (List (Option ℤ))) → joined a (joined b c) ≡ joined (joined a b) c
joins None b c = refl
joins (Some ns) None c = refl
joins (Some ns) (Some ms) None = refl
joins (Some ns) (Some ms) (Some ls) = ap Some (sym (append_assoc ns ms ls))

-- what is read of the word from this place, where a run was begun
abbrev pub read_on : List (Option ℤ) → List ℕ → List ℕ → Option (List (Option ℤ))
read_on ns run rest = joined (Some ns) (numbers_in (begun run (slice_split is_blank rest)))

pub reads_blank : (ns : List (Option ℤ)) (xs : List ℕ) (start i : ℕ) → i < length xs → is_blank (get_or xs i 0) ≡ true
    → read_on ns (between xs start i) (drop i xs) ≡ joined (joined (Some ns) (numbers_of (between xs start i))) (numbers_in (slice_split is_blank (drop (i + 1) xs)))
reads_blank ns xs start i inside blank =
    let split = slice_split-cons_yes is_blank (get_or xs i 0) (drop (i + 1) xs) blank in
    rw (drops_one xs i inside, split, append-nil (between xs start i)) (joins (Some ns) (numbers_of (between xs start i)) (numbers_in (slice_split is_blank (drop (i + 1) xs))))

pub reads_next : (ns : List (Option ℤ)) (xs : List ℕ) (i : ℕ) → read_on ns (between xs i i) (drop i xs) ≡ joined (Some ns) (numbers_in (slice_split is_blank (drop i xs)))
reads_next ns xs i =
    let none : i - i ≡ 0 = omega arith in
    rw none (ap (joined (Some ns)) (begun_none (slice_split is_blank (drop i xs))))

pub reads_more : (ns : List (Option ℤ)) (xs : List ℕ) (start i : ℕ) → start ≤ i → i < length xs → is_blank (get_or xs i 0) ≡ false
    → read_on ns (between xs start i) (drop i xs) ≡ read_on ns (between xs start (i + 1)) (drop (i + 1) xs)
reads_more ns xs start i order inside more =
    let split = slice_split-cons_no is_blank (get_or xs i 0) (drop (i + 1) xs) more in
    rw (between_more xs start i order inside, drops_one xs i inside, split) (ap (λ runs. joined (Some ns) (numbers_in runs)) (begun_more (between xs start i) (get_or xs i 0) (slice_split is_blank (drop (i + 1) xs))))

joined_none : (a : Option (List (Option ℤ))) → joined a (Some []) ≡ a
joined_none None = refl
joined_none (Some ns) = ap Some (append-nil ns)

pub reads_last : (ns : List (Option ℤ)) (xs : List ℕ) (start : ℕ) → read_on ns (between xs start (length xs)) (drop (length xs) xs) ≡ joined (Some ns) (numbers_of (between xs start (length xs)))
reads_last ns xs start =
    let none : drop (length xs) xs ≡ [] = grind (arith, common_steps) in
    rw (none, append-nil (between xs start (length xs))) (ap (joined (Some ns)) (joined_none (numbers_of (between xs start (length xs)))))

-- the characters of the bytes that are left, where the first of them is the second of two quotes or not
abbrev pub characters_on : Bool → List ℕ → List ℕ
characters_on true rest = characters (drop 1 rest)
characters_on false rest = characters rest

none_left : (doubled : Bool) → [] ≡ characters_on doubled []
none_left true = refl
none_left false = refl

chosen : (doubled : Bool) (next : ℕ) (rest : List ℕ) → (if doubled then characters rest else characters (next ∷ rest)) ≡ characters_on doubled (next ∷ rest)
chosen true next rest = refl
chosen false next rest = refl

pub characters_more : (byte : ℕ) (rest : List ℕ) → characters (byte ∷ rest) ≡ byte ∷ characters_on (byte == quote) rest
characters_more byte [] = ap (λ bytes. byte ∷ bytes) (none_left (byte == quote))
characters_more byte (next ∷ rest) = ap (λ bytes. byte ∷ bytes) (chosen (byte == quote) next rest)

pub skips : (xs : List ℕ) (i : ℕ) → i < length xs → characters_on true (drop i xs) ≡ characters_on false (drop (i + 1) xs)
skips xs i inside = rw (drops_one xs i inside) refl

pub keeps : (xs : List ℕ) (i : ℕ) → i < length xs → characters_on false (drop i xs) ≡ get_or xs i 0 ∷ characters_on (get_or xs i 0 == quote) (drop (i + 1) xs)
keeps xs i inside = rw (drops_one xs i inside) (characters_more (get_or xs i 0) (drop (i + 1) xs))

-- the integers from this place on, behind those before it
abbrev pub integers_on : List ℤ → List (Option ℤ) → Option (List ℤ)
integers_on before ns = option_map (λ more. before ++ more) (all_integers ns)

integers_begin_at : (o : Option (List ℤ)) → o ≡ option_map (λ more. [] ++ more) o
integers_begin_at None = refl
integers_begin_at (Some ns) = refl

pub integers_begin : (ns : List (Option ℤ)) → all_integers ns ≡ integers_on [] ns
integers_begin ns = integers_begin_at (all_integers ns)

integers_more_at : (before : List ℤ) (n : ℤ) (o : Option (List ℤ)) → option_map (λ more. before ++ more) (option_map (λ more. n ∷ more) o) ≡ option_map (λ more. (before ++ n ∷ []) ++ more) o
integers_more_at before n None = refl
integers_more_at before n (Some ns) = ap Some (sym (append_assoc before (n ∷ []) ns))

pub integers_more : (before : List ℤ) (n : ℤ) (ns : List (Option ℤ)) → integers_on before (Some n ∷ ns) ≡ integers_on (before ++ n ∷ []) ns
integers_more before n ns = integers_more_at before n (all_integers ns)

pub integers_end : (before : List ℤ) → integers_on before [] ≡ Some before
integers_end before = ap Some (append-nil before)
