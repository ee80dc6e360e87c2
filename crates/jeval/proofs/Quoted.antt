-- How the names of a quoted target are read one byte further, and its shares one place further.
use Rattle.std.proofs.Common.{◌≡◌, ◌≢◌, ◌==◌, ◌&&◌, nat_lt, Option, Some, None, ◌≤◌, ◌<◌, ◌+◌, ◌-◌, ℕ, Bool, true, false, cond, List, [], ◌∷◌, ◌++◌, drop, length, get_or, filter, map, Result, Ok, Err, arith, refl, ap, sym, ◌∙◌}
use Rattle.std.proofs.lemmas.Bool.Decides.{nat_tests}
use Rattle.std.proofs.lemmas.Grind.{common_steps}
use Rattle.std.proofs.lemmas.List.{append_assoc, append-nil}
use Rattle.std.specs.List.{slice_split}
use Rattle.std.proofs.lemmas.List.Splits.{slice_split-cons_yes, slice_split-cons_no}
use Rattle.std.specs.List.{range_with_len}
use Rattle.jdata.specs.Firsts.{all_or_first}
use Rattle.jdata.specs.declared.fault.Fault.{Fault}
use Rattle.jdata.specs.Noun.{atoms, kind, shape}
use Rattle.jdata.specs.declared.noun.Atom.TheVariants as atom
use Rattle.jdata.specs.declared.noun.Kind.TheVariants as sort
use Rattle.jdata.specs.declared.noun.Noun.{Noun}
use Rattle.jframe.proofs.Firsts.{places_until}
use Rattle.jterm.specs.declared.term.Term.{Term}
use Rattle.jwords.specs.Alphabet.{is_blank}
use Rattle.jeval.specs.declared.end.EvalEnd.{EvalEnd}
use Rattle.jeval.specs.declared.end.EvalEnd.TheVariants as end
use Rattle.jeval.specs.Made.{Answers}
use Rattle.jeval.specs.Targets.{byte_in, byte_of, is_char, is_some_run, text_of}
use Rattle.jeval.proofs.Splitting.{between, between_more, begun, begun_more, drops_one}

-- the names before, and those that are read from this place, where a run was begun
abbrev pub runs_on : List (List ℕ) → List ℕ → List ℕ → List (List ℕ)
runs_on names run rest = names ++ filter is_some_run (begun run (slice_split is_blank rest))

first_run : (b : Bool) (run : List ℕ) (others : List (List ℕ)) → cond b (run ∷ others) others ≡ cond b (run ∷ []) [] ++ others
first_run true run others = refl
first_run false run others = refl

filter_first : (run : List ℕ) (more : List (List ℕ)) → filter is_some_run (run ∷ more) ≡ filter is_some_run (run ∷ []) ++ filter is_some_run more
filter_first run more = first_run (is_some_run run) run (filter is_some_run more)

filter_begun : (more : List (List ℕ)) → filter is_some_run (begun [] more) ≡ filter is_some_run more
filter_begun [] = refl
filter_begun (first ∷ more) = refl

pub runs_blank : (names : List (List ℕ)) (xs : List ℕ) (start i : ℕ) → i < length xs → is_blank (get_or xs i 0) ≡ true
    → runs_on names (between xs start i) (drop i xs) ≡ (names ++ filter is_some_run (between xs start i ∷ [])) ++ filter is_some_run (slice_split is_blank (drop (i + 1) xs))
runs_blank names xs start i inside blank =
    let split = slice_split-cons_yes is_blank (get_or xs i 0) (drop (i + 1) xs) blank in
    rw (drops_one xs i inside, split, append-nil (between xs start i))
    (ap (λ l. names ++ l) (filter_first (between xs start i) (slice_split is_blank (drop (i + 1) xs))) ∙ sym (append_assoc names (filter is_some_run (between xs start i ∷ [])) (filter is_some_run (slice_split is_blank (drop (i + 1) xs)))))

pub runs_next : (names : List (List ℕ)) (xs : List ℕ) (i : ℕ) → runs_on names (between xs i i) (drop i xs) ≡ names ++ filter is_some_run (slice_split is_blank (drop i xs))
runs_next names xs i =
    let none : i - i ≡ 0 = omega arith in
    rw none (ap (λ l. names ++ l) (filter_begun (slice_split is_blank (drop i xs))))

pub runs_more : (names : List (List ℕ)) (xs : List ℕ) (start i : ℕ) → start ≤ i → i < length xs → is_blank (get_or xs i 0) ≡ false
    → runs_on names (between xs start i) (drop i xs) ≡ runs_on names (between xs start (i + 1)) (drop (i + 1) xs)
runs_more names xs start i order inside more =
    let split = slice_split-cons_no is_blank (get_or xs i 0) (drop (i + 1) xs) more in
    rw (between_more xs start i order inside, drops_one xs i inside, split) (ap (λ l. names ++ filter is_some_run l) (begun_more (between xs start i) (get_or xs i 0) (slice_split is_blank (drop (i + 1) xs))))

pub runs_last : (names : List (List ℕ)) (xs : List ℕ) (start : ℕ) → runs_on names (between xs start (length xs)) (drop (length xs) xs) ≡ names ++ filter is_some_run (between xs start (length xs) ∷ [])
runs_last names xs start =
    let none : drop (length xs) xs ≡ [] = grind (arith, common_steps) in
    rw (none, append-nil (between xs start (length xs))) refl

-- the first fault of what is done at each place
pub answers_until : (each : ℕ → Result Term Fault) (i n : ℕ) (vs : List Term) (why : EvalEnd) → all_or_first (map each (range_with_len 0 i)) ≡ Ok vs → i < n → Answers (each i) (Err why)
    → Answers (all_or_first (map each (range_with_len 0 n))) (Err why)
answers_until each i n vs (end.Fault f) e below here = places_until each i n vs f e below here
answers_until each i n vs (end.Halt halt) e below here = here

-- characters are read as their codes
bytes_back : (bytes : List ℕ) → map byte_of (map atom.Char bytes) ≡ bytes
bytes_back [] = refl
bytes_back (b ∷ bytes) = (λ i. byte_in (atom.outs-Char b i) ∷ bytes_back bytes i)

pub characters_read : (v : Noun) (bytes : List ℕ) → kind v ≡ sort.Char → atoms v ≡ map atom.Char bytes → length (atoms v) ≢ 0 → length (shape v) < 2 → Some bytes ≡ text_of v
characters_read v bytes k a some few =
    let first : (length (atoms v) == 0) ≡ false = grind (arith, nat_tests) in
    let short : nat_lt (length (shape v)) 2 ≡ true = grind (arith, nat_tests) in
    let second : (is_char (kind v) && nat_lt (length (shape v)) 2) ≡ true = rw (k, short) refl in
    let third : Option (List ℕ) = Some (map byte_of (atoms v)) in
    sym (ap (λ b. cond b (Some []) (cond (is_char (kind v) && nat_lt (length (shape v)) 2) third None)) first ∙ ap (λ b. cond b third None) second ∙ ap Some (ap (map byte_of) a ∙ bytes_back bytes))
