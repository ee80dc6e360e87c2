-- Lemmas on lists of runs: where they begin, that they have one extent, and how far they reach.
use Rattle.std.proofs.Common.{◌≡◌, ℕ, ◌+◌, ◌<◌, ◌≤◌, List, length, drop, refl, ap, arith}
use Rattle.std.proofs.lemmas.List.{length-drop}
use Rattle.std.proofs.lemmas.List.Sums.{prefix_len-le-length}
use Rattle.jwords.specs.Alphabet.{is_number_byte, is_blank}
use Rattle.jwords.specs.Runs.{run_length, after_run, BeginsRun, IsList, last}
use Rattle.jwords.proofs.NumberLists.{run_is_some}

-- a list of runs
pub list_begins : (begins : List ℕ → Type 0) (bytes : List ℕ) (n : ℕ) → IsList begins bytes n → begins bytes
list_begins begins bytes n (last _ b never) = b
list_begins begins bytes n (IsList.more _ rest b l) = b

pub one_list : (begins : List ℕ → Type 0) (bytes : List ℕ) (m n : ℕ) → IsList begins bytes m → IsList begins bytes n → m ≡ n
one_list begins bytes m n (last _ b never) (last _ c none) = refl
one_list begins bytes m n (last _ b never) (IsList.more _ rest c l) = absurd (never (list_begins begins (drop (after_run bytes) bytes) rest l))
one_list begins bytes m n (IsList.more _ rest b l) (last _ c never) = absurd (never (list_begins begins (drop (after_run bytes) bytes) rest l))
one_list begins bytes m n (IsList.more _ rest b l) (IsList.more _ others c k) = ap (λ n. after_run bytes + n) (one_list begins (drop (after_run bytes) bytes) rest others l k)

-- where the run and the blanks behind it end
pub after_run_bound : (bytes : List ℕ) → after_run bytes ≤ length bytes
after_run_bound bytes =
    let r = prefix_len-le-length is_number_byte bytes in
    let b = prefix_len-le-length is_blank (drop (run_length bytes) bytes) in
    let d = length-drop (run_length bytes) bytes in
    omega (arith, r, b, d)

pub list_size : (begins : List ℕ → Type 0) → ((bytes : List ℕ) → begins bytes → BeginsRun bytes) → (bytes : List ℕ) (n : ℕ) → IsList begins bytes n → (0 < n) × (n ≤ length bytes)
list_size begins runs bytes n (last _ b never) = (run_is_some bytes (runs bytes b), prefix_len-le-length is_number_byte bytes)
list_size begins runs bytes n (IsList.more _ rest b l) =
    let s = list_size begins runs (drop (after_run bytes) bytes) rest l in
    let d = length-drop (after_run bytes) bytes in
    let a = after_run_bound bytes in
    ((omega (arith, s)), (omega (arith, s, d, a)))
