-- The lines of a text, one after another, and their words.
use Rattle.std.proofs.Common.{◌≡◌, ◌≢◌, ℕ, zero, suc, ◌+◌, ◌<◌, ◌≤◌, true, false, List, [], ◌∷◌, ◌++◌, length, get_or, take, drop, refl, sym, ap, subst, ◌∙◌, arith, Ok, Err, Result}
use Rattle.std.specs.List.{slice_split, onto_first, sum_by}
use Rattle.std.proofs.lemmas.Bool.Decides.{nat_tests}
use Rattle.std.proofs.lemmas.List.{append_assoc, length-append, length-drop}
use Rattle.std.proofs.lemmas.Grind.{common_steps}
use Rattle.std.proofs.lemmas.List.Sums.{sum_by-take-le, sum_by-take-drop}
use Rattle.std.proofs.lemmas.List.Splits.{slice_split-cons_yes, slice_split-cons_no}
use Rattle.jdata.specs.declared.fault.Fault.{Fault}
use Rattle.jwords.specs.Cuts.{IsCut, nothing, blank, word}
use Rattle.jwords.specs.Words.{Finds, Words}
use Rattle.jwords.specs.declared.word.Word.{Word}
use Rattle.jwords.proofs.FindsWords.{words_extent}
use Rattle.jexplicit.specs.Body.{ends_line, cut_line, cut_all, before, words_in}
use Rattle.jexplicit.specs.declared.body.CutLine.{CutLine}

few_words : (text : List ℕ) (at : ℕ) (words : List Word) → IsCut Finds text at words → length words ≤ at
few_words text at words nothing = omega arith
few_words text at words (blank front _ c l b) = let h = few_words text front words c in omega (arith, h)
few_words text at words (word front ws next c s k) =
    let h : length ws ≤ front = few_words text front ws c in
    let l : 0 < length (drop front text) = omega (arith, s.within, length-drop front text) in
    let e = words_extent front (drop front text) next l k in
    omega (arith, h, e.0, length-append ws (next ∷ []))

-- a line has at most as many words as bytes
pub fewer_words : (text : List ℕ) (words : List Word) → Words text words → length words ≤ length text
fewer_words text words c = few_words text (length text) words c

-- the first line ends at the first line feed
pub first_end : (n : ℕ) (text : List ℕ) → n < length text → get_or text n 0 ≡ 10 → ((k : ℕ) → k < n → get_or text k 0 ≢ 10)
    → slice_split ends_line text ≡ take n text ∷ slice_split ends_line (drop (suc n) text)
first_end n [] inside ends none = absurd (omega (arith, inside))
first_end zero (b ∷ rest) inside ends none = let y : ends_line b ≡ true = grind (arith, nat_tests) in slice_split-cons_yes ends_line b rest y
first_end (suc n) (b ∷ rest) inside ends none =
    let d : b ≢ 10 = none 0 (omega arith) in
    let m : ends_line b ≡ false = grind (arith, nat_tests) in
    slice_split-cons_no ends_line b rest m ∙ ap (onto_first b) (first_end n rest (omega (arith, inside)) ends (λ k h. none (suc k) (omega (arith, h))))

pub first_at : (n : ℕ) (text line rest : List ℕ) → line ≡ take n text → rest ≡ drop (suc n) text → n < length text → get_or text n 0 ≡ 10 → ((k : ℕ) → k < n → get_or text k 0 ≢ 10)
    → slice_split ends_line text ≡ line ∷ slice_split ends_line rest
first_at n text line rest e f inside ends none =
    first_end n text inside ends none ∙ ap (λ front. front ∷ slice_split ends_line (drop (suc n) text)) (sym e) ∙ ap (λ back. line ∷ slice_split ends_line back) (sym f)

-- a text without a line feed is one line
pub no_end : (text : List ℕ) → ((k : ℕ) → k < length text → get_or text k 0 ≢ 10) → slice_split ends_line text ≡ text ∷ []
no_end [] none = refl
no_end (b ∷ rest) none =
    let d : b ≢ 10 = none 0 (omega arith) in
    let m : ends_line b ≡ false = grind (arith, nat_tests) in
    slice_split-cons_no ends_line b rest m ∙ ap (onto_first b) (no_end rest (λ k h. none (suc k) (omega (arith, h))))

-- the lines that are cut, with what comes of the others
abbrev pub behind : List CutLine → Result (List CutLine) Fault → Result (List CutLine) Fault
behind done (Err why) = Err why
behind done (Ok more) = Ok (done ++ more)

behind_before : (done : List CutLine) (line : CutLine) (rest : Result (List CutLine) Fault) → behind done (before (Ok line) rest) ≡ behind (done ++ line ∷ []) rest
behind_before done line (Err why) = refl
behind_before done line (Ok more) = ap Ok (sym (append_assoc done (line ∷ []) more))

pub goes_past : (done : List CutLine) (line : CutLine) (bytes : List ℕ) (parts rest : List (List ℕ)) → parts ≡ bytes ∷ rest → cut_line bytes ≡ Ok line
    → behind done (cut_all parts) ≡ behind (done ++ line ∷ []) (cut_all rest)
goes_past done line bytes parts rest p e =
    ap (λ ps. behind done (cut_all ps)) p ∙ ap (λ l. behind done (before l (cut_all rest))) e ∙ behind_before done line (cut_all rest)

pub stops_at : (done : List CutLine) (why : Fault) (bytes : List ℕ) (parts rest : List (List ℕ)) → parts ≡ bytes ∷ rest → cut_line bytes ≡ Err why
    → behind done (cut_all parts) ≡ Err why
stops_at done why bytes parts rest p e = ap (λ ps. behind done (cut_all ps)) p ∙ ap (λ l. behind done (before l (cut_all rest))) e

pub behind_none : (r : Result (List CutLine) Fault) → behind [] r ≡ r
behind_none (Err why) = refl
behind_none (Ok more) = refl

-- two parts of lines that stand apart have at most as many words as all
pub words_apart : (lines : List CutLine) (m d : ℕ) → m ≤ d → words_in (take m lines) + words_in (drop d lines) ≤ words_in lines
words_apart lines m d h =
    let f : CutLine → ℕ = λ line. length line.words in
    let e : take m (take d lines) ≡ take m lines = grind (arith, common_steps) in
    let a = sum_by-take-le f (take d lines) m in
    let b = sum_by-take-drop f lines d in
    omega (arith, subst (λ ls. sum_by f ls ≤ sum_by f (take d lines)) e a, b)
