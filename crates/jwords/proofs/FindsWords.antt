-- From each place of a line one word or one fault is found.
use Rattle.std.proofs.Common.{◌≡◌, ◌≢◌, ℕ, zero, suc, ◌+◌, ◌-◌, ◌<◌, ◌≤◌, ◌⊎◌, inl, inr, Bool, true, false, not, ◌&&◌, ◌||◌, List, [], ◌∷◌, ◌++◌, length, get_or, take, drop, refl, sym, ap, ◌∙◌, subst, rules, arith, Ok, Err, Result, nat_eq, eqb, lit<}
use Rattle.std.specs.Prelude.{codes, MatchBool, MatchResult}
use Rattle.std.specs.List.{prefix_len}
use Rattle.std.specs.Str.{bytes_eq}
use Rattle.std.proofs.lemmas.List.{length-drop, get_or_past}
use Rattle.std.proofs.lemmas.List.Sums.{prefix_len-le-length}
use Rattle.std.proofs.lemmas.Bool.{cases_eq, cases_lt, cases_Bool, eqb-true, eqb-false, and_parts, or_cases}
use Rattle.jwords.specs.declared.word.Word.{Word}
use Rattle.jwords.specs.declared.word.WordKind.{WordKind}
use Rattle.jwords.specs.declared.word.WordKind.TheVariants.{Name, Inflected, Number, Text, Graphic, Comment}
use Rattle.jwords.specs.declared.word.WordFault.{WordFault}
use Rattle.jwords.specs.declared.word.WordFault.TheVariants.{OpenQuote, Spelling, IllFormed}
use Rattle.jwords.specs.Alphabet.{quote, colon, first, is_letter, is_number_start, is_inflection, is_name_byte}
use Rattle.jwords.specs.Names.{IsName}
use Rattle.jwords.specs.Listed.{is_listed, is_constant, IsInflectedWord}
use Rattle.jwords.specs.Texts.{IsQuoted}
use Rattle.jwords.specs.Runs.{name_length, inflected_length, run_length, symbol_length, IsNoNumber, BeginsNumber, IsList}
use Rattle.jwords.specs.Cuts.{word_of}
use Rattle.jwords.specs.Words.{Judged, FindsText, FindsBareName, FindsInflected, FindsName, FindsNumberList, FindsNumber, FindsSymbol, Finds, is_brace_pair, starts_doubled}
use Rattle.jwords.proofs.Outcomes.{FindsOne}
use Rattle.jwords.proofs.RunLists.{list_begins, one_list, list_size}
use Rattle.jwords.proofs.Forming.{word_gives}
use Rattle.jwords.specs.Formed.{find_word}
use Rattle.jwords.proofs.QuotedTexts.{one_closing, quoted_size}
use Rattle.jwords.proofs.FoundWords.{name_is_some}

-- what is found by a choice
pub match_one : {R : Type 0} (b : Bool) (P Q : R → Type 0) (r s : R) → (P r → P s → r ≡ s) → (Q r → Q s → r ≡ s) → MatchBool b (P r) (Q r) → MatchBool b (P s) (Q s) → r ≡ s
match_one true P Q r s p q x y = p x y
match_one false P Q r s p q x y = q x y

pub match_from : (b : Bool) (P Q R : Type 0) → (b ≡ true → P → R) → (b ≡ false → Q → R) → MatchBool b P Q → R
match_from true P Q R p q x = p refl x
match_from false P Q R p q x = q refl x

judged_one : (r s : Result Word WordFault) (holds : Type 0) (w : Word) (f : WordFault) → Judged r holds w f → Judged s holds w f → r ≡ s
judged_one (Ok x) (Ok y) holds w f p q = ap Ok (p.1 ∙ sym q.1)
judged_one (Ok x) (Err y) holds w f p q = absurd (q.0 p.0)
judged_one (Err x) (Ok y) holds w f p q = absurd (p.0 q.0)
judged_one (Err x) (Err y) holds w f p q = ap Err (p.1 ∙ sym q.1)

-- the word that is found ends where it is said to
abbrev pub Within : ℕ → List ℕ → Word → Type 0
Within at rest w = (at < w.end) × (w.end ≤ at + length rest)

pub within_of : (kind : WordKind) (at size : ℕ) (rest : List ℕ) (w : Word) → w ≡ word_of kind at size → 0 < size → size ≤ length rest → Within at rest w
within_of kind at size rest w e some few = rw e ((omega arith), (omega arith))

text_one : (at : ℕ) (rest : List ℕ) (r s : Result Word WordFault) → FindsText at rest r → FindsText at rest s → r ≡ s
text_one at rest (Ok w) (Ok v) p q = let e : p.0 ≡ q.0 = one_closing rest p.0 q.0 p.1 q.1 in ap Ok (p.2 ∙ ap (word_of Text at) e ∙ sym q.2)
text_one at rest (Ok w) (Err f) p q = absurd (q.0 p.0 p.1)
text_one at rest (Err f) (Ok w) p q = absurd (p.0 q.0 q.1)
text_one at rest (Err f) (Err g) p q = ap Err (p.1 ∙ sym q.1)

number_one : (at : ℕ) (rest : List ℕ) (r s : Result Word WordFault) → FindsNumberList at rest r → FindsNumberList at rest s → r ≡ s
number_one at rest (Ok w) (Ok v) p q = let e : p.0 ≡ q.0 = one_list BeginsNumber rest p.0 q.0 p.1 q.1 in ap Ok (p.2 ∙ ap (word_of Number at) e ∙ sym q.2)
number_one at rest (Ok w) (Err f) p q = absurd ((list_begins BeginsNumber rest p.0 p.1).number q.0)
number_one at rest (Err f) (Ok w) p q = absurd ((list_begins BeginsNumber rest q.0 q.1).number p.0)
number_one at rest (Err f) (Err g) p q = ap Err (p.1 ∙ sym q.1)

-- the rules behind those of quotes and letters, and behind that of quotes
abbrev pub FindsUnlettered : ℕ → List ℕ → Result Word WordFault → Type 0
FindsUnlettered at rest found = MatchBool (is_number_start (first rest)) (FindsNumber at rest found) (FindsSymbol at rest found)

abbrev pub FindsUnquoted : ℕ → List ℕ → Result Word WordFault → Type 0
FindsUnquoted at rest found = MatchBool (is_letter (first rest)) (FindsName at rest found) (FindsUnlettered at rest found)

name_one : (at : ℕ) (rest : List ℕ) (r s : Result Word WordFault) → FindsName at rest r → FindsName at rest s → r ≡ s
name_one at rest r s =
    match_one (nat_eq (inflected_length rest) (name_length rest)) (FindsBareName at rest) (FindsInflected at rest) r s
    (judged_one r s (IsName (take (inflected_length rest) rest)) (word_of Name at (inflected_length rest)) (Spelling at))
    (match_one (bytes_eq (take (inflected_length rest) rest) (codes "NB.")) (λ r. r ≡ Ok (word_of Comment at (length rest)))
    (λ r. Judged r (IsInflectedWord (take (inflected_length rest) rest)) (word_of Inflected at (inflected_length rest)) (Spelling at)) r s
    (λ p q. p ∙ sym q) (judged_one r s (IsInflectedWord (take (inflected_length rest) rest)) (word_of Inflected at (inflected_length rest)) (Spelling at)))

unlettered_one : (at : ℕ) (rest : List ℕ) (r s : Result Word WordFault) → FindsUnlettered at rest r → FindsUnlettered at rest s → r ≡ s
unlettered_one at rest r s =
    match_one (is_number_start (first rest)) (FindsNumber at rest) (FindsSymbol at rest) r s
    (match_one (nat_eq (get_or rest (run_length rest) 0) colon)
    (λ r. Judged r (is_constant (take (run_length rest + 1) rest) ≡ true) (word_of Inflected at (run_length rest + 1)) (Spelling at)) (FindsNumberList at rest) r s
    (judged_one r s (is_constant (take (run_length rest + 1) rest) ≡ true) (word_of Inflected at (run_length rest + 1)) (Spelling at)) (number_one at rest r s))
    (match_one (is_brace_pair rest) (λ r. r ≡ Ok (word_of Graphic at 2))
    (λ r. Judged r (is_listed (take (symbol_length rest) rest) ≡ true) (word_of Graphic at (symbol_length rest)) (Spelling at)) r s
    (λ p q. p ∙ sym q) (judged_one r s (is_listed (take (symbol_length rest) rest) ≡ true) (word_of Graphic at (symbol_length rest)) (Spelling at)))

pub words_one : (at : ℕ) (rest : List ℕ) (r s : Result Word WordFault) → Finds at rest r → Finds at rest s → r ≡ s
words_one at rest r s =
    match_one (nat_eq (first rest) quote) (FindsText at rest) (FindsUnquoted at rest) r s (text_one at rest r s)
    (match_one (is_letter (first rest)) (FindsName at rest) (FindsUnlettered at rest) r s (name_one at rest r s) (unlettered_one at rest r s))

-- how far a word reaches
pub inflected_size : (rest : List ℕ) → inflected_length rest ≤ length rest
inflected_size rest =
    let n = prefix_len-le-length is_name_byte rest in
    let i = prefix_len-le-length is_inflection (drop (name_length rest) rest) in
    let d = length-drop (name_length rest) rest in
    omega (arith, n, i, d)

pub symbol_size : (rest : List ℕ) → 0 < length rest → symbol_length rest ≤ length rest
symbol_size rest l =
    let i = prefix_len-le-length is_inflection (drop 1 rest) in
    let d = length-drop 1 rest in
    omega (arith, i, d, l)

-- where a byte that isn't 0 stands, there are so many bytes
pub stands_within : (bytes : List ℕ) (i b : ℕ) → get_or bytes i 0 ≡ b → 0 < b → i < length bytes
stands_within bytes i b e some = elim (cases_lt i (length bytes)) [
  | inl l ↦ l
  | inr past ↦ (let z : get_or bytes i 0 ≡ 0 = get_or_past bytes i 0 past in absurd (omega (arith, z, e, some)))
]

pub brace_size : (rest : List ℕ) → is_brace_pair rest ≡ true → 2 ≤ length rest
brace_size rest e =
    let p = (and_parts (starts_doubled 123 rest || starts_doubled 125 rest) (not (is_inflection (get_or rest 2 0))) e).0 in
    elim (or_cases (starts_doubled 123 rest) (starts_doubled 125 rest) p) [
      | inl d ↦ (let s = eqb-true (get_or rest 1 0) 123 ((and_parts (nat_eq (first rest) 123) (nat_eq (get_or rest 1 0) 123) d).1) in stands_within rest 1 123 s (lit< tt))
      | inr d ↦ (let s = eqb-true (get_or rest 1 0) 125 ((and_parts (nat_eq (first rest) 125) (nat_eq (get_or rest 1 0) 125) d).1) in stands_within rest 1 125 s (lit< tt))
    ]

-- the word that is found is this one
abbrev IsFound : Word → Word → Type 0
IsFound w v = ◌≡◌ {A = Result Word WordFault} (Ok w) (Ok v)

same_word : (w v : Word) → IsFound w v → w ≡ v
same_word w v e = cc e

name_extent : (at : ℕ) (rest : List ℕ) (w : Word) → 0 < length rest → is_letter (first rest) ≡ true → FindsName at rest (Ok w) → Within at rest w
name_extent at rest w l s =
    let some : 0 < inflected_length rest = (let n = name_is_some rest s in omega (arith, n)) in
    let few = inflected_size rest in
    match_from (nat_eq (inflected_length rest) (name_length rest)) (FindsBareName at rest (Ok w)) (FindsInflected at rest (Ok w)) (Within at rest w)
    (λ e p. within_of Name at (inflected_length rest) rest w p.1 some few)
    (λ e. match_from (bytes_eq (take (inflected_length rest) rest) (codes "NB.")) (IsFound w (word_of Comment at (length rest)))
    (Judged (Ok w) (IsInflectedWord (take (inflected_length rest) rest)) (word_of Inflected at (inflected_length rest)) (Spelling at)) (Within at rest w)
    (λ f p. within_of Comment at (length rest) rest w (same_word w (word_of Comment at (length rest)) p) l (omega arith))
    (λ f p. within_of Inflected at (inflected_length rest) rest w p.1 some few))

unlettered_extent : (at : ℕ) (rest : List ℕ) (w : Word) → 0 < length rest → FindsUnlettered at rest (Ok w) → Within at rest w
unlettered_extent at rest w l =
    match_from (is_number_start (first rest)) (FindsNumber at rest (Ok w)) (FindsSymbol at rest (Ok w)) (Within at rest w)
    (λ s. match_from (nat_eq (get_or rest (run_length rest) 0) colon)
    (Judged (Ok w) (is_constant (take (run_length rest + 1) rest) ≡ true) (word_of Inflected at (run_length rest + 1)) (Spelling at)) (FindsNumberList at rest (Ok w)) (Within at rest w)
    (λ e p. within_of Inflected at (run_length rest + 1) rest w p.1 (omega arith)
    (let b = stands_within rest (run_length rest) colon (eqb-true (get_or rest (run_length rest) 0) colon e) (lit< tt) in omega (arith, b)))
    (λ e p. let z = list_size BeginsNumber (λ bytes b. b.run) rest p.0 p.1 in within_of Number at p.0 rest w p.2 z.0 z.1))
    (λ s. match_from (is_brace_pair rest) (IsFound w (word_of Graphic at 2))
    (Judged (Ok w) (is_listed (take (symbol_length rest) rest) ≡ true) (word_of Graphic at (symbol_length rest)) (Spelling at)) (Within at rest w)
    (λ e p. within_of Graphic at 2 rest w (same_word w (word_of Graphic at 2) p) (lit< tt) (brace_size rest e))
    (λ e p. within_of Graphic at (symbol_length rest) rest w p.1 (omega arith) (symbol_size rest l)))

pub words_extent : (at : ℕ) (rest : List ℕ) (w : Word) → 0 < length rest → Finds at rest (Ok w) → Within at rest w
words_extent at rest w l =
    match_from (nat_eq (first rest) quote) (FindsText at rest (Ok w)) (FindsUnquoted at rest (Ok w)) (Within at rest w)
    (λ e p. let z = quoted_size rest p.0 p.1 in within_of Text at p.0 rest w p.2 z.0 z.1)
    (λ e. match_from (is_letter (first rest)) (FindsName at rest (Ok w)) (FindsUnlettered at rest (Ok w)) (Within at rest w)
    (λ f. name_extent at rest w l f) (λ f. unlettered_extent at rest w l))

pub finds_one : FindsOne WordFault Finds find_word
finds_one = record { one = words_one; gives = word_gives; extent = words_extent }
