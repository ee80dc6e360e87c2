-- From each place of a text monadic `;:` finds one word or one open quote.
use Rattle.std.proofs.Common.{◌≡◌, ℕ, ◌+◌, ◌<◌, ◌≤◌, inl, inr, Bool, true, false, List, [], ◌∷◌, length, get_or, take, drop, refl, sym, ap, ◌∙◌, rules, arith, Ok, Err, Result, nat_eq, eqb, lit<}
use Rattle.std.specs.Prelude.{codes, MatchBool, if◌then◌else◌}
use Rattle.std.specs.List.{prefix_len}
use Rattle.std.specs.Str.{bytes_eq}
use Rattle.std.proofs.lemmas.List.{length-drop}
use Rattle.std.proofs.lemmas.List.Sums.{prefix_len-le-length}
use Rattle.std.proofs.lemmas.Bool.{eqb-true, eqb-false}
use Rattle.jwords.specs.declared.word.Word.{Word}
use Rattle.jwords.specs.declared.word.WordKind.TheVariants.{Name, Inflected, Number, Text, Graphic, Comment}
use Rattle.jwords.specs.declared.word.SpanFault.{SpanFault}
use Rattle.jwords.specs.declared.word.SpanFault.TheVariants.{OpenQuote}
use Rattle.jwords.specs.Alphabet.{quote, colon, first, is_letter, is_number_start, is_number_byte, is_inflection}
use Rattle.jwords.specs.Texts.{IsQuoted}
use Rattle.jwords.specs.Runs.{name_length, inflected_length, run_length, symbol_length, BeginsRun, IsList}
use Rattle.jwords.specs.Cuts.{word_of}
use Rattle.jwords.specs.Words.{is_brace_pair}
use Rattle.jwords.specs.Spans.{FindsTextSpan, FindsNameSpan, FindsRunSpan, FindsRunList, FindsByteSpan, FindsSpan}
use Rattle.jwords.proofs.Outcomes.{FindsOne}
use Rattle.jwords.proofs.RunLists.{one_list, list_size}
use Rattle.jwords.proofs.Forming.{span_gives}
use Rattle.jwords.specs.Formed.{find_span}
use Rattle.jwords.proofs.QuotedTexts.{one_closing, quoted_size}
use Rattle.jwords.proofs.FoundWords.{name_is_some}
use Rattle.jwords.proofs.FindsWords.{match_one, match_from, Within, within_of, inflected_size, symbol_size, stands_within, brace_size}
use Rattle.jwords.proofs.NumberLists.{prefix_some, number_start_is_byte, zero_is_no_number_byte}

-- the rules behind those of quotes and letters, and behind that of quotes
abbrev FindsUnlettered : ℕ → List ℕ → Result Word SpanFault → Type 0
FindsUnlettered at rest found = MatchBool (is_number_start (first rest)) (FindsRunSpan at rest found) (FindsByteSpan at rest found)

abbrev FindsUnquoted : ℕ → List ℕ → Result Word SpanFault → Type 0
FindsUnquoted at rest found = MatchBool (is_letter (first rest)) (FindsNameSpan at rest found) (FindsUnlettered at rest found)

-- a name or an inflected word, and a run with its inflection
abbrev named : ℕ → List ℕ → Word
named at rest = word_of (if nat_eq (inflected_length rest) (name_length rest) then Name else Inflected) at (inflected_length rest)

abbrev marked : ℕ → List ℕ → Word
marked at rest = word_of Inflected at (run_length rest + prefix_len is_inflection (drop (run_length rest) rest))

-- the word that is found is this one
abbrev IsFound : Word → Word → Type 0
IsFound w v = ◌≡◌ {A = Result Word SpanFault} (Ok w) (Ok v)

same_word : (w v : Word) → IsFound w v → w ≡ v
same_word w v e = cc e

text_one : (at : ℕ) (rest : List ℕ) (r s : Result Word SpanFault) → FindsTextSpan at rest r → FindsTextSpan at rest s → r ≡ s
text_one at rest (Ok w) (Ok v) p q = let e : p.0 ≡ q.0 = one_closing rest p.0 q.0 p.1 q.1 in ap Ok (p.2 ∙ ap (word_of Text at) e ∙ sym q.2)
text_one at rest (Ok w) (Err f) p q = absurd (q.0 p.0 p.1)
text_one at rest (Err f) (Ok w) p q = absurd (p.0 q.0 q.1)
text_one at rest (Err f) (Err g) p q = ap Err (p.1 ∙ sym q.1)

list_one : (at : ℕ) (rest : List ℕ) (r s : Result Word SpanFault) → FindsRunList at rest r → FindsRunList at rest s → r ≡ s
list_one at rest (Ok w) (Ok v) p q = let e : p.0 ≡ q.0 = one_list BeginsRun rest p.0 q.0 p.1 q.1 in ap Ok (p.2 ∙ ap (word_of Number at) e ∙ sym q.2)
list_one at rest (Ok w) (Err f) p q = absurd q
list_one at rest (Err f) s p q = absurd p

pub spans_at_most_one : (at : ℕ) (rest : List ℕ) (r s : Result Word SpanFault) → FindsSpan at rest r → FindsSpan at rest s → r ≡ s
spans_at_most_one at rest r s =
    match_one (nat_eq (first rest) quote) (FindsTextSpan at rest) (FindsUnquoted at rest) r s (text_one at rest r s)
    (match_one (is_letter (first rest)) (FindsNameSpan at rest) (FindsUnlettered at rest) r s
    (match_one (bytes_eq (take (inflected_length rest) rest) (codes "NB.")) (λ r. r ≡ Ok (word_of Comment at (length rest))) (λ r. r ≡ Ok (named at rest)) r s
    (λ p q. p ∙ sym q) (λ p q. p ∙ sym q))
    (match_one (is_number_start (first rest)) (FindsRunSpan at rest) (FindsByteSpan at rest) r s
    (match_one (nat_eq (get_or rest (run_length rest) 0) colon) (λ r. r ≡ Ok (marked at rest)) (FindsRunList at rest) r s (λ p q. p ∙ sym q) (list_one at rest r s))
    (match_one (is_brace_pair rest) (λ r. r ≡ Ok (word_of Graphic at 2)) (λ r. r ≡ Ok (word_of Graphic at (symbol_length rest))) r s (λ p q. p ∙ sym q) (λ p q. p ∙ sym q))))

-- how far a word reaches
marked_size : (rest : List ℕ) → run_length rest + prefix_len is_inflection (drop (run_length rest) rest) ≤ length rest
marked_size rest =
    let n = prefix_len-le-length is_number_byte rest in
    let i = prefix_len-le-length is_inflection (drop (run_length rest) rest) in
    let d = length-drop (run_length rest) rest in
    omega (arith, n, i, d)

name_extent : (at : ℕ) (rest : List ℕ) (w : Word) → 0 < length rest → is_letter (first rest) ≡ true → FindsNameSpan at rest (Ok w) → Within at rest w
name_extent at rest w l s =
    let some : 0 < inflected_length rest = (let n = name_is_some rest s in omega (arith, n)) in
    match_from (bytes_eq (take (inflected_length rest) rest) (codes "NB.")) (IsFound w (word_of Comment at (length rest))) (IsFound w (named at rest)) (Within at rest w)
    (λ f p. within_of Comment at (length rest) rest w (same_word w (word_of Comment at (length rest)) p) l (omega arith))
    (λ f p. within_of (if nat_eq (inflected_length rest) (name_length rest) then Name else Inflected) at (inflected_length rest) rest w
    (same_word w (named at rest) p) some (inflected_size rest))

unlettered_extent : (at : ℕ) (rest : List ℕ) (w : Word) → 0 < length rest → FindsUnlettered at rest (Ok w) → Within at rest w
unlettered_extent at rest w l =
    match_from (is_number_start (first rest)) (FindsRunSpan at rest (Ok w)) (FindsByteSpan at rest (Ok w)) (Within at rest w)
    (λ s. match_from (nat_eq (get_or rest (run_length rest) 0) colon) (IsFound w (marked at rest)) (FindsRunList at rest (Ok w)) (Within at rest w)
    (λ e p. within_of Inflected at (run_length rest + prefix_len is_inflection (drop (run_length rest) rest)) rest w (same_word w (marked at rest) p)
    (let n = prefix_some is_number_byte rest zero_is_no_number_byte (number_start_is_byte (first rest) s) in omega (arith, n)) (marked_size rest))
    (λ e p. let z = list_size BeginsRun (λ bytes b. b) rest p.0 p.1 in within_of Number at p.0 rest w p.2 z.0 z.1))
    (λ s. match_from (is_brace_pair rest) (IsFound w (word_of Graphic at 2)) (IsFound w (word_of Graphic at (symbol_length rest))) (Within at rest w)
    (λ e p. within_of Graphic at 2 rest w (same_word w (word_of Graphic at 2) p) (lit< tt) (brace_size rest e))
    (λ e p. within_of Graphic at (symbol_length rest) rest w (same_word w (word_of Graphic at (symbol_length rest)) p) (omega arith) (symbol_size rest l)))

pub spans_extent : (at : ℕ) (rest : List ℕ) (w : Word) → 0 < length rest → FindsSpan at rest (Ok w) → Within at rest w
spans_extent at rest w l =
    match_from (nat_eq (first rest) quote) (FindsTextSpan at rest (Ok w)) (FindsUnquoted at rest (Ok w)) (Within at rest w)
    (λ e p. let z = quoted_size rest p.0 p.1 in within_of Text at p.0 rest w p.2 z.0 z.1)
    (λ e. match_from (is_letter (first rest)) (FindsNameSpan at rest (Ok w)) (FindsUnlettered at rest (Ok w)) (Within at rest w)
    (λ f. name_extent at rest w l f) (λ f. unlettered_extent at rest w l))

pub spans_one : FindsOne SpanFault FindsSpan find_span
spans_one = record { one = spans_at_most_one; gives = span_gives; extent = spans_extent }
