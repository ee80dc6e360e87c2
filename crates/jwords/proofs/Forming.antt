-- The functions of word formation find what the rules say, and cut each text as they do.
use Rattle.std.proofs.Common.{◌≡◌, ℕ, zero, suc, ◌+◌, ◌-◌, ◌<◌, ◌≤◌, ◌⊎◌, inl, inr, Bool, true, false, cond, not, ◌||◌, ◌&&◌, Option, Some, None, List, [], ◌∷◌, ◌++◌, length, get_or, take, drop, refl, sym, ap, ◌∙◌, subst, rules, arith, Ok, Err, Result, nat_eq, zero-add}
use Rattle.std.specs.Prelude.{codes, MatchBool, MatchOption, MatchResult, if◌then◌else◌}
use Rattle.std.specs.Bool.{Decides}
use Rattle.std.specs.List.{prefix_len}
use Rattle.std.specs.Str.{bytes_eq}
use Rattle.std.proofs.lemmas.List.{length-drop, drop_more, drop_all}
use Rattle.std.proofs.lemmas.Bool.{cases_lt, cases_Bool, eqb-true, eqb-false}
use Rattle.jwords.specs.declared.word.Word.{Word}
use Rattle.jwords.specs.declared.word.WordKind.TheVariants.{Name, Inflected, Number, Text, Graphic, Comment}
use Rattle.jwords.specs.declared.word.WordFault.{WordFault}
use Rattle.jwords.specs.declared.word.WordFault.TheVariants as fault
use Rattle.jwords.specs.declared.word.SpanFault.{SpanFault}
use Rattle.jwords.specs.declared.word.SpanFault.TheVariants as span
use Rattle.jwords.specs.Alphabet.{quote, colon, first, is_blank, is_letter, is_number_start, is_inflection}
use Rattle.jwords.specs.Names.{IsName}
use Rattle.jwords.specs.Texts.{IsQuoted, nothing}
use Rattle.jwords.specs.Listed.{is_listed, is_constant, IsInflectedWord}
use Rattle.jwords.specs.Runs.{name_length, inflected_length, run_length, symbol_length, BeginsRun, BeginsNumber, IsNoNumber, IsList}
use Rattle.jwords.specs.Cuts.{word_of, IsCut, IsOutcome, StandsAt}
use Rattle.jwords.specs.Words.{Judged, FindsText, FindsBareName, FindsInflected, FindsName, FindsNumberList, FindsNumber, FindsSymbol, Finds, is_brace_pair}
use Rattle.jwords.specs.Spans.{FindsTextSpan, FindsNameSpan, FindsRunSpan, FindsRunList, FindsByteSpan, FindsSpan}
use Rattle.jwords.specs.Formed.{text_found, judged, find_name, find_number, find_symbol, find_word, find_name_span, find_run_span, find_byte_span, find_span, closing_size, is_named_word, is_listed_inflected, is_number_run, begins_number, begins_run, list_length}
use Rattle.jwords.proofs.QuotedTexts.{from_quote}
use Rattle.jwords.proofs.Deciders.{Closes, closing_told, name_decides, inflected_decides, number_decides, no_number_from, begins_decides, run_decides, list_is}

-- a choice is met by what it chooses
choice_gives : {R : Type 0} (b : Bool) (P Q : R → Type 0) (x y : R) → (b ≡ true → P x) → (b ≡ false → Q y) → MatchBool b (P (cond b x y)) (Q (cond b x y))
choice_gives true P Q x y p q = p refl
choice_gives false P Q x y p q = q refl

judged_gives : (b : Bool) (holds : Type 0) (word : Word) (at : ℕ) → Decides b holds → Judged (judged b word at) holds word (fault.Spelling at)
judged_gives true holds word at d = (d.0 refl, refl)
judged_gives false holds word at d = ((λ h. cc (d.1 h)), refl)

flag_decides : (b : Bool) → Decides b (b ≡ true)
flag_decides b = ((λ e. e), (λ e. e))

text_gives : (at : ℕ) (rest : List ℕ) → 0 < length rest → nat_eq (first rest) quote ≡ true → FindsText at rest (text_found at (fault.OpenQuote at) (closing_size false (drop 1 rest)))
text_gives at rest l e = by_size (closing_size false (drop 1 rest)) (closing_told (drop 1 rest) [] false nothing)
  where
    whole : rest ≡ quote ∷ drop 1 rest
    whole = from_quote rest l (eqb-true (first rest) quote e)

    by_size : (n : Option ℕ) → Closes [] (drop 1 rest) n → FindsText at rest (text_found at (fault.OpenQuote at) n)
    by_size None never = ((λ size q. never size (subst (λ (xs : List ℕ). IsQuoted xs size) whole q)), refl)
    by_size (Some k) q = (k + 1, subst (λ (n : ℕ). IsQuoted rest n) (ap (λ n. n + 1) (zero-add k)) (subst (λ (xs : List ℕ). IsQuoted xs (0 + k + 1)) (sym whole) q), refl)

name_gives : (at : ℕ) (rest : List ℕ) → FindsName at rest (find_name at rest)
unfolding find_name
name_gives at rest =
    choice_gives (nat_eq (inflected_length rest) (name_length rest)) (FindsBareName at rest) (FindsInflected at rest) _ _
    (λ e. judged_gives (is_named_word (take (inflected_length rest) rest)) (IsName (take (inflected_length rest) rest)) (word_of Name at (inflected_length rest)) at (name_decides (take (inflected_length rest) rest)))
    (λ e. choice_gives (bytes_eq (take (inflected_length rest) rest) (codes "NB.")) (λ r. r ≡ Ok (word_of Comment at (length rest)))
    (λ r. Judged r (IsInflectedWord (take (inflected_length rest) rest)) (word_of Inflected at (inflected_length rest)) (fault.Spelling at)) _ _
    (λ f. refl)
    (λ f. judged_gives (is_listed_inflected (take (inflected_length rest) rest)) (IsInflectedWord (take (inflected_length rest) rest)) (word_of Inflected at (inflected_length rest)) at (inflected_decides (take (inflected_length rest) rest))))

list_gives : (at : ℕ) (rest : List ℕ) → is_number_start (first rest) ≡ true → nat_eq (get_or rest (run_length rest) 0) colon ≡ false →
    FindsNumberList at rest (cond (is_number_run (take (run_length rest) rest)) (Ok (word_of Number at (list_length begins_number (length rest) rest))) (Err (fault.IllFormed at)))
list_gives at rest s n = by_number (is_number_run (take (run_length rest) rest)) refl
  where
    by_number : (b : Bool) → is_number_run (take (run_length rest) rest) ≡ b → FindsNumberList at rest (cond b (Ok (word_of Number at (list_length begins_number (length rest) rest))) (Err (fault.IllFormed at)))
    by_number true e =
        let b : BeginsNumber rest = record { run = record { starts = s; ends = eqb-false (get_or rest (run_length rest) 0) colon n }; number = (number_decides (take (run_length rest) rest)).0 e } in
        (list_length begins_number (length rest) rest, list_is begins_number BeginsNumber begins_decides (λ bytes c. c.run) (length rest) rest (omega arith) b, refl)
    by_number false e = (no_number_from (take (run_length rest) rest) e, refl)

number_gives : (at : ℕ) (rest : List ℕ) → is_number_start (first rest) ≡ true → FindsNumber at rest (find_number at rest)
unfolding find_number
number_gives at rest s =
    choice_gives (nat_eq (get_or rest (run_length rest) 0) colon)
    (λ r. Judged r (is_constant (take (run_length rest + 1) rest) ≡ true) (word_of Inflected at (run_length rest + 1)) (fault.Spelling at)) (FindsNumberList at rest) _ _
    (λ e. judged_gives (is_constant (take (run_length rest + 1) rest)) (is_constant (take (run_length rest + 1) rest) ≡ true) (word_of Inflected at (run_length rest + 1)) at
    (flag_decides (is_constant (take (run_length rest + 1) rest))))
    (list_gives at rest s)

symbol_gives : (at : ℕ) (rest : List ℕ) → FindsSymbol at rest (find_symbol at rest)
unfolding find_symbol
symbol_gives at rest =
    choice_gives (is_brace_pair rest) (λ r. r ≡ Ok (word_of Graphic at 2))
    (λ r. Judged r (is_listed (take (symbol_length rest) rest) ≡ true) (word_of Graphic at (symbol_length rest)) (fault.Spelling at)) _ _
    (λ e. refl)
    (λ e. judged_gives (is_listed (take (symbol_length rest) rest)) (is_listed (take (symbol_length rest) rest) ≡ true) (word_of Graphic at (symbol_length rest)) at
    (flag_decides (is_listed (take (symbol_length rest) rest))))

-- the rules behind those of quotes and letters, and behind that of quotes
abbrev FindsUnlettered : ℕ → List ℕ → Result Word WordFault → Type 0
FindsUnlettered at rest found = MatchBool (is_number_start (first rest)) (FindsNumber at rest found) (FindsSymbol at rest found)

abbrev FindsUnquoted : ℕ → List ℕ → Result Word WordFault → Type 0
FindsUnquoted at rest found = MatchBool (is_letter (first rest)) (FindsName at rest found) (FindsUnlettered at rest found)

pub word_gives : (at : ℕ) (rest : List ℕ) → 0 < length rest → Finds at rest (find_word at rest)
unfolding find_word
word_gives at rest l =
    choice_gives (nat_eq (first rest) quote) (FindsText at rest) (FindsUnquoted at rest) _ _ (text_gives at rest l)
    (λ e. choice_gives (is_letter (first rest)) (FindsName at rest) (FindsUnlettered at rest) _ _ (λ f. name_gives at rest)
    (λ f. choice_gives (is_number_start (first rest)) (FindsNumber at rest) (FindsSymbol at rest) _ _ (number_gives at rest) (λ g. symbol_gives at rest)))

-- ---- monadic `;:`
text_span_gives : (at : ℕ) (rest : List ℕ) → 0 < length rest → nat_eq (first rest) quote ≡ true → FindsTextSpan at rest (text_found at (span.OpenQuote at) (closing_size false (drop 1 rest)))
text_span_gives at rest l e = by_size (closing_size false (drop 1 rest)) (closing_told (drop 1 rest) [] false nothing)
  where
    whole : rest ≡ quote ∷ drop 1 rest
    whole = from_quote rest l (eqb-true (first rest) quote e)

    by_size : (n : Option ℕ) → Closes [] (drop 1 rest) n → FindsTextSpan at rest (text_found at (span.OpenQuote at) n)
    by_size None never = ((λ size q. never size (subst (λ (xs : List ℕ). IsQuoted xs size) whole q)), refl)
    by_size (Some k) q = (k + 1, subst (λ (n : ℕ). IsQuoted rest n) (ap (λ n. n + 1) (zero-add k)) (subst (λ (xs : List ℕ). IsQuoted xs (0 + k + 1)) (sym whole) q), refl)

name_span_gives : (at : ℕ) (rest : List ℕ) → FindsNameSpan at rest (find_name_span at rest)
unfolding find_name_span
name_span_gives at rest =
    choice_gives (bytes_eq (take (inflected_length rest) rest) (codes "NB.")) (λ r. r ≡ Ok (word_of Comment at (length rest)))
    (λ r. r ≡ Ok (word_of (if nat_eq (inflected_length rest) (name_length rest) then Name else Inflected) at (inflected_length rest))) _ _ (λ f. refl) (λ f. refl)

run_span_gives : (at : ℕ) (rest : List ℕ) → is_number_start (first rest) ≡ true → FindsRunSpan at rest (find_run_span at rest)
unfolding find_run_span
run_span_gives at rest s =
    choice_gives (nat_eq (get_or rest (run_length rest) 0) colon)
    (λ r. r ≡ Ok (word_of Inflected at (run_length rest + prefix_len is_inflection (drop (run_length rest) rest)))) (FindsRunList at rest) _ _
    (λ e. refl)
    (λ e.
    let b : BeginsRun rest = record { starts = s; ends = eqb-false (get_or rest (run_length rest) 0) colon e } in
    (list_length begins_run (length rest) rest, list_is begins_run BeginsRun run_decides (λ bytes c. c) (length rest) rest (omega arith) b, refl))

byte_span_gives : (at : ℕ) (rest : List ℕ) → FindsByteSpan at rest (find_byte_span at rest)
unfolding find_byte_span
byte_span_gives at rest =
    choice_gives (is_brace_pair rest) (λ r. r ≡ Ok (word_of Graphic at 2)) (λ r. r ≡ Ok (word_of Graphic at (symbol_length rest))) _ _ (λ e. refl) (λ e. refl)

abbrev FindsUnletteredSpan : ℕ → List ℕ → Result Word SpanFault → Type 0
FindsUnletteredSpan at rest found = MatchBool (is_number_start (first rest)) (FindsRunSpan at rest found) (FindsByteSpan at rest found)

abbrev FindsUnquotedSpan : ℕ → List ℕ → Result Word SpanFault → Type 0
FindsUnquotedSpan at rest found = MatchBool (is_letter (first rest)) (FindsNameSpan at rest found) (FindsUnletteredSpan at rest found)

pub span_gives : (at : ℕ) (rest : List ℕ) → 0 < length rest → FindsSpan at rest (find_span at rest)
unfolding find_span
span_gives at rest l =
    choice_gives (nat_eq (first rest) quote) (FindsTextSpan at rest) (FindsUnquotedSpan at rest) _ _ (text_span_gives at rest l)
    (λ e. choice_gives (is_letter (first rest)) (FindsNameSpan at rest) (FindsUnletteredSpan at rest) _ _ (λ f. name_span_gives at rest)
    (λ f. choice_gives (is_number_start (first rest)) (FindsRunSpan at rest) (FindsByteSpan at rest) _ _ (run_span_gives at rest) (λ g. byte_span_gives at rest)))
