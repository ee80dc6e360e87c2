-- Word formation as a function of the line, for definitions that need the words themselves. A law says that it
-- gives the one outcome that each line has by the rules, and each text by those of monadic `;:`.
use Rattle.std.specs.Prelude.{ℕ, zero, suc, ◌+◌, ◌-◌, ◌==◌, ◌&&◌, ◌||◌, not, Bool, true, false, if◌then◌else◌, List, [], ◌∷◌, length, take, drop, codes, slice_index, Option, Some, None, is_some, option_map, option_and_then, Result, Ok, Err}
use Rattle.std.specs.List.{prefix_len}
use Rattle.std.specs.Str.{bytes_eq}
use Rattle.jwords.specs.declared.naming.Place.{Place}
use Rattle.jwords.specs.declared.naming.Place.TheVariants.{Start, Inside, Underscore}
use Rattle.jwords.specs.declared.word.Word.{Word}
use Rattle.jwords.specs.declared.word.WordKind.TheVariants.{Name, Inflected, Number, Text, Graphic, Comment}
use Rattle.jwords.specs.declared.word.WordFault.{WordFault}
use Rattle.jwords.specs.declared.word.WordFault.TheVariants as fault
use Rattle.jwords.specs.declared.word.SpanFault.{SpanFault}
use Rattle.jwords.specs.declared.word.SpanFault.TheVariants as span
use Rattle.jwords.specs.Alphabet.{quote, colon, point, underscore, first, is_blank, is_letter, is_number_start, is_inflection}
use Rattle.jwords.specs.Numbers.{is_number}
use Rattle.jwords.specs.Places.{place_after, started}
use Rattle.jwords.specs.Listed.{is_among, is_one_of, is_listed, is_constant, control_words}
use Rattle.jwords.specs.Runs.{name_length, inflected_length, run_length, after_run, symbol_length}
use Rattle.jwords.specs.Cuts.{word_of}
use Rattle.jwords.specs.Words.{is_brace_pair}

-- how many bytes behind an opening quote its text takes; the first tells whether the byte before is a quote that may close
unfoldable pub closing_size : Bool → List ℕ → Option ℕ
closing_size true [] = Some 0
closing_size false [] = None
closing_size true (byte ∷ rest) = if byte == quote then option_map suc (closing_size false rest) else Some 0
closing_size false (byte ∷ rest) = option_map suc (closing_size (byte == quote) rest)

-- how many names start in the bytes from a place on, where they are names that two underscores join
unfoldable pub names_in : List ℕ → Place → Option ℕ
names_in [] Start = None
names_in [] Inside = Some 0
names_in [] Underscore = None
names_in (byte ∷ rest) place =
    option_and_then (λ next. option_map (λ count. started place + count) (names_in rest next)) (place_after place byte)

abbrev pub is_one : Option ℕ → Bool
is_one None = false
is_one (Some count) = count == 1

unfoldable pub is_plain_name : List ℕ → Bool
is_plain_name name = is_one (names_in name Start)

-- the last byte, or 0 where there is none; and the bytes without it
abbrev pub last_byte : List ℕ → ℕ
last_byte bytes = slice_index bytes (length bytes - 1)

abbrev pub without_last : List ℕ → List ℕ
without_last bytes = take (length bytes - 1) bytes

-- a direct locative without its last underscore: in the locale `base`, or in one that is named
unfoldable pub is_direct_front : List ℕ → Bool
is_direct_front front =
    if last_byte front == underscore then is_plain_name (without_last front)
    else is_among front underscore && is_plain_name front

unfoldable pub is_direct_name : List ℕ → Bool
is_direct_name name = last_byte name == underscore && is_direct_front (without_last name)

unfoldable pub is_named_word : List ℕ → Bool
is_named_word name = is_some (names_in name Start) || is_direct_name name

-- `for_name.` behind its first four bytes
unfoldable pub ends_loop : List ℕ → Bool
ends_loop bytes = last_byte bytes == point && is_plain_name (without_last bytes)

unfoldable pub is_loop_word : List ℕ → Bool
is_loop_word word = bytes_eq (take 4 word) (codes "for_") && ends_loop (drop 4 word)

unfoldable pub is_listed_inflected : List ℕ → Bool
is_listed_inflected word = is_listed word || (is_one_of control_words word || is_loop_word word)

-- a run that no colon follows begins here, and it is a number
unfoldable pub begins_run : List ℕ → Bool
begins_run bytes = is_number_start (first bytes) && not (slice_index bytes (run_length bytes) == colon)

unfoldable pub is_number_run : List ℕ → Bool
is_number_run run = bytes_eq run (codes "_") || is_number run

unfoldable pub begins_number : List ℕ → Bool
begins_number bytes = begins_run bytes && is_number_run (take (run_length bytes) bytes)

-- how many bytes the runs take that stand next to each other, which are at most so many
unfoldable pub list_length : (List ℕ → Bool) → ℕ → List ℕ → ℕ
list_length begins zero bytes = run_length bytes
list_length begins (suc most) bytes =
    if begins (drop (after_run bytes) bytes) then after_run bytes + list_length begins most (drop (after_run bytes) bytes)
    else run_length bytes

-- what begins with a quote: the text, or the fault of an open quote
abbrev pub text_found : {F : Type 0} → ℕ → F → Option ℕ → Result Word F
text_found at unclosed None = Err unclosed
text_found at unclosed (Some size) = Ok (word_of Text at (size + 1))

-- the word where it is one, else a fault of spelling
abbrev pub judged : Bool → Word → ℕ → Result Word WordFault
judged is_word word at = if is_word then Ok word else Err (fault.Spelling at)

unfoldable pub find_name : ℕ → List ℕ → Result Word WordFault
find_name at rest =
    if inflected_length rest == name_length rest
    then judged (is_named_word (take (inflected_length rest) rest)) (word_of Name at (inflected_length rest)) at
    else (if bytes_eq (take (inflected_length rest) rest) (codes "NB.") then Ok (word_of Comment at (length rest))
    else judged (is_listed_inflected (take (inflected_length rest) rest)) (word_of Inflected at (inflected_length rest)) at)

unfoldable pub find_number : ℕ → List ℕ → Result Word WordFault
find_number at rest =
    if slice_index rest (run_length rest) == colon
    then judged (is_constant (take (run_length rest + 1) rest)) (word_of Inflected at (run_length rest + 1)) at
    else (if is_number_run (take (run_length rest) rest) then Ok (word_of Number at (list_length begins_number (length rest) rest))
    else Err (fault.IllFormed at))

unfoldable pub find_symbol : ℕ → List ℕ → Result Word WordFault
find_symbol at rest =
    if is_brace_pair rest then Ok (word_of Graphic at 2)
    else judged (is_listed (take (symbol_length rest) rest)) (word_of Graphic at (symbol_length rest)) at

-- the word that the rest of a line from a place on begins with, or the fault
unfoldable pub find_word : ℕ → List ℕ → Result Word WordFault
find_word at rest =
    if first rest == quote then text_found at (fault.OpenQuote at) (closing_size false (drop 1 rest))
    else (if is_letter (first rest) then find_name at rest
    else (if is_number_start (first rest) then find_number at rest
    else find_symbol at rest))

unfoldable pub find_name_span : ℕ → List ℕ → Result Word SpanFault
find_name_span at rest =
    if bytes_eq (take (inflected_length rest) rest) (codes "NB.") then Ok (word_of Comment at (length rest))
    else Ok (word_of (if inflected_length rest == name_length rest then Name else Inflected) at (inflected_length rest))

unfoldable pub find_run_span : ℕ → List ℕ → Result Word SpanFault
find_run_span at rest =
    if slice_index rest (run_length rest) == colon
    then Ok (word_of Inflected at (run_length rest + prefix_len is_inflection (drop (run_length rest) rest)))
    else Ok (word_of Number at (list_length begins_run (length rest) rest))

unfoldable pub find_byte_span : ℕ → List ℕ → Result Word SpanFault
find_byte_span at rest =
    if is_brace_pair rest then Ok (word_of Graphic at 2) else Ok (word_of Graphic at (symbol_length rest))

-- the same by the rules of monadic `;:`
unfoldable pub find_span : ℕ → List ℕ → Result Word SpanFault
find_span at rest =
    if first rest == quote then text_found at (span.OpenQuote at) (closing_size false (drop 1 rest))
    else (if is_letter (first rest) then find_name_span at rest
    else (if is_number_start (first rest) then find_run_span at rest
    else find_byte_span at rest))

-- a word in front of the words behind it
abbrev pub with_word : {F : Type 0} → Word → Result (List Word) F → Result (List Word) F
with_word word (Ok words) = Ok (word ∷ words)
with_word word (Err f) = Err f

abbrev pub goes_on : {F : Type 0} → Result Word F → (Word → Result (List Word) F) → Result (List Word) F
goes_on (Ok word) after = with_word word (after word)
goes_on (Err f) after = Err f

-- the words of the bytes from a place on, of which the first, so many, belong to a word that was found; or the fault
unfoldable pub cut_from : {F : Type 0} → (ℕ → List ℕ → Result Word F) → List ℕ → ℕ → ℕ → Result (List Word) F
cut_from find [] at covered = Ok []
cut_from find (byte ∷ rest) at (suc covered) = cut_from find rest (at + 1) covered
cut_from find (byte ∷ rest) at zero =
    if is_blank byte then cut_from find rest (at + 1) zero
    else goes_on (find at (byte ∷ rest)) (λ word. cut_from find rest (at + 1) (word.end - at - 1))

-- the line's words, or its first fault
unfoldable pub words_of : List ℕ → Result (List Word) WordFault
words_of line = cut_from find_word line 0 0

-- the text's words as monadic `;:` cuts it, or its first open quote
unfoldable pub spans_of : List ℕ → Result (List Word) SpanFault
spans_of text = cut_from find_span text 0 0
