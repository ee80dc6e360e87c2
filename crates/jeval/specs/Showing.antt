-- What a sentence shows (J Dictionary, "Display"; the two lines of a fault are this language's own).
use Rattle.std.specs.Prelude.{ℕ, true, false, if◌then◌else◌, List, [], ◌∷◌, ◌++◌, codes, Option, Some, None, Result, Ok, Err}
use Rattle.jdata.specs.Faults.{text_of}
use Rattle.jdata.specs.declared.fault.Fault.{Fault}
use Rattle.jdata.specs.declared.fault.Fault.TheVariants as fault
use Rattle.jdata.specs.declared.noun.Noun.{Noun}
use Rattle.jformat.specs.Rows.{display_of}
use Rattle.jwords.specs.Alphabet.{line_feed}
use Rattle.jwords.specs.Trim.{trimmed}
use Rattle.jeval.specs.Execution.{Ending}
use Rattle.jterm.specs.declared.part.Part.{Part}
use Rattle.jterm.specs.declared.part.Part.TheVariants as part

-- the rows of a noun
abbrev pub rows : Noun → Result (Option (List ℕ)) Fault
rows v = Ok (Some (display_of v))

abbrev pub word_row : List ℕ → List ℕ
word_row word = word ++ line_feed ∷ []

-- what a value shows where it is the whole result; a reference that found no value when it was moved is a value error,
-- and a number word with `_` isn't shown
abbrev pub shown_part : Part → Result (Option (List ℕ)) Fault
shown_part (part.Noun v) = rows v
shown_part (part.Verb verb true) = Ok (Some (word_row (codes "verb")))
shown_part (part.Verb verb false) = Err fault.Value
shown_part (part.Ranks numbers) = Err fault.Nonce
shown_part (part.Adverb word) = Ok (Some (word_row (codes "adverb")))
shown_part (part.Conj word) = Ok (Some (word_row (codes "conjunction")))
shown_part other = Ok None

-- the value behind the mark
abbrev pub ending_value : List Part → Option Part
ending_value (edge ∷ value ∷ rest) = Some value
ending_value other = None

abbrev pub shown_value : Option Part → Result (Option (List ℕ)) Fault
shown_value (Some value) = shown_part value
shown_value None = Ok None

-- what a sentence with this ending shows: its value, unless the last act was an assignment
abbrev pub shown : Ending → Result (Option (List ℕ)) Fault
shown (parts, assigned) = if assigned then Ok None else shown_value (ending_value parts)

-- the fault's words behind a bar, and the sentence behind a bar and three blanks
abbrev pub fault_lines : Fault → List ℕ → List ℕ
fault_lines why line = codes "|" ++ text_of why ++ line_feed ∷ codes "|   " ++ trimmed line ++ line_feed ∷ []
