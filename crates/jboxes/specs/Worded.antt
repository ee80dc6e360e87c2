-- Words (J Dictionary and NuVoc, ";:"): the words of a text, each as a list in a box. How a text is cut is told by jwords.
use Rattle.std.specs.Prelude.{ℕ, ◌-◌, if◌then◌else◌, List, [], ◌∷◌, length, map, take, drop, Result, Ok, Err}
use Rattle.jdata.specs.Kinds.{is_of_kind}
use Rattle.jdata.specs.Limits.{limited}
use Rattle.jdata.specs.Noun.{noun, atoms}
use Rattle.jdata.specs.declared.fault.Fault.{Fault}
use Rattle.jdata.specs.declared.fault.Fault.TheVariants as fault
use Rattle.jdata.specs.declared.noun.Noun.{Noun}
use Rattle.jdata.specs.declared.noun.Kind.TheVariants as sort
use Rattle.jdata.specs.declared.noun.Atom.{Atom, Atom-F, out-Atom}
use Rattle.jdata.specs.declared.noun.Atom.TheOpen as one
use Rattle.jdata.specs.declared.noun.Atom.TheVariants as atom
use Rattle.jwords.specs.Formed.{spans_of}
use Rattle.jwords.specs.declared.word.Word.{Word}
use Rattle.jwords.specs.declared.word.SpanFault.{SpanFault}

abbrev pub byte_of : Atom-F Atom Noun → ℕ
byte_of (one.Char c) = c
byte_of other = 0

-- the characters in ravel order
abbrev pub bytes_in : Noun → List ℕ
bytes_in y = map (λ a. byte_of (out-Atom a)) (atoms y)

abbrev pub text_list : List ℕ → Noun
text_list bytes = noun (length bytes ∷ []) sort.Char (map atom.Char bytes)

abbrev pub word_text : List ℕ → Word → List ℕ
word_text text w = take (w.end - w.start) (drop w.start text)

abbrev pub boxed_texts : List (List ℕ) → Noun
boxed_texts texts = noun (length texts ∷ []) sort.Boxed (map (λ t. atom.Box (text_list t)) texts)

-- the words in boxes, or the fault of an open quote
abbrev pub words_boxed : List ℕ → Result (List Word) SpanFault → Result Noun Fault
words_boxed text (Ok words) = limited (boxed_texts (map (word_text text) words))
words_boxed text (Err why) = Err fault.OpenQuote

unfoldable pub worded : Noun → Result Noun Fault
worded y = if is_of_kind sort.Char y then words_boxed (bytes_in y) (spans_of (bytes_in y)) else Err fault.Domain
