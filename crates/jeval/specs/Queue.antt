-- The words of a sentence as it is executed: each is a part, or a name that is looked up when its turn comes. A word
-- of which nothing is built makes its sentence a nonce error before any row acts.
use Rattle.std.specs.Prelude.{◌≡◌, ℕ, ℤ, ◌-◌, ◌==◌, ◌&&◌, ◌||◌, not, Bool, true, false, if◌then◌else◌, List, [], ◌∷◌, drop, take, length, codes, Option, Some, None, option_and_then, Result, Ok, Err}
use Rattle.std.specs.Str.{bytes_eq}
use Rattle.jdata.specs.declared.fault.NoMemory.{NoMemory}
use Rattle.jdata.specs.declared.noun.Noun.{Noun}
use Rattle.jdata.specs.declared.primitive.Primitive.{Primitive}
use Rattle.jdata.specs.Spelling.{verb_of}
use Rattle.jterm.specs.declared.term.Term.TheVariants as term
use Rattle.jwords.specs.Alphabet.{underscore}
use Rattle.jeval.specs.Operators.{adverb_of, conj_of}
use Rattle.jterm.specs.declared.words.Adv.{Adv}
use Rattle.jterm.specs.declared.words.Con.{Con}
use Rattle.jeval.specs.Constants.{number, numbers, all_integers, integers, text_noun}
use Rattle.jwords.specs.declared.word.Word.{Word}
use Rattle.jwords.specs.declared.word.WordKind.{WordKind}
use Rattle.jwords.specs.declared.word.WordKind.TheVariants as word
use Rattle.jterm.specs.declared.part.Part.TheVariants as part
use Rattle.jeval.specs.declared.queue.Queued.{Queued}
use Rattle.jeval.specs.declared.queue.Queued.TheVariants.{Ready, Named}

abbrev pub is_copula : List ℕ → Bool
is_copula run = if bytes_eq run (codes "=.") then true else bytes_eq run (codes "=:")

abbrev pub verb_part : Option Primitive → Option Queued
verb_part (Some verb) = Some (Ready (part.Verb (term.Verb verb) true))
verb_part None = None

-- an adverb, a conjunction or a verb, by its spelling
abbrev pub or_verb : Option Con → List ℕ → Option Queued
or_verb (Some word) run = Some (Ready (part.Conj word))
or_verb None run = verb_part (verb_of run)

abbrev pub or_conj : Option Adv → List ℕ → Option Queued
or_conj (Some word) run = Some (Ready (part.Adverb word))
or_conj None run = or_verb (conj_of run) run

abbrev pub operator_item : List ℕ → Option Queued
operator_item run = or_conj (adverb_of run) run

-- a constant verb has its number in front of its colon
abbrev pub or_operator : Option ℤ → List ℕ → Option Queued
or_operator (Some n) run = Some (Ready (part.Verb (term.Const n) true))
or_operator None run = operator_item run

abbrev pub inflected_item : List ℕ → Option Queued
inflected_item run = or_operator (number (take (length run - 1) run)) run

abbrev pub symbol : List ℕ → Option Queued
symbol run =
    if is_copula run then Some (Ready (part.Copula (bytes_eq run (codes "=.")))) else
    if bytes_eq run (codes "(") then Some (Ready part.Left) else
    if bytes_eq run (codes ")") then Some (Ready part.Right) else operator_item run

-- another byte than an underscore stands behind
abbrev pub is_followed : List ℕ → Bool
is_followed [] = false
is_followed (byte ∷ rest) = not (byte == underscore)

-- an underscore needs another byte behind it
abbrev pub may_stand : ℕ → List ℕ → Bool
may_stand byte behind = not (byte == underscore) || is_followed behind

-- a name is plain where no two underscores stand together in it and none at its end
abbrev pub is_plain : List ℕ → Bool
is_plain [] = true
is_plain (byte ∷ rest) = may_stand byte rest && is_plain rest

abbrev pub noun_part : Option Noun → Option Queued
noun_part (Some v) = Some (Ready (part.Noun v))
noun_part None = None

-- the noun of numbers, or a number word with `_`
abbrev pub or_ranks : Option (List ℤ) → List (Option ℤ) → Option Queued
or_ranks (Some ns) all = noun_part (integers ns)
or_ranks None all = Some (Ready (part.Ranks all))

abbrev pub numbers_item : Option (List (Option ℤ)) → Option Queued
numbers_item (Some all) = or_ranks (all_integers all) all
numbers_item None = None

-- a plain name; another name isn't built
abbrev pub name_item : List ℕ → Option Queued
name_item run = if is_plain run then Some (Named run) else None

-- the item of a noun, or want of memory
abbrev pub IsItem : Result (Option Noun) NoMemory → Result (Option Queued) NoMemory → Type 0
IsItem (Ok noun) item = item ≡ Ok (noun_part noun)
IsItem (Err none) item = item ≡ Err none

-- what a word of this kind and spelling is; none where it isn't built
abbrev pub item_of : WordKind → List ℕ → Option Queued
item_of word.Name run = name_item run
item_of word.Number run = numbers_item (numbers run)
item_of word.Graphic run = symbol run
item_of word.Inflected run = inflected_item run
item_of word.Text run = noun_part (text_noun run)
item_of word.Comment run = None

-- the bytes of a word in its line
abbrev pub written : List ℕ → Word → List ℕ
written line w = take (w.end - w.start) (drop w.start line)

abbrev pub is_comment : WordKind → Bool
is_comment word.Comment = true
is_comment word.Name = false
is_comment word.Inflected = false
is_comment word.Number = false
is_comment word.Text = false
is_comment word.Graphic = false

-- the words behind those that wait, each in front of the words before it; a comment ends the sentence
abbrev pub queued_behind : List ℕ → List Word → List Queued → Option (List Queued)
queued_behind line [] queue = Some queue
queued_behind line (w ∷ ws) queue =
    if is_comment w.kind then Some queue
    else option_and_then (λ item. queued_behind line ws (item ∷ queue)) (item_of w.kind (written line w))

-- the words of a line as they wait, the last one in front, and behind them the mark
abbrev pub queue_of : List ℕ → List Word → Option (List Queued)
queue_of line words = queued_behind line words (Ready part.Mark ∷ [])
