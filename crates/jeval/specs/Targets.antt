-- What a quoted target assigns (J Dictionary, "Is"; NuVoc, "=:", "Multiple assignment"): blanks part its names. One name
-- takes the whole value; several take its items in their order, each opened; and each of them takes an atom, opened.
use Rattle.std.specs.Prelude.{ℕ, negsuc, ◌==◌, ◌&&◌, not, nat_lt, Bool, true, false, if◌then◌else◌, List, [], ◌∷◌, length, map, filter, replicate, Option, Some, None, Result, Ok, Err}
use Rattle.std.specs.List.{slice_split, list_all, range_with_len}
use Rattle.jdata.specs.declared.fault.Fault.{Fault}
use Rattle.jdata.specs.declared.fault.Fault.TheVariants as fault
use Rattle.jdata.specs.Firsts.{all_or_first}
use Rattle.jdata.specs.Noun.{shape, kind, atoms}
use Rattle.jdata.specs.declared.noun.Atom.{Atom, Atom-F, out-Atom}
use Rattle.jdata.specs.declared.noun.Atom.TheOpen as one
use Rattle.jdata.specs.declared.noun.Kind.{Kind}
use Rattle.jdata.specs.declared.noun.Kind.TheVariants as sort
use Rattle.jdata.specs.declared.noun.Noun.{Noun}
use Rattle.jdata.specs.declared.primitive.Primitive.TheVariants as primitive
use Rattle.jframe.specs.Cells.{cell_at, cell_count}
use Rattle.jterm.specs.declared.part.Part.{Part}
use Rattle.jterm.specs.declared.part.Part.TheVariants as part
use Rattle.jterm.specs.declared.term.Term.{Term}
use Rattle.jterm.specs.declared.term.Term.TheVariants as term
use Rattle.jwords.specs.Alphabet.{is_blank}
use Rattle.jwords.specs.Formed.{is_named_word, is_plain_name}
use Rattle.jeval.specs.Makings.{term_of, or_syntax}
use Rattle.jeval.specs.Verbs.{monad}

-- the bytes of a target
abbrev pub byte_in : Atom-F Atom Noun → ℕ
byte_in (one.Char byte) = byte
byte_in (one.Int n) = 0
byte_in (one.Box content) = 0
byte_in (one.Pyx p) = 0

abbrev pub byte_of : Atom → ℕ
byte_of a = byte_in (out-Atom a)

abbrev pub is_char : Kind → Bool
is_char sort.Char = true
is_char sort.Int = false
is_char sort.Boxed = false

-- characters in a list or alone; an array without atoms counts as characters
abbrev pub text_of : Noun → Option (List ℕ)
text_of target =
    if length (atoms target) == 0 then Some [] else
    if is_char (kind target) && nat_lt (length (shape target)) 2 then Some (map byte_of (atoms target)) else None

abbrev pub is_some_run : List ℕ → Bool
is_some_run run = not (length run == 0)

-- the names, where blanks part them
abbrev pub runs : List ℕ → List (List ℕ)
runs text = filter is_some_run (slice_split is_blank text)

-- all are spelled as names before one in a locale is refused, which isn't built
abbrev pub plain_names : List (List ℕ) → Result (List (List ℕ)) Fault
plain_names names =
    if list_all is_named_word names then (if list_all is_plain_name names then Ok names else Err fault.Nonce) else Err fault.Spelling

abbrev pub names_in : Option (List ℕ) → Result (List (List ℕ)) Fault
names_in (Some text) = plain_names (runs text)
names_in None = Err fault.Domain

-- the value as a noun
abbrev pub spread_noun : Part → Result Noun Fault
spread_noun (part.Noun v) = Ok v
spread_noun (part.Ranks numbers) = Err fault.Nonce
spread_noun other = Err fault.Domain

-- a noun as what a name stands for
abbrev pub standing : Result Noun Fault → Result Term Fault
standing (Ok v) = Ok (term.Noun v)
standing (Err why) = Err why

-- an item opened; one that isn't boxed is itself
abbrev pub opened : Noun → Result Term Fault
opened item = standing (monad primitive.Greater item)

-- the items, each opened, or the first fault
abbrev pub opened_items : Noun → Result (List Term) Fault
opened_items v = all_or_first (map (λ i. opened (cell_at (Some (negsuc 0)) v i)) (range_with_len 0 (cell_count (Some (negsuc 0)) v)))

-- so many of them
abbrev pub copies : ℕ → Result Term Fault → Result (List Term) Fault
copies count (Ok value) = Ok (replicate count value)
copies count (Err why) = Err why

-- how many items, where it isn't an atom
abbrev pub first_axis : List ℕ → Option ℕ
first_axis [] = None
first_axis (n ∷ ns) = Some n

-- what each of so many names takes of a noun
abbrev pub shares_by : Option ℕ → ℕ → Noun → Result (List Term) Fault
shares_by None count v = copies count (opened v)
shares_by (Some n) count v = if n == count then opened_items v else Err fault.Length

-- what each of so many names takes: one takes the whole value
abbrev pub shares_of : ℕ → Result Noun Fault → Result (List Term) Fault
shares_of count (Ok v) = shares_by (first_axis (shape v)) count v
shares_of count (Err why) = Err why

abbrev pub alone : Result Term Fault → Result (List Term) Fault
alone (Ok value) = Ok (value ∷ [])
alone (Err why) = Err why

abbrev pub shares : ℕ → Part → Result (List Term) Fault
shares count value = if count == 1 then alone (or_syntax (term_of value)) else shares_of count (spread_noun value)

-- the names, and what each takes
abbrev pub beside : List (List ℕ) → Result (List Term) Fault → Result (List (List ℕ) × List Term) Fault
beside names (Ok values) = Ok (names, values)
beside names (Err why) = Err why

abbrev pub shared : Result (List (List ℕ)) Fault → Part → Result (List (List ℕ) × List Term) Fault
shared (Ok names) value = beside names (shares (length names) value)
shared (Err why) value = Err why

-- what a quoted target with a value assigns
abbrev pub spread : Noun → Part → Result (List (List ℕ) × List Term) Fault
spread target value = shared (names_in (text_of target)) value
