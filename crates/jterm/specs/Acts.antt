-- What modifiers and trains give of their operands: a term, or the fault for which they refuse them (J Dictionary,
-- "Adverbs and Conjunctions", and NuVoc at each word).
use Rattle.std.specs.Prelude.{ℕ, ℤ, pos, int_lt, nat_lt, nat_le, ◌==◌, ◌||◌, ◌&&◌, Bool, true, false, if◌then◌else◌, List, [], ◌∷◌, length, Option, Some, None, Result, Ok, Err}
use Rattle.std.specs.Ordering.{int_eq}
use Rattle.jdata.specs.Noun.{shape, kind, atoms}
use Rattle.jdata.specs.declared.fault.Fault.{Fault}
use Rattle.jdata.specs.declared.fault.Fault.TheVariants as fault
use Rattle.jdata.specs.declared.noun.Atom.{Atom}
use Rattle.jdata.specs.declared.noun.Atom.TheVariants as atom
use Rattle.jdata.specs.declared.noun.Kind.{Kind}
use Rattle.jdata.specs.declared.noun.Kind.TheVariants as sort
use Rattle.jdata.specs.declared.noun.Noun.{Noun}
use Rattle.jterm.specs.Forms.{adverb_form, conj_form, fork_form, hook_form}
use Rattle.jterm.specs.Levels.{levels, most_levels}
use Rattle.jterm.specs.Obverses.{has_obverse}
use Rattle.jterm.specs.Speeches.{speech_of}
use Rattle.jterm.specs.declared.forms.Form.{Form}
use Rattle.jterm.specs.declared.forms.Form.TheVariants.{Taken, Ranked, Undone, Defined, Foreign, Pooled, Refused}
use Rattle.jterm.specs.declared.term.Term.{Term}
use Rattle.jterm.specs.declared.term.Term.TheVariants as term
use Rattle.jterm.specs.declared.words.Adv.{Adv}
use Rattle.jterm.specs.declared.words.Con.{Con}

-- from one number up to three
abbrev pub is_few : ℕ → Bool
is_few n = nat_lt 0 n && nat_le n 3

abbrev pub kind_fault : Kind → Option Fault
kind_fault sort.Int = None
kind_fault other = Some fault.Domain

-- a noun to the right of `"` is an integer or a list of one to three
abbrev pub noun_ranks_fault : Noun → Option Fault
noun_ranks_fault n =
    if nat_lt 1 (length (shape n)) then Some fault.Rank else
    if is_few (length (atoms n)) then kind_fault (kind n) else Some fault.Length

abbrev pub word_ranks_fault : ℕ → Option Fault
word_ranks_fault n = if is_few n then None else Some fault.Length

abbrev pub ranks_fault : Term → Option Fault
ranks_fault (term.Noun n) = noun_ranks_fault n
ranks_fault (term.Ranks l) = word_ranks_fault (length l)
ranks_fault other = Some fault.Domain

abbrev pub obverse_fault : Bool → Option Fault
obverse_fault true = None
obverse_fault false = Some fault.Domain

-- no definition is built, and `m` is a number
abbrev pub full_form_fault : Kind → Fault
full_form_fault sort.Int = fault.Nonce
full_form_fault other = fault.Domain

abbrev pub form_fault : Kind → List Atom → Fault
form_fault k l = if length l == 0 then fault.Nonce else full_form_fault k

abbrev pub definition_fault : Term → Fault
definition_fault (term.Noun m) = form_fault (kind m) (atoms m)
definition_fault other = fault.Domain

-- what is printed; the locales, and the current one; names by their classes, and erasing them
abbrev pub is_listed : ℤ → ℤ → Bool
is_listed m n =
    if int_eq m (pos 1) then int_eq n (pos 2) else
    if int_eq m (pos 4) then int_eq n (pos 1) || int_eq n (pos 55) else
    if int_eq m (pos 18) then int_eq n (pos 1) || (int_eq n (pos 4) || int_eq n (pos 5)) else false

-- an integer that stands alone
abbrev pub lone : Kind → List ℕ → List Atom → Option ℤ
lone sort.Int [] (atom.Int n ∷ []) = Some n
lone k s l = None

abbrev pub number : Term → Option ℤ
number (term.Noun v) = lone (kind v) (shape v) (atoms v)
number other = None

abbrev pub foreign_fault : Option ℤ → Option ℤ → Option Fault
foreign_fault (Some m) (Some n) = if is_listed m n then None else Some fault.Nonce
foreign_fault m n = Some fault.Nonce

-- a pool is none, which is pool 0, or one of the eight
abbrev pub number_pool_fault : ℤ → Option Fault
number_pool_fault n = if int_lt n (pos 0) then Some fault.Domain else if int_lt (pos 7) n then Some fault.Limit else None

abbrev pub full_pool_fault : Kind → List Atom → Option Fault
full_pool_fault sort.Int (atom.Int n ∷ []) = number_pool_fault n
full_pool_fault sort.Boxed l = Some fault.Nonce
full_pool_fault k l = Some fault.Domain

abbrev pub pool_in : Kind → List Atom → Option Fault
pool_in k l = if length l == 0 then None else full_pool_fault k l

abbrev pub pool_fault : Term → Option Fault
pool_fault (term.Noun n) = pool_in (kind n) (atoms n)
pool_fault other = Some fault.Domain

-- what is left to be seen of the operands that a conjunction takes
abbrev pub operand_fault : Form → Term → Term → Option Fault
operand_fault Taken l r = None
operand_fault Ranked l r = ranks_fault r
operand_fault Undone l r = obverse_fault (has_obverse r)
operand_fault Defined l r = Some (definition_fault l)
operand_fault Foreign l r = foreign_fault (number l) (number r)
operand_fault Pooled l r = pool_fault r
operand_fault (Refused f) l r = Some f

abbrev pub adverb_fault : Adv → Term → Option Fault
adverb_fault word left = adverb_form word (speech_of left)

abbrev pub conj_fault : Con → Term → Term → Option Fault
conj_fault word left right = operand_fault (conj_form word (speech_of left) (speech_of right)) left right

abbrev pub fork_fault : Term → Term → Term → Option Fault
fork_fault left mid right = fork_form (speech_of left) (speech_of mid) (speech_of right)

abbrev pub hook_fault : Term → Term → Option Fault
hook_fault left right = hook_form (speech_of left) (speech_of right)

-- the term, where nothing is refused and it is no deeper than a term may be
abbrev pub made : Option Fault → Term → Result Term Fault
made (Some f) t = Err f
made None t = if nat_le (levels t) most_levels then Ok t else Err fault.Limit

abbrev pub adverb_of : Adv → Term → Result Term Fault
adverb_of word left = made (adverb_fault word left) (term.With1 word left)

abbrev pub conj_of : Con → Term → Term → Result Term Fault
conj_of word left right = made (conj_fault word left right) (term.With2 word left right)

abbrev pub fork_of : Term → Term → Term → Result Term Fault
fork_of left mid right = made (fork_fault left mid right) (term.Fork left mid right)

abbrev pub hook_of : Term → Term → Result Term Fault
hook_of left right = made (hook_fault left right) (term.Hook left right)
