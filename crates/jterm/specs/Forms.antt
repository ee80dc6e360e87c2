-- Which operands each modifier and train takes (NuVoc, "Adverbs" and "Conjunctions"), by their parts of speech. What
-- isn't here is a domain error.
use Rattle.std.specs.Prelude.{Option, Some, None}
use Rattle.jdata.specs.declared.fault.Fault.{Fault}
use Rattle.jdata.specs.declared.fault.Fault.TheVariants as fault
use Rattle.jterm.specs.declared.forms.Form.{Form}
use Rattle.jterm.specs.declared.forms.Form.TheVariants.{Taken, Ranked, Undone, Defined, Foreign, Pooled, Refused}
use Rattle.jterm.specs.declared.speech.Speech.{Speech}
use Rattle.jterm.specs.declared.speech.Speech.TheVariants.{Noun, Ranks, Verb, Adverb, Conjunction}
use Rattle.jterm.specs.declared.words.Adv.{Adv}
use Rattle.jterm.specs.declared.words.Adv.TheVariants as adv
use Rattle.jterm.specs.declared.words.Con.{Con}
use Rattle.jterm.specs.declared.words.Con.TheVariants as con

-- `m}`; `u}` is left out
abbrev pub amend_form : Speech → Option Fault
amend_form Noun = None
amend_form Verb = Some fault.Nonce
amend_form Ranks = Some fault.Nonce
amend_form other = Some fault.Domain

-- `u/`, `u/.`, `u\`, `u\.`, `u~`
abbrev pub of_verb : Speech → Option Fault
of_verb Verb = None
of_verb Ranks = Some fault.Nonce
of_verb other = Some fault.Domain

abbrev pub adverb_form : Adv → Speech → Option Fault
adverb_form adv.RightBrace left = amend_form left
adverb_form other left = of_verb left

-- `u"n`, `m"n`, and `"` takes a number word with `_` too
abbrev pub quote_form : Speech → Speech → Form
quote_form Ranks n = Refused fault.Nonce
quote_form Verb Noun = Ranked
quote_form Verb Ranks = Ranked
quote_form Noun Noun = Ranked
quote_form Noun Ranks = Ranked
quote_form m n = Refused fault.Domain

-- `u^:n`, `u^:v`, and `^:` takes a number word with `_` too
abbrev pub power_form : Speech → Speech → Form
power_form Ranks n = Refused fault.Nonce
power_form Verb Noun = Taken
power_form Verb Ranks = Taken
power_form Verb Verb = Taken
power_form m n = Refused fault.Domain

-- no other conjunction takes a number word with `_`
abbrev pub other_form : Speech → Speech → Form
other_form Ranks r = Refused fault.Nonce
other_form l Ranks = Refused fault.Nonce
other_form l r = Refused fault.Domain

-- `u@v`, `u@:v`, `u&:v`, `u::v`
abbrev pub verbs_form : Speech → Speech → Form
verbs_form Verb Verb = Taken
verbs_form l r = other_form l r

-- `u&v`, `m&v`, `u&n`
abbrev pub bond_form : Speech → Speech → Form
bond_form Verb Verb = Taken
bond_form Noun Verb = Taken
bond_form Verb Noun = Taken
bond_form l r = other_form l r

-- `u&.v`, `u&.:v`, where `v` has an obverse
abbrev pub under_form : Speech → Speech → Form
under_form Verb Verb = Undone
under_form l r = other_form l r

-- `u : v`, `m : n`
abbrev pub colon_form : Speech → Speech → Form
colon_form Verb Verb = Taken
colon_form Noun Noun = Defined
colon_form l r = other_form l r

-- `u;.k`
abbrev pub cut_form : Speech → Speech → Form
cut_form Verb Noun = Taken
cut_form l r = other_form l r

-- `m!:n`
abbrev pub foreign_form : Speech → Speech → Form
foreign_form Noun Noun = Foreign
foreign_form l r = other_form l r

-- `u t. n`
abbrev pub task_form : Speech → Speech → Form
task_form Verb Noun = Pooled
task_form l r = other_form l r

abbrev pub conj_form : Con → Speech → Speech → Form
conj_form con.Quote l r = quote_form l r
conj_form con.PowerColon l r = power_form l r
conj_form con.At l r = verbs_form l r
conj_form con.AtColon l r = verbs_form l r
conj_form con.Ampersand l r = bond_form l r
conj_form con.AmpersandColon l r = verbs_form l r
conj_form con.AmpersandDot l r = under_form l r
conj_form con.AmpersandDotColon l r = under_form l r
conj_form con.Colon l r = colon_form l r
conj_form con.ColonColon l r = verbs_form l r
conj_form con.SemicolonDot l r = cut_form l r
conj_form con.BangColon l r = foreign_form l r
conj_form con.TDot l r = task_form l r

-- `f g h` and `n g h`
abbrev pub fork_form : Speech → Speech → Speech → Option Fault
fork_form Verb Verb Verb = None
fork_form Noun Verb Verb = None
fork_form Ranks m r = Some fault.Nonce
fork_form l m r = Some fault.Domain

-- `g h`; every other pair has no meaning
abbrev pub hook_form : Speech → Speech → Option Fault
hook_form Verb Verb = None
hook_form l r = Some fault.Syntax
