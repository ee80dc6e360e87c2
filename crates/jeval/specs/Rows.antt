-- What the rows of the parsing table ask for (J Dictionary, "Parsing and Execution"). A row is plain data made of the
-- parts alone; whoever executes the sentence does what it asks.
use Rattle.std.specs.Prelude.{ℕ, ◌==◌, if◌then◌else◌, List, [], ◌∷◌, Option, Some, None, Result, Ok, Err}
use Rattle.jdata.specs.declared.fault.Fault.{Fault}
use Rattle.jdata.specs.declared.fault.Fault.TheVariants.{Domain, Syntax, Nonce}
use Rattle.jdata.specs.declared.noun.Noun.{Noun}
use Rattle.jterm.specs.declared.term.Locative.{Locative}
use Rattle.jterm.specs.declared.term.Term.{Term}
use Rattle.jterm.specs.declared.part.Part.{Part}
use Rattle.jterm.specs.declared.part.Part.TheVariants as part
use Rattle.jterm.specs.declared.words.Adv.{Adv}
use Rattle.jterm.specs.declared.words.Con.{Con}
use Rattle.jeval.specs.declared.building.Making.TheVariants as making
use Rattle.jeval.specs.declared.rows.Around.{Around}
use Rattle.jeval.specs.declared.rows.Deed.{Deed}
use Rattle.jeval.specs.declared.rows.Deed.TheVariants.{Apply, Make, Assign, Spread, Leave, Refuse}

-- the parts that stay where the others act: one or two in front of them, and those behind
abbrev pub around : Part → Option Part → List Part → Around
around first second rest = record { first = first; second = second; rest = rest }

abbrev pub behind : Option Part → List Part → List Part
behind (Some second) rest = second ∷ rest
behind None rest = rest

-- with a part where the others stood
abbrev pub filled : Around → Part → List Part
filled a value = a.first ∷ behind a.second (value ∷ a.rest)

abbrev pub verb_in : Part → Result Term Fault
verb_in (part.Verb verb found) = Ok verb
verb_in other = Err Syntax

-- an argument; a number word with `_` is none
abbrev pub noun_in : Part → Result Noun Fault
noun_in (part.Noun x) = Ok x
noun_in (part.Ranks numbers) = Err Nonce
noun_in other = Err Syntax

abbrev pub both : Result Term Fault → Result Noun Fault → Result (Term × Noun) Fault
both (Ok verb) (Ok y) = Ok (verb, y)
both (Ok verb) (Err fault) = Err fault
both (Err fault) y = Err fault

-- a verb and the noun behind it
abbrev pub operands : Part → Part → Result (Term × Noun) Fault
operands verb y = both (verb_in verb) (noun_in y)

-- a verb on what follows it
abbrev pub monad : Result (Term × Noun) Fault → Around → Deed
monad (Ok (verb, y)) a = Apply verb None y a
monad (Err fault) a = Refuse fault

-- a verb between two nouns
abbrev pub dyad : Result Noun Fault → Result (Term × Noun) Fault → Around → Deed
dyad (Ok x) (Ok (verb, y)) a = Apply verb (Some x) y a
dyad (Ok x) (Err fault) a = Refuse fault
dyad (Err fault) operands a = Refuse fault

abbrev pub adverb_in : Part → Option Adv
adverb_in (part.Adverb word) = Some word
adverb_in other = None

abbrev pub conj_in : Part → Option Con
conj_in (part.Conj word) = Some word
conj_in other = None

-- an adverb and the part before it
abbrev pub modified : Part → Option Adv → Around → Deed
modified u (Some word) a = Make (making.Adverb word u) a
modified u None a = Refuse Syntax

-- a conjunction between two parts
abbrev pub joined : Part → Option Con → Part → Around → Deed
joined u (Some word) v a = Make (making.Conj word u v) a
joined u None v a = Refuse Syntax

-- the name of a target that isn't quoted; a name in a locale isn't built
abbrev pub in_place : Option (List ℕ) → List ℕ → Result (List ℕ) Fault
in_place None name = Ok name
in_place (Some place) name = Err Nonce

abbrev pub plain_name : Locative → Result (List ℕ) Fault
plain_name target = in_place target.place target.name

abbrev pub target_name : Part → Result (List ℕ) Fault
target_name (part.Target target) = plain_name target
target_name (part.Ranks numbers) = Err Domain
target_name other = Err Syntax

-- a name gets a value, which stays as the value of the assignment
abbrev pub named : Result (List ℕ) Fault → Part → List Part → Deed
named (Ok name) value rest = Assign name value rest
named (Err fault) value rest = Refuse fault

-- the names of a quoted target get their shares
abbrev pub assignment : Part → Part → List Part → Deed
assignment (part.Noun target) value rest = Spread target value rest
assignment target value rest = named (target_name target) value rest

-- the top three parts, and those behind them
abbrev pub first_three : List Part → Option (Part × Part × Part × List Part)
first_three (a ∷ b ∷ c ∷ rest) = Some (a, b, c, rest)
first_three other = None

abbrev pub of_three : (Part → Part → Part → List Part → Deed) → Option (Part × Part × Part × List Part) → Deed
of_three row (Some (a, b, c, rest)) = row a b c rest
of_three row None = Refuse Syntax

abbrev pub monad_row : List Part → Deed
monad_row parts = of_three (λ edge verb y rest. monad (operands verb y) (around edge None rest)) (first_three parts)

abbrev pub inner_monad_row : List Part → Deed
inner_monad_row [] = Refuse Syntax
inner_monad_row (first ∷ parts) = of_three (λ second verb y rest. monad (operands verb y) (around first (Some second) rest)) (first_three parts)

abbrev pub dyad_row : List Part → Deed
dyad_row [] = Refuse Syntax
dyad_row (first ∷ parts) = of_three (λ x verb y rest. dyad (noun_in x) (operands verb y) (around first None rest)) (first_three parts)

abbrev pub assignment_row : List Part → Deed
assignment_row parts = of_three (λ target copula value rest. assignment target value rest) (first_three parts)

-- what stands alone between parentheses takes their place
abbrev pub parenthesis_row : List Part → Deed
parenthesis_row parts = of_three (λ left value right rest. Leave value rest) (first_three parts)

abbrev pub adverb_row : List Part → Deed
adverb_row parts = of_three (λ edge left word rest. modified left (adverb_in word) (around edge None rest)) (first_three parts)

abbrev pub conj_row : List Part → Deed
conj_row [] = Refuse Syntax
conj_row (first ∷ parts) = of_three (λ left word right rest. joined left (conj_in word) right (around first None rest)) (first_three parts)

abbrev pub fork_row : List Part → Deed
fork_row [] = Refuse Syntax
fork_row (first ∷ parts) = of_three (λ left mid right rest. Make (making.Fork left mid right) (around first None rest)) (first_three parts)

-- two parts that stand alone: a hook, if they are verbs
abbrev pub train_row : List Part → Deed
train_row parts = of_three (λ edge left right rest. Make (making.Hook left right) (around edge None rest)) (first_three parts)

-- what a row of the table asks for; there are no others
unfoldable pub deed_of : ℕ → List Part → Deed
deed_of row parts =
    if row == 0 then monad_row parts else
    if row == 1 then inner_monad_row parts else
    if row == 2 then dyad_row parts else
    if row == 3 then adverb_row parts else
    if row == 4 then conj_row parts else
    if row == 5 then fork_row parts else
    if row == 6 then train_row parts else
    if row == 7 then assignment_row parts else
    if row == 8 then parenthesis_row parts else Refuse Syntax
