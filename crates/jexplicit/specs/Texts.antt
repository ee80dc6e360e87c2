-- The text of the grammar that the words of a body spell (J Dictionary, "Control Structures"), read from the last word to
-- the first. A text is had back of its own words (`each_text_is_had_back`), so there is one at most.
use Rattle.std.specs.Prelude.{ℕ, List, [], ◌∷◌, Option, Some, None, option_map, option_and_then}
use Rattle.jcontrol.specs.Block.{Block}
use Rattle.jcontrol.specs.Block.Block.{Nothing as NoBlock}
use Rattle.jexplicit.specs.Blocks.{block_of}
use Rattle.jexplicit.specs.Grammar.{Text, Otherwise, Cases}
use Rattle.jexplicit.specs.Grammar.Text.{Nothing, Sentence, If, Loop, Select, Try, Assert, Break, Continue, Leave}
use Rattle.jexplicit.specs.Grammar.Otherwise.{NoElse, Else, Elseif}
use Rattle.jexplicit.specs.Grammar.Cases.{NoCase, Case}
use Rattle.jexplicit.specs.declared.kind.Kind.{Kind}
use Rattle.jexplicit.specs.declared.kind.Kind.TheVariants as kind

-- a part of a group: the word that starts it, and its text
abbrev pub Piece : Type 0
Piece = Kind × Text

-- a group whose `end.` was read: the text up to the end of the part that is read, and the parts behind that one
pub record Ending : Type 0 where
  pub text : Text
  pub parts : List Piece

abbrev pub ending : Text → List Piece → Ending
ending text parts = record { text = text; parts = parts }

-- what is done otherwise
abbrev pub otherwise_in : List Piece → Option Otherwise
otherwise_in [] = Some NoElse
otherwise_in ((kind.Else, block) ∷ []) = Some (Else block)
otherwise_in ((kind.Elseif, test) ∷ (kind.Do, block) ∷ more) = option_map (Elseif test block) (otherwise_in more)
otherwise_in _ = None

abbrev pub cases_in : List Piece → Option Cases
cases_in [] = Some NoCase
cases_in ((kind.Case falls, test) ∷ (kind.Do, block) ∷ more) = option_map (Case falls test block) (cases_in more)
cases_in _ = None

-- the group that a word starts, with its first text and its parts, and what follows it
abbrev pub group_of : Kind → Text → List Piece → Text → Option Text
group_of kind.If test ((kind.Do, block) ∷ more) rest = option_map (λ o. If test block o rest) (otherwise_in more)
group_of (kind.Loop l) test ((kind.Do, block) ∷ []) rest = Some (Loop l test block rest)
group_of kind.Select test ((kind.Case falls, first) ∷ (kind.Do, block) ∷ more) rest = option_map (λ c. Select test falls first block c rest) (cases_in more)
group_of kind.Try block ((kind.Catch, caught) ∷ []) rest = Some (Try block caught rest)
group_of k test parts rest = None

-- an assertion is of the sentence behind it
abbrev pub claimed : Text → Option Text
claimed (Sentence rest) = Some (Assert rest)
claimed _ = None

abbrev pub in_front : Ending → List Ending → List Ending
in_front e round = e ∷ round

abbrev pub with_text : List Piece → List Ending → Text → List Ending
with_text parts round text = ending text parts ∷ round

-- a group in front of what follows it
abbrev pub grouped : Kind → Ending → List Ending → Option (List Ending)
grouped k e (next ∷ round) = option_map (with_text next.parts round) (group_of k e.text e.parts next.text)
grouped k e [] = None

-- a word in front of what was read
abbrev pub read_in : Kind → Ending → List Ending → Option (List Ending)
read_in kind.Sentence e round = Some (ending (Sentence e.text) e.parts ∷ round)
read_in kind.Break e round = Some (ending (Break e.text) e.parts ∷ round)
read_in kind.Continue e round = Some (ending (Continue e.text) e.parts ∷ round)
read_in kind.Return e round = Some (ending (Leave e.text) e.parts ∷ round)
read_in kind.Assert e round = option_map (with_text e.parts round) (claimed e.text)
read_in kind.End e round = Some (ending Nothing [] ∷ e ∷ round)
read_in kind.Do e round = Some (ending Nothing ((kind.Do, e.text) ∷ e.parts) ∷ round)
read_in kind.Else e round = Some (ending Nothing ((kind.Else, e.text) ∷ e.parts) ∷ round)
read_in kind.Elseif e round = Some (ending Nothing ((kind.Elseif, e.text) ∷ e.parts) ∷ round)
read_in (kind.Case falls) e round = Some (ending Nothing ((kind.Case falls, e.text) ∷ e.parts) ∷ round)
read_in kind.Catch e round = Some (ending Nothing ((kind.Catch, e.text) ∷ e.parts) ∷ round)
read_in k e round = grouped k e round

abbrev pub read_before : Kind → List Ending → Option (List Ending)
read_before k (e ∷ round) = read_in k e round
read_before k [] = None

-- the words, from the last one to the first; the innermost group in front
abbrev pub read_back : List Kind → Option (List Ending)
read_back [] = Some (ending Nothing [] ∷ [])
read_back (k ∷ words) = option_and_then (read_before k) (read_back words)

abbrev pub without_parts : List Piece → Text → Option Text
without_parts [] text = Some text
without_parts (piece ∷ parts) text = None

abbrev pub whole : List Ending → Option Text
whole (e ∷ []) = without_parts e.parts e.text
whole _ = None

-- the text that these words spell; none where they spell no text
abbrev pub text_in : List Kind → Option Text
text_in words = option_and_then whole (read_back words)

abbrev pub block_or : ℕ → Option Text → Block
block_or first (Some text) = block_of first text
block_or first None = NoBlock

-- the blocks of the text that these words spell, of which the first has this number
abbrev pub block_in : ℕ → List Kind → Block
block_in first words = block_or first (text_in words)
