-- The parsing step (J Dictionary, "Parsing and Execution"): which row of the table acts on the parts that were read.
-- The parts stand from left to right, the one that was read last in front.
use Rattle.std.specs.Prelude.{ℕ, zero, suc, nat_lt, Bool, true, false, ◌&&◌, ◌||◌, if◌then◌else◌, List, [], ◌∷◌, Option, Some, None, position}
use Rattle.jterm.specs.declared.part.Part.{Part}
use Rattle.jterm.specs.declared.part.Part.TheVariants as part
use Rattle.jparse.specs.declared.class.Class.{Class}
use Rattle.jparse.specs.declared.class.Class.TheVariants as class
use Rattle.jparse.specs.declared.table.Group.{Group}
use Rattle.jparse.specs.declared.table.Group.TheVariants as group
use Rattle.jparse.specs.declared.table.Top.{Top}
use Rattle.jparse.specs.declared.table.Act.{Act}
use Rattle.jparse.specs.declared.table.Act.TheVariants as act

-- a number word with `_` is a noun
abbrev pub class_of : Part → Class
class_of part.Mark = class.Mark
class_of (part.Copula local) = class.Copula
class_of part.Left = class.Left
class_of part.Right = class.Right
class_of (part.Target name) = class.Target
class_of (part.Noun value) = class.Noun
class_of (part.Ranks numbers) = class.Noun
class_of (part.Verb term found) = class.Verb
class_of (part.Adverb word) = class.Adverb
class_of (part.Conj word) = class.Conjunction

-- the class of the part at this place; none where there is no part
abbrev pub class_at : ℕ → List Part → Option Class
class_at at [] = None
class_at zero (first ∷ parts) = Some (class_of first)
class_at (suc at) (first ∷ parts) = class_at at parts

-- EDGE: the mark, a copula or a left parenthesis
abbrev pub is_edge : Class → Bool
is_edge class.Mark = true
is_edge class.Copula = true
is_edge class.Left = true
is_edge other = false

-- AVN: an adverb, a verb or a noun
abbrev pub is_operand : Class → Bool
is_operand class.Adverb = true
is_operand class.Verb = true
is_operand class.Noun = true
is_operand other = false

abbrev pub is_conjunction : Class → Bool
is_conjunction class.Conjunction = true
is_conjunction other = false

abbrev pub is_adverb : Class → Bool
is_adverb class.Adverb = true
is_adverb other = false

abbrev pub is_verb : Class → Bool
is_verb class.Verb = true
is_verb other = false

abbrev pub is_noun : Class → Bool
is_noun class.Noun = true
is_noun other = false

abbrev pub is_target : Class → Bool
is_target class.Target = true
is_target other = false

abbrev pub is_copula : Class → Bool
is_copula class.Copula = true
is_copula other = false

abbrev pub is_left : Class → Bool
is_left class.Left = true
is_left other = false

abbrev pub is_right : Class → Bool
is_right class.Right = true
is_right other = false

-- whether a part of this class is one of the group
abbrev pub has : Group → Class → Bool
has group.Edge c = is_edge c
has group.EdgeOrOperand c = is_edge c || is_operand c
has group.Verb c = is_verb c
has group.Noun c = is_noun c
has group.VerbOrNoun c = is_verb c || is_noun c
has group.Adverb c = is_adverb c
has group.Conjunction c = is_conjunction c
has group.Value c = is_conjunction c || is_operand c
has group.NameOrNoun c = is_target c || is_noun c
has group.Copula c = is_copula c
has group.Left c = is_left c
has group.Right c = is_right c
has group.Any c = true

-- only of ANY no part is one too
abbrev pub is_any : Group → Bool
is_any group.Any = true
is_any other = false

abbrev pub fits : Group → Option Class → Bool
fits g (Some c) = has g c
fits g None = is_any g

-- what a row asks of the top four parts
abbrev pub Pattern : Type 0
Pattern = Group × Group × Group × Group

-- the table, as the Dictionary prints it
abbrev pub table : List Pattern
table =
    (group.Edge, group.Verb, group.Noun, group.Any)
    ∷ (group.EdgeOrOperand, group.Verb, group.Verb, group.Noun)
    ∷ (group.EdgeOrOperand, group.Noun, group.Verb, group.Noun)
    ∷ (group.EdgeOrOperand, group.VerbOrNoun, group.Adverb, group.Any)
    ∷ (group.EdgeOrOperand, group.VerbOrNoun, group.Conjunction, group.VerbOrNoun)
    ∷ (group.EdgeOrOperand, group.VerbOrNoun, group.Verb, group.Verb)
    ∷ (group.Edge, group.Value, group.Value, group.Any)
    ∷ (group.NameOrNoun, group.Copula, group.Value, group.Any)
    ∷ (group.Left, group.Value, group.Right, group.Any)
    ∷ []

abbrev pub matches : Top → Pattern → Bool
matches top row = fits row.0 top.first && fits row.1 top.second && fits row.2 top.third && fits row.3 top.fourth

-- the first row that the top four parts match
unfoldable pub row_of : Top → Option ℕ
row_of top = position (matches top) table

abbrev pub is_mark : Option Class → Bool
is_mark (Some class.Mark) = true
is_mark other = false

-- the mark alone, or the mark and one value
abbrev pub ends : Option Class → Option Class → Option Class → Bool
ends a b (Some c) = false
ends a (Some b) None = is_mark a && has group.Value b
ends a None None = is_mark a

abbrev pub is_whole : Top → Bool
is_whole top = ends top.first top.second top.third

abbrev pub top_of : List Part → Top
top_of parts = record { first = class_at 0 parts; second = class_at 1 parts; third = class_at 2 parts; fourth = class_at 3 parts }

abbrev pub row_at : List Part → Option ℕ
row_at parts = row_of (top_of parts)

-- what happens next: a row acts, a word is read, the sentence ends, or it has no meaning
abbrev pub act_or : Option ℕ → Act → Act
act_or (Some row) other = act.Row row
act_or None other = other

abbrev pub act_of : List Part → ℕ → Act
act_of parts unread = act_or (row_at parts) (if nat_lt 0 unread then act.Shift else if is_whole (top_of parts) then act.Done else act.Syntax)

-- a name that is moved is a target where a copula comes next
abbrev pub awaits_target : List Part → Bool
awaits_target parts = fits group.Copula (class_at 0 parts)
