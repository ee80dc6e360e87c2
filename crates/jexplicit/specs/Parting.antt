-- A line of a body, parted into its control words and its sentences (J Dictionary, "Control Structures"; NuVoc, "Direct
-- Definition"). A pair of `{{` and `}}` with all that is in it is a part of the sentence in which it stands.
use Rattle.std.specs.Prelude.{ℕ, ◌+◌, ◌-◌, ◌==◌, ◌&&◌, ◌||◌, Bool, true, false, if◌then◌else◌, List, [], ◌∷◌, ◌++◌, length, take, drop, codes, Option, Some, None}
use Rattle.std.specs.List.{list_any}
use Rattle.std.specs.Option.{option_or}
use Rattle.std.specs.Str.{bytes_eq}
use Rattle.jwords.specs.declared.word.Word.{Word}
use Rattle.jwords.specs.declared.word.WordKind.{WordKind}
use Rattle.jwords.specs.declared.word.WordKind.TheVariants as word
use Rattle.jexplicit.specs.declared.kind.Kind.{Kind}
use Rattle.jexplicit.specs.declared.kind.Kind.TheVariants as kind
use Rattle.jexplicit.specs.declared.kind.Looping.TheVariants as looping
use Rattle.jexplicit.specs.declared.stretch.Role.{Role}
use Rattle.jexplicit.specs.declared.stretch.Role.TheVariants as role
use Rattle.jexplicit.specs.declared.stretch.Stretch.{Stretch}
use Rattle.jexplicit.specs.declared.stretch.Begun.{Begun}

-- the bytes of a word in its line
abbrev pub written : List ℕ → Word → List ℕ
written line w = take (w.end - w.start) (drop w.start line)

-- the words of `if.` and `select.`, and those of all groups
abbrev pub choice_word : List ℕ → Option Kind
choice_word run =
    if bytes_eq run (codes "if.") then Some kind.If else
    if bytes_eq run (codes "elseif.") then Some kind.Elseif else
    if bytes_eq run (codes "else.") then Some kind.Else else
    if bytes_eq run (codes "do.") then Some kind.Do else
    if bytes_eq run (codes "end.") then Some kind.End else
    if bytes_eq run (codes "select.") then Some kind.Select else
    if bytes_eq run (codes "case.") then Some (kind.Case false) else
    if bytes_eq run (codes "fcase.") then Some (kind.Case true) else None

abbrev pub other_word : List ℕ → Option Kind
other_word run =
    if bytes_eq run (codes "try.") then Some kind.Try else
    if bytes_eq run (codes "catch.") then Some kind.Catch else
    if bytes_eq run (codes "assert.") then Some kind.Assert else
    if bytes_eq run (codes "break.") then Some kind.Break else
    if bytes_eq run (codes "continue.") then Some kind.Continue else
    if bytes_eq run (codes "return.") then Some kind.Return else None

-- a word with an inflection that begins with `for_` is `for_name.`
abbrev pub begins_named : List ℕ → Bool
begins_named run = bytes_eq (take 4 run) (codes "for_")

abbrev pub loop_word : List ℕ → Option Kind
loop_word run =
    if bytes_eq run (codes "while.") then Some (kind.Loop looping.While) else
    if bytes_eq run (codes "whilst.") then Some (kind.Loop looping.Whilst) else
    if bytes_eq run (codes "for.") then Some (kind.Loop looping.For) else
    if begins_named run then Some (kind.Loop looping.For) else None

-- the control word that an inflected word is, if it is one
abbrev pub control_of : List ℕ → Option Kind
control_of run = option_or (choice_word run) (option_or (loop_word run) (other_word run))

abbrev pub control_role : Option Kind → Role
control_role (Some k) = role.Control k
control_role None = role.Other

abbrev pub brace_role : List ℕ → Role
brace_role run = if bytes_eq run (codes "{{") then role.Open else if bytes_eq run (codes "}}") then role.Close else role.Other

abbrev pub role_by : WordKind → List ℕ → Role
role_by word.Inflected run = control_role (control_of run)
role_by word.Graphic run = brace_role run
role_by word.Comment run = role.Comment
role_by word.Name run = role.Other
role_by word.Number run = role.Other
role_by word.Text run = role.Other

abbrev pub role_of : List ℕ → Word → Role
role_of line w = role_by w.kind (written line w)

-- how many pairs are open behind a word
abbrev pub depth_after : Role → ℕ → ℕ
depth_after role.Open depth = depth + 1
depth_after role.Close depth = depth - 1
depth_after _ depth = depth

abbrev pub begun : ℕ → ℕ → Bool → Begun
begun depth place full = record { depth = depth; from = place; full = full }

-- a control word outside of pairs ends a stretch; a comment alone makes no sentence
abbrev pub begun_after : Role → ℕ → Begun → Begun
begun_after (role.Control k) at b = if b.depth == 0 then begun 0 (at + 1) false else begun b.depth b.from true
begun_after role.Comment at b = b
begun_after r at b = begun (depth_after r b.depth) b.from true

abbrev pub stretch : Kind → ℕ → ℕ → ℕ → Stretch
stretch k number first behind = record { kind = k; line = number; from = first; to = behind }

-- the sentence that ends before this place, if it has words
abbrev pub sentence_before : ℕ → ℕ → Begun → List Stretch
sentence_before number at b = if b.full then stretch kind.Sentence number b.from at ∷ [] else []

abbrev pub ended_by : Role → ℕ → ℕ → Begun → List Stretch
ended_by (role.Control k) number at b = if b.depth == 0 then sentence_before number at b ++ stretch k number at (at + 1) ∷ [] else []
ended_by _ number at b = []

-- the control words and sentences of the words from this place on in the line with this number
abbrev pub parted : ℕ → List ℕ → List Word → ℕ → Begun → List Stretch
parted number line [] at b = sentence_before number at b
parted number line (w ∷ ws) at b =
    ended_by (role_of line w) number at b ++ parted number line ws (at + 1) (begun_after (role_of line w) at b)

abbrev pub stretches : ℕ → List ℕ → List Word → List Stretch
stretches number line words = parted number line words 0 (begun 0 0 false)

abbrev pub closes_at : Role → ℕ → Bool
closes_at role.Close depth = depth == 0
closes_at _ depth = false

-- each `}}` of these words has its `{{` before it in the line, and all that are open are closed
abbrev pub are_paired : List ℕ → List Word → ℕ → Bool
are_paired line [] depth = depth == 0
are_paired line (w ∷ ws) depth =
    if closes_at (role_of line w) depth then false else are_paired line ws (depth_after (role_of line w) depth)

-- a name of one letter, which is one of these
abbrev pub is_letter_of : List ℕ → List ℕ → Bool
is_letter_of letters (letter ∷ []) = list_any (λ other. other == letter) letters
is_letter_of letters _ = false

abbrev pub is_name : WordKind → Bool
is_name word.Name = true
is_name word.Inflected = false
is_name word.Number = false
is_name word.Text = false
is_name word.Graphic = false
is_name word.Comment = false

-- one of these letters is a name in the line where no `{{` before it in the line is open
abbrev pub names_one : List ℕ → List ℕ → List Word → ℕ → Bool
names_one letters line [] depth = false
names_one letters line (w ∷ ws) depth =
    (depth == 0 && (is_name w.kind && is_letter_of letters (written line w)))
    || names_one letters line ws (depth_after (role_of line w) depth)

-- the name of a `for_name.`
abbrev pub item_name : List ℕ → Option (List ℕ)
item_name run = if begins_named run then Some (take (length run - 5) (drop 4 run)) else None
