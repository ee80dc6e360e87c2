-- What is taken of the values of tests (J Dictionary, "Control Structures"; NuVoc, "select." and "for."): a case, and an
-- item for a round.
use Rattle.std.specs.Prelude.{ℕ, nat_lt, negsuc, ℤ, Bool, if◌then◌else◌, Option, Some, None, List}
use Rattle.std.specs.List.{list_any}
use Rattle.jarray.specs.Matches.{is_box, matches}
use Rattle.jdata.specs.Kinds.{same_kind}
use Rattle.jdata.specs.Noun.{kind, atoms}
use Rattle.jdata.specs.declared.noun.Noun.{Noun}
use Rattle.jdata.specs.declared.noun.Kind.TheVariants as sort
use Rattle.jdata.specs.declared.noun.Atom.{Atom, out-Atom}
use Rattle.jframe.specs.Cells.{cell_at, cell_count}

-- whether one of the boxes has a content that passes. A pyx has no content: pyxes are opened before
abbrev pub has_content : (Noun → Bool) → List Atom → Bool
has_content test l = list_any (λ a. is_box test (out-Atom a)) l

abbrev pub is_boxed : Noun → Bool
is_boxed v = same_kind (kind v) sort.Boxed

-- the same of an array, which is boxed first where it isn't of kind boxed
abbrev pub holds_content : (Noun → Bool) → Noun → Bool
holds_content test v = if is_boxed v then has_content test (atoms v) else test v

-- a case is taken where the content of a box of the selected value matches that of a box of the case's value
unfoldable pub is_taken : Noun → Noun → Bool
is_taken selected value = holds_content (λ content. holds_content (matches content) value) selected

-- items are cells of rank _1: an atom has one, itself
abbrev pub item_rank : Option ℤ
item_rank = Some (negsuc 0)

-- the item with this number, counted from 0, where there is one
abbrev pub item : ℕ → Noun → Option Noun
item number v = if nat_lt number (cell_count item_rank v) then Some (cell_at item_rank v number) else None
