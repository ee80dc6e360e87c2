-- A verb applied several times, one application after the other, and the results in one array (J Dictionary, "Verbs";
-- NuVoc, "Rank", "Framing Fill").
use Rattle.std.specs.Prelude.{◌≡◌, ◌<◌, ℕ, ℤ, ◌-◌, ◌==◌, nat_le, if◌then◌else◌, Option, None, List, [], ◌∷◌, ◌++◌, length, get_or, Result, Ok, Err}
use Rattle.std.specs.List.{range_with_len}
use Rattle.jdata.specs.Firsts.{and_then}
use Rattle.jdata.specs.Limits.{most_atoms}
use Rattle.jdata.specs.Noun.{product}
use Rattle.jdata.specs.declared.fault.Fault.{Fault}
use Rattle.jdata.specs.declared.fault.Fault.TheVariants.{Limit}
use Rattle.jdata.specs.declared.noun.Noun.{Noun}
use Rattle.jcut.specs.Parted.{Parted, pieces, no_items}
use Rattle.jframe.specs.Assembly.{assembled}
use Rattle.jframe.specs.Ranks.{for_shape}
use Rattle.jterm.specs.declared.term.Term.{Term}
use Rattle.juses.specs.Program.{Return, Ask}
use Rattle.jplan.specs.Arguments.{frame, x_in, x_of_cell, y_of_cell, x_of_fills, y_of_fills}
use Rattle.jplan.specs.Derivations.{Answer, Derivation, on, on_value, refused}
use Rattle.jplan.specs.declared.parts.Parts.{Parts}
use Rattle.jplan.specs.declared.parts.Parts.TheVariants as parts

-- arguments of a verb
abbrev pub Pair : Type 0
Pair = Option Noun × Noun

-- the arguments of the applications whose results stand in a frame, and those that are taken where it has a 0
pub record Several : Type 0 where
  pub frame : List ℕ
  pub part : ℕ → Pair
  pub none : Pair

-- the one result where there are none: of the answer only the shape and the kind count
abbrev pub alone : List ℕ → Answer → Answer
alone frame answer = and_then (for_shape answer) (λ v. assembled frame (v ∷ []))

-- the applications with these numbers, behind these results
abbrev pub each : Term → Several → List ℕ → List Noun → Derivation
each u s [] results = Return (assembled s.frame results)
each u s (i ∷ is) results = Ask (on u (s.part i).0 (s.part i).1) (on_value (λ v. each u s is (results ++ v ∷ [])))

-- those from one on
abbrev pub from_on : Term → Several → ℕ → List Noun → Derivation
from_on u s i results = each u s (range_with_len i (product s.frame - i)) results

abbrev pub several : Term → Several → Derivation
several u s =
    if product s.frame == 0
    then Ask (on u s.none.0 s.none.1) (λ answer. Return (alone s.frame answer))
    else from_on u s 0 []

-- the verb on the cells of its arguments
abbrev pub on_cells : Option ℤ → Option ℤ → Option Noun → Noun → List ℕ → Several
on_cells left right x y whole = record {
  frame = whole;
  part = λ i. (x_of_cell left x whole i, y_of_cell right y whole i);
  none = (x_of_fills left x, y_of_fills right y);
}

-- the verb on each piece or, where there is none, on no items
abbrev pub on_pieces : Parted → Several
on_pieces p = record {
  frame = length p.places ∷ [];
  part = λ i. (None, get_or (pieces p) i (no_items p));
  none = (None, no_items p);
}

-- more pieces than an array has items at most are refused at once
abbrev pub several_pieces : Term → Parted → Derivation
several_pieces u p = if nat_le (length p.places) most_atoms then several u (on_pieces p) else refused Limit

-- goes on with the frame of the arguments, where they agree
abbrev pub with_frame : Result (List ℕ) Fault → (List ℕ → Derivation) → Derivation
with_frame (Ok whole) next = next whole
with_frame (Err fault) next = refused fault

abbrev pub several_cells : Term → Option ℤ → Option ℤ → Option Noun → Noun → Derivation
several_cells u left right x y = with_frame (frame left right x y) (λ whole. several u (on_cells left right x y whole))

abbrev pub several_of : Parts → Several
several_of (parts.Cells a) = on_cells a.left a.right (x_in a.x) a.y.value a.frame
several_of (parts.Pieces p) = on_pieces p.pieces

-- a verb is being applied: so many results are there, and an application is waited for
pub record IsGoing (those : Parts) (at : ℕ) (results : List Noun) : Type 0 where
  pub so_far : length results ≡ at
  pub more : at < product (several_of those).frame
