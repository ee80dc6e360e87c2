-- A derivation that applies primitive verbs alone is run to its value, and `v/` of a list of integers is such a one.
use Rattle.std.specs.Prelude.{◌≡◌, ◌+◌, ◌<◌, ◌*◌, negsuc, pos, ℕ, ℤ, suc, Bool, true, false, List, [], ◌∷◌, ◌++◌, Option, Some, None, Result, Ok, Err, get_or, is_some, length, map, reverse, take, drop, IfSome}
use Rattle.std.proofs.Common.{ap, arith, sym, ◌∙◌, refl}
use Rattle.std.specs.List.{range_with_len}
use Rattle.std.proofs.lemmas.List.{length-map, map-append, reverse-append}
use Rattle.std.proofs.Math.Seq.{take-length}
use Rattle.jdata.proofs.Lists.{same_map, window}
use Rattle.jdata.specs.Limits.{IsArray}
use Rattle.jdata.specs.Noun.{atoms, int_atom, kind, noun, shape, product}
use Rattle.jdata.specs.declared.fault.Fault.{Fault}
use Rattle.jdata.specs.declared.noun.Noun.{Noun, roll-out-Noun}
use Rattle.jdata.specs.declared.noun.Kind.{Kind}
use Rattle.jdata.specs.declared.noun.Kind.TheVariants as sort
use Rattle.jdata.specs.declared.noun.Atom.TheVariants as atom
use Rattle.jdata.specs.declared.primitive.Primitive.{Primitive}
use Rattle.jdata.specs.declared.primitive.Primitive.TheVariants.{Equal, TildeColon, SlashColon, BackslashColon, Dollar, Comma, CommaDot, CommaColon, BarColon, BarDot, LeftBrace, LeftBraceDot, LeftBraceColonColon, RightBraceDot, LeftBracket, RightBracket, LeftBracketColon, IDot, IColon, CapitalIDot, Hash, HashDot, HashColon, Semicolon, MinusColon, MinusDot, EDot}
use Rattle.jdyad.proofs.Wholes.{alone_number, listed}
use Rattle.jfold.specs.Folded.{between, by_row, inserted as folded, of_back, on_number}
use Rattle.jframe.proofs.Arrays.{cell_of_integer, get_or-mapped}
use Rattle.jframe.specs.Cells.{cell_at, cell_count, nth_cell}
use Rattle.jplan.specs.Derivations.{Answer, Derivation, Application}
use Rattle.jplan.specs.Inserting.{insert_in, inserted, items_back}
use Rattle.jplan.specs.Modifiers.{derived, derived_of}
use Rattle.jprim.proofs.Rows.{dyad_is}
use Rattle.jprim.specs.Dyads as dyads
use Rattle.jscalar.specs.Dyads.{dyad_on, on_two, two_of}
use Rattle.jstruct.specs.Shaping.{integer_list}
use Rattle.jterm.specs.declared.term.Term.{Term, Term-F, out-Term}
use Rattle.jterm.specs.declared.term.Term.TheVariants as term
use Rattle.jterm.specs.declared.term.Term.TheOpen as one
use Rattle.jterm.specs.declared.words.Adv.{Adv}
use Rattle.jterm.specs.declared.words.Adv.TheVariants as adv
use Rattle.juses.specs.Program.{Return, Ask}
use Rattle.jeval.specs.declared.state.State.{State}
use Rattle.jeval.specs.Action.{Action, answers, gives, ◌hears◌}
use Rattle.jeval.specs.Applying.{Part, applied, asked, ran}
use Rattle.jeval.specs.Direct.{by_verb, direct, inserted_verb, inserted_verb_of, on_value, plain_verb, primitive_in}
use Rattle.jeval.specs.Verbs.{primitive}

-- a verb that is applied at once where it is primitive
abbrev pub AtOnce : Part → Type 0
AtOnce part = (verb : Primitive) (x : Option Noun) (y : Noun) → part (term.Verb verb) x y ≡ answers (primitive verb x y)

-- what applies verbs does so
pub at_once : (levels : ℕ) → AtOnce (applied levels)
at_once levels verb x y = refl

heard : (answer : Answer) (next : Noun → Option Noun) (after : Answer → Action Noun) (value : Noun) (s : State) →
    ((v : Noun) → next v ≡ Some value → after (Ok v) s ≡ gives value s) → on_value next answer ≡ Some value → (answers answer hears after) s ≡ gives value s
unfolding ◌hears◌
heard (Ok v) next after value s goes e = goes v e
heard (Err fault) next after value s goes e = cc

applies : (part : Part) → AtOnce part → (repeats : Bool) (verb : Term) (x : Option Noun) (y : Noun) (next : Noun → Option Noun) (after : Answer → Action Noun) (value : Noun) (s : State) →
    ((v : Noun) → next v ≡ Some value → after (Ok v) s ≡ gives value s) → by_verb next (plain_verb repeats verb) x y ≡ Some value → (asked repeats (part verb x y) hears after) s ≡ gives value s
applies part once true verb x y next after value s goes e = cc
applies part once false (term.Verb verb) x y next after value s goes e =
    ap (λ action. (action hears after) s) (once verb x y) ∙ heard (primitive verb x y) next after value s goes e
applies part once false verb x y next after value s goes e = cc

-- such a derivation is run to its value
pub runs : (part : Part) → AtOnce part → (d : Derivation) (value : Noun) → direct d ≡ Some value → (s : State) → ran part d s ≡ gives value s
runs part once (Return (Ok v)) value e s = let same : v ≡ value = cc in ap (λ a. gives a s) same
runs part once (Return (Err fault)) value e s = cc
runs part once (Ask a next) value e s =
    applies part once a.repeats a.verb a.x a.y (λ v. direct (next (Ok v))) (λ answer. ran part (next answer)) value s
    (λ v f. runs part once (next (Ok v)) value f s) e

-- the scalar verbs by their rows
on_integers_row : (row : Option (ℤ → ℤ → Result ℤ Fault)) → dyads.is_whole (dyads.on_integers row) ≡ false
on_integers_row (Some meant) = refl
on_integers_row None = refl

scalar_row : (verb : Primitive) (meant : ℤ → ℤ → Result ℤ Fault) → dyad_on verb ≡ Some meant → dyads.is_whole (dyads.dyad_of verb) ≡ false
unfolding dyad_on dyads.dyad_of
scalar_row Dollar meant e = cc
scalar_row Comma meant e = cc
scalar_row CommaDot meant e = cc
scalar_row CommaColon meant e = cc
scalar_row BarColon meant e = cc
scalar_row BarDot meant e = cc
scalar_row LeftBraceDot meant e = cc
scalar_row RightBraceDot meant e = cc
scalar_row LeftBracket meant e = cc
scalar_row RightBracket meant e = cc
scalar_row LeftBracketColon meant e = cc
scalar_row Hash meant e = cc
scalar_row HashDot meant e = cc
scalar_row HashColon meant e = cc
scalar_row LeftBrace meant e = cc
scalar_row LeftBraceColonColon meant e = cc
scalar_row MinusColon meant e = cc
scalar_row MinusDot meant e = cc
scalar_row IDot meant e = cc
scalar_row IColon meant e = cc
scalar_row EDot meant e = cc
scalar_row Semicolon meant e = cc
scalar_row SlashColon meant e = cc
scalar_row BackslashColon meant e = cc
scalar_row CapitalIDot meant e = cc
scalar_row Equal meant e = refl
scalar_row TildeColon meant e = refl
scalar_row verb meant e = on_integers_row (dyad_on verb)

-- on two integers that stand alone
of_two : (verb : Primitive) (meant : ℤ → ℤ → Result ℤ Fault) → dyad_on verb ≡ Some meant → (m n k : ℤ) → meant m n ≡ Ok k → primitive verb (Some (int_atom m)) (int_atom n) ≡ Ok (int_atom k)
of_two verb meant e m n k h =
    sym (dyad_is verb (scalar_row verb meant e) (int_atom m) (int_atom n))
    ∙ listed verb (int_atom m) (int_atom n) (ap is_some e)
    ∙ alone_number verb m n k (ap (λ row. on_two row m n) e ∙ h)

-- the verb between integers
step : (verb : Primitive) (meant : ℤ → ℤ → Result ℤ Fault) → dyad_on verb ≡ Some meant → (m value n : ℤ) (next : ℤ → Option ℤ) (after : Noun → Option Noun) →
    ((k : ℤ) → next k ≡ Some n → after (int_atom k) ≡ Some (int_atom n)) → (answer : Result ℤ Fault) → meant m value ≡ answer →
    on_number next answer ≡ Some n → on_value after (primitive verb (Some (int_atom m)) (int_atom value)) ≡ Some (int_atom n)
step verb meant e m value n next after goes (Ok k) g h = ap (on_value after) (of_two verb meant e m value k g) ∙ goes k h
step verb meant e m value n next after goes (Err fault) g h = cc

between_atoms : (verb : Primitive) (meant : ℤ → ℤ → Result ℤ Fault) → dyad_on verb ≡ Some meant → (ms : List ℤ) (value n : ℤ) → between meant ms value ≡ Some n →
    direct (inserted (term.Verb verb) (map int_atom ms) (int_atom value)) ≡ Some (int_atom n)
between_atoms verb meant e [] value n h = let same : value ≡ n = cc in ap (λ m. Some (int_atom m)) same
between_atoms verb meant e (m ∷ ms) value n h =
    step verb meant e m value n (between meant ms) (λ v. direct (inserted (term.Verb verb) (map int_atom ms) v))
    (λ k g. between_atoms verb meant e ms k n g) (meant m value) refl h

from_back : (verb : Primitive) (meant : ℤ → ℤ → Result ℤ Fault) → dyad_on verb ≡ Some meant → (y : Noun) (back : List ℤ) (n : ℤ) → of_back meant back ≡ Some n →
    direct (insert_in (term.Verb verb) y (map int_atom back)) ≡ Some (int_atom n)
from_back verb meant e y [] n h = cc
from_back verb meant e y (m ∷ ms) n h = between_atoms verb meant e ms m n h

by_row_of : (verb : Primitive) (row : Option (ℤ → ℤ → Result ℤ Fault)) → dyad_on verb ≡ row → (y : Noun) (back : List ℤ) (n : ℤ) → by_row row back ≡ Some n →
    direct (insert_in (term.Verb verb) y (map int_atom back)) ≡ Some (int_atom n)
by_row_of verb (Some meant) e y back n h = from_back verb meant e y back n h
by_row_of verb None e y back n h = cc

map_reverse : {A B : Type 0} (f : A → B) (l : List A) → reverse (map f l) ≡ map f (reverse l)
map_reverse f [] = refl
map_reverse f (a ∷ l) =
    reverse-append (f a ∷ []) (map f l) ∙ ap (λ m. m ++ f a ∷ []) (map_reverse f l) ∙ sym (map-append f (reverse l) (a ∷ []))
    ∙ ap (map f) (sym (reverse-append (a ∷ []) l))

-- the items of a list of integers
cells_are : (ns : List ℤ) → map (nth_cell [] (integer_list ns)) (range_with_len 0 (length ns)) ≡ map int_atom ns
cells_are ns =
    let d : Noun = int_atom (pos 0) in
    let items : List Noun = map int_atom ns in
    let all : length items ≡ length ns = length-map ns int_atom in
    same_map (nth_cell [] (integer_list ns)) (λ j. get_or items (0 + j) d) (length ns) d
    (λ j below. (let at : j ≡ 0 + j = omega arith in sym (cell_of_integer [] (integer_list ns) j ns refl refl refl) ∙ get_or-mapped int_atom ns j (pos 0) ∙ ap (λ k. get_or items k d) at))
    ∙ sym (window items 0 (length ns) d (omega (arith, all))) ∙ ap (λ n. take n items) (sym all) ∙ take-length items

items_are : (ns : List ℤ) → items_back (integer_list ns) ≡ map int_atom (reverse ns)
items_are ns =
    let whole : length ns * 1 ≡ length ns = omega arith in
    ap (λ n. reverse (map (nth_cell [] (integer_list ns)) (range_with_len 0 n))) whole ∙ ap reverse (cells_are ns) ∙ map_reverse int_atom ns

between_items : (t : Term-F Term) (verb : Primitive) → inserted_verb_of t ≡ Some verb → (ns : List ℤ) (n : ℤ) → folded verb ns ≡ Some n → direct (derived_of t None (integer_list ns)) ≡ Some (int_atom n)
between_items (one.With1 adv.Slash (term.Verb v)) verb e ns n h =
    let same : v ≡ verb = cc in
    ap (λ l. direct (insert_in (term.Verb v) (integer_list ns) l)) (items_are ns)
    ∙ by_row_of v (dyad_on v) refl (integer_list ns) (reverse ns) n (ap (λ w. folded w ns) same ∙ h)
between_items t verb e ns n h = cc

pub inserts : (t : Term) (verb : Primitive) → inserted_verb_of (out-Term t) ≡ Some verb → (ns : List ℤ) (n : ℤ) → folded verb ns ≡ Some n → direct (derived t None (integer_list ns)) ≡ Some (int_atom n)
inserts t verb e ns n h = between_items (out-Term t) verb e ns n h

-- a list of integers by its parts
only_axis : (axes : List ℕ) (n : ℕ) → length axes ≡ 1 → product axes ≡ n → axes ≡ n ∷ []
only_axis [] n one e = absurd (omega (arith, one))
only_axis (m ∷ []) n one e = let same : m ≡ n = omega (arith, e) in ap (λ k. k ∷ []) same
only_axis (m ∷ k ∷ axes) n one e = absurd (omega (arith, one))

pub list_is : (y : Noun) (ns : List ℤ) → length (shape y) ≡ 1 → IsArray y → kind y ≡ sort.Int → atoms y ≡ map atom.Int ns → y ≡ integer_list ns
list_is y ns one array is are =
    let count : product (shape y) ≡ length ns = sym array.whole ∙ ap length are ∙ length-map ns atom.Int in
    let axes : shape y ≡ length ns ∷ [] = only_axis (shape y) (length ns) one count in
    sym (roll-out-Noun y) ∙ (λ i. noun (axes i) (is i) (are i))

pub gives_value : (t : Term) (x : Option Noun) (y : Noun) (verb : Primitive) (ns : List ℤ) (r : Option ℤ) → false ≡ is_some x → inserted_verb t ≡ Some verb → y ≡ integer_list ns → r ≡ folded verb ns →
    IfSome r (λ n. direct (derived t x y) ≡ Some (int_atom n))
gives_value t x y verb ns None alone e is r = tt
gives_value t None y verb ns (Some n) alone e is r = ap (λ v. direct (derived t None v)) is ∙ inserts t verb e ns n (sym r)
gives_value t (Some x) y verb ns (Some n) alone e is r = cc
