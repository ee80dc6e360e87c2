-- A derived verb on pieces of a list, each of which is a turn and an application that is direct.
use Rattle.std.specs.Prelude.{◌≡◌, ◌+◌, ◌-◌, ◌*◌, ◌<◌, ◌≤◌, ◌==◌, nat_le, pos, get_or, ℕ, ℤ, zero, suc, Bool, true, false, List, [], ◌∷◌, ◌++◌, Option, Some, None, Result, Ok, Err, drop, length, map, take}
use Rattle.std.specs.List.{All, flat_map, range_with_len}
use Rattle.std.specs.Prelude.{◌≢◌, IfOk, IfSome}
use Rattle.std.proofs.Common.{ap, arith, sym, ◌∙◌, refl, subst}
use Rattle.std.proofs.lemmas.List.{append-nil, append_assoc, length-drop, length-map, length-take-le}
use Rattle.std.proofs.lemmas.Bool.{le-leb, ne_eqb}
use Rattle.std.proofs.lemmas.List.{get_or-map}
use Rattle.std.proofs.lemmas.List.Elements.{All-cons, All-head, All-nil, All-tail}
use Rattle.std.proofs.lemmas.List.FromFn.{get_or-map-range_with_len, get_or-range_with_len, length-map-range_with_len, length-range_with_len}
use Rattle.std.proofs.Math.Seq.{take-length}
use Rattle.jarray.proofs.Atoms.{alone_is_array}
use Rattle.jcut.proofs.Bounds.{range_below}
use Rattle.jcut.proofs.Making.{runs_between}
use Rattle.jcut.specs.Parted.{Parted, no_items, pieces}
use Rattle.jcut.specs.Runs.{run_places}
use Rattle.jcut.specs.declared.run.Run.{Run}
use Rattle.jdata.proofs.Arrays.{few_atoms, integers_are_array}
use Rattle.jdata.proofs.Lists.{range-map, same_map, window}
use Rattle.jdata.specs.Limits.{IsArray, IsShape, limited, most_atoms}
use Rattle.jdata.specs.Noun.{atoms, int_atom, noun, product}
use Rattle.jdata.specs.declared.fault.Fault.{Fault}
use Rattle.jdata.specs.declared.fault.NoMemory.{NoMemory}
use Rattle.jdata.specs.declared.fault.Fault.TheVariants.{Limit}
use Rattle.jdata.specs.declared.noun.Noun.{Noun}
use Rattle.jdata.specs.declared.noun.Kind.TheVariants as sort
use Rattle.jdata.specs.declared.noun.Atom.TheVariants as atom
use Rattle.jdata.specs.declared.primitive.Primitive.{Primitive}
use Rattle.jframe.specs.Assembly.{assembled}
use Rattle.jframe.proofs.Alike.{AreAlike, assembled_alike}
use Rattle.jframe.proofs.Arrays.{get_or-mapped}
use Rattle.jframe.proofs.Assembling.{chosen, refused as other}
use Rattle.jplan.specs.Derivations.{on, on_value, refused}
use Rattle.jplan.specs.Modifiers.{derived, derived_of, modified}
use Rattle.jplan.specs.Several.{Several, alone, each, from_on, on_pieces, several, several_pieces}
use Rattle.jprim.proofs.OneCell.{within_limits}
use Rattle.jselect.specs.Picking.{items_at, runs}
use Rattle.jsplit.specs.Divisions.{how_many, run_of, runs as divided}
use Rattle.jsplit.specs.Fixes.{within}
use Rattle.jsplit.specs.declared.division.Division.{Division}
use Rattle.jsplit.specs.declared.division.Division.TheVariants as division
use Rattle.jfold.specs.Folded.{inserted as folded}
use Rattle.jselect.proofs.Picked.{items_are_runs}
use Rattle.jstruct.specs.Shaping.{integer_list}
use Rattle.juses.specs.Program.{Ask, Return, ◌>>=◌}
use Rattle.jterm.specs.declared.term.Term.{Term, Term-F, out-Term, out-roll-Term, roll-Term, roll-out-Term}
use Rattle.jterm.specs.declared.term.Term.TheOpen as one
use Rattle.jterm.specs.declared.term.Term.TheVariants as term
use Rattle.jterm.proofs.RanksOf.{ranks_with1}
use Rattle.jterm.specs.declared.words.Adv.{Adv}
use Rattle.jterm.specs.declared.words.Adv.TheVariants as adv
use Rattle.jeval.specs.declared.end.EvalEnd.{EvalEnd}
use Rattle.jeval.specs.declared.state.State.{State}
use Rattle.jeval.specs.Action.{Action, answers, hearing, gives, turn_of, with_left, with_turn, ◌hears◌}
use Rattle.jeval.specs.Applying.{Part, applied, layer, nested, ran}
use Rattle.jeval.specs.Cells.{at_ranks}
use Rattle.jeval.specs.Direct.{TakesTurns, direct, inserted_verb, inserted_verb_of, primitive_in, scan_by, scan_in, scan_of, values_of}
use Rattle.jeval.specs.declared.direct.Scan.{Scan}
use Rattle.jeval.specs.declared.direct.Scan.TheVariants as scan
use Rattle.jeval.proofs.Directly.{at_once, inserts, runs as runs_to}

-- an inserted verb on an argument, with a level left: it takes a turn, and gives its value
inserted_applies : (levels : ℕ) (u : Term) (y : Noun) (value : Noun) (l : ℕ) (s : State) → direct (derived (term.With1 adv.Slash u) None y) ≡ Some value →
    applied (suc levels) (term.With1 adv.Slash u) None y (with_left (suc l) s) ≡ gives value (with_left l s)
unfolding nested with_turn
inserted_applies levels u y value l s e =
    let t : Term = term.With1 adv.Slash u in
    ap (λ r. at_ranks (nested (suc levels) t) (None, r.monad) None y (with_left (suc l) s)) (ranks_with1 adv.Slash u)
    ∙ runs_to (applied levels) (at_once levels) (derived (term.With1 adv.Slash u) None y) value e (with_left l s)

-- argument i is an only one, on which the verb is direct and has this value
abbrev Applies : Term → Several → (ℕ → ℤ) → ℕ → Type 0
Applies t those value i = ((those.part i).0 ≡ None) × (direct (derived t None (those.part i).1) ≡ Some (int_atom (value i)))

-- such a verb on each of several arguments
each_applies : (levels : ℕ) (u : Term) (those : Several) (value : ℕ → ℤ) (is : List ℕ) (results : List Noun) (l : ℕ) (s : State) →
    All (Applies (term.With1 adv.Slash u) those value) is →
    ran (applied (suc levels)) (each (term.With1 adv.Slash u) those is results) (with_left (length is + l) s)
    ≡ answers (assembled those.frame (results ++ map (λ i. int_atom (value i)) is)) (with_left l s)
unfolding ◌hears◌
each_applies levels u those value [] results l s h =
    let none : 0 + l ≡ l = omega arith in
    ap (λ n. answers (assembled those.frame results) (with_left n s)) none ∙ ap (λ vs. answers (assembled those.frame vs) (with_left l s)) (sym (append-nil results))
each_applies levels u those value (i ∷ is) results l s h =
    let t : Term = term.With1 adv.Slash u in
    let y : Noun = (those.part i).1 in
    let v : Noun = int_atom (value i) in
    let P : ℕ → Type 0 = Applies t those value in
    let here : P i = All-head P i is h in
    let more : suc (length is) + l ≡ suc (length is + l) = omega arith in
    let after : Result Noun Fault → Action Noun = λ answer. ran (applied (suc levels)) (on_value (λ w. each t those is (results ++ w ∷ [])) answer) in
    ap (λ n. ran (applied (suc levels)) (each t those (i ∷ is) results) (with_left n s)) more
    ∙ ap (λ x. applied (suc levels) t x y (with_left (suc (length is + l)) s) >>= hearing after) here.0
    ∙ ap (λ rest. rest >>= hearing after) (inserted_applies levels u y v (length is + l) s here.1)
    ∙ each_applies levels u those value is (results ++ v ∷ []) l s (All-tail P i is h)
    ∙ ap (λ vs. answers (assembled those.frame vs) (with_left l s)) (append_assoc results (v ∷ []) (map (λ i. int_atom (value i)) is))

-- items of a list of integers that stand together are a list of integers
piece_is : (ns : List ℤ) (start count : ℕ) → start + count ≤ length ns → IsArray (integer_list ns) →
    items_at (range_with_len start count) (integer_list ns) ≡ integer_list (take count (drop start ns))
piece_is ns start count fits array =
    let places : List ℕ = range_with_len start count in
    let many : length places ≡ count = length-range_with_len start count in
    let as_many : length (take count (drop start ns)) ≡ count = length-take-le count (drop start ns) (omega (arith, fits, length-drop start ns)) in
    let from : start * 1 ≡ start = omega arith in
    let to : count * 1 ≡ count = omega arith in
    let numbers : runs 1 (map atom.Int ns) places ≡ map atom.Int (take count (drop start ns)) =
    runs_between 1 (map atom.Int ns) start count ∙ (λ k. take (to k) (drop (from k) (map atom.Int ns))) ∙ sym (range-map atom.Int start count ns) in
    items_are_runs (integer_list ns) places array (range_below start count (length ns) fits)
    ∙ (λ k. noun ((many ∙ sym as_many) k ∷ []) sort.Int (numbers k))

-- atoms one after the other are a list
listed : (ns : List ℤ) → flat_map (λ v. atoms v) (map int_atom ns) ≡ map atom.Int ns
listed [] = refl
listed (n ∷ ns) = ap (λ l. atom.Int n ∷ l) (listed ns)

alike : (ns : List ℤ) → AreAlike [] sort.Int (map int_atom ns)
alike [] = tt
alike (n ∷ ns) = (refl, refl, alone_is_array n, alike ns)

assembled_atoms : (n : ℤ) (ns : List ℤ) → IsArray (integer_list (n ∷ ns)) → assembled (length (n ∷ ns) ∷ []) (map int_atom (n ∷ ns)) ≡ Ok (integer_list (n ∷ ns))
assembled_atoms n ns array =
    let all : List ℤ = n ∷ ns in
    let count : product (length all ∷ []) ≡ length (map int_atom all) = omega (arith, length-map all int_atom) in
    assembled_alike (length all ∷ []) [] sort.Int (int_atom n) (map int_atom ns) (alike all) count
    ∙ ap (λ l. limited (noun (length all ∷ []) sort.Int l)) (listed all)
    ∙ within_limits (integer_list all) array

-- how a list is divided into pieces of which each item has one
pub record Divides (d : Division) (ns : List ℤ) (part : ℕ → List ℤ) : Type 0 where
  pub as_many : how_many d (length ns) ≡ length ns
  pub fits : (i : ℕ) → i < length ns → (run_of d (length ns) i).start + (run_of d (length ns) i).count ≤ length ns
  pub is : (i : ℕ) → i < length ns → take (run_of d (length ns) i).count (drop (run_of d (length ns) i).start ns) ≡ part i

pub by_prefixes : (ns : List ℤ) → Divides division.Prefixes ns (λ i. take (i + 1) ns)
by_prefixes ns = record { as_many = refl; fits = λ i below. omega (arith, below); is = λ i below. refl }

pub by_suffixes : (ns : List ℤ) → Divides division.Suffixes ns (λ i. drop i ns)
by_suffixes ns = record {
  as_many = refl;
  fits = λ i below. omega (arith, below);
  is = λ i below. ap (λ n. take n (drop i ns)) (sym (length-drop i ns)) ∙ take-length (drop i ns);
}

abbrev value_at : List ℤ → ℕ → ℤ
value_at values i = get_or values i (pos 0)

-- what holds of each number below another holds of all of them
all_from : (P : ℕ → Type 0) (a n : ℕ) → ((i : ℕ) → i < a + n → P i) → All P (range_with_len a n)
all_from P a zero h = All-nil P
all_from P a (suc n) h = All-cons P a (range_with_len (a + 1) n) (h a (omega arith)) (all_from P (a + 1) n (λ i below. h i (omega (arith, below))))

-- piece i
nth_piece : (d : Division) (ns : List ℤ) (part : ℕ → List ℤ) → Divides d ns part → IsArray (integer_list ns) → (i : ℕ) → i < length ns →
    get_or (pieces (within d (integer_list ns))) i (no_items (within d (integer_list ns))) ≡ integer_list (part i)
unfolding divided
nth_piece d ns part divides array i below =
    let y : Noun = integer_list ns in
    let n : ℕ = length ns in
    let all : List ℕ = range_with_len 0 (how_many d n) in
    let count : length all ≡ n = length-range_with_len 0 (how_many d n) ∙ divides.as_many in
    let some_runs : List Run = map (run_of d n) all in
    let runs_count : length some_runs ≡ n = length-map all (run_of d n) ∙ count in
    let places : List (List ℕ) = map run_places some_runs in
    let places_count : length places ≡ n = length-map some_runs run_places ∙ runs_count in
    let r : Run = run_of d n i in
    let from : 0 + i ≡ i = omega arith in
    let number : get_or all i 0 ≡ i = get_or-range_with_len 0 (how_many d n) i 0 (omega (arith, divides.as_many, below)) ∙ from in
    let run : get_or some_runs i (run_of d n 0) ≡ r = get_or-map (run_of d n) all i 0 (run_of d n 0) (omega (arith, count, below)) ∙ ap (run_of d n) number in
    let place : get_or places i [] ≡ run_places r = get_or-map run_places some_runs i (run_of d n 0) [] (omega (arith, runs_count, below)) ∙ ap run_places run in
    get_or-map (λ p. items_at p y) places i [] (no_items (within d y)) (omega (arith, places_count, below))
    ∙ ap (λ p. items_at p y) place
    ∙ piece_is ns r.start r.count (divides.fits i below) array
    ∙ ap integer_list (divides.is i below)

-- the value of a piece
nth_value : (verb : Primitive) (part : ℕ → List ℤ) (n : ℕ) (values : List ℤ) → map (λ i. folded verb (part i)) (range_with_len 0 n) ≡ map Some values → (i : ℕ) → i < n →
    folded verb (part i) ≡ Some (value_at values i)
nth_value verb part n values are i below =
    let many : length values ≡ n = sym (length-map values Some) ∙ ap length (sym are) ∙ length-map-range_with_len (λ i. folded verb (part i)) 0 n in
    sym (get_or-map-range_with_len (λ i. folded verb (part i)) 0 n i i None below (omega arith))
    ∙ ap (λ l. get_or l i None) are
    ∙ get_or-map Some values i (pos 0) None (omega (arith, many, below))

-- the values as a list
values_are : (values : List ℤ) (n : ℕ) → length values ≡ n → map (λ i. int_atom (value_at values i)) (range_with_len 0 n) ≡ map int_atom values
values_are values n many =
    let d : Noun = int_atom (pos 0) in
    let items : List Noun = map int_atom values in
    let all : length items ≡ n = length-map values int_atom ∙ many in
    same_map (λ i. int_atom (value_at values i)) (λ j. get_or items (0 + j) d) n d (λ j below. (let at : j ≡ 0 + j = omega arith in get_or-mapped int_atom values j (pos 0) ∙ ap (λ k. get_or items k d) at))
    ∙ sym (window items 0 n d (omega (arith, all))) ∙ ap (λ k. take k items) (sym all) ∙ take-length items

in_one : (values : List ℤ) (n : ℕ) → length values ≡ n → 0 < n → n ≤ most_atoms → assembled (n ∷ []) (map int_atom values) ≡ Ok (integer_list values)
in_one [] n many some few = absurd (omega (arith, many, some))
in_one (v ∷ values) n many some few =
    let axes : List ℕ = length (v ∷ values) ∷ [] in
    let within : IsShape axes = record { rank = omega arith; extent_at_most = omega (arith, many, few) } in
    ap (λ m. assembled (m ∷ []) (map int_atom (v ∷ values))) (sym many)
    ∙ assembled_atoms v values (integers_are_array axes (v ∷ values) within (omega arith))

-- the pieces, each with its value
pub pieces_apply : (levels : ℕ) (u : Term) (verb : Primitive) → primitive_in u ≡ Some verb → (d : Division) (ns values : List ℤ) (part : ℕ → List ℤ) → Divides d ns part → IsArray (integer_list ns) → 0 < length ns →
    map (λ i. folded verb (part i)) (range_with_len 0 (length ns)) ≡ map Some values → (l : ℕ) (s : State) →
    ran (applied (suc levels)) (several_pieces (term.With1 adv.Slash u) (within d (integer_list ns))) (with_left (length ns + l) s) ≡ gives (integer_list values) (with_left l s)
unfolding divided
pieces_apply levels u verb e d ns values part divides array some are l s =
    let t : Term = term.With1 adv.Slash u in
    let of : inserted_verb t ≡ Some verb = ap inserted_verb_of (ap out-Term (sym (term.rolls-With1 adv.Slash u)) ∙ out-roll-Term (one.With1 adv.Slash u)) ∙ e in
    let y : Noun = integer_list ns in
    let n : ℕ = length ns in
    let p : Parted = within d y in
    let q : Several = on_pieces p in
    let count : length p.places ≡ n =
    length-map (map (run_of d n) (range_with_len 0 (how_many d n))) run_places ∙ length-map (range_with_len 0 (how_many d n)) (run_of d n)
    ∙ length-range_with_len 0 (how_many d n) ∙ divides.as_many in
    let few : n ≤ most_atoms = omega (arith, few_atoms y array, length-map ns atom.Int) in
    let many : length values ≡ n = sym (length-map values Some) ∙ ap length (sym are) ∙ length-map-range_with_len (λ i. folded verb (part i)) 0 n in
    let whole : length p.places * 1 - 0 ≡ n = omega (arith, count) in
    let begun : several_pieces t p ≡ each t q (range_with_len 0 n) [] =
    chosen (nat_le (length p.places) most_atoms) (several t q) (refused Limit) (le-leb _ _ (omega (arith, count, few)))
    ∙ other (length p.places * 1 == 0) (Ask (on t q.none.0 q.none.1) (λ answer. Return (alone q.frame answer))) (from_on t q 0 []) (ne_eqb _ _ (λ none. omega (arith, count, some, none)))
    ∙ ap (λ k. each t q (range_with_len 0 k) []) whole in
    let each_is : All (Applies t q (value_at values)) (range_with_len 0 n) =
    all_from (Applies t q (value_at values)) 0 n (λ i below. (let inside : i < n = omega (arith, below) in (
      refl,
      ap (λ v. direct (derived t None v)) (nth_piece d ns part divides array i inside)
          ∙ inserts t verb of (part i) (value_at values i) (nth_value verb part n values are i inside),
    ))) in
    let all : length (range_with_len 0 n) ≡ n = length-range_with_len 0 n in
    ap (λ r. ran (applied (suc levels)) r (with_left (n + l) s)) begun
    ∙ ap (λ m. ran (applied (suc levels)) (each t q (range_with_len 0 n) []) (with_left (m + l) s)) (sym all)
    ∙ each_applies levels u q (value_at values) (range_with_len 0 n) [] l s each_is
    ∙ ap (λ answer. answers answer (with_left l s))
    ((λ k. assembled (count k ∷ []) (values_are values n many k)) ∙ in_one values n many some few)

-- a verb that inserts a primitive one
inserting_of : (o : Term-F Term) (verb : Primitive) → inserted_verb_of o ≡ Some verb → (w : Term) × (roll-Term o ≡ term.With1 adv.Slash w) × (primitive_in w ≡ Some verb)
inserting_of (one.With1 adv.Slash w) verb e = (w, term.rolls-With1 adv.Slash w, e)
inserting_of o verb e = cc

inserting : (u : Term) (verb : Primitive) → inserted_verb u ≡ Some verb → (w : Term) × (u ≡ term.With1 adv.Slash w) × (primitive_in w ≡ Some verb)
inserting u verb e = let found = inserting_of (out-Term u) verb e in (found.0, sym (roll-out-Term u) ∙ found.1, found.2)

turns_of : (u : Term) (verb : Primitive) → inserted_verb u ≡ Some verb → (d : Division) (ns values : List ℤ) (part : ℕ → List ℤ) → Divides d ns part → IsArray (integer_list ns) → 0 < length ns →
    map (λ i. folded verb (part i)) (range_with_len 0 (length ns)) ≡ map Some values → TakesTurns (several_pieces u (within d (integer_list ns))) values
turns_of u verb e d ns values part divides array some are levels left s =
    let found = inserting u verb e in
    let many : length values ≡ length ns = sym (length-map values Some) ∙ ap length (sym are) ∙ length-map-range_with_len (λ i. folded verb (part i)) 0 (length ns) in
    (λ i. ran (applied (suc levels)) (several_pieces (found.1 i) (within d (integer_list ns))) (with_left (many i + left) s))
    ∙ pieces_apply levels found.0 verb found.2 d ns values part divides array some are left s

by_word : (word : Adv) (u : Term) (row : Option Primitive) → inserted_verb u ≡ row → (sc : Scan) → scan_by word row ≡ Some sc → (ns values : List ℤ) → IsArray (integer_list ns) → 0 < length ns →
    values_of sc ns ≡ map Some values → TakesTurns (modified word u None (integer_list ns)) values
by_word adv.Backslash u (Some verb) e sc f ns values array some are =
    let same : sc ≡ scan.Prefixes verb = cc in
    turns_of u verb e division.Prefixes ns values (λ i. take (i + 1) ns) (by_prefixes ns) array some (ap (λ c. values_of c ns) (sym same) ∙ are)
by_word adv.BackslashDot u (Some verb) e sc f ns values array some are =
    let same : sc ≡ scan.Suffixes verb = cc in
    turns_of u verb e division.Suffixes ns values (λ i. drop i ns) (by_suffixes ns) array some (ap (λ c. values_of c ns) (sym same) ∙ are)
by_word word u row e sc f ns values array some are = cc

by_term : (t : Term-F Term) (sc : Scan) → scan_of t ≡ Some sc → (ns values : List ℤ) → IsArray (integer_list ns) → 0 < length ns → values_of sc ns ≡ map Some values →
    TakesTurns (derived_of t None (integer_list ns)) values
by_term (one.With1 word u) sc e ns values array some are = by_word word u (inserted_verb u) refl sc e ns values array some are
by_term t sc e ns values array some are = cc

-- an inserted scalar verb on prefixes or suffixes of integers
pub scans : (t : Term) (sc : Scan) → scan_in t ≡ Some sc → (ns values : List ℤ) → IsArray (integer_list ns) → 0 < length ns → values_of sc ns ≡ map Some values →
    TakesTurns (derived t None (integer_list ns)) values
scans t sc e ns values array some are = by_term (out-Term t) sc e ns values array some are

value_count : (sc : Scan) (ns values : List ℤ) → values_of sc ns ≡ map Some values → length values ≡ length ns
value_count (scan.Prefixes verb) ns values are = sym (length-map values Some) ∙ ap length (sym are) ∙ length-map-range_with_len (λ i. folded verb (take (i + 1) ns)) 0 (length ns)
value_count (scan.Suffixes verb) ns values are = sym (length-map values Some) ∙ ap length (sym are) ∙ length-map-range_with_len (λ i. folded verb (drop i ns)) 0 (length ns)

not_none : (n : ℕ) → false ≡ (n == 0) → 0 < n
not_none zero e = cc
not_none (suc n) e = omega arith

-- what the values of the pieces say of the derivation, where there are values
pub takes_turns : (t : Term) (x : Option Noun) (y : Noun) (sc : Scan) (ns : List ℤ) (made : Result (Option (List ℤ)) NoMemory) → Some sc ≡ scan_in t → None ≡ x → y ≡ integer_list ns → IsArray y → false ≡ (length ns == 0) →
    IfOk made (λ r. IfSome r (λ values. values_of sc ns ≡ map Some values)) → IfOk made (λ r. IfSome r (λ values. TakesTurns (derived t x y) values))
takes_turns t x y sc ns (Err none) e alone is array some are = tt
takes_turns t x y sc ns (Ok None) e alone is array some are = tt
takes_turns t x y sc ns (Ok (Some values)) e alone is array some are =
    let of : Noun → Type 0 = λ v. TakesTurns (derived t None v) values in
    let by : Option Noun → Type 0 = λ w. TakesTurns (derived t w y) values in
    subst by alone (subst of (sym is) (scans t sc (sym e) ns values (subst IsArray is array) (not_none (length ns) some) are))

pub few_values : (y : Noun) (sc : Scan) (ns : List ℤ) (made : Result (Option (List ℤ)) NoMemory) → y ≡ integer_list ns → IsArray y →
    IfOk made (λ r. IfSome r (λ values. values_of sc ns ≡ map Some values)) → IfOk made (λ r. IfSome r (λ values. length values ≤ most_atoms))
few_values y sc ns (Err none) is array are = tt
few_values y sc ns (Ok None) is array are = tt
few_values y sc ns (Ok (Some values)) is array are = omega (arith, value_count sc ns values are, few_atoms (integer_list ns) (subst IsArray is array), length-map ns atom.Int)

-- what holds with a level left holds where there is one
pub with_level : (P : ℕ → Noun → Type 0) (levels : ℕ) → levels ≢ 0 → (made : Result (Option Noun) EvalEnd) → IfOk made (λ m. IfSome m (λ v. (l : ℕ) → P (suc l) v)) → IfOk made (λ m. IfSome m (λ v. P levels v))
with_level P zero some made h = absurd (some refl)
with_level P (suc l) some (Ok (Some v)) h = h l
with_level P (suc l) some (Ok None) h = tt
with_level P (suc l) some (Err why) h = tt
