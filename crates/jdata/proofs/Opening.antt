-- The array with its first pyx opened, level by level.
use Rattle.std.specs.Prelude.{ℕ, ◌<◌, ◌≤◌, ◌≡◌, Option, Some, None, IsSome, IfSome, slice_get, is_some, true, false, cond, List, [], ◌∷◌, map, length}
use Rattle.std.proofs.Common.{arith, sym, ◌∙◌, ap, refl, zero, suc, take, get_or, set}
use Rattle.std.proofs.lemmas.List.{take-map, length-map, set-set}
use Rattle.std.proofs.lemmas.Option.{get_or_from_slice_get}
use Rattle.jdata.specs.Limits.{IsArray, most_levels}
use Rattle.jdata.specs.Noun.{atoms, shape, kind, noun, greatest, atom_level, level, product}
use Rattle.jdata.specs.Pyxes.{opened, opened_atom, opened_atoms, opening_step, first_opened, atom_pyx, first_some}
use Rattle.jdata.specs.Trees.{atom_of, atoms_of, kind_of, noun_of, IsKept}
use Rattle.jdata.proofs.Levels.{level_is}
use Rattle.jdata.specs.declared.noun.Kind.TheVariants as sort
use Rattle.jdata.specs.declared.tree.Leaves.{Leaves}
use Rattle.jdata.specs.declared.tree.Leaves.TheVariants as leaf
use Rattle.jdata.specs.declared.noun.Noun.{Noun, para-roll-Noun, out-Noun}
use Rattle.jdata.specs.declared.noun.Atom.{Atom, para-roll-Atom}
use Rattle.jdata.specs.declared.noun.Atom.TheOpen as one
use Rattle.jdata.specs.declared.noun.Atom.TheVariants as atom
use Rattle.jdata.specs.declared.path.PyxId.{PyxId}
use Rattle.jdata.specs.declared.tree.Cell.{Cell}

pub opened_is : (value v : Noun) → opened value v ≡ noun (shape v) (kind v) (opened_atoms value (atoms v))
opened_is value v = para-roll-Noun Atom Noun (opening_step value) (λ w. noun w.shape w.kind (first_opened w.atoms)) (out-Noun v)

pub opened_box : (value v : Noun) → opened_atom value (atom.Box v) ≡ atom.Box (opened value v)
opened_box value v = ap (opened_atom value) (sym (atom.rolls-Box v)) ∙ para-roll-Atom Atom Noun (opening_step value) (λ w. noun w.shape w.kind (first_opened w.atoms)) (one.Box v)

pub opened_pyx : (value : Noun) (p : PyxId) → opened_atom value (atom.Pyx p) ≡ atom.Box value
opened_pyx value p = ap (opened_atom value) (sym (atom.rolls-Pyx p)) ∙ para-roll-Atom Atom Noun (opening_step value) (λ w. noun w.shape w.kind (first_opened w.atoms)) (one.Pyx p)

pub atoms_back : (value : Noun) (l : List Atom) → map (λ (r : Atom × Atom). r.0) (map (λ a. (a, opened_atom value a)) l) ≡ l
atoms_back value [] = refl
atoms_back value (a ∷ l) = ap (λ m. a ∷ m) (atoms_back value l)

opens_this : (value : Noun) (a : Atom) (l : List Atom) → is_some (atom_pyx a) ≡ true → opened_atoms value (a ∷ l) ≡ opened_atom value a ∷ l
opens_this value a l here = rw here (ap (λ m. opened_atom value a ∷ m) (atoms_back value l))

opens_later : (value : Noun) (a : Atom) (l : List Atom) → is_some (atom_pyx a) ≡ false → opened_atoms value (a ∷ l) ≡ a ∷ opened_atoms value l
opens_later value a l later = rw later refl

none_first : (o : Option PyxId) (l : List (Option PyxId)) → first_some (o ∷ l) ≡ None → (is_some o ≡ false) × (first_some l ≡ None)
none_first None l e = (refl, e)
none_first (Some p) l e = cc

-- the first atom with a pyx is the one that changes
pub opens_at : (value : Noun) (l : List Atom) (i : ℕ) (a : Atom) → i < length l → a ≡ get_or l i a → first_some (map atom_pyx (take i l)) ≡ None →
    is_some (atom_pyx a) ≡ true → opened_atoms value l ≡ set l i (opened_atom value a)
opens_at value [] i a h at before here = absurd (omega arith)
opens_at value (b ∷ l) zero a h at before here = opens_this value b l (ap (λ x. is_some (atom_pyx x)) (sym at) ∙ here) ∙ ap (λ x. opened_atom value x ∷ l) (sym at)
opens_at value (b ∷ l) (suc i) a h at before here =
    let first = none_first (atom_pyx b) (map atom_pyx (take i l)) before in
    opens_later value b l first.0 ∙ ap (λ m. b ∷ m) (opens_at value l i a (omega arith) at first.1 here)

-- the place of a cell among the atoms
pub get_cell : (cs : List Cell) (i : ℕ) (c : Cell) → i < length cs → c ≡ get_or cs i c → atom_of c ≡ get_or (map atom_of cs) i (atom_of c)
get_cell [] i c h at = absurd (omega arith)
get_cell (b ∷ cs) zero c h at = ap atom_of at
get_cell (b ∷ cs) (suc i) c h at = get_cell cs i c (omega arith) at

pub set_cell : (cs : List Cell) (i : ℕ) (c : Cell) → map atom_of (set cs i c) ≡ set (map atom_of cs) i (atom_of c)
set_cell [] i c = refl
set_cell (b ∷ cs) zero c = refl
set_cell (b ∷ cs) (suc i) c = ap (λ m. atom_of b ∷ m) (set_cell cs i c)

take_cells : (cs : List Cell) (i : ℕ) → take i (map atom_of cs) ≡ map atom_of (take i cs)
take_cells cs i = take-map atom_of i cs

-- the cell with the first pyx is the one that changes
pub cells_open : (value : Noun) (cs : List Cell) (i : ℕ) (c : Cell) → i < length cs → c ≡ get_or cs i c →
    first_some (map atom_pyx (map atom_of (take i cs))) ≡ None → is_some (atom_pyx (atom_of c)) ≡ true →
    opened_atoms value (map atom_of cs) ≡ set (map atom_of cs) i (opened_atom value (atom_of c))
cells_open value cs i c h at before here =
    opens_at value (map atom_of cs) i (atom_of c) (rw length-map h) (get_cell cs i c h at) (rw take_cells before) here

-- an atom's level shows in the greatest
pub level_of_set : (l : List Atom) (i : ℕ) (x : Atom) → i < length l → atom_level x ≤ greatest (map atom_level (set l i x))
level_of_set [] i x h = absurd (omega arith)
level_of_set (a ∷ l) zero x h = omega arith
level_of_set (a ∷ l) (suc i) x h = omega (arith, level_of_set l i x (omega arith))

-- what the search for the first pyx found, told of the cells
pub place_opens : (value : Noun) (cs now : List Cell) (i : ℕ) (c : Cell) → now ≡ cs → i < length now →
    IfSome (slice_get now i) (λ x. IsSome (atom_pyx (atom_of x))) → first_some (map atom_pyx (map atom_of (take i now))) ≡ None →
    slice_get cs i ≡ Some c → opened_atoms value (map atom_of cs) ≡ set (map atom_of cs) i (opened_atom value (atom_of c))
place_opens value cs now i c same within found before this =
    let there : slice_get now i ≡ Some c = ap (λ m. slice_get m i) same ∙ this in
    let here = rw there at found in
    cells_open value cs i c (rw (← same) within) (sym (get_or_from_slice_get cs i c c this)) (rw (← same) before) here

pub cells_written : (value : Noun) (cs now after final : List Cell) (i : ℕ) (c d x : Cell) → now ≡ cs → i < length now →
    IfSome (slice_get now i) (λ y. IsSome (atom_pyx (atom_of y))) → first_some (map atom_pyx (map atom_of (take i now))) ≡ None →
    slice_get cs i ≡ Some c → after ≡ set cs i x → final ≡ set after i d → atom_of d ≡ opened_atom value (atom_of c) →
    map atom_of final ≡ opened_atoms value (map atom_of cs)
cells_written value cs now after final i c d x same within found before this hole filled new =
    ap (map atom_of) (filled ∙ ap (λ m. set m i d) hole ∙ set-set cs i x d)
    ∙ set_cell cs i d
    ∙ ap (λ a. set (map atom_of cs) i a) new
    ∙ sym (place_opens value cs now i c same within found before this)

pub cells_too_deep : (value : Noun) (cs now : List Cell) (i : ℕ) (c : Cell) → now ≡ cs → i < length now →
    IfSome (slice_get now i) (λ y. IsSome (atom_pyx (atom_of y))) → first_some (map atom_pyx (map atom_of (take i now))) ≡ None →
    slice_get cs i ≡ Some c → most_levels < atom_level (opened_atom value (atom_of c)) → most_levels < greatest (map atom_level (opened_atoms value (map atom_of cs)))
cells_too_deep value cs now i c same within found before this deep =
    let inside : i < length (map atom_of cs) = rw length-map (rw (← same) within) in
    rw (place_opens value cs now i c same within found before this) (omega (arith, deep, level_of_set (map atom_of cs) i (opened_atom value (atom_of c)) inside))

length_first : (qs : List (Atom × Atom)) → length (first_opened qs) ≡ length qs
length_first [] = refl
length_first (q ∷ qs) =
    elim (is_some (atom_pyx q.0)) as (λ b. length (cond b (q.1 ∷ map (λ (r : Atom × Atom). r.0) qs) (q.0 ∷ first_opened qs)) ≡ length (q ∷ qs)) [
      | true ↦ ap suc (rw length-map refl)
      | false ↦ ap suc (length_first qs)
    ]

pub length_opened : (value : Noun) (l : List Atom) → length (opened_atoms value l) ≡ length l
length_opened value l = length_first (map (λ a. (a, opened_atom value a)) l) ∙ rw length-map refl

-- what opening does to an array that is kept as cells
pub opened_kept : (value v : Noun) (axes : List ℕ) (l : Leaves) (cs : List Cell) → noun_of axes l ≡ v → l ≡ leaf.Cell cs →
    opened value v ≡ noun axes sort.Boxed (opened_atoms value (map atom_of cs))
opened_kept value v axes l cs seen is = ap (opened value) (sym seen) ∙ opened_is value (noun_of axes l) ∙ ap (λ m. noun axes (kind_of m) (opened_atoms value (atoms_of m))) is

pub opened_level : (value v : Noun) (axes : List ℕ) (l : Leaves) (cs : List Cell) → noun_of axes l ≡ v → l ≡ leaf.Cell cs →
    level (opened value v) ≡ greatest (map atom_level (opened_atoms value (map atom_of cs)))
opened_level value v axes l cs seen is = ap level (opened_kept value v axes l cs seen is) ∙ level_is (noun axes sort.Boxed (opened_atoms value (map atom_of cs)))

pub still_array : (value : Noun) (axes : List ℕ) (l : Leaves) (cs after : List Cell) (n : ℕ) → IsArray (noun_of axes l) → l ≡ leaf.Cell cs →
    map atom_of after ≡ opened_atoms value (map atom_of cs) → n ≡ greatest (map atom_level (map atom_of after)) → n ≤ most_levels →
    IsKept (record { axes = axes; leaves = leaf.Cell after; depth = n })
still_array value axes l cs after n array is new deep most =
    let v = noun_of axes (leaf.Cell after) in
    let depth : n ≡ level v = deep ∙ sym (level_is v) in
    let whole : length (map atom_of after) ≡ product axes = ap length new ∙ length_opened value (map atom_of cs) ∙ ap (λ m. length (atoms_of m)) (sym is) ∙ array.whole in
    record {
      array = record { whole = whole; within = array.within; level_at_most = omega (arith, depth, most) };
      depth_is = depth;
    }
