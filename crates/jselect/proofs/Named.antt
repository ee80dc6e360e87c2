-- What an atom names.
use Rattle.std.specs.Prelude.{ℕ, ◌≤◌, ◌<◌, ◌≡◌, ◌≢◌, ◌==◌, nat_le, ℤ, pos, Ok, Err, List, [], ◌∷◌, length, map, get_or}
use Rattle.std.proofs.Common.{arith, sym, ◌∙◌, ap, refl}
use Rattle.std.proofs.lemmas.Bool.{ne_eqb, le-leb, lt-leb}
use Rattle.jdata.specs.Firsts.{and_then}
use Rattle.jdata.specs.Noun.{shape, kind, atoms}
use Rattle.jdata.specs.Trees.{atom_of}
use Rattle.jdata.specs.declared.fault.Fault.TheVariants as fault
use Rattle.jdata.specs.declared.noun.Noun.{Noun}
use Rattle.jdata.specs.declared.noun.Kind.TheVariants as sort
use Rattle.jdata.specs.declared.noun.Atom.{out-Atom, out-roll-Atom}
use Rattle.jdata.specs.declared.noun.Atom.TheOpen as one
use Rattle.jdata.specs.declared.noun.Atom.TheVariants as atom
use Rattle.jdata.specs.declared.path.PyxId.{PyxId}
use Rattle.jdata.specs.declared.tree.Cell.{Cell}
use Rattle.jselect.specs.Arguments.{integers_in}
use Rattle.jselect.specs.Items.{as_list}
use Rattle.jselect.specs.From.{named_by_first, named_by, numbers_boxed, numbers_of_kind, cell_named}
use Rattle.jselect.proofs.Copied.{integers_are}
use Rattle.jselect.proofs.Choices.{chosen, otherwise}

-- an integer names an item
pub by_integer : (l : List ℤ) (y : Noun) → 1 ≤ length l → named_by_first (map atom.Int l) y ≡ cell_named (get_or l 0 (pos 0) ∷ []) (as_list y)
unfolding out-Atom denote.Hole.Carrier.out
by_integer [] y some = absurd (omega arith)
by_integer (m ∷ l) y some = refl

pub by_character : (l : List ℕ) (y : Noun) → named_by_first (map atom.Char l) y ≡ Err fault.Domain
unfolding out-Atom denote.Hole.Carrier.out
by_character [] y = refl
by_character (m ∷ l) y = refl

-- a box names a cell, and a pyx nothing
pub by_box : (v y : Noun) → named_by_first (atom.Box v ∷ []) y ≡ and_then (numbers_boxed v) (λ numbers. cell_named numbers y)
by_box v y = ap (λ a. named_by a y) (ap out-Atom (sym (atom.rolls-Box v)) ∙ out-roll-Atom (one.Box v))

pub by_pyx : (p : PyxId) (y : Noun) → named_by_first (atom.Pyx p ∷ []) y ≡ Err fault.Domain
by_pyx p y = ap (λ a. named_by a y) (ap out-Atom (sym (atom.rolls-Pyx p)) ∙ out-roll-Atom (one.Pyx p))

pub by_first : (l : List Cell) (d : Cell) (y : Noun) → 1 ≤ length l → named_by_first (map atom_of l) y ≡ named_by_first (atom_of (get_or l 0 d) ∷ []) y
by_first [] d y some = absurd (omega arith)
by_first (b ∷ l) d y some = refl

-- the integers in a box
pub list_boxed : (v : Noun) (l : List ℤ) → length (atoms v) ≢ 0 → kind v ≡ sort.Int → map atom.Int l ≡ atoms v → length (shape v) ≤ 1 → numbers_boxed v ≡ Ok l
list_boxed v l some integer e low =
    otherwise (length (atoms v) == 0) (Ok []) (numbers_of_kind (kind v) v) (ne_eqb (length (atoms v)) 0 some)
    ∙ ap (λ k. numbers_of_kind k v) integer
    ∙ chosen (nat_le (length (shape v)) 1) (Ok (integers_in v)) (Err fault.Domain) (le-leb (length (shape v)) 1 low)
    ∙ ap (λ (n : List ℤ). Ok n) (integers_are v l e)

pub table_boxed : (v : Noun) → length (atoms v) ≢ 0 → kind v ≡ sort.Int → 1 < length (shape v) → numbers_boxed v ≡ Err fault.Domain
table_boxed v some integer high =
    otherwise (length (atoms v) == 0) (Ok []) (numbers_of_kind (kind v) v) (ne_eqb (length (atoms v)) 0 some)
    ∙ ap (λ k. numbers_of_kind k v) integer
    ∙ otherwise (nat_le (length (shape v)) 1) (Ok (integers_in v)) (Err fault.Domain) (lt-leb (length (shape v)) 1 high)
