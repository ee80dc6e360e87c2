-- The first pyx of a noun, level by level.
use Rattle.std.specs.Prelude.{ℕ, ℤ, false, is_some, ◌+◌, ◌<◌, ◌≡◌, length, Option, Some, None, List, [], ◌∷◌, map}
use Rattle.std.proofs.Common.{arith, sym, ◌∙◌, ap, refl, zero, suc, take, drop, get_or}
use Rattle.std.proofs.lemmas.List.{at_drop_more}
use Rattle.jdata.specs.Noun.{atoms}
use Rattle.jdata.specs.Pyxes.{first_pyx, atom_pyx, first_some, pyx_step}
use Rattle.jdata.specs.Trees.{atom_of}
use Rattle.jdata.specs.declared.tree.Cell.{Cell}
use Rattle.jdata.specs.declared.noun.Noun.{Noun, fold_out-Noun}
use Rattle.jdata.specs.declared.noun.Atom.{fold-roll-Atom}
use Rattle.jdata.specs.declared.noun.Atom.TheOpen as one
use Rattle.jdata.specs.declared.noun.Atom.TheVariants as atom
use Rattle.jdata.specs.declared.path.PyxId.{PyxId}

pub pyx_is : (v : Noun) → first_pyx v ≡ first_some (map atom_pyx (atoms v))
pyx_is v = fold_out-Noun (Option PyxId) (Option PyxId) pyx_step (λ w. first_some w.atoms) v

pub pyx_of_box : (v : Noun) → atom_pyx (atom.Box v) ≡ first_pyx v
pyx_of_box v = ap atom_pyx (sym (atom.rolls-Box v)) ∙ fold-roll-Atom (Option PyxId) (Option PyxId) pyx_step (λ w. first_some w.atoms) (one.Box v)

pub pyx_of_pyx : (p : PyxId) → atom_pyx (atom.Pyx p) ≡ Some p
pyx_of_pyx p = ap atom_pyx (sym (atom.rolls-Pyx p)) ∙ fold-roll-Atom (Option PyxId) (Option PyxId) pyx_step (λ w. first_some w.atoms) (one.Pyx p)

pyx_of_int : (n : ℤ) → atom_pyx (atom.Int n) ≡ None
pyx_of_int n = ap atom_pyx (sym (atom.rolls-Int n)) ∙ fold-roll-Atom (Option PyxId) (Option PyxId) pyx_step (λ w. first_some w.atoms) (one.Int n)

pyx_of_char : (n : ℕ) → atom_pyx (atom.Char n) ≡ None
pyx_of_char n = ap atom_pyx (sym (atom.rolls-Char n)) ∙ fold-roll-Atom (Option PyxId) (Option PyxId) pyx_step (λ w. first_some w.atoms) (one.Char n)

pub pyx_of_ints : (ns : List ℤ) → first_some (map atom_pyx (map atom.Int ns)) ≡ None
pyx_of_ints [] = refl
pyx_of_ints (n ∷ ns) = rw (pyx_of_int n) (pyx_of_ints ns)

pub pyx_of_chars : (ns : List ℕ) → first_some (map atom_pyx (map atom.Char ns)) ≡ None
pyx_of_chars [] = refl
pyx_of_chars (n ∷ ns) = rw (pyx_of_char n) (pyx_of_chars ns)

abbrev pub first_in : List Cell → Option PyxId
first_in cs = first_some (map atom_pyx (map atom_of cs))

-- the loop comes to the first cell with a pyx
pub found_here : (cs : List Cell) (i : ℕ) (d : Cell) (p : PyxId) → i < length cs → d ≡ get_or cs i d → atom_pyx (atom_of d) ≡ Some p →
    first_in (drop i cs) ≡ first_in cs → Some p ≡ first_in cs
found_here cs i d p h at here so =
    let this : atom_pyx (atom_of (get_or cs i d)) ≡ Some p = ap (λ x. atom_pyx (atom_of x)) (sym at) ∙ here in
    sym (at_drop_more first_in cs i d h ∙ ap (λ o. first_some (o ∷ map atom_pyx (map atom_of (drop (i + 1) cs)))) this) ∙ so

passed : (o : Option PyxId) (l : List (Option PyxId)) → is_some o ≡ false → first_some (o ∷ l) ≡ first_some l
passed None l e = refl
passed (Some p) l e = cc

not_yet : (o : Option PyxId) (l : List (Option PyxId)) → first_some (o ∷ l) ≡ None → (is_some o ≡ false) × (first_some l ≡ None)
not_yet None l e = (refl, e)
not_yet (Some p) l e = cc

-- the loop passes a cell without a pyx
pub none_more : (cs : List Cell) (i : ℕ) (d : Cell) → i < length cs → d ≡ get_or cs i d → first_in (take i cs) ≡ None → is_some (atom_pyx (atom_of d)) ≡ false →
    first_in (take (suc i) cs) ≡ None
none_more [] i d h at before no_pyx = absurd (omega arith)
none_more (b ∷ cs) zero d h at before no_pyx = passed (atom_pyx (atom_of b)) [] (ap (λ x. is_some (atom_pyx (atom_of x))) (sym at) ∙ no_pyx)
none_more (b ∷ cs) (suc i) d h at before no_pyx =
    let first = not_yet (atom_pyx (atom_of b)) (map atom_pyx (map atom_of (take i cs))) before in
    passed (atom_pyx (atom_of b)) (map atom_pyx (map atom_of (take (suc i) cs))) first.0 ∙ none_more cs i d (omega arith) at first.1 no_pyx
