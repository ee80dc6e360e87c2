-- Contents of boxes, and their assembly.
use Rattle.std.proofs.Common.{◌≡◌, ℕ, List, [], ◌∷◌, Ok, length, max, sym, ap, ◌∙◌, arith}
use Rattle.std.proofs.lemmas.List.{length-map}
use Rattle.jdata.specs.Noun.{shape, kind, atoms}
use Rattle.jdata.specs.Trees.{noun_of, atoms_of}
use Rattle.jdata.specs.declared.noun.Noun.{Noun}
use Rattle.jdata.specs.declared.noun.Kind.TheVariants as sort
use Rattle.jdata.specs.declared.noun.Atom.{Atom, out-roll-Atom}
use Rattle.jdata.specs.declared.noun.Atom.TheOpen as one
use Rattle.jdata.specs.declared.noun.Atom.TheVariants as atom
use Rattle.jdata.specs.declared.path.PyxId.{PyxId}
use Rattle.jdata.specs.declared.tree.Leaves.{Leaves}
use Rattle.jframe.specs.Assembly.{assembled}
use Rattle.jboxes.specs.Monads.{no_content, content_in, content_of, results, disclosed_by, disclosed}

pub content_of_box : (v : Noun) → content_of (atom.Box v) ≡ v
content_of_box v = ap content_of (sym (atom.rolls-Box v)) ∙ ap content_in (out-roll-Atom (one.Box v))

pub content_of_pyx : (p : PyxId) → content_of (atom.Pyx p) ≡ no_content
content_of_pyx p = ap content_of (sym (atom.rolls-Pyx p)) ∙ ap content_in (out-roll-Atom (one.Pyx p))

pub results_count : (xs : List Atom) (n : ℕ) → length xs ≡ n → length (results xs) ≡ max n 1
results_count [] n h = omega (arith, h)
results_count (x ∷ xs) n h = omega (arith, h, length-map (x ∷ xs) content_of)

-- the code's frame and results are those of the boxed array y
pub results_are : (y tree : Noun) (axes : List ℕ) (boxes : Leaves) (vs : List Noun) → tree ≡ y → noun_of axes boxes ≡ tree → vs ≡ results (atoms_of boxes) → vs ≡ results (atoms y)
results_are y tree axes boxes vs same parts is = is ∙ ap results (ap atoms parts ∙ ap atoms same)

pub assembled_is : (y tree : Noun) (frame : List ℕ) (vs : List Noun) → tree ≡ y → frame ≡ shape tree → vs ≡ results (atoms y) → assembled (shape y) (results (atoms y)) ≡ assembled frame vs
assembled_is y tree frame vs same along are =
    ap (λ f. assembled f (results (atoms y))) (sym (along ∙ ap shape same)) ∙ ap (assembled frame) (sym are)

pub disclosed_ints : (y : Noun) → kind y ≡ sort.Int → disclosed y ≡ Ok y
unfolding disclosed
disclosed_ints y e = ap (λ k. disclosed_by k y) e

pub disclosed_chars : (y : Noun) → kind y ≡ sort.Char → disclosed y ≡ Ok y
unfolding disclosed
disclosed_chars y e = ap (λ k. disclosed_by k y) e

pub disclosed_boxes : (y : Noun) → kind y ≡ sort.Boxed → disclosed y ≡ assembled (shape y) (results (atoms y))
unfolding disclosed
disclosed_boxes y e = ap (λ k. disclosed_by k y) e
