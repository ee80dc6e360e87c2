-- What is fetched, and what is opened.
use Rattle.std.specs.Prelude.{ℕ, ◌≡◌, ◌==◌, ℤ, Bool, true, false, if◌then◌else◌, Err, List, [], ◌∷◌, length, map}
use Rattle.std.proofs.Common.{sym, ◌∙◌, ap, refl}
use Rattle.jdata.specs.Noun.{shape, atoms}
use Rattle.jdata.specs.declared.fault.Fault.TheVariants as fault
use Rattle.jdata.specs.declared.noun.Noun.{Noun}
use Rattle.jdata.specs.declared.noun.Atom.{out-Atom, out-roll-Atom}
use Rattle.jdata.specs.declared.noun.Atom.TheOpen as one
use Rattle.jdata.specs.declared.noun.Atom.TheVariants as atom
use Rattle.jdata.specs.declared.path.PyxId.{PyxId}
use Rattle.jarray.specs.Numbers.{is_integers}
use Rattle.jselect.specs.Arguments.{integers_in}
use Rattle.jselect.specs.From.{fetched, fetched_by, opened, opened_atom, content_of}
use Rattle.jselect.proofs.Copied.{integers_are}
use Rattle.jselect.proofs.Choices.{chosen, otherwise}

stays : {A : Type 0} (b : Bool) (x v : A) → x ≡ v → v ≡ (if b then x else v)
stays true x v e = sym e
stays false x v e = refl

pub fetched_is : (x y : Noun) (l : List ℤ) → is_integers x ≡ true → map atom.Int l ≡ atoms x → fetched x y ≡ fetched_by l y
unfolding fetched
fetched_is x y l integers e =
    chosen (is_integers x) (fetched_by (integers_in x) y) (Err fault.Domain) integers ∙ ap (λ n. fetched_by n y) (integers_are x l e)

pub nothing_fetched : (x y : Noun) → is_integers x ≡ false → fetched x y ≡ Err fault.Domain
unfolding fetched
nothing_fetched x y e = otherwise (is_integers x) (fetched_by (integers_in x) y) (Err fault.Domain) e

-- integers and characters stay as they are
integers_stay : (l : List ℤ) (v : Noun) → opened_atom (map atom.Int l) v ≡ v
unfolding out-Atom denote.Hole.Carrier.out
integers_stay [] v = refl
integers_stay (n ∷ l) v = refl

characters_stay : (l : List ℕ) (v : Noun) → opened_atom (map atom.Char l) v ≡ v
unfolding out-Atom denote.Hole.Carrier.out
characters_stay [] v = refl
characters_stay (n ∷ l) v = refl

pub opened_integers : (v : Noun) (l : List ℤ) → atoms v ≡ map atom.Int l → v ≡ opened v
opened_integers v l e = stays (length (shape v) == 0) (opened_atom (atoms v) v) v (ap (λ a. opened_atom a v) e ∙ integers_stay l v)

pub opened_characters : (v : Noun) (l : List ℕ) → atoms v ≡ map atom.Char l → v ≡ opened v
opened_characters v l e = stays (length (shape v) == 0) (opened_atom (atoms v) v) v (ap (λ a. opened_atom a v) e ∙ characters_stay l v)

-- a box is opened, and a pyx stays
pub box_opened : (content v : Noun) → content_of (out-Atom (atom.Box content)) v ≡ content
box_opened content v = ap (λ a. content_of a v) (ap out-Atom (sym (atom.rolls-Box content)) ∙ out-roll-Atom (one.Box content))

pub pyx_stays : (p : PyxId) (v : Noun) → content_of (out-Atom (atom.Pyx p)) v ≡ v
pyx_stays p v = ap (λ a. content_of a v) (ap out-Atom (sym (atom.rolls-Pyx p)) ∙ out-roll-Atom (one.Pyx p))
