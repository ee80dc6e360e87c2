-- The integers in a box that stands alone.
use Rattle.std.specs.Prelude.{ℕ, ℤ, ◌≡◌, ◌||◌, Bool, true, false, Err, List, [], ◌∷◌, length, map, get_or}
use Rattle.std.specs.List.{list_any}
use Rattle.std.proofs.Common.{arith, sym, ◌∙◌, ap, refl}
use Rattle.jdata.specs.declared.fault.Fault.TheVariants as fault
use Rattle.jdata.specs.declared.noun.Noun.{Noun}
use Rattle.jdata.specs.declared.noun.Atom.{Atom, out-Atom, out-roll-Atom}
use Rattle.jdata.specs.declared.noun.Atom.TheOpen as one
use Rattle.jdata.specs.declared.noun.Atom.TheVariants as atom
use Rattle.jdata.specs.declared.path.PyxId.{PyxId}
use Rattle.jselect.specs.From.{numbers_boxed}
use Rattle.jselect.proofs.Choices.{chosen, otherwise}
use Rattle.jamend.specs.Naming.{has_boxes, is_nested, box_numbers, lone_numbers, cell_numbers}

abbrev nested : Atom → Bool
nested a = is_nested (out-Atom a)

-- numbers and characters are no boxes
no_nested : {A : Type 0} (f : A → Atom) (l : List A) → ((x : A) → nested (f x) ≡ false) → list_any nested (map f l) ≡ false
no_nested f [] h = refl
no_nested f (x ∷ l) h = (λ i. h x i || list_any nested (map f l)) ∙ no_nested f l h

lone_not : {A : Type 0} (f : A → Atom) (axes : List ℕ) (l : List A) → ((x : A) → box_numbers (out-Atom (f x)) ≡ Err fault.Domain) → lone_numbers axes (map f l) ≡ Err fault.Domain
lone_not f [] [] h = refl
lone_not f [] (x ∷ []) h = h x
lone_not f [] (x ∷ (y ∷ l)) h = refl
lone_not f (n ∷ axes) l h = refl

not_boxed : {A : Type 0} (f : A → Atom) (axes : List ℕ) (l : List A) → ((x : A) → nested (f x) ≡ false) → ((x : A) → box_numbers (out-Atom (f x)) ≡ Err fault.Domain) →
    cell_numbers axes (map f l) ≡ Err fault.Domain
unfolding cell_numbers
not_boxed f axes l h g = otherwise (list_any nested (map f l)) (Err fault.Nonce) (lone_numbers axes (map f l)) (no_nested f l h) ∙ lone_not f axes l g

pub by_integers : (axes : List ℕ) (l : List ℤ) → cell_numbers axes (map atom.Int l) ≡ Err fault.Domain
by_integers axes l = not_boxed atom.Int axes l
    (λ n. ap is_nested (ap out-Atom (sym (atom.rolls-Int n)) ∙ out-roll-Atom (one.Int n)))
    (λ n. ap box_numbers (ap out-Atom (sym (atom.rolls-Int n)) ∙ out-roll-Atom (one.Int n)))

pub by_characters : (axes : List ℕ) (l : List ℕ) → cell_numbers axes (map atom.Char l) ≡ Err fault.Domain
by_characters axes l = not_boxed atom.Char axes l
    (λ n. ap is_nested (ap out-Atom (sym (atom.rolls-Char n)) ∙ out-roll-Atom (one.Char n)))
    (λ n. ap box_numbers (ap out-Atom (sym (atom.rolls-Char n)) ∙ out-roll-Atom (one.Char n)))

pub nested_box : (v : Noun) → is_nested (out-Atom (atom.Box v)) ≡ has_boxes v
nested_box v = ap is_nested (ap out-Atom (sym (atom.rolls-Box v)) ∙ out-roll-Atom (one.Box v))

pub nested_pyx : (p : PyxId) → is_nested (out-Atom (atom.Pyx p)) ≡ false
nested_pyx p = ap is_nested (ap out-Atom (sym (atom.rolls-Pyx p)) ∙ out-roll-Atom (one.Pyx p))

pub in_box : (v : Noun) → box_numbers (out-Atom (atom.Box v)) ≡ numbers_boxed v
in_box v = ap box_numbers (ap out-Atom (sym (atom.rolls-Box v)) ∙ out-roll-Atom (one.Box v))

pub in_pyx : (p : PyxId) → box_numbers (out-Atom (atom.Pyx p)) ≡ Err fault.Domain
in_pyx p = ap box_numbers (ap out-Atom (sym (atom.rolls-Pyx p)) ∙ out-roll-Atom (one.Pyx p))

-- by the test for boxes in boxes
pub some_nested : (axes : List ℕ) (l : List Atom) → list_any nested l ≡ true → cell_numbers axes l ≡ Err fault.Nonce
unfolding cell_numbers
some_nested axes l h = chosen (list_any nested l) (Err fault.Nonce) (lone_numbers axes l) h

pub none_nested : (axes : List ℕ) (l : List Atom) → list_any nested l ≡ false → cell_numbers axes l ≡ lone_numbers axes l
unfolding cell_numbers
none_nested axes l h = otherwise (list_any nested l) (Err fault.Nonce) (lone_numbers axes l) h

-- a test of what a function makes of each
pub any_mapped : {A B : Type 0} (p : B → Bool) (f : A → B) (l : List A) → list_any (λ x. p (f x)) l ≡ list_any p (map f l)
any_mapped p f [] = refl
any_mapped p f (x ∷ l) = ap (λ b. p (f x) || b) (any_mapped p f l)

-- a box alone, and everything else
pub lone_one : {A : Type 0} (f : A → Atom) (axes : List ℕ) (l : List A) (d : A) → length axes ≡ 0 → length l ≡ 1 → lone_numbers axes (map f l) ≡ box_numbers (out-Atom (f (get_or l 0 d)))
lone_one f [] [] d none one = absurd (omega (arith, one))
lone_one f [] (x ∷ []) d none one = refl
lone_one f [] (x ∷ (y ∷ l)) d none one = absurd (omega (arith, one))
lone_one f (n ∷ axes) l d none one = absurd (omega (arith, none))

pub lone_other : {A : Type 0} (f : A → Atom) (axes : List ℕ) (l : List A) → (length axes ≡ 0 → length l ≡ 1 → ⊥) → lone_numbers axes (map f l) ≡ Err fault.Domain
lone_other f [] [] h = refl
lone_other f [] (x ∷ []) h = absurd (h refl refl)
lone_other f [] (x ∷ (y ∷ l)) h = refl
lone_other f (n ∷ axes) l h = refl
