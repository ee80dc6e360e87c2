-- What the verbs give of two atoms, by the kinds of both.
use Rattle.std.specs.Prelude.{ℕ, ℤ, pos, ◌/◌, ◌⊎◌, Bool, true, false, ◌≡◌, List, map}
use Rattle.jscalar.specs.Places.{by_place}
use Rattle.std.proofs.Common.{sym, ◌∙◌, ap, refl, get_or, inl, inr}
use Rattle.std.specs.Ordering.{int_eq}
use Rattle.std.proofs.lemmas.Bool.Decides.{Decides-int_eq}
use Rattle.std.proofs.Math.ListN.{get_or-map}
use Rattle.std.proofs.Math.Nat.{div-one}
use Rattle.jdata.specs.declared.noun.Noun.{Noun}
use Rattle.jdata.specs.declared.noun.Atom.{Atom, Atom-F, out-Atom, roll-out-Atom, roll-Atom}
use Rattle.jdata.specs.declared.noun.Atom.TheOpen as one
use Rattle.jdata.specs.declared.noun.Atom.TheVariants as atom
use Rattle.jdata.specs.declared.primitive.Primitive.{Primitive}
use Rattle.jdata.specs.declared.primitive.Primitive.TheVariants.{Equal, TildeColon}
use Rattle.jscalar.specs.Dyads.{two_of, dyad_on}
use Rattle.jarray.specs.Matches.{equal_atoms}
use Rattle.jarray.proofs.Equality.{equal_decides}
use Rattle.jdyad.specs.Atoms.{is_comparison, compared, of_atoms, of_layers}
use Rattle.jdyad.specs.Dyads.{spread}
use Rattle.jdyad.proofs.Comparing.{equal_ints, equal_when, pair_at}
use Rattle.jdyad.proofs.Filling.{right_at, left_at, same_by_place}

pub comparison_is : (verb : Primitive) → (verb ≡ Equal) ⊎ (verb ≡ TildeColon) → true ≡ is_comparison verb
unfolding is_comparison
comparison_is verb (inl e) = ap is_comparison (sym e)
comparison_is verb (inr e) = ap is_comparison (sym e)

pub no_comparison : (verb : Primitive) → (verb ≡ Equal → ⊥) → (verb ≡ TildeColon → ⊥) → false ≡ is_comparison verb
unfolding is_comparison
no_comparison Equal h k = absurd (h refl)
no_comparison TildeColon h k = absurd (k refl)
no_comparison verb h k = refl

pub of_ints : (verb : Primitive) (m n : ℤ) → of_atoms verb (atom.Int m) (atom.Int n) ≡ two_of verb m n
unfolding of_atoms
of_ints verb m n = λ i. of_layers verb (equal_atoms (atom.Int m) (atom.Int n)) (atom.outs-Int m i) (atom.outs-Int n i)

two_compared : (verb : Primitive) → is_comparison verb ≡ true → (m n : ℤ) → two_of verb m n ≡ compared verb (int_eq m n)
unfolding is_comparison compared dyad_on
two_compared Equal h m n = refl
two_compared TildeColon h m n = refl
two_compared verb h m n = cc

layers_compared : (verb : Primitive) → is_comparison verb ≡ true → (equal : Bool) (a b : Atom-F Atom Noun) → ((m n : ℤ) → a ≡ one.Int m → b ≡ one.Int n → equal ≡ int_eq m n) → of_layers verb equal a b ≡ compared verb equal
layers_compared verb h equal (one.Int m) (one.Int n) g = two_compared verb h m n ∙ ap (compared verb) (sym (g m n refl refl))
layers_compared verb h equal a b g = refl

is_of : (a : Atom) (n : ℤ) → out-Atom a ≡ one.Int n → a ≡ atom.Int n
is_of a n e = sym (roll-out-Atom a) ∙ ap roll-Atom e ∙ atom.rolls-Int n

pub of_compared : (verb : Primitive) → is_comparison verb ≡ true → (a b : Atom) → of_atoms verb a b ≡ compared verb (equal_atoms a b)
unfolding of_atoms
of_compared verb h a b = layers_compared verb h (equal_atoms a b) (out-Atom a) (out-Atom b)
    (λ m n e f. (λ i. equal_atoms (is_of a m e i) (is_of b n f i)) ∙ sym (equal_ints m n (int_eq m n) (Decides-int_eq m n)))

equal_symmetric : (a b : Atom) → equal_atoms a b ≡ equal_atoms b a
equal_symmetric a b = equal_when b a (equal_atoms a b) (equal_decides a b) sym sym

ints_at : (verb : Primitive) (xs ys : List ℤ) (i j : ℕ) → of_atoms verb (get_or (map atom.Int xs) i (atom.Int (pos 0))) (get_or (map atom.Int ys) j (atom.Int (pos 0))) ≡ two_of verb (get_or xs i (pos 0)) (get_or ys j (pos 0))
ints_at verb xs ys i j = (λ k. of_atoms verb (get_or-map atom.Int xs i (pos 0) k) (get_or-map atom.Int ys j (pos 0) k)) ∙ of_ints verb _ _

pub right_ints : (verb : Primitive) (xs : List ℤ) (cell : ℕ) (ys : List ℤ) (n : ℕ) → by_place (spread verb (map atom.Int xs) cell (map atom.Int ys) 1) n ≡ by_place (right_at verb xs cell ys) n
right_ints verb xs cell ys n = same_by_place _ _ n (λ j h. ints_at verb xs ys (j / cell) (j / 1) ∙ ap (λ k. two_of verb (get_or xs (j / cell) (pos 0)) (get_or ys k (pos 0))) (div-one j))

pub left_ints : (verb : Primitive) (xs ys : List ℤ) (cell n : ℕ) → by_place (spread verb (map atom.Int xs) 1 (map atom.Int ys) cell) n ≡ by_place (left_at verb xs ys cell) n
left_ints verb xs ys cell n = same_by_place _ _ n (λ j h. ints_at verb xs ys (j / 1) (j / cell) ∙ ap (λ k. two_of verb (get_or xs k (pos 0)) (get_or ys (j / cell) (pos 0))) (div-one j))

pub right_compared : (verb : Primitive) → is_comparison verb ≡ true → (xs : List Atom) (cell : ℕ) (ys : List Atom) (n : ℕ) → by_place (spread verb xs cell ys 1) n ≡ by_place (pair_at verb xs cell ys) n
right_compared verb c xs cell ys n = same_by_place _ _ n (λ j h.
    of_compared verb c _ _ ∙ ap (λ k. compared verb (equal_atoms (get_or xs (j / cell) (atom.Int (pos 0))) (get_or ys k (atom.Int (pos 0))))) (div-one j))

pub left_compared : (verb : Primitive) → is_comparison verb ≡ true → (xs ys : List Atom) (cell n : ℕ) → by_place (spread verb xs 1 ys cell) n ≡ by_place (pair_at verb ys cell xs) n
left_compared verb c xs ys cell n = same_by_place _ _ n (λ j h.
    of_compared verb c _ _ ∙ ap (compared verb) (equal_symmetric _ _) ∙ ap (λ k. compared verb (equal_atoms (get_or ys (j / cell) (atom.Int (pos 0))) (get_or xs k (atom.Int (pos 0))))) (div-one j))
