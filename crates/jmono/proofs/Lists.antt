-- What the monads give of arrays in their parts.
use Rattle.std.proofs.Common.{◌≡◌, ◌≢◌, ℕ, Bool, true, false, List, [], ◌∷◌, ◌++◌, map, length, take, drop, get_or, Ok, Err, Result, refl, sym, ap, ◌∙◌, subst, arith}
use Rattle.std.proofs.Math.Seq.{take-append_seam}
use Rattle.std.specs.Prelude.{ℤ, pos}
use Rattle.jdata.specs.Firsts.{all_or_first}
use Rattle.jdata.specs.Noun.{noun, shape, atoms, int_atom, product}
use Rattle.jdata.specs.Limits.{IsArray, IsShape}
use Rattle.jarray.specs.Numbers.{integers}
use Rattle.jdata.specs.Trees.{noun_of, atoms_of}
use Rattle.jdata.specs.declared.fault.Fault.{Fault}
use Rattle.jdata.specs.declared.fault.Fault.TheVariants.{Domain, Nonce}
use Rattle.jdata.specs.declared.noun.Noun.{Noun}
use Rattle.jdata.specs.declared.noun.Kind.TheVariants as sort
use Rattle.jdata.specs.declared.noun.Atom.TheVariants as atom
use Rattle.jdata.specs.declared.tree.Leaves.{Leaves}
use Rattle.jdata.specs.declared.tree.Leaves.TheVariants as leaf
use Rattle.jscalar.specs.Flagged.{flagged}
use Rattle.jscalar.specs.Places.{by_place}
use Rattle.jscalar.proofs.Eaches.{each_by_place}
use Rattle.jmono.specs.Monads.{of_atom, of_layer, each_integer}

atom_of_integer : (meant : ℤ → Result ℤ Fault) (n : ℤ) → of_atom meant (atom.Int n) ≡ meant n
unfolding of_atom
atom_of_integer meant n = ap (of_layer meant) (atom.outs-Int n)

atoms_of_integers : (meant : ℤ → Result ℤ Fault) (numbers : List ℤ) → map (of_atom meant) (map atom.Int numbers) ≡ map meant numbers
atoms_of_integers meant [] = refl
atoms_of_integers meant (n ∷ ns) = λ i. atom_of_integer meant n i ∷ atoms_of_integers meant ns i

pub of_integers : (meant : ℤ → Result ℤ Fault) (axes : List ℕ) (numbers : List ℤ) → each_integer meant (noun axes sort.Int (map atom.Int numbers)) ≡ integers axes (all_or_first (map meant numbers))
unfolding each_integer
of_integers meant axes [] = refl
of_integers meant axes (n ∷ ns) = ap (λ rs. integers axes (all_or_first rs)) (atoms_of_integers meant (n ∷ ns))

-- leaves that aren't integers
abbrev pub IsOther : Leaves → Type 0
IsOther (leaf.Int xs) = ⊥
IsOther other = Unit {0}

pub of_no_atoms : (meant : ℤ → Result ℤ Fault) (axes : List ℕ) (l : Leaves) → length (atoms_of l) ≡ 0 → each_integer meant (noun_of axes l) ≡ Ok (noun axes sort.Int [])
unfolding each_integer
of_no_atoms meant axes (leaf.Int []) e = refl
of_no_atoms meant axes (leaf.Char []) e = refl
of_no_atoms meant axes (leaf.Cell []) e = refl
of_no_atoms meant axes (leaf.Int (x ∷ xs)) e = absurd (omega (arith, e))
of_no_atoms meant axes (leaf.Char (x ∷ xs)) e = absurd (omega (arith, e))
of_no_atoms meant axes (leaf.Cell (x ∷ xs)) e = absurd (omega (arith, e))

pub of_others : (meant : ℤ → Result ℤ Fault) (axes : List ℕ) (l : Leaves) → IsOther l → length (atoms_of l) ≢ 0 → each_integer meant (noun_of axes l) ≡ Err Domain
unfolding each_integer
of_others meant axes (leaf.Int xs) h n = absurd h
of_others meant axes (leaf.Char []) h n = absurd (n refl)
of_others meant axes (leaf.Cell []) h n = absurd (n refl)
of_others meant axes (leaf.Char (x ∷ xs)) h n = refl
of_others meant axes (leaf.Cell (x ∷ xs)) h n = refl

pub not_integers : (l : Leaves) → ((numbers : List ℤ) → l ≡ leaf.Int numbers → ⊥) → IsOther l
not_integers (leaf.Int xs) h = h xs refl
not_integers (leaf.Char xs) h = tt
not_integers (leaf.Cell xs) h = tt

-- of an array of integers in its parts
pub shape_of_parts : (t : Noun) (axes : List ℕ) (l : Leaves) → noun_of axes l ≡ t → IsArray t → IsShape axes
shape_of_parts t axes l e h = subst IsShape (sym (ap shape e)) h.within

pub size_of_parts : (t : Noun) (axes : List ℕ) (l : Leaves) → noun_of axes l ≡ t → IsArray t → length (atoms_of l) ≡ product (shape t)
size_of_parts t axes l e h = ap (λ v. length (atoms v)) e ∙ h.whole

-- a slice as long as the vector that it was cut from is the whole of it
pub written_back : (n : ℕ) (now old : List ℤ) → length now ≡ n → take n (now ++ drop (length now) old) ≡ now
written_back n now old e = ap (λ k. take k (now ++ drop (length now) old)) (sym e) ∙ take-append_seam now (drop (length now) old)

-- what a loop over all the numbers gave
pub each_given : (meant : ℤ → Result ℤ Fault) (axes : List ℕ) (old now : List ℤ) (any : Bool) → by_place (λ j. meant (get_or old j (pos 0))) (length old) ≡ flagged Nonce now any → any ≡ false →
    Ok (noun axes sort.Int (map atom.Int now)) ≡ integers axes (all_or_first (map meant old))
each_given meant axes old now any e h = sym (ap (integers axes) (sym (each_by_place meant old) ∙ e ∙ ap (flagged Nonce now) h))

pub each_refused : (meant : ℤ → Result ℤ Fault) (axes : List ℕ) (old now : List ℤ) (any : Bool) → by_place (λ j. meant (get_or old j (pos 0))) (length old) ≡ flagged Nonce now any → any ≡ true →
    Err Nonce ≡ integers axes (all_or_first (map meant old))
each_refused meant axes old now any e h = sym (ap (integers axes) (sym (each_by_place meant old) ∙ e ∙ ap (flagged Nonce now) h))

-- an atom as it is given
one_is : (meant : ℤ → Result ℤ Fault) (n : ℤ) (r : Result ℤ Fault) → meant n ≡ r → each_integer meant (int_atom n) ≡ integers [] (all_or_first (r ∷ []))
one_is meant n r e = of_integers meant [] (n ∷ []) ∙ ap (λ s. integers [] (all_or_first (s ∷ []))) e

pub one_given : (meant : ℤ → Result ℤ Fault) (n value : ℤ) (none : Bool) → meant n ≡ flagged Nonce value none → none ≡ false → each_integer meant (int_atom n) ≡ Ok (int_atom value)
one_given meant n value none e h = one_is meant n (Ok value) (e ∙ ap (flagged Nonce value) h)

pub one_refused : (meant : ℤ → Result ℤ Fault) (n value : ℤ) (none : Bool) → meant n ≡ flagged Nonce value none → none ≡ true → each_integer meant (int_atom n) ≡ Err Nonce
one_refused meant n value none e h = one_is meant n (Err Nonce) (e ∙ ap (flagged Nonce value) h)
