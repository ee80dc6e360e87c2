-- Integers that stand alone: they are arrays, and what matches them.
use Rattle.std.specs.Prelude.{ℤ, ◌≡◌, ◌↔◌, List, [], ◌∷◌, map}
use Rattle.std.proofs.Common.{arith, sym, ◌∙◌, ap, refl}
use Rattle.jdata.specs.Noun.{noun, shape, kind, atoms, level, int_atom}
use Rattle.jdata.specs.Limits.{IsArray}
use Rattle.jdata.specs.Match.{IsMatch, plain, plain_atom, plain_kind}
use Rattle.jdata.specs.declared.noun.Kind.{Kind}
use Rattle.jdata.specs.declared.noun.Kind.TheVariants as sort
use Rattle.jdata.specs.declared.noun.Noun.{Noun, roll-out-Noun}
use Rattle.jdata.specs.declared.noun.Atom.{Atom, Atom-F, roll-Atom, roll-out-Atom, out-Atom}
use Rattle.jdata.specs.declared.noun.Atom.TheOpen as one
use Rattle.jdata.specs.declared.noun.Atom.TheVariants as atom
use Rattle.jdata.proofs.Levels.{level_is, level_of_ints}
use Rattle.jdata.proofs.Matching.{plain_is, plain_int, plain_char, plain_box, plain_pyx, ints_back, match_atoms, match_shape}

pub alone_is_array : (n : ℤ) → IsArray (int_atom n)
alone_is_array n =
    let flat : level (int_atom n) ≡ 0 = level_is (int_atom n) ∙ level_of_ints (n ∷ []) in
    record { whole = refl; within = record { rank = omega arith; extent_at_most = omega arith }; level_at_most = omega (arith, flat) }

pub alone_match : (m n : ℤ) → IsMatch (int_atom m) (int_atom n) ↔ (m ≡ n)
alone_match m n = (λ e. let same : m ∷ [] ≡ n ∷ [] = ints_back (m ∷ []) (n ∷ []) (match_atoms (int_atom m) (int_atom n) e) in cc, λ e. ap (λ x. plain (int_atom x)) e)

-- an atom that is plainly an integer is that integer
layer_is_int : (a : Atom-F Atom Noun) (n : ℤ) → plain_atom (roll-Atom a) ≡ atom.Int n → roll-Atom a ≡ atom.Int n
layer_is_int (one.Int m) n e = let r = atom.rolls-Int m in cc (plain_int m)
layer_is_int (one.Char m) n e = let r = atom.rolls-Char m in cc (plain_char m)
layer_is_int (one.Box v) n e = let r = atom.rolls-Box v in cc (plain_box v)
layer_is_int (one.Pyx p) n e = let r = atom.rolls-Pyx p in cc (plain_pyx p)

is_int : (a : Atom) (n : ℤ) → plain_atom a ≡ atom.Int n → a ≡ atom.Int n
is_int a n e = sym (roll-out-Atom a) ∙ layer_is_int (out-Atom a) n (ap plain_atom (roll-out-Atom a) ∙ e)

one_atom : (l : List Atom) (n : ℤ) → map plain_atom l ≡ atom.Int n ∷ [] → l ≡ atom.Int n ∷ []
one_atom [] n e = cc
one_atom (a ∷ []) n e = let h : plain_atom a ≡ atom.Int n = cc in ap (λ x. x ∷ []) (is_int a n h)
one_atom (a ∷ (b ∷ l)) n e = cc

its_kind : (k : Kind) (l : List Atom) (n : ℤ) → l ≡ atom.Int n ∷ [] → plain_kind k (map plain_atom l) ≡ k
its_kind k [] n e = cc
its_kind k (a ∷ l) n e = refl

pub only_itself : (t : Noun) (n : ℤ) → IsMatch t (int_atom n) → t ≡ int_atom n
only_itself t n e =
    let s : shape t ≡ [] = match_shape t (int_atom n) e in
    let l : atoms t ≡ atom.Int n ∷ [] = one_atom (atoms t) n (match_atoms t (int_atom n) e ∙ ap (λ x. x ∷ []) (plain_int n)) in
    let k : kind t ≡ sort.Int = sym (its_kind (kind t) (atoms t) n l) ∙ ap kind (sym (plain_is t) ∙ e ∙ plain_is (int_atom n)) in
    sym (roll-out-Noun t) ∙ (λ i. noun (s i) (k i) (l i))
