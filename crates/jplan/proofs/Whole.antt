-- An integer that stands alone, or none.
use Rattle.std.proofs.Common.{◌≡◌, ◌≢◌, ℕ, ℤ, Option, Some, None, List, [], ◌∷◌, IfSome, IfNone, refl, subst, sym, ap}
use Rattle.jdata.specs.Noun.{shape, kind, atoms, noun, int_atom}
use Rattle.jdata.specs.declared.noun.Atom.{Atom, Atom-F, roll-Atom, out-Atom, roll-out-Atom}
use Rattle.jdata.specs.declared.noun.Atom.TheOpen as one
use Rattle.jdata.specs.declared.noun.Atom.TheVariants as atom
use Rattle.jdata.specs.declared.noun.Kind.{Kind}
use Rattle.jdata.specs.declared.noun.Kind.TheVariants as sort
use Rattle.jdata.specs.declared.noun.Noun.{Noun}
use Rattle.jplan.specs.Pieces.{integer_in, integer_of, number_of}

layer_none : (b : Atom-F Atom Noun) → ((n : ℤ) → noun [] sort.Int (roll-Atom b ∷ []) ≢ int_atom n) → None ≡ integer_of [] sort.Int (roll-Atom b ∷ [])
layer_none (one.Int n) h = absurd (h n (ap (λ x. noun [] sort.Int (x ∷ [])) (atom.rolls-Int n)))
layer_none (one.Char m) h = ap number_of (sym (atom.rolls-Char m))
layer_none (one.Box v) h = ap number_of (sym (atom.rolls-Box v))
layer_none (one.Pyx p) h = ap number_of (sym (atom.rolls-Pyx p))

none_there : (axes : List ℕ) (k : Kind) (these : List Atom) → ((n : ℤ) → noun axes k these ≢ int_atom n) → None ≡ integer_of axes k these
none_there [] sort.Int [] h = refl
none_there [] sort.Int (a ∷ []) h =
    let P : Atom → Type 0 = λ x. ((n : ℤ) → noun [] sort.Int (x ∷ []) ≢ int_atom n) → None ≡ integer_of [] sort.Int (x ∷ []) in
    subst P (roll-out-Atom a) (layer_none (out-Atom a)) h
none_there [] sort.Int (a ∷ b ∷ rest) h = refl
none_there [] sort.Char these h = refl
none_there [] sort.Boxed these h = refl
none_there (n ∷ axes) k these h = refl

pub integer_is : (v : Noun) (o : Option ℤ) → IfSome o (λ n. v ≡ int_atom n) → IfNone o ((n : ℤ) → v ≢ int_atom n) → o ≡ integer_in v
integer_is v (Some n) some none = sym (ap integer_in some)
integer_is v None some none = none_there (shape v) (kind v) (atoms v) none
