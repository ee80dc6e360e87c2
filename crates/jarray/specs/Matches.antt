-- Match as a test (NuVoc "-:"): whether two arrays match, and whether two atoms are equal.
use Rattle.std.specs.Prelude.{ℕ, ℤ, Bool, true, false, ◌==◌, ◌&&◌, List, [], ◌∷◌}
use Rattle.std.specs.Ordering.{int_eq}
use Rattle.std.specs.Str.{bytes_eq}
use Rattle.jdata.specs.Kinds.{kinds_match}
use Rattle.jdata.specs.Noun.{shape, kind, atoms}
use Rattle.jdata.specs.declared.noun.Noun.{Noun, Noun-F, fold-Noun}
use Rattle.jdata.specs.declared.noun.Atom.{Atom, Atom-F, fold-Atom, out-Atom}
use Rattle.jdata.specs.declared.noun.Atom.TheOpen as one
use Rattle.jdata.specs.declared.path.PyxId.{PyxId}

abbrev pub is_int : ℤ → Atom-F Atom Noun → Bool
is_int n (one.Int m) = int_eq n m
is_int n other = false

abbrev pub is_char : ℕ → Atom-F Atom Noun → Bool
is_char n (one.Char m) = n == m
is_char n other = false

-- a box whose content passes the test
abbrev pub is_box : (Noun → Bool) → Atom-F Atom Noun → Bool
is_box test (one.Box content) = test content
is_box test other = false

abbrev pub is_pyx : PyxId → Atom-F Atom Noun → Bool
is_pyx p (one.Pyx q) = bytes_eq p.path q.path && (p.number == q.number)
is_pyx p other = false

-- numbers and characters are equal by value, boxes where their contents match, pyxes where their names are one
abbrev pub atom_step : Atom-F (Atom → Bool) (Noun → Bool) → Atom → Bool
atom_step (one.Int n) a = is_int n (out-Atom a)
atom_step (one.Char n) a = is_char n (out-Atom a)
atom_step (one.Box test) a = is_box test (out-Atom a)
atom_step (one.Pyx p) a = is_pyx p (out-Atom a)

-- as many atoms as tests, and each passes its own
abbrev pub each_passes : List (Atom → Bool) → List Atom → Bool
each_passes [] [] = true
each_passes (test ∷ tests) (a ∷ rest) = test a && each_passes tests rest
each_passes tests rest = false

-- equal shapes, one kind, and equal atoms place by place
abbrev pub noun_step : Noun-F (Atom → Bool) (Noun → Bool) → Noun → Bool
noun_step v w = bytes_eq v.shape (shape w) && (kinds_match v.kind (kind w) (atoms w) && each_passes v.atoms (atoms w))

abbrev pub matches : Noun → Noun → Bool
matches = fold-Noun (Atom → Bool) (Noun → Bool) atom_step noun_step

abbrev pub equal_atoms : Atom → Atom → Bool
equal_atoms = fold-Atom (Atom → Bool) (Noun → Bool) atom_step noun_step
