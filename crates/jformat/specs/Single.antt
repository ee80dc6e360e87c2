-- The display of an integer that stands alone is its spelling and a line end.
use Rattle.std.specs.Prelude.{◌≡◌, ◌-◌, ℕ, ℤ, List, [], ◌∷◌, ◌++◌, length, max, replicate}
use Rattle.std.proofs.Common.{◌∙◌, sym, ap, append-nil, arith}
use Rattle.jnumber.specs.Spelling.{written}
use Rattle.jdata.specs.Noun.{int_atom}
use Rattle.jdata.specs.declared.noun.Atom.{fold-roll-Atom}
use Rattle.jdata.specs.declared.noun.Atom.TheOpen as one
use Rattle.jdata.specs.declared.noun.Atom.TheVariants as atom
use Rattle.jformat.specs.Rows.{display_of, rows_of, line_end, blank, text_of, block_of, block_step, rows_by}

pub block_of_int : (n : ℤ) → block_of (atom.Int n) ≡ written n ∷ []
block_of_int n = ap block_of (sym (atom.rolls-Int n)) ∙ fold-roll-Atom (List (List ℕ)) (List (List ℕ)) block_step (λ v. rows_by v.kind v.shape v.atoms) (one.Int n)

-- a text alone in its column needs no blanks
alone : (text : List ℕ) → ((replicate (max (length text) 0 - length text) blank ++ text) ++ line_end ∷ []) ++ [] ≡ text ++ line_end ∷ []
alone text =
    let none : max (length text) 0 - length text ≡ 0 = omega arith in
    append-nil _ ∙ ap (λ k. (replicate k blank ++ text) ++ line_end ∷ []) none

pub display_of_int_atom : (n : ℤ) → display_of (int_atom n) ≡ written n ++ line_end ∷ []
unfolding display_of rows_of
display_of_int_atom n = alone (text_of (block_of (atom.Int n))) ∙ ap (λ rows. text_of rows ++ line_end ∷ []) (block_of_int n)
