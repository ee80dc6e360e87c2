-- What numbers a noun has for ranks.
use Rattle.std.proofs.Common.{◌≡◌, ℕ, List, [], ◌∷◌, map, ap, refl}
use Rattle.std.specs.Prelude.{ℤ, Some, None}
use Rattle.jdata.specs.Trees.{atom_of}
use Rattle.jdata.specs.declared.noun.Atom.TheVariants as atom
use Rattle.jdata.specs.declared.tree.Cell.{Cell}
use Rattle.jdata.specs.declared.tree.Cell.TheVariants as cell
use Rattle.jterm.specs.Ranks.{Rank, rank_in, spread, unbounded, each, these}

pub numbers_are : (l : List ℤ) → map rank_in (map atom.Int l) ≡ map (λ n. Some n) l
numbers_are [] = refl
numbers_are (n ∷ l) = ap (λ r. Some n ∷ r) (numbers_are l)

pub of_chars : (l : List ℕ) → spread (map rank_in (map atom.Char l)) ≡ unbounded
of_chars [] = refl
of_chars (a ∷ []) = refl
of_chars (a ∷ b ∷ []) = refl
of_chars (a ∷ b ∷ c ∷ []) = refl
of_chars (a ∷ b ∷ c ∷ d ∷ l) = refl

cell_rank : (c : Cell) → rank_in (atom_of c) ≡ None
cell_rank (cell.Boxed v) = refl
cell_rank (cell.Pyx p) = refl

pub of_cells : (l : List Cell) → spread (map rank_in (map atom_of l)) ≡ unbounded
of_cells [] = refl
of_cells (a ∷ []) = ap each (cell_rank a)
of_cells (a ∷ b ∷ []) = λ i. these (cell_rank b i) (cell_rank a i) (cell_rank b i)
of_cells (a ∷ b ∷ c ∷ []) = λ i. these (cell_rank a i) (cell_rank b i) (cell_rank c i)
of_cells (a ∷ b ∷ c ∷ d ∷ l) = refl

pub ruleset numbers_of = (numbers_are, of_chars, of_cells)
