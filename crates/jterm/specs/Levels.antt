-- How deep a term is: a word is one level, and what is made of operands is one more than the deepest of them.
use Rattle.std.specs.Prelude.{ℕ, ◌+◌, max}
use Rattle.jterm.specs.declared.term.Term.{Term, Term-F, fold-Term}
use Rattle.jterm.specs.declared.term.Term.TheOpen as one

abbrev pub level_step : Term-F ℕ → ℕ
level_step (one.With1 word left) = left + 1
level_step (one.With2 word left right) = max left right + 1
level_step (one.Hook left right) = max left right + 1
level_step (one.Fork left mid right) = max left (max mid right) + 1
level_step word = 1

unfoldable pub levels : Term → ℕ
levels = fold-Term ℕ level_step

-- the most levels of a term
abbrev pub most_levels : ℕ
most_levels = 200
