-- When a term is valid: each modifier with its operands and each train in it is what it gives for these operands, each
-- constant verb is one of `_9:` to `9:`, and each number word that isn't a noun has `_` in it.
use Rattle.std.specs.Prelude.{ℤ, pos, negsuc, int_le, Bool, true, ◌&&◌, is_ok, is_none, IsTrue, List, Option}
use Rattle.std.specs.List.{list_any}
use Rattle.jterm.specs.Acts.{adverb_of, conj_of, fork_of, hook_of}
use Rattle.jterm.specs.declared.term.Term.{Term, Term-F, para-Term}
use Rattle.jterm.specs.declared.term.Term.TheOpen as one

abbrev pub is_digit : ℤ → Bool
is_digit n = int_le (negsuc 8) n && int_le n (pos 9)

abbrev pub valid_step : Term-F (Term × Bool) → Bool
valid_step (one.Ranks numbers) = list_any (λ r. is_none r) numbers
valid_step (one.Const n) = is_digit n
valid_step (one.With1 word u) = is_ok (adverb_of word u.0) && u.1
valid_step (one.With2 word u v) = is_ok (conj_of word u.0 v.0) && (u.1 && v.1)
valid_step (one.Hook u v) = is_ok (hook_of u.0 v.0) && (u.1 && v.1)
valid_step (one.Fork u v w) = is_ok (fork_of u.0 v.0 w.0) && (u.1 && (v.1 && w.1))
valid_step word = true

unfoldable pub is_valid : Term → Bool
is_valid = para-Term Bool valid_step

abbrev pub IsValid : Term → Type 0
IsValid t = IsTrue (is_valid t)
