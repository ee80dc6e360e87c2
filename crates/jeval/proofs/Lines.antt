-- A line that can't be cut.
use Rattle.std.proofs.Common.{◌≡◌, ◌≢◌, ℕ, false, List, length, nat_lt, Option, Err}
use Rattle.juses.proofs.Doing.{Relations}
use Rattle.jwords.specs.Formed.{words_of}
use Rattle.jwords.specs.declared.word.WordFault.{WordFault}
use Rattle.jwords.specs.declared.word.WordFault.TheVariants as cut
use Rattle.jeval.specs.declared.activity.Activity.{Activity}
use Rattle.jeval.specs.declared.end.EvalEnd.{EvalEnd}
use Rattle.jeval.specs.declared.end.EvalEnd.TheVariants as end
use Rattle.jeval.specs.Made.{Makes}
use Rattle.jeval.specs.Sentence.{IsWhy, run_line, fault_of}
use Rattle.jeval.proofs.Making.{fails_at_once, is_wanting}

module _ {S : Type 0} (uses : Relations S) where
  refused : (a : Activity S) (line : List ℕ) (why : WordFault) (e : EvalEnd) → nat_lt 65536 (length line) ≡ false → words_of line ≡ Err why → e ≡ end.Fault (fault_of why)
      → Makes uses.leads uses.refuses a a (run_line line) (Err e)
  refused a line why e short cut is = rw (short, cut, is) (fails_at_once uses {A = Option (List ℕ)} {a = a} (fault_of why))

  pub not_cut : (a : Activity S) (line : List ℕ) (why : WordFault) (e : EvalEnd) → nat_lt 65536 (length line) ≡ false → (why ≢ cut.NoMemory → words_of line ≡ Err why) → IsWhy why e
      → Makes uses.leads uses.refuses a a (run_line line) (Err e)
  not_cut a line (cut.OpenQuote at) e short h is = refused a line (cut.OpenQuote at) e short (h (λ same. cc)) is
  not_cut a line (cut.Spelling at) e short h is = refused a line (cut.Spelling at) e short (h (λ same. cc)) is
  not_cut a line (cut.IllFormed at) e short h is = refused a line (cut.IllFormed at) e short (h (λ same. cc)) is
  not_cut a line cut.NoMemory e short h is = rw is (is_wanting uses a (run_line line))
