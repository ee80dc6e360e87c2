-- What the text of a body means (J Dictionary, "Control Structures"): its blocks. Words and sentences are numbered
-- together in their order.
use Rattle.std.specs.Prelude.{ℕ, ◌+◌, Bool, true, false}
use Rattle.jcontrol.specs.Block.{Block, Cases}
use Rattle.jcontrol.specs.Block.Block.{Nothing, Sentence, If, While, For, Select, Try, Assert, Break, Continue, Leave}
use Rattle.jcontrol.specs.Block.Cases.{NoCase, Case, Always}
use Rattle.jexplicit.specs.declared.kind.Looping.{Looping}
use Rattle.jexplicit.specs.declared.kind.Looping.TheVariants as looping
use Rattle.jexplicit.specs.Grammar.{Text, Otherwise, Cases as CaseTexts}
use Rattle.jexplicit.specs.Grammar.Cases.{NoCase as NoCaseText, Case as CaseText}
use Rattle.jexplicit.specs.Grammar.Text.{Nothing as NoText, Sentence as SentenceText, If as IfText, Loop as LoopText, Select as SelectText, Try as TryText, Assert as AssertText, Break as BreakText, Continue as ContinueText, Leave as LeaveText}
use Rattle.jexplicit.specs.Grammar.Otherwise.{NoElse, Else, Elseif}

-- how many words there are
abbrev mutual
  pub count : Text → ℕ
  count NoText = 0
  count (SentenceText rest) = 1 + count rest
  count (IfText test block otherwise rest) = 1 + count test + 1 + count block + count_otherwise otherwise + 1 + count rest
  count (LoopText l test block rest) = 1 + count test + 1 + count block + 1 + count rest
  count (SelectText test falls first block cases rest) = 1 + count test + 1 + count first + 1 + count block + count_cases cases + 1 + count rest
  count (TryText block caught rest) = 1 + count block + 1 + count caught + 1 + count rest
  count (AssertText rest) = 2 + count rest
  count (BreakText rest) = 1 + count rest
  count (ContinueText rest) = 1 + count rest
  count (LeaveText rest) = 1 + count rest

  pub count_otherwise : Otherwise → ℕ
  count_otherwise NoElse = 0
  count_otherwise (Else block) = 1 + count block
  count_otherwise (Elseif test block otherwise) = 1 + count test + 1 + count block + count_otherwise otherwise

  pub count_cases : CaseTexts → ℕ
  count_cases NoCaseText = 0
  count_cases (CaseText falls test block cases) = 1 + count test + 1 + count block + count_cases cases

abbrev pub loop_of : Looping → ℕ → Block → Block → Block → Block
loop_of looping.While w test block rest = While w false test block rest
loop_of looping.Whilst w test block rest = While w true test block rest
loop_of looping.For w test block rest = For w test block rest

-- a case without a word in its test is always taken
abbrev pub case_of : Text → ℕ → Block → Block → Bool → Cases → Cases
case_of NoText w test block falls more = Always block falls more
case_of _ w test block falls more = Case w test block falls more

abbrev mutual
  -- the block whose first word has this number
  pub block_of : ℕ → Text → Block
  block_of i NoText = Nothing
  block_of i (SentenceText rest) = Sentence i (block_of (i + 1) rest)
  block_of i (IfText test block otherwise rest) =
      let d = i + 1 + count test in let e = d + 1 + count block in let f = e + count_otherwise otherwise in
      If i (block_of (i + 1) test) (block_of (d + 1) block) (otherwise_of e otherwise) (block_of (f + 1) rest)
  block_of i (LoopText l test block rest) =
      let d = i + 1 + count test in let e = d + 1 + count block in
      loop_of l i (block_of (i + 1) test) (block_of (d + 1) block) (block_of (e + 1) rest)
  block_of i (SelectText test falls first block cases rest) =
      let c = i + 1 + count test in let d = c + 1 + count first in let e = d + 1 + count block in let f = e + count_cases cases in
      Select i (block_of (i + 1) test) (case_of first c (block_of (c + 1) first) (block_of (d + 1) block) falls (cases_of e cases)) (block_of (f + 1) rest)
  block_of i (TryText block caught rest) =
      let c = i + 1 + count block in let e = c + 1 + count caught in
      Try (block_of (i + 1) block) (block_of (c + 1) caught) (block_of (e + 1) rest)
  block_of i (AssertText rest) = Assert i (Sentence (i + 1) Nothing) (block_of (i + 1 + 1) rest)
  block_of i (BreakText rest) = Break (block_of (i + 1) rest)
  block_of i (ContinueText rest) = Continue (block_of (i + 1) rest)
  block_of i (LeaveText rest) = Leave (block_of (i + 1) rest)

  -- an `elseif.` is an `if.` in what is done otherwise
  pub otherwise_of : ℕ → Otherwise → Block
  otherwise_of i NoElse = Nothing
  otherwise_of i (Else block) = block_of (i + 1) block
  otherwise_of i (Elseif test block otherwise) =
      let d = i + 1 + count test in let e = d + 1 + count block in
      If i (block_of (i + 1) test) (block_of (d + 1) block) (otherwise_of e otherwise) Nothing

  pub cases_of : ℕ → CaseTexts → Cases
  cases_of i NoCaseText = NoCase
  cases_of i (CaseText falls test block cases) =
      let d = i + 1 + count test in let e = d + 1 + count block in
      case_of test i (block_of (i + 1) test) (block_of (d + 1) block) falls (cases_of e cases)
