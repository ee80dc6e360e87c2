use Rattle.std.proofs.Common.{take}
use Rattle.jwords.proofs.QuotedTexts.{Scanned}
use Rattle.jwords.proofs.quoting.closing_length.Given as goal

-- the bytes so far stand between quotes, or the last of them is a quote that may close
abbrev pub invariant-loop-i : goal.invariant-loop-i
invariant-loop-i l = Scanned l.closing (take l.i l.bytes)
