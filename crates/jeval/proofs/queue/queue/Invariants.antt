use Rattle.std.proofs.Common.{◌≡◌, drop}
use Rattle.jeval.specs.Queue.{queue_of, queued_behind}
use Rattle.jeval.proofs.queue.queue.Given as goal

abbrev pub invariant-loop-word : goal.invariant-loop-word
invariant-loop-word l = queue_of l.line l.words ≡ queued_behind l.line (drop l.word-index l.words) l.queue
