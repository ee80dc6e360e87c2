use Rattle.std.proofs.Common.{List, ℕ, Some, take, drop, subst, arith}
use Rattle.std.proofs.lemmas.Grind.{common_steps}
use Rattle.jsession.specs.Reads.{IsKept}
use Rattle.jsession.proofs.Pieces.{ends_in, take_front}
use Rattle.jsession.proofs.reading.read_script.Goals as goal

pub returns-in-Some-clause-read : goal.returns-in-Some-clause-read
returns-in-Some-clause-read g c =
    let read = c.in-Bytes.ensures.bytes in
    let old = c.loop-bytes.bytes.items in
    let P : List ℕ → Type 0 = λ piece. IsKept old piece c.keep.new.bytes.items (Some c.in-Some.how) in
    let front = take_front c.in-Bytes.count c.read.new.into (drop c.min-room.result c.loop-bytes.chunk) read.1 in
    ends_in (g.S.Source.reads c.args.script.now) (g.S.Source.reads c.loop-bytes.script) (g.S.Source.reads c.read.new.self)
    old (take c.in-Bytes.count c.read.new.into) c.keep.new.bytes.items c.loop-bytes.invariant.read read.2
    c.in-Some.how (subst P front c.in-Some.ensures)
