use Rattle.std.proofs.Common.{◌≡◌, ◌∙◌, ◌+◌, IfOk, Some, ap, sym, subst, drop, length, arith, option_map}
use Rattle.std.specs.List.{slice_split}
use Rattle.jwords.specs.Alphabet.{is_blank}
use Rattle.jeval.specs.Constants.{joined, numbers, numbers_of, numbers_in}
use Rattle.jeval.proofs.Splitting.{between, read_on, reads_blank, reads_next, reads_more, reads_last}
use Rattle.jeval.proofs.constants.numbers.Goals as goal

pub loop-i-preserved-then-not-is_blank : goal.loop-i-preserved-then-not-is_blank
loop-i-preserved-then-not-is_blank c = record {
  order = omega (arith, c.loop-i.invariant.order);
  same = c.loop-i.invariant.same ∙ reads_more c.loop-i.numbers.items c.args.word.now c.loop-i.start c.loop-i.i c.loop-i.invariant.order c.loop-i-test.true (sym c.if-not-is_blank.ensures);
}

pub loop-i-preserved : goal.loop-i-preserved
loop-i-preserved c =
    let word = c.args.word.now in
    let next = c.loop-i.i + 1 in
    let run = between word c.loop-i.start c.loop-i.i in
    let read : joined (Some c.loop-i.numbers.items) (numbers_of run) ≡ Some c.in-Some.more.items = sym c.in_ok-more.ensures ∙ ap (option_map (λ ns. ns.items)) c.in-Some.is in
    record {
      order = omega arith;
      same = c.loop-i.invariant.same ∙ reads_blank c.loop-i.numbers.items word c.loop-i.start c.loop-i.i c.loop-i-test.true (sym c.if-not-is_blank.ensures)
          ∙ ap (λ ns. joined ns (numbers_in (slice_split is_blank (drop next word)))) read ∙ sym (reads_next c.in-Some.more.items word next);
    }

pub returns : goal.returns
returns c =
    let word = c.args.word.now in
    let ended : c.loop-i.i ≡ length word = omega (arith, c.loop-i.auto.i-end, c.loop-i-test.false) in
    let read : joined (Some c.loop-i.numbers.items) (numbers_of (between word c.loop-i.start (length word))) ≡ numbers word =
    sym (c.loop-i.invariant.same ∙ ap (λ i. read_on c.loop-i.numbers.items (between word c.loop-i.start i) (drop i word)) ended ∙ reads_last c.loop-i.numbers.items word c.loop-i.start) in
    subst (λ meant. IfOk c.with_run-2.result (λ given. option_map (λ ns. ns.items) given ≡ meant)) read c.with_run-2.ensures
