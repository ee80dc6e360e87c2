use Rattle.std.proofs.Common.{◌≡◌, ◌∙◌, ◌+◌, ◌++◌, ◌∷◌, [], IfOk, ap, sym, subst, drop, length, filter, arith}
use Rattle.std.specs.List.{slice_split}
use Rattle.jwords.specs.Alphabet.{is_blank}
use Rattle.jeval.specs.Targets.{is_some_run}
use Rattle.jeval.specs.Targets as targets
use Rattle.jeval.proofs.Quoted.{runs_on, runs_blank, runs_next, runs_more, runs_last}
use Rattle.jeval.proofs.Splitting.{between}
use Rattle.jeval.proofs.targets.runs.Goals as goal

pub loop-i-init : goal.loop-i-init
loop-i-init c =
    let text = c.args.text.now in
    record { order = omega arith; same = sym (ap (λ names. runs_on names (between text 0 0) (drop 0 text)) c.new-names.ensures.items ∙ runs_next [] text 0) }

pub loop-i-preserved-then-not-is_blank : goal.loop-i-preserved-then-not-is_blank
loop-i-preserved-then-not-is_blank c = record {
  order = omega (arith, c.loop-i.invariant.order);
  same = c.loop-i.invariant.same ∙ runs_more c.loop-i.names.items c.args.text.now c.loop-i.start c.loop-i.i c.loop-i.invariant.order c.loop-i-test.true (sym c.if-not-is_blank.ensures);
}

pub loop-i-preserved : goal.loop-i-preserved
loop-i-preserved c =
    let text = c.args.text.now in
    let next = c.loop-i.i + 1 in
    record {
      order = omega arith;
      same = c.loop-i.invariant.same ∙ runs_blank c.loop-i.names.items text c.loop-i.start c.loop-i.i c.loop-i-test.true (sym c.if-not-is_blank.ensures)
          ∙ ap (λ ns. ns ++ filter is_some_run (slice_split is_blank (drop next text))) (sym c.in_ok-names.ensures) ∙ sym (runs_next c.in_ok-names.names.items text next);
    }

pub returns : goal.returns
returns c =
    let text = c.args.text.now in
    let ended : c.loop-i.i ≡ length text = omega (arith, c.loop-i.auto.i-end, c.loop-i-test.false) in
    let read : c.loop-i.names.items ++ filter is_some_run (between text c.loop-i.start (length text) ∷ []) ≡ targets.runs text =
    sym (c.loop-i.invariant.same ∙ ap (λ i. runs_on c.loop-i.names.items (between text c.loop-i.start i) (drop i text)) ended ∙ runs_last c.loop-i.names.items text c.loop-i.start) in
    subst (λ meant. IfOk c.with_run-2.result (λ given. given.items ≡ meant)) read c.with_run-2.ensures
