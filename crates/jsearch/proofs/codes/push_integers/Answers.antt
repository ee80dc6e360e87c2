use Rattle.std.proofs.Common.{ap, sym, ◌∙◌, ◌++◌, get_or, pos}
use Rattle.jdata.specs.declared.noun.Atom.TheVariants as atom
use Rattle.jsearch.proofs.Pushing.{pushed_code, code_of_int}
use Rattle.jsearch.proofs.codes.push_integers.Goals as goal

pub loop-number-preserved : goal.loop-number-preserved
loop-number-preserved c =
    let i = c.loop-number.number-index in
    let x = get_or c.args.numbers.now i (pos 0) in
    pushed_code atom.Int c.args.numbers.now i (pos 0) c.args.into.now.items c.loop-number.into.items _ c.loop-number-test.true c.loop-number.invariant
    (c.in_ok-push_integer.ensures ∙ ap (λ r. c.loop-number.into.items ++ r) (sym (code_of_int x)))
