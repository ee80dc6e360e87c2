use Rattle.std.proofs.Common.{ap, sym, ◌∙◌, ◌++◌, get_or}
use Rattle.jdata.specs.declared.noun.Atom.TheVariants as atom
use Rattle.jsearch.proofs.Pushing.{pushed_code, code_of_char}
use Rattle.jsearch.proofs.codes.push_characters.Goals as goal

pub loop-byte-preserved : goal.loop-byte-preserved
loop-byte-preserved c =
    let i = c.loop-byte.byte-index in
    let x = get_or c.args.bytes.now i 0 in
    pushed_code atom.Char c.args.bytes.now i 0 c.args.into.now.items c.loop-byte.into.items _ c.loop-byte-test.true c.loop-byte.invariant
    (c.in_ok-push_character.ensures ∙ ap (λ r. c.loop-byte.into.items ++ r) (sym (code_of_char x)))
