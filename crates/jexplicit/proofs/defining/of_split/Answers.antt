use Rattle.std.proofs.Common.{◌≡◌, ◌∙◌, take, drop, ap, arith}
use Rattle.jexplicit.specs.Body.{words_in}
use Rattle.jexplicit.proofs.Lines.{words_apart}
use Rattle.jexplicit.proofs.defining.of_split.Goals as goal

pub of_parts-requires : goal.of_parts-requires
of_parts-requires c =
    let s = c.args.split in
    let apart = words_apart c.args.lines s.monad_to s.dyad_from c.requires.order in
    let front : words_in c.monad_lines.result.now ≡ words_in (take s.monad_to c.args.lines) =
    ap words_in c.monad_lines.ensures ∙ ap (λ lines. words_in (take s.monad_to lines)) c.items-2.ensures in
    let back : words_in c.dyad_lines.result.now ≡ words_in (drop s.dyad_from c.args.lines) =
    ap words_in c.dyad_lines.ensures ∙ ap (λ lines. words_in (drop s.dyad_from lines)) c.items-3.ensures in
    omega (arith, apart, front, back, c.in_ok-monad.ensures.few, c.in_ok-dyad.ensures.few, c.requires.words)
