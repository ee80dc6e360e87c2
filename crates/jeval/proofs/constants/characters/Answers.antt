use Rattle.std.proofs.Common.{rules, ◌≡◌, ◌∙◌, ◌+◌, ◌++◌, ◌∷◌, ◌==◌, get_or, [], drop, ap, sym}
use Rattle.std.proofs.lemmas.List.{append_assoc}
use Rattle.jwords.specs.Alphabet.{quote}
use Rattle.jeval.proofs.Splitting.{characters_on, skips, keeps}
use Rattle.jeval.proofs.constants.characters.Goals.{then-doubled, else-doubled+else-is_err}
use Rattle.jeval.proofs.constants.characters.Goals as goal

pub loop-byte-preserved : goal.loop-byte-preserved
loop-byte-preserved c =
    let xs = c.args.inside.now in
    let i = c.loop-byte.byte-index in
    let byte = get_or xs i 0 in
    let kept = c.loop-byte.bytes.items in
    elim c.if-doubled.branch [
      | then-doubled w ↦ rw (w.bytes-is, w.doubled-is) (c.loop-byte.invariant ∙ ap (λ d. kept ++ characters_on d (drop i xs)) w.if-doubled.true ∙ ap (λ t. kept ++ t) (skips xs i c.loop-byte-test.true))
      | else-doubled+else-is_err w ↦
          let pushed : w.push.new.self.items ≡ kept ++ byte ∷ [] = search rules in
          rw (w.bytes-is, w.doubled-is, pushed) (c.loop-byte.invariant ∙ ap (λ d. kept ++ characters_on d (drop i xs)) w.if-doubled.false ∙ ap (λ t. kept ++ t) (keeps xs i c.loop-byte-test.true) ∙ sym (append_assoc kept (byte ∷ []) (characters_on (byte == quote) (drop (i + 1) xs))))
    ]
