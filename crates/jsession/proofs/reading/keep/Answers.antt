use Rattle.std.proofs.Common.{◌≡◌, ◌∙◌, ◌-◌, ◌++◌, ◌∷◌, [], length, get_or, sym, ap, arith}
use Rattle.std.proofs.lemmas.Grind.{common_steps}
use Rattle.jsession.proofs.Pieces.{without_last, last_length}
use Rattle.jsession.proofs.reading.keep.Goals as goal

pub returns-in-Ok : goal.returns-in-Ok
returns-in-Ok c =
    let old = c.args.bytes.now.items in
    let piece = c.args.piece.now in
    let last = get_or piece (length piece - 1) 0 in
    let more = c.if-len-piece-gt-SCRIPT_LIMIT.true in
    let held : c.len.result ≡ length old = grind (arith, common_steps, c.len.ensures) in (
      last,
      without_last old piece c.requires.some ∙ ap (λ zs. zs ++ last ∷ []) (sym c.in-Ok.ensures),
      ap length c.in-Ok.ensures ∙ last_length old piece c.requires.some (omega (arith, more, held, c.requires.room)),
    )
