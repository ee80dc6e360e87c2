use Rattle.std.proofs.Common.{◌≡◌, ◌*◌, length, ap, sym, ◌∙◌, arith}
use Rattle.std.specs.List.{flat_map}
use Rattle.std.proofs.lemmas.List.{length-map}
use Rattle.jdata.specs.Noun.{product}
use Rattle.jdata.specs.declared.noun.Atom.TheVariants as atom
use Rattle.jformat.specs.Boxes.{padded, widest}
use Rattle.jformat.proofs.Drawing.{matrix_size}
use Rattle.jformat.proofs.formatting.format_rows.Goals as goal

pub limited-requires : goal.limited-requires
limited-requires c =
    let rows = c.args.rows.now in
    let text : c.of.result ≡ flat_map (padded (widest rows)) rows = c.of.ensures ∙ c.in_ok-text.ensures ∙ ap (λ w. flat_map (padded w) rows) c.widest-width.ensures in
    let size : length c.of.result ≡ length rows * widest rows = ap length text ∙ matrix_size rows in
    let axes : product c.in-Ok.axes.items ≡ length rows * (widest rows * 1) = ap product c.in-Ok.ensures.ok ∙ ap (λ w. length rows * (w * 1)) c.widest-width.ensures in
    let one : widest rows * 1 ≡ widest rows = omega arith in
    length-map c.of.result (λ x. atom.Char x) ∙ size ∙ sym (axes ∙ ap (λ w. length rows * w) one)
