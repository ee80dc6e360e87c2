use Rattle.std.proofs.Common.{◌∙◌, ap, length}
use Rattle.std.proofs.lemmas.List.FromFn.{length-map-range_with_len}
use Rattle.jselect.specs.Items.{item_count}
use Rattle.jcut.specs.Frets.{own_fret}
use Rattle.jcut.proofs.intervals.cut_alone.Goals as goal

pub cut-requires : goal.cut-requires
cut-requires c =
    let y = c.args.y.noun in
    ap length (c.items.ensures ∙ c.in-Ok.ensures) ∙ length-map-range_with_len (own_fret c.args.cutting y) 0 (item_count y)
