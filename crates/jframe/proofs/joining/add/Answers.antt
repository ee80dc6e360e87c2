use Rattle.std.proofs.Common.{arith, ap, sym, ◌∙◌, ◌≡◌, length, map}
use Rattle.std.proofs.lemmas.Slice.Eq.{slice_eq-Decides}
use Rattle.std.proofs.lemmas.Bool.Decides.{Decides-eqb}
use Rattle.std.proofs.lemmas.Result.{on_ok_weaker}
use Rattle.jdata.specs.Noun.{shape, atoms}
use Rattle.jframe.specs.Assembly.{raised}
use Rattle.jframe.proofs.Joined.{added, added_same, enough}
use Rattle.jframe.proofs.joining.add.Goals as goal

pub returns-then-fits : goal.returns-then-fits
returns-then-fits g c =
    let same : c.shape.result.now ≡ c.args.whole.now = (slice_eq-Decides Decides-eqb c.shape.result.now c.args.whole.now c.eq-fits.result c.eq-fits.ensures).0 c.if-fits.true in
    let mine = c.items_of-own.ensures ∙ ap atoms c.into_parts-axes.ensures in
    added_same g.T.Item.atom g.T.Item.kind c.args.whole.now c.items_of-own.result.items c.args.items.now.items c.append.new.self.items c.args.tree
    (sym c.shape.ensures.value ∙ same) c.shape.ensures.array mine c.in_ok-append.ensures.items

pub pad-requires-clause-enough : goal.pad-requires-clause-enough
pad-requires-clause-enough g c =
    let mine : map g.T.Item.atom c.items_of-own.result.items ≡ atoms c.args.tree = c.items_of-own.ensures ∙ ap atoms c.into_parts-axes.ensures in
    let raise : c.as_slice-2.result.now ≡ raised (length c.args.whole.now) (shape c.args.tree) =
    c.as_slice-2.ensures.value ∙ c.in_ok-part.ensures ∙ ap (raised (length c.args.whole.now)) (c.as_slice.ensures.value ∙ ap shape c.into_parts-axes.ensures) in
    let h = enough g.T.Item.atom (length c.args.whole.now) c.as_slice-2.result.now c.items_of-own.result.items c.args.tree raise mine c.shape.ensures.array in
    omega (arith, h, ap length c.from-rest.ensures.0)

pub returns : goal.returns
returns g c =
    let mine : map g.T.Item.atom c.from-rest.result.items ≡ atoms c.args.tree = ap (map g.T.Item.atom) c.from-rest.ensures.0 ∙ c.items_of-own.ensures ∙ ap atoms c.into_parts-axes.ensures in
    let raise : c.as_slice-2.result.now ≡ raised (length c.args.whole.now) (shape c.args.tree) =
    c.as_slice-2.ensures.value ∙ c.in_ok-part.ensures ∙ ap (raised (length c.args.whole.now)) (c.as_slice.ensures.value ∙ ap shape c.into_parts-axes.ensures) in
    on_ok_weaker c.pad.result
    (added g.T.Item.atom g.T.Item.blank g.T.Item.kind c.args.whole.now c.as_slice-2.result.now c.from-rest.result.items c.args.items.now.items c.pad.new.into.items c.args.tree
    g.met.T.Item.blank_is raise mine)
    c.pad.ensures.into
