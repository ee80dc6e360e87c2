use Rattle.std.proofs.Common.{◌≡◌, ap, ◌∙◌}
use Rattle.jdata.specs.Limits.{checked}
use Rattle.jdata.specs.Noun.{noun}
use Rattle.jdata.specs.Trees.{kind_of, atoms_of}
use Rattle.jdata.proofs.Arrays.{made, no_error}
use Rattle.jstruct.specs.Joins.{layer}
use Rattle.jstruct.proofs.Layers.{layer_is_array}
use Rattle.jstruct.proofs.joins.layer.Goals as goal

pub unreachable-requires : goal.unreachable-requires
unreachable-requires c =
    let v = c.args.tree in
    let own = c.into_parts-axes.ensures in
    let same : noun c.in_ok-axes.axes.items (kind_of c.into_parts-axes.result.1) (atoms_of c.into_parts-axes.result.1) ≡ layer v =
    ap (λ axes. noun axes (kind_of c.into_parts-axes.result.1) (atoms_of c.into_parts-axes.result.1)) c.in_ok-axes.ensures ∙ ap layer own in
    no_error _ _ _ _ c.new.ensures (ap checked same ∙ made (layer v) (layer_is_array v c.shape-shape.ensures.array c.requires)) c.in-Err.is
