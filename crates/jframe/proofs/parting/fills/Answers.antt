use Rattle.std.proofs.Common.{ap, subst, ◌∙◌}
use Rattle.jdata.specs.Limits.{IsShape}
use Rattle.jframe.proofs.Arrays.{fills_made}
use Rattle.jdata.proofs.Arrays.{no_error, is_value}
use Rattle.jframe.proofs.parting.fills.Goals as goal

pub unreachable-requires : goal.unreachable-requires
unreachable-requires c =
    let made = fills_made c.args.shape.now c.args.kind c.in_ok-axes.axes.items c.in_ok-atoms.atoms c.product.result c.product.ensures
    (subst IsShape c.axes.ensures.axes c.axes.ensures.shape)
    (c.in_ok-axes.ensures.items ∙ c.axes.ensures.axes) c.in_ok-atoms.ensures.kind c.in_ok-atoms.ensures.atoms in
    no_error _ _ _ _ c.new.ensures made c.in-Err.is

pub returns : goal.returns
returns c =
    let made = fills_made c.args.shape.now c.args.kind c.in_ok-axes.axes.items c.in_ok-atoms.atoms c.product.result c.product.ensures
    (subst IsShape c.axes.ensures.axes c.axes.ensures.shape)
    (c.in_ok-axes.ensures.items ∙ c.axes.ensures.axes) c.in_ok-atoms.ensures.kind c.in_ok-atoms.ensures.atoms in
    is_value _ _ _ _ c.new.ensures made c.in-Ok.is
