use Rattle.std.proofs.Common.{arith, ap, sym, ◌∙◌, ◌≡◌, ◌++◌, length}
use Rattle.std.proofs.lemmas.List.FromFn.{length-map-range_with_len}
use Rattle.jdata.specs.Noun.{product, extent}
use Rattle.jdata.specs.Limits.{most_atoms}
use Rattle.jframe.specs.Assembly.{whole_atom}
use Rattle.jframe.proofs.Assembling.{count_is, common_within}
use Rattle.jframe.proofs.assembly.put_together.Goals as goal

pub atoms_of_all-requires-clause-bound : goal.atoms_of_all-requires-clause-bound
atoms_of_all-requires-clause-bound c =
    let axes : c.as_slice-3.result.now ≡ c.axes.result.now ++ c.as_slice-4.result.now =
    c.as_slice-3.ensures.value ∙ c.in-Ok-whole_axes.ensures ∙ ap (λ l. c.axes.result.now ++ l) (c.as_slice-2.ensures.value ∙ sym c.as_slice-4.ensures.value) in
    common_within c.axes.result.now c.as_slice-4.result.now most_atoms (omega (arith, ap extent axes, c.in-Some.ensures.1))

pub atoms_of_all-requires-clause-count : goal.atoms_of_all-requires-clause-count
atoms_of_all-requires-clause-count c =
    let axes : c.as_slice-3.result.now ≡ c.args.frame.now ++ c.as_slice-4.result.now =
    c.as_slice-3.ensures.value ∙ c.in-Ok-whole_axes.ensures ∙ (λ i. c.axes.ensures.axes i ++ (c.as_slice-2.ensures.value ∙ sym c.as_slice-4.ensures.value) i) in
    count_is c.args.frame.now c.as_slice-4.result.now c.args.results.items c.in-Some.count c.requires.count (c.in-Some.ensures.0 ∙ ap product axes)

pub limited-requires : goal.limited-requires
limited-requires c =
    ap length c.in-Ok-atoms_of_all.ensures.atoms
    ∙ length-map-range_with_len (whole_atom c.args.results.items) 0 c.in-Some.count
    ∙ c.in-Some.ensures.0 ∙ ap product c.as_slice-3.ensures.value
