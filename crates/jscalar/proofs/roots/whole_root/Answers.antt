use Rattle.std.proofs.Common.{◌≡◌, ◌^◌, ◌≤◌, min, sym, ◌∙◌, arith}
use Rattle.jscalar.proofs.RootLaws.{at_most_power, IsFloorRoot, root_found, root_missing, same_roots}
use Rattle.jscalar.proofs.roots.whole_root.Goals as goal

pub returns-then-pow-value-clause-value : goal.returns-then-pow-value-clause-value
returns-then-pow-value-clause-value c =
    let degree : c.min-degree.result ≡ min c.args.degree 64 = c.min-degree.ensures in
    let floor : IsFloorRoot c.min-degree.result c.args.value c.floor_root-root.result = record { within = c.floor_root-root.ensures.within; next = c.floor_root-root.ensures.next } in
    let found = root_found c.min-degree.result c.args.value c.floor_root-root.result (omega (arith, degree, c.requires.degree)) floor (sym c.pow.ensures ∙ c.if-pow-value.true) in
    sym (rw degree at found) ∙ same_roots c.args.degree c.args.value c.requires.value

pub returns-else-pow-value-clause-value : goal.returns-else-pow-value-clause-value
returns-else-pow-value-clause-value c =
    let degree : c.min-degree.result ≡ min c.args.degree 64 = c.min-degree.ensures in
    let floor : IsFloorRoot c.min-degree.result c.args.value c.floor_root-root.result = record { within = c.floor_root-root.ensures.within; next = c.floor_root-root.ensures.next } in
    let missing = root_missing c.min-degree.result c.args.value c.floor_root-root.result floor (λ e. c.if-pow-value.false (c.pow.ensures ∙ e)) in
    sym (rw degree at missing) ∙ same_roots c.args.degree c.args.value c.requires.value

pub returns-then-pow-value-clause-bound : goal.returns-then-pow-value-clause-bound
returns-then-pow-value-clause-bound c =
    let degree : c.min-degree.result ≡ min c.args.degree 64 = c.min-degree.ensures in
    let low : c.floor_root-root.result ≤ c.floor_root-root.result ^ c.min-degree.result = at_most_power c.floor_root-root.result c.min-degree.result (omega (arith, degree, c.requires.degree)) in
    omega (arith, low, c.floor_root-root.ensures.within)
