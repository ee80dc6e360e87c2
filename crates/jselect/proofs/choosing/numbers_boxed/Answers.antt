use Rattle.std.proofs.Common.{◌≢◌, ◌≤◌, ◌<◌, Ok, Err, ap, sym, ◌∙◌, subst, length}
use Rattle.std.proofs.lemmas.Result.{MatchResult-weaker}
use Rattle.jdata.specs.Leaf.{kind_in, atoms_in}
use Rattle.jdata.specs.Noun.{atoms}
use Rattle.jselect.proofs.Named.{list_boxed, table_boxed}
use Rattle.jselect.proofs.choosing.numbers_boxed.Goals as goal

pub returns-in-Int : goal.returns-in-Int
returns-in-Int c =
    let v = c.args.content.now in
    let some : length (atoms v) ≢ 0 = λ e. c.if-len-eq0.false (c.len.ensures ∙ ap length c.leaf-atoms.ensures.atoms ∙ e) in
    let integer = sym c.leaf-atoms.ensures.kind ∙ ap kind_in c.in-Int.is in
    let these = ap atoms_in (sym c.in-Int.is) ∙ c.leaf-atoms.ensures.atoms in
    let rank = ap length c.shape.ensures.value in
    MatchResult-weaker c.list_of.result c.list_of.ensures
    (λ l h. list_boxed v c.in-Int.numbers.now some integer these (subst (λ n. n ≤ 1) rank h.0) ∙ ap (λ n. Ok n) (sym h.1))
    (λ why h. table_boxed v some integer (subst (λ n. 1 < n) rank h.0) ∙ ap (λ w. Err w) (sym h.1))
