use Rattle.std.proofs.Common.{◌∙◌}
use Rattle.std.proofs.lemmas.Result.{IfOk-weaker}
use Rattle.jdata.specs.declared.noun.Kind.TheVariants as sort
use Rattle.jframe.proofs.Assembling.{all_join, all_atoms, counted}
use Rattle.jframe.proofs.assembly.atoms_of_all.Goals as goal

pub join-requires-clause-join : goal.join-requires-clause-join
join-requires-clause-join c = all_join _ c.args.kind sort.Int _ c.requires.kind c.requires.agree c.requires.common c.in-Int.is

pub join-requires-in-Char-clause-join : goal.join-requires-in-Char-clause-join
join-requires-in-Char-clause-join c = all_join _ c.args.kind sort.Char _ c.requires.kind c.requires.agree c.requires.common c.in-Char.is

pub join-requires-in-Boxed-clause-join : goal.join-requires-in-Boxed-clause-join
join-requires-in-Boxed-clause-join c = all_join _ c.args.kind sort.Boxed _ c.requires.kind c.requires.agree c.requires.common c.in-Boxed.is

pub returns-in-Int-clause-atoms : goal.returns-in-Int-clause-atoms
returns-in-Int-clause-atoms c =
    let count = counted c.args.count _ c.if-count-eq0.false c.requires.count in
    let all = all_atoms c.args.results.items c.args.kind sort.Int c.args.common.now c.args.count c.requires.kind c.requires.common c.in-Int.is count in
    IfOk-weaker c.join.result _ _ (λ l e. e ∙ all) c.join.ensures.atoms

pub returns-in-Char-clause-atoms : goal.returns-in-Char-clause-atoms
returns-in-Char-clause-atoms c =
    let count = counted c.args.count _ c.if-count-eq0.false c.requires.count in
    let all = all_atoms c.args.results.items c.args.kind sort.Char c.args.common.now c.args.count c.requires.kind c.requires.common c.in-Char.is count in
    IfOk-weaker c.join-in-Char.result _ _ (λ l e. e ∙ all) c.join-in-Char.ensures.atoms

pub returns-in-Boxed-clause-atoms : goal.returns-in-Boxed-clause-atoms
returns-in-Boxed-clause-atoms c =
    let count = counted c.args.count _ c.if-count-eq0.false c.requires.count in
    let all = all_atoms c.args.results.items c.args.kind sort.Boxed c.args.common.now c.args.count c.requires.kind c.requires.common c.in-Boxed.is count in
    IfOk-weaker c.join-in-Boxed.result _ _ (λ l e. e ∙ all) c.join-in-Boxed.ensures.atoms
