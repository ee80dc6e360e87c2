-- The law of obverses, of what is undone.
use Rattle.jsplit.proofs.Fates.{refused_exactly, levels_kept, gives_verb}
use Rattle.jsplit.proofs.undoing.obverse.Goals as goal

pub returns-clause-exact : goal.returns-clause-exact
returns-clause-exact c = λ few. refused_exactly c.args.of.now few

pub returns-clause-levels : goal.returns-clause-levels
returns-clause-levels c = levels_kept c.args.of.now c.undone.result c.undone.ensures.value

pub returns-clause-verb : goal.returns-clause-verb
returns-clause-verb c = gives_verb c.args.of.now c.undone.result c.undone.ensures.value
