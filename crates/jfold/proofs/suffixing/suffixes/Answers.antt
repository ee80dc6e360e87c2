use Rattle.std.proofs.Common.{rules, ◌≡◌, None}
use Rattle.jscalar.specs.Dyads.{dyad_on}
use Rattle.jfold.proofs.Backward.{no_row}
use Rattle.jfold.proofs.suffixing.suffixes.Goals as goal

pub returns-in_default-clause-none : goal.returns-in_default-clause-none
unfolding dyad_on
returns-in_default-clause-none c =
    let none : dyad_on c.args.verb ≡ None = search rules in
    no_row _ _ none
