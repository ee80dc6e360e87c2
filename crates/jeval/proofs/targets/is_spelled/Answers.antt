use Rattle.std.specs.Bool.{Decides}
use Rattle.std.proofs.lemmas.Bool.Decides.{same_from_decides}
use Rattle.jwords.specs.Formed.{is_named_word}
use Rattle.jwords.specs.Names.{IsName}
use Rattle.jwords.proofs.Deciders.{name_decides}
use Rattle.jeval.proofs.targets.is_spelled.Goals as goal

pub returns : goal.returns
returns c = same_from_decides c.is_name.result (is_named_word c.args.name.now) (let told : Decides c.is_name.result (IsName c.items.result.now) = (c.is_name.ensures.0, c.is_name.ensures.1) in rw c.items.ensures at told) (name_decides c.args.name.now)
