use Rattle.std.specs.Bool.{Decides}
use Rattle.std.proofs.lemmas.Bool.Decides.{same_from_decides}
use Rattle.jwords.specs.Formed.{is_plain_name}
use Rattle.jwords.specs.Names.{IsPlain}
use Rattle.jwords.proofs.Deciders.{plain_decides}
use Rattle.jeval.proofs.targets.stands_alone.Goals as goal

pub returns : goal.returns
returns c = same_from_decides c.is_plain.result (is_plain_name c.args.name.now) (let told : Decides c.is_plain.result (IsPlain c.items.result.now) = (c.is_plain.ensures.0, c.is_plain.ensures.1) in rw c.items.ensures at told) (plain_decides c.args.name.now)
