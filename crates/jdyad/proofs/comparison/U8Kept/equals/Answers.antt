use Rattle.std.proofs.lemmas.Bool.Decides.{Decides-eqb}
use Rattle.jdyad.proofs.Comparing.{equal_chars}
use Rattle.jdyad.proofs.comparison.U8Kept.equals.Goals as goal

pub returns : goal.returns
returns c = equal_chars _ _ _ (Decides-eqb c.args.self.now c.args.other.now)
