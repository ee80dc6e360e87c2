-- Blocks are all items.
use Rattle.jsplit.proofs.Parting.{blocks_part}
use Rattle.jsplit.proofs.fixes.infixes.Goals as goal

pub returns-clause-blocks : goal.returns-clause-blocks
returns-clause-blocks c = λ negative. blocks_part c.args.x c.args.y.noun negative
