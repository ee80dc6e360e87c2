-- What a search gives, as an answer.
use Rattle.std.specs.Prelude.{◌≡◌, Result, Ok, Err, IfOk}
use Rattle.std.proofs.Common.{sym, subst}
use Rattle.jdata.specs.Answers.{Answers}
use Rattle.jdata.specs.declared.fault.Fault.{Fault}
use Rattle.jdata.specs.declared.fault.NoMemory.{NoMemory}
use Rattle.jdata.specs.declared.fault.Trouble.{Trouble}
use Rattle.jdata.specs.declared.noun.Noun.{Noun}
use Rattle.jsearch.specs.Listed.{or_trouble}

pub given_gives : (m : Result Noun Fault) (found : Result Noun NoMemory) (r : Result Noun Trouble) → r ≡ or_trouble found → IfOk found (λ t. Ok t ≡ m) → Answers m r
given_gives m (Ok t) r e h = subst (Answers m) (sym e) (sym h)
given_gives m (Err why) r e h = subst (Answers m) (sym e) tt
