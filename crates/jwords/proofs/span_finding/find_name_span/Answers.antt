use Rattle.std.proofs.Common.{rules, arith, ◌≡◌, ◌<◌, ◌≤◌, ◌+◌, ℕ, length}
use Rattle.std.proofs.lemmas.Grind.{common_steps}
use Rattle.jwords.proofs.FoundWords.{name_is_some}
use Rattle.jwords.proofs.span_finding.find_name_span.Goals as goal

pub returns-clause-size : goal.returns-clause-size
returns-clause-size c =
    let some : 0 < c.name_length-name.result = rw c.name_length-name.ensures.run (name_is_some c.args.rest.now c.requires.starts) in
    grind (arith, common_steps)
