use Rattle.std.proofs.Common.{rules, arith, ◌≡◌, ◌<◌, ◌≤◌, ◌+◌, ℕ, length, get_or}
use Rattle.std.proofs.lemmas.Grind.{common_steps}
use Rattle.jwords.specs.Alphabet.{is_number_byte, first}
use Rattle.jwords.proofs.NumberLists.{prefix_some, number_start_is_byte, zero_is_no_number_byte}
use Rattle.jwords.proofs.span_finding.find_run_span.Goals as goal

pub returns-then-byte_at-eq-COLON-clause-size : goal.returns-then-byte_at-eq-COLON-clause-size
returns-then-byte_at-eq-COLON-clause-size c =
    let some : 0 < c.run_length-size.result = rw c.run_length-size.ensures.run
    (prefix_some is_number_byte c.args.rest.now zero_is_no_number_byte (number_start_is_byte (first c.args.rest.now) c.requires.starts)) in
    grind (arith, common_steps)
