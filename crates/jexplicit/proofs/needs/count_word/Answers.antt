use Rattle.std.proofs.Common.{◌≡◌, ◌-◌, ◌∙◌, ◌==◌, ◌&&◌, true, take, drop, length, ap, sym, arith}
use Rattle.std.proofs.lemmas.Grind.{common_steps}
use Rattle.jexplicit.specs.Needs.{begins_body}
use Rattle.jexplicit.proofs.Counting.{takes_body}
use Rattle.jexplicit.proofs.needs.count_word.Goals as goal

pub returns-then-starts_body-clause-counted : goal.returns-then-starts_body-clause-counted
returns-then-starts_body-clause-counted c =
    let line = c.args.line.now in
    let words = c.args.words.now in
    let at = c.args.at in
    let s = c.args.so_far in
    let rest : take (length words - at) (drop at words) ≡ drop at words = grind (arith, common_steps) in
    let begins : (s.depth == 0 && begins_body line (drop at words)) ≡ true =
    ap (λ ws. s.depth == 0 && begins_body line ws) (sym rest) ∙ sym c.if-starts_body.ensures in
    omega (arith, takes_body line words at s.depth s.behind c.requires.within (omega arith) begins)
