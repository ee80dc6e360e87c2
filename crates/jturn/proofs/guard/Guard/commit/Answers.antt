use Rattle.std.proofs.Common.{rules, arith, ◌≡◌, [], ◌∷◌, ◌++◌, length, ap}
use Rattle.std.proofs.lemmas.Grind.{common_steps}
use Rattle.jturn.proofs.Known.{commits_entry}
use Rattle.jturn.proofs.guard.Guard.commit.Goals as goal

pub returns-clause-entries : goal.returns-clause-entries
returns-clause-entries g c = let v = c.self.inside.seat.me.0 in let w = c.serve.new.seat.me.0 in
    let seen : w.seen ≡ v.seen ++ c.args.entry.now ∷ [] = (first_of (search rules, grind (arith, common_steps))) in
    let own : w.own ≡ v.own ++ length v.seen ∷ [] = (first_of (search rules, grind (arith, common_steps))) in
    commits_entry _ v w c.args.self.pass c.args.entry.now (ap (λ h. h.pass) c.self.view_is) seen own c.self.invariant.1
