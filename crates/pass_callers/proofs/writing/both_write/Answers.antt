use Rattle.std.proofs.Common.{rules, ◌≡◌, ◌++◌, map, ap, ◌∙◌, subst, IsPermutation}
use Rattle.jturn.specs.Pass.{Grew, entries, split_first, split_second}
use Rattle.juses.specs.declared.uses.Entry.{Entry}
use Rattle.jpass.specs.Stood.{StoodFor}
use Rattle.pass_callers.specs.Bindings.{written}
use Rattle.pass_callers.proofs.Crossing.{desks_cross}
use Rattle.pass_callers.proofs.Writes.{both, names_left}
use Rattle.pass_callers.proofs.writing.both_write.Goals as goal

pub join-one-requires-send-F : goal.join-one-requires-send-F
join-one-requires-send-F g c κs within = search desks_cross depth 60 fits 20000

pub join-one-requires-send-A : goal.join-one-requires-send-A
join-one-requires-send-A g c κs within = search desks_cross depth 60 fits 20000

pub returns : goal.returns
returns g c = let one = c.join-one.result.0.0 in let two = c.join-one.result.1.0 in let pass = c.join-pass.result in
    let xs = c.args.first.now in let ys = c.args.second.now in
    let first : Grew c.split-one.result.0 (map (written 0) xs) one = search rules in
    let second : Grew c.split-one.result.1 (map (written 1) ys) two = search rules in
    let none_yet = ap entries c.split-one.ensures.first ∙ ap (λ p. entries (split_first p)) c.in-Ok.ensures.pass in
    let none_there = ap entries c.split-one.ensures.second ∙ ap (λ p. entries (split_second p)) c.in-Ok.ensures.pass in
    let all : entries pass ≡ both xs ys 0 1 = c.join-pass.ensures.entries ∙ (λ i. (first.entries ∙ ap (λ l. l ++ map (written 0) xs) none_yet) i ++ (second.entries ∙ ap (λ l. l ++ map (written 1) ys) none_there) i) in
    let moved : IsPermutation pass.seen (both xs ys 0 1) = subst (IsPermutation pass.seen) all c.close-shared.ensures.all in
    let stood : StoodFor c.close-shared.result.0.desk pass.seen = c.close-shared.ensures.state.0 in
    record { history = (pass.seen, moved, stood); names = names_left xs ys 0 1 c.close-shared.result.0.desk pass.seen stood moved }
