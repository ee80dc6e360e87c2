use Rattle.std.proofs.Common.{rules, ◌≡◌, ◌++◌, ap, ◌∙◌}
use Rattle.jturn.specs.Pass.{Grew, entries, split_first, split_second}
use Rattle.jcount.specs.declared.shelf.Line.{Line}
use Rattle.jcount.proofs.Crossing.{shelves_cross}
use Rattle.jcount.proofs.Sums.{numbers_of_both}
use Rattle.jcount.proofs.shelving.both_put.Goals as goal

pub join-one-requires-send-F : goal.join-one-requires-send-F
join-one-requires-send-F g c κs within = search shelves_cross depth 20

pub join-one-requires-send-A : goal.join-one-requires-send-A
join-one-requires-send-A g c κs within = search shelves_cross depth 20

pub returns : goal.returns
returns g c = let one = c.join-one.result.0.0 in let two = c.join-one.result.1.0 in let pass = c.join-pass.result in
    let first : Grew c.split-one.result.0 c.args.xs.now one = search rules in
    let second : Grew c.split-one.result.1 c.args.ys.now two = search rules in
    let none_yet = ap entries c.split-one.ensures.first ∙ ap (λ p. entries (split_first p)) c.in-Ok.ensures.pass in
    let none_there = ap entries c.split-one.ensures.second ∙ ap (λ p. entries (split_second p)) c.in-Ok.ensures.pass in
    let all : entries pass ≡ c.args.xs.now ++ c.args.ys.now = c.join-pass.ensures.entries ∙ (λ i. (first.entries ∙ ap (λ l. l ++ c.args.xs.now) none_yet) i ++ (second.entries ∙ ap (λ l. l ++ c.args.ys.now) none_there) i) in
    numbers_of_both (λ (l : Line). l.number) _ pass.seen (entries pass) (c.args.xs.now ++ c.args.ys.now) c.close-shelf.ensures.state.0.0 c.close-shelf.ensures.all all
