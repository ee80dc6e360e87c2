use Rattle.std.proofs.Common.{◌≡◌, ℕ, ◌+◌, ◌-◌, ◌<◌, ◌≤◌, List, length, refl, sym, subst, ◌∙◌, arith}
use Rattle.jyard.specs.Gathering.{AllHold}
use Rattle.jyard.specs.Taken.{HasCounted}
use Rattle.jyard.specs.Units.{BlockId, id_at}
use Rattle.jyard.specs.Yards.{blocks_of}
use Rattle.jyard.specs.Logs.{Entry, word_after, seats_after, all_units, all_empties}
use Rattle.jyard.proofs.Sums.{law_of_counts, held_sum}
use Rattle.jyard.proofs.Together.{all_here, one_each}
use Rattle.jyard.proofs.gathered.Gathered.count.Goals as goal

pub tally-word-requires : goal.tally-word-requires
tally-word-requires g c = let same = sym c.table.ensures.0 in let block : ℕ = c.args.self.block in let all = c.args.self.seats.all in
    (subst (λ ids. block < length ids) same c.requires.1.0, all_here (id_at c.table.result.now.ids block) all (subst (λ ids. AllHold (id_at ids block) all) same c.requires.1.1))

pub overflow_sub-result : goal.overflow_sub-result
overflow_sub-result g c = let some = c.requires.0 in let each = one_each (id_at (blocks_of c.args.yard.now) c.args.self.block) c.args.self.seats.all c.requires.1.1 in let low = c.tally-word.ensures.seats.1 in omega (arith, some, each, low)

pub returns-clause-law : goal.returns-clause-law
returns-clause-law g c =
    let some = c.requires.0 in let each = one_each (id_at (blocks_of c.args.yard.now) c.args.self.block) c.args.self.seats.all c.requires.1.1 in let low = c.tally-word.ensures.seats.1 in
    let n : ℕ = c.tally-word.result.0 in let told = c.tally-word.ensures.seats.2 in let log : List Entry = told.0 in let two : 2 ≤ n = omega (arith, some, each, low) in let count : n ≡ (n - 1) + 1 = omega (arith, two) in
    let sums = law_of_counts log told.1.0 in let word = told.1.1 in let units : word_after log ≡ all_units (seats_after log) + 1 = held_sum (word_after log) (all_units (seats_after log)) (all_empties (seats_after log)) (omega (arith, word, two)) sums.0 in
    record { log = log; is_log = (told.1.0, word ∙ count, told.1.2); sum = (omega (arith, units, word)) }

pub returns-clause-least : goal.returns-clause-least
returns-clause-least g c = let each = one_each (id_at (blocks_of c.args.yard.now) c.args.self.block) c.args.self.seats.all c.requires.1.1 in let low = c.tally-word.ensures.seats.1 in omega (arith, each, low)

pub returns-clause-pass : goal.returns-clause-pass
returns-clause-pass g c =
    let some = c.requires.0 in let each = one_each (id_at (blocks_of c.args.yard.now) c.args.self.block) c.args.self.seats.all c.requires.1.1 in let low = c.tally-word.ensures.seats.1 in
    let block : ℕ = c.args.self.block in let n : ℕ = c.tally-word.result.0 in let count : n ≡ (n - 1) + 1 = omega (arith, some, each, low) in
    let F : List BlockId × ℕ → Type 0 = λ t. HasCounted c.args.pass.now.view.spent c.tally-word.new.view.spent (id_at t.0 block) t.1 in
    (c.tally-word.ensures.view.0, refl, subst F (λ i. (c.table.ensures.0 i, count i)) c.tally-word.ensures.view.1)
