use Rattle.std.proofs.Common.{◌≡◌, ◌<◌, ◌-◌, length}
use Rattle.jcontrol.specs.Meaning.{Control}
use Rattle.jcontrol.specs.Machine.{Does}
use Rattle.jcontrol.proofs.frame.Frame.walk.Given as goal

-- what the frame does from here is what it was to do
abbrev pub invariant-loop-to : goal.invariant-loop-to
invariant-loop-to l = record {
  inside : l.self.place < length l.words;
  rounds : l.self.rounds.items ≡ l.fn.self.rounds.items;
  does : (c : Control) → Does l.words c l.fn.self.place l.fn.self.rounds.items → Does l.words c l.self.place l.fn.self.rounds.items;
}

abbrev pub decreases-loop-to : goal.decreases-loop-to
decreases-loop-to l = length l.words - l.self.place
