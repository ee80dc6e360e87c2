use Rattle.std.proofs.Common.{◌≡◌, ◌<◌, length, None, subst, sym, get_or}
use Rattle.std.proofs.lemmas.Result.{IfOk-weaker}
use Rattle.jcontrol.specs.declared.prepared.Act.TheVariants as act
use Rattle.jcontrol.specs.declared.prepared.Prepared.{Prepared}
use Rattle.jcontrol.specs.Machine.{Does, asked, counted}
use Rattle.jcontrol.proofs.Steps.{inside_go, does_go, comes_of}
use Rattle.jcontrol.proofs.frame.Frame.walk.Goals as goal

pub loop-to-preserved : goal.loop-to-preserved
loop-to-preserved c =
    let d : Prepared = record { act = act.Sentence 0 None; catch = None } in
    let k = c.loop-to.invariant.inside in
    record {
      inside = (inside_go c.args.words.now d c.requires.sound c.loop-to.self.place c.in-Go.to k c.in-Go.is).1;
      rounds = c.loop-to.invariant.rounds;
      does = λ x w. does_go c.args.words.now d x c.loop-to.self.place c.in-Go.to c.args.self.now.rounds.items k c.in-Go.is (c.loop-to.invariant.does x w);
    }

pub returns-in_default : goal.returns-in_default
returns-in_default c =
    let d : Prepared = record { act = act.Sentence 0 None; catch = None } in
    let ws = c.args.words.now in let p = c.loop-to.self.place in let rs = c.loop-to.self.rounds.items in let a = (get_or ws p d).act in
    record {
      inside = subst (λ n. n < length ws) (sym c.ask.ensures.place) c.loop-to.invariant.inside;
      comes = IfOk-weaker c.ask.result (λ s. (s ≡ asked a rs) × (c.ask.new.self.rounds.items ≡ counted a rs)) _
          (λ s h x w. comes_of ws d c.requires.sound x p c.ask.new.self.place rs c.ask.new.self.rounds.items s c.loop-to.invariant.inside c.in_default.not-Go
          (subst (λ full. Does ws x p full) (sym c.loop-to.invariant.rounds) (c.loop-to.invariant.does x w)) c.ask.ensures.place h.0 h.1)
          c.ask.ensures.asks;
      refused = c.ask.ensures.refused;
    }
