use Rattle.jyard.proofs.kept.Berth.drop.Goals as goal

pub leave-requires : goal.leave-requires
leave-requires g c = c.self.invariant c.in-Some.hold c.in-Some.is
