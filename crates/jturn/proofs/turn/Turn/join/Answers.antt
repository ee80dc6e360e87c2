use Rattle.std.proofs.Common.{rules, ap, ◌∙◌, subst}
use Rattle.jturn.specs.declared.board.View.{View}
use Rattle.jturn.specs.Pass.{StartsWith}
use Rattle.jturn.proofs.Kept.{joins}
use Rattle.jturn.proofs.Known.{joins_entries}
use Rattle.jturn.proofs.turn.Turn.join.Goals as goal

pub join_seat-requires : goal.join_seat-requires
join_seat-requires g c = (
  search rules,
  search rules,
  search rules,
  search rules,
  joins g.S.Logged.stands_for g.S.Logged.mark g.S.Logged.constant _ _ _ _ _ c.one.invariant.1 c.other.invariant.1 c.one.invariant.2,
)

pub returns-clause-entries : goal.returns-clause-entries
returns-clause-entries g c = let joined = ap (λ m. m.0) c.join_seat.ensures.2 in
    joins_entries _ _ c.one.inside.seat.me.0 c.other.inside.seat.me.0 _ c.args.one c.args.other c.one.view_is c.other.view_is (ap (λ m. m.0) c.compare.ensures.seat.2 ∙ joined)
    (subst (λ (u : View g.row.S-Entry.Denot). StartsWith u.seen u.told) joined c.compare.ensures.told) c.one.invariant.3 c.other.invariant.3
