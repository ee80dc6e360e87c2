use Rattle.std.proofs.Common.{ℕ, ltb, length, sym, ap, ◌∙◌, subst}
use Rattle.std.specs.List.Sorted.{IsPermutation}
use Rattle.jturn.specs.Pass.{Pass, entries}
use Rattle.jturn.specs.Turned.{Fits, IsOneEntry, times}
use Rattle.jturn.proofs.Kept.{closes, closes_with, in_slot_any, in_slot_is}
use Rattle.jturn.proofs.Entries.{entries_all}
use Rattle.jturn.proofs.turn.Turn.close.Goals as goal

pub state_of-requires : goal.state_of-requires
state_of-requires g c = let parts = ap (λ p. p.parts) c.pass.view_is ∙ (c.requires.parts ∙ sym (ap (λ t. t.parts) c.self.view_is)) in
    in_slot_any _ c.take-slot.result
    (closes_with g.S.Logged.stands_for g.S.Logged.mark g.S.Logged.constant c.self.inside.board.table.shared.key.parts _ c.pass.inside.seat.me.0 _ _ c.take-slot.result parts c.pass.invariant.2 c.pass.invariant.1 c.close_with-closed.ensures.values.2
    c.take-slot.ensures.value)

pub returns-clause-state : goal.returns-clause-state
returns-clause-state g c = let parts = ap (λ p. p.parts) c.pass.view_is ∙ (c.requires.parts ∙ sym (ap (λ t. t.parts) c.self.view_is)) in
    subst (λ (p : Pass g.row.S-Entry.Denot). Fits g.S.Logged.stands_for g.S.Logged.mark g.S.Logged.constant p.seen p.mark p.constant c.state_of.result) c.pass.view_is
    (in_slot_is _ c.take-slot.result c.state_of.result
    (closes_with g.S.Logged.stands_for g.S.Logged.mark g.S.Logged.constant c.self.inside.board.table.shared.key.parts _ c.pass.inside.seat.me.0 _ _ c.take-slot.result parts c.pass.invariant.2 c.pass.invariant.1 c.close_with-closed.ensures.values.2
    c.take-slot.ensures.value) c.state_of.ensures)

pub returns-clause-each : goal.returns-clause-each
returns-clause-each g c = let parts = ap (λ p. p.parts) c.pass.view_is ∙ (c.requires.parts ∙ sym (ap (λ t. t.parts) c.self.view_is)) in
    subst (λ (q : Pass g.row.S-Entry.Denot). (p : ℕ) → IsOneEntry (length q.seen) p (times p q.own)) c.pass.view_is
    (closes g.S.Logged.stands_for g.S.Logged.mark g.S.Logged.constant c.self.inside.board.table.shared.key.parts _ c.pass.inside.seat.me.0 _ _ parts c.pass.invariant.2 c.pass.invariant.1 c.close_with-closed.ensures.values.2).1

pub returns-clause-all : goal.returns-clause-all
returns-clause-all g c = let parts = ap (λ p. p.parts) c.pass.view_is ∙ (c.requires.parts ∙ sym (ap (λ t. t.parts) c.self.view_is)) in
    subst (λ (q : Pass g.row.S-Entry.Denot). IsPermutation q.seen (entries q)) c.pass.view_is
    (entries_all c.pass.inside.seat.me.0.seen c.pass.inside.seat.me.0.own (closes g.S.Logged.stands_for g.S.Logged.mark g.S.Logged.constant c.self.inside.board.table.shared.key.parts _ c.pass.inside.seat.me.0 _ _ parts c.pass.invariant.2 c.pass.invariant.1
    c.close_with-closed.ensures.values.2).1)

pub returns-clause-marker : goal.returns-clause-marker
returns-clause-marker g c = let parts = ap (λ p. p.parts) c.pass.view_is ∙ (c.requires.parts ∙ sym (ap (λ t. t.parts) c.self.view_is)) in
    sym (ap (λ p. p.is_marker) c.pass.view_is) ∙ ap (ltb 0)
    (closes g.S.Logged.stands_for g.S.Logged.mark g.S.Logged.constant c.self.inside.board.table.shared.key.parts _ c.pass.inside.seat.me.0 _ _ parts c.pass.invariant.2 c.pass.invariant.1 c.close_with-closed.ensures.values.2).2
