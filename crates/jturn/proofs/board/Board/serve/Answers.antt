use Rattle.std.proofs.Common.{rules, [], ◌∷◌, sym, subst, ap, ◌∙◌}
use Rattle.atomic_table.specs.Table.{rest}
use Rattle.jturn.specs.declared.board.View.{View}
use Rattle.jturn.specs.Turned.{IsInside}
use Rattle.jturn.specs.Steps.{leaves}
use Rattle.jturn.proofs.Held.{bare_is}
use Rattle.jturn.proofs.Kept.{serves_at}
use Rattle.jturn.proofs.board.Board.serve.Goals as goal

pub fetch_add-served-requires : goal.fetch_add-served-requires
fetch_add-served-requires g c = let v = c.args.seat.now.me.0 in let now = c.exchange-was.ensures.3 ∙ ap (λ l. (v, (0, c.args.put) ∷ rest l)) (bare_is c.args.seat.now.me.1 c.requires.seat.3) in (
  search rules,
  search rules,
  serves_at g.S.Logged.stands_for g.S.Logged.mark g.S.Logged.constant _ _ _ _ v c.args.put now c.requires.seat.1 c.requires.seat.2 c.requires.put,
)

pub returns-clause-next : goal.returns-clause-next
returns-clause-next g c = let v = c.args.seat.now.me.0 in let now = c.exchange-was.ensures.3 ∙ ap (λ l. (v, (0, c.args.put) ∷ rest l)) (bare_is c.args.seat.now.me.1 c.requires.seat.3) in
    (c.fetch_add-served.ensures.2 c.args.put (ap (λ m. m.1) now)).0 ∙ ap (λ m. (leaves g.S.Logged.mark m.0 c.args.put, [])) now

pub returns-clause-inside : goal.returns-clause-inside
returns-clause-inside g c = let v = c.args.seat.now.me.0 in let now = c.exchange-was.ensures.3 ∙ ap (λ l. (v, (0, c.args.put) ∷ rest l)) (bare_is c.args.seat.now.me.1 c.requires.seat.3) in
    let did = c.fetch_add-served.ensures.2 c.args.put (ap (λ m. m.1) now) in subst (λ (z : View g.row.S-Entry.Denot). IsInside z) (sym (ap (λ m. m.0) did.0)) did.1
