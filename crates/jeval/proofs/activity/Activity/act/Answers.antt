use Rattle.std.proofs.Common.{◌∙◌, ap, sym, refl, subst}
use Rattle.jdata.specs.declared.fault.Fault.TheVariants.{TimeLimit}
use Rattle.juses.proofs.Doing.{Relations}
use Rattle.jeval.specs.Action.{fails}
use Rattle.jeval.specs.Execution.{done}
use Rattle.jeval.specs.Made.{Makes}
use Rattle.jeval.specs.declared.rows.Deed.{Deed}
use Rattle.jeval.proofs.Making.{fails_at_once, made_at}
use Rattle.jeval.proofs.Turning.{acted_late, acted_on_time}
use Rattle.jeval.proofs.activity.Activity.act.Goals as goal

pub returns-then-not-take_turn : goal.returns-then-not-take_turn
returns-then-not-take_turn g c =
    let uses : Relations g.row.U.Denot = record { leads = g.U.Uses.leads; refuses = g.U.Uses.refuses; stays = g.met.U.Uses.stays; joins = g.met.U.Uses.joins } in
    let none = c.if-not-take_turn.ensures.none refl in
    made_at uses {t = c.take_turn.new.self} (acted_late c.args.levels c.args.row c.args.parts c.args.self.now.state none.0 ∙ ap (fails TimeLimit) (sym none.1)) (fails_at_once uses TimeLimit)

pub returns : goal.returns
returns g c =
    let uses : Relations g.row.U.Denot = record { leads = g.U.Uses.leads; refuses = g.U.Uses.refuses; stays = g.met.U.Uses.stays; joins = g.met.U.Uses.joins } in
    let P : Deed → Type 0 = λ deed. Makes g.U.Uses.leads g.U.Uses.refuses (record c.args.self.now { state = c.take_turn.new.self }) c.does.new.self (done c.args.levels deed) c.does.result in
    made_at uses (acted_on_time c.args.levels c.args.row c.args.parts c.args.self.now.state c.take_turn.new.self (c.if-not-take_turn.ensures.taken refl)) (subst P c.deed_of-deed.ensures c.does.ensures)
