use Rattle.std.proofs.Common.{Ok, true}
use Rattle.jterm.specs.declared.part.Part.TheVariants as part
use Rattle.juses.proofs.Doing.{Relations}
use Rattle.jeval.specs.Makings.{made_of}
use Rattle.jeval.specs.Rows.{filled}
use Rattle.jeval.proofs.Making.{makes_on, stops_by, given, answered}
use Rattle.jeval.proofs.activity.Activity.does.Goals as goal

pub returns-in_err-value-in-Apply : goal.returns-in_err-value-in-Apply
returns-in_err-value-in-Apply g c =
    let uses : Relations g.row.U.Denot = record { leads = g.U.Uses.leads; refuses = g.U.Uses.refuses; stays = g.met.U.Uses.stays; joins = g.met.U.Uses.joins } in
    rw c.in-Apply.is (stops_by uses _ c.from_residual.ensures c.in_err-value-in-Apply.ensures)

pub returns-in_ok-value-in-Apply : goal.returns-in_ok-value-in-Apply
returns-in_ok-value-in-Apply g c =
    let uses : Relations g.row.U.Denot = record { leads = g.U.Uses.leads; refuses = g.U.Uses.refuses; stays = g.met.U.Uses.stays; joins = g.met.U.Uses.joins } in
    rw c.in-Apply.is (makes_on uses _ c.in_ok-value-in-Apply.ensures (given uses (filled c.in-Apply.around (part.Noun c.in_ok-value-in-Apply.value)) c.filled.result c.filled.ensures))

pub returns-in_err-term-in-Make : goal.returns-in_err-term-in-Make
returns-in_err-term-in-Make g c =
    let uses : Relations g.row.U.Denot = record { leads = g.U.Uses.leads; refuses = g.U.Uses.refuses; stays = g.met.U.Uses.stays; joins = g.met.U.Uses.joins } in
    rw c.in-Make.is (stops_by uses _ c.from_residual-in_err-term-in-Make.ensures (answered uses (made_of c.in-Make.making) _ c.in_err-term-in-Make.ensures))

pub returns-in_ok-term-in-Make : goal.returns-in_ok-term-in-Make
returns-in_ok-term-in-Make g c =
    let uses : Relations g.row.U.Denot = record { leads = g.U.Uses.leads; refuses = g.U.Uses.refuses; stays = g.met.U.Uses.stays; joins = g.met.U.Uses.joins } in
    rw c.in-Make.is (makes_on uses _ (answered uses (made_of c.in-Make.making) (Ok c.in_ok-term-in-Make.term) c.in_ok-term-in-Make.ensures) (given uses (filled c.in-Make.around (part.Verb c.in_ok-term-in-Make.term true)) c.filled-in-Make.result c.filled-in-Make.ensures))
