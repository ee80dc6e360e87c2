-- A desk that passes share may go to another thread. What `search` takes to show that closures over passes and turns at
-- it may cross. Each lemma stands by itself, since a search through all of them breaks off.
use denote.Param.Send.{IsSend, sendable}
use Rattle.std.proofs.Crossing.{crosses}
use Rattle.std.proofs.MapsCrossing as maps
use Rattle.jdata.proofs.primitive.Primitive.TheSendSync as primitive
use Rattle.jdata.proofs.tree.Tree.TheLaws.TheKnot as tree_knot
use Rattle.jdata.specs.contracts.tree.Tree as tree
use Rattle.jterm.proofs.term.Locative.TheSendSync as locative
use Rattle.jterm.proofs.term.Term.TheLaws.TheKnot as term_knot
use Rattle.jterm.proofs.words.Adv.TheSendSync as adverb
use Rattle.jterm.proofs.words.Con.TheSendSync as conj
use Rattle.jterm.specs.contracts.term.Term as term
use Rattle.jturn.proofs.Crossing.{turns_cross}
use Rattle.juses.specs.contracts.desk.Desk as desk
use Rattle.juses.specs.contracts.kept.Phase as phase
use Rattle.juses.specs.contracts.kept.Setting as setting
use Rattle.juses.specs.contracts.uses.Ended as ended
use Rattle.juses.specs.contracts.uses.Work as work
use Rattle.jpass.specs.contracts.shared.SharedDesk as shared

-- as the field of another type, and by itself
pub tree_send : IsSend (tree.the_field).row
tree_send = search (crosses, tree_knot.crosses, sendable) depth 60 fits 20000

pub tree_row_send : IsSend tree.the_row
tree_row_send = search (crosses, tree_knot.crosses, sendable) depth 60 fits 20000

pub term_send : IsSend (term.the_field).row
term_send = search (tree_send, tree_row_send, primitive.the_field_send, locative.the_field_send, adverb.the_field_send, conj.the_field_send, crosses, term_knot.crosses, sendable) depth 60 fits 20000

pub term_row_send : IsSend term.the_row
term_row_send = search (term_send, sendable) depth 60 fits 20000

pub ended_send : IsSend (ended.the_field).row
ended_send = search (tree_send, tree_row_send, crosses, sendable) depth 60 fits 20000

work_send : IsSend (work.the_field).row
work_send = search (tree_send, tree_row_send, term_send, term_row_send, crosses, sendable) depth 60 fits 20000

phase_send : IsSend phase.the_row
phase_send = search (work_send, ended_send, crosses, sendable) depth 60 fits 20000

setting_send : IsSend setting.the_row
setting_send = search (ended_send, crosses, sendable) depth 60 fits 20000

desk_send : IsSend desk.the_row
desk_send = search (term_send, term_row_send, phase_send, setting_send, maps.crosses, crosses, sendable) depth 60 fits 20000

pub shared_send : IsSend shared.the_row
shared_send = search (desk_send, sendable) depth 40 fits 20000

pub ruleset desks_cross = (turns_cross, shared_send)
