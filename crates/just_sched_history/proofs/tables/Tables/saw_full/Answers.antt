-- The row of a node tells where its look stands, and the event there whether it was full.
use Rattle.std.proofs.Common.{◌∙◌}
use Rattle.just_sched_history.proofs.LookRows.{look_full, look_within, none_full, past_none}
use Rattle.just_sched_history.proofs.tables.Tables.saw_full.Goals as goal

pub returns-in_default : goal.returns-in_default
returns-in_default c =
    none_full c.args.history.now c.args.self.now.rows.items c.requires.table c.args.node c.row.result c.row.ensures.is c.row.ensures.within c.args.plan.now.nodes c.in_default.is

pub unreachable-requires : goal.unreachable-requires
unreachable-requires c =
    past_none c.in-Some.place _ c.get.result (look_within c.args.history.now c.args.self.now.rows.items c.requires.table c.args.node c.row.result c.row.ensures.is c.row.ensures.within c.in-Some.place c.in-Some.is) c.get.ensures.lookup.0 c.in-None.is

pub returns : goal.returns
returns c =
    c.shows_full.ensures ∙ look_full c.args.history.now c.args.self.now.rows.items c.requires.table c.args.node c.row.result c.row.ensures.is c.row.ensures.within c.in-Some.place c.in-Some.is c.in-Some-get.event.now c.in-Some-get.ensures.lookup.1 c.args.plan.now.nodes
