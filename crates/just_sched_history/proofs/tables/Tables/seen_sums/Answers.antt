-- The row of a node that was looked at tells where its look stands.
use Rattle.std.proofs.Common.{◌≡◌, ◌∙◌}
use Rattle.just_sched_history.proofs.CachedMoves.{seen_of, at_seen}
use Rattle.just_sched_history.proofs.LookRows.{look_sums, look_within, none_placed, past_none}
use Rattle.just_sched_history.proofs.tables.Tables.seen_sums.Goals as goal

pub unreachable-requires : goal.unreachable-requires
unreachable-requires c =
    none_placed c.args.history.now c.args.self.now.rows.items c.requires.table c.args.node c.row.result c.row.ensures.is c.row.ensures.within c.requires.looked c.in_default.is

pub unreachable-requires-in-None : goal.unreachable-requires-in-None
unreachable-requires-in-None c =
    past_none c.in-Some.place _ c.get.result (look_within c.args.history.now c.args.self.now.rows.items c.requires.table c.args.node c.row.result c.row.ensures.is c.row.ensures.within c.in-Some.place c.in-Some.is) c.get.ensures.lookup.0 c.in-None.is

pub returns : goal.returns
returns c =
    let h = c.args.history.now in
    let seen = seen_of h c.args.node c.requires.looked in
    at_seen (λ x. c.sums_in.result.now ≡ x.0) _ seen.0 seen.1
    (c.sums_in.ensures ∙ look_sums h c.args.self.now.rows.items c.requires.table c.args.node c.row.result c.row.ensures.is c.row.ensures.within c.in-Some.place c.in-Some.is c.in-Some-get.event.now c.in-Some-get.ensures.lookup.1 seen.0 seen.1)
