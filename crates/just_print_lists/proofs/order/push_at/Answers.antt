-- The item at the place, where there is one.
use Rattle.std.proofs.Common.{length, slice_get, refl, sym}
use Rattle.std.proofs.lemmas.Option.{slice_get_read, slice_get_past}
use Rattle.just_print_lists.proofs.Keeping.{got_more, got_none}
use Rattle.just_print_lists.proofs.order.push_at.Goals as goal

pub returns-in_ok-push-in-Some : goal.returns-in_ok-push-in-Some
returns-in_ok-push-in-Some g c =
    let there = slice_get_read c.args.items.now (length c.args.items.now) c.args.place c.in-Some.item.now refl c.in-Some.ensures.lookup.3.0 c.in-Some.ensures.lookup.1 in
    got_more c.args.found.now.items c.push.new.self.items c.in-Some.item (slice_get c.args.items.now c.args.place) c.in_ok-push-in-Some.ensures.items (sym there)

pub returns-in-None : goal.returns-in-None
returns-in-None g c = got_none c.args.found.now.items (slice_get c.args.items.now c.args.place) (slice_get_past c.args.items.now c.args.place c.in-None.ensures.lookup.3)
