-- Three places more.
use Rattle.just_search.proofs.Places.{places_added}
use Rattle.just_search.proofs.global.add_places_at_home.Goals as goal

pub returns-in_ok-push-3 : goal.returns-in_ok-push-3
returns-in_ok-push-3 c =
    rw c.in-Some.is
    (places_added _ _ _ _ _ _ _ _ c.in_ok-place_under.ensures c.in_ok-place.ensures c.in_ok-place-2.ensures c.in_ok-push.ensures.items c.in_ok-push-2.ensures.items c.in_ok-push-3.ensures.items)
