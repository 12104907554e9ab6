-- One more item has its place in the table.
use Rattle.std.proofs.Common.{◌∙◌, ap, cond, Some}
use Rattle.std.specs.Prelude.{bytes_eq}
use Rattle.just_lang_spots.proofs.StandingLaws.{index_step}
use Rattle.just_lang_names.specs.HashedPlaces.{hashed_place}
use Rattle.just_lang_names.proofs.hashed.hashed_index_of.Goals as goal

pub items-preserved : goal.items-preserved
items-preserved c = λ q.
    index_step c.args.items.now c.items.at c.index-items-at.result q (hashed_place c.items.index q) (hashed_place c.enter.new.self q) c.items-test.true c.index-items-at.is (c.items.invariant q)
    (c.in_ok-enter.ensures q ∙ ap (λ t. cond (bytes_eq t q) (Some c.items.at) (hashed_place c.items.index q)) c.item_name.ensures)
