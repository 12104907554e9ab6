-- The entries that are kept are those of the sources that are.
use Rattle.std.proofs.Common.{rules, nat_lt, ap, sym, ◌∙◌}
use Rattle.std.proofs.lemmas.Map.Made.{filter_same_pairs}
use Rattle.just_search_load.specs.Numbers.{number_at}
use Rattle.just_search_load.proofs.Numbered.{numbered_less}
use Rattle.just_search_load.proofs.loader.Sources.forget.Goals as goal

pub returns-clause-numbered : goal.returns-clause-numbered
returns-clause-numbered c =
    let kept = filter_same_pairs _ (λ e. nat_lt e.1 c.args.known) _ (λ k v b w f' t. search rules) _ _ c.retain.ensures.filtered in
    λ place. numbered_less c.args.self.now.sources.items c.args.self.now.numbers c.retain.new.self c.args.known c.requires c.retain.ensures.was_ordered kept place ∙ ap (λ xs. number_at xs place) (sym c.truncate.ensures.items)
