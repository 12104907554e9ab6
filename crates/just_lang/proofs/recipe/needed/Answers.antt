-- The places of the recipes that both lists come to.
use Rattle.std.proofs.Common.{rules, ◌≡◌, ◌++◌, ◌∙◌, ℕ, List, sym, ap}
use Rattle.std.proofs.lemmas.List.Elements.{filter_map-append}
use Rattle.just_lang_names.specs.Names.{layout_of, wins_of}
use Rattle.just_lang.specs.Cycles.{place_of_dependency}
use Rattle.just_lang.specs.CycleTables.{needed_by}
use Rattle.just_lang.proofs.recipe.needed.Goals as goal

pub returns : goal.returns
returns c =
    let wins = wins_of c.args.names.now in
    let layout = layout_of c.args.names.now in
    let m = c.args.one.now.number in
    let recipe = c.args.one.now.recipe.now in
    let front : c.add_needed.new.places.items ≡ needed_by wins layout m recipe.priors = search rules in
    let both : c.add_needed-2.new.places.items ≡ c.add_needed.new.places.items ++ needed_by wins layout m recipe.subsequents = search rules in
    let same : c.from-all.result ≡ c.add_needed-2.new.places.items = search rules in
    same ∙ both ∙ ap (λ (xs : List ℕ). xs ++ needed_by wins layout m recipe.subsequents) front ∙ sym (filter_map-append (place_of_dependency wins layout m) recipe.priors recipe.subsequents)
