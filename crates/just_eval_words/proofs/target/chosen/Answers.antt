-- A word leads to a recipe, or into a module.
use Rattle.std.proofs.Common.{rules, ◌≡◌, ◌<◌, get_or, length, map, Ok, sym, ◌∙◌}
use Rattle.just_eval_words.specs.Names.{Target, target_of}
use Rattle.just_eval_words.specs.Paths.{parts}
use Rattle.just_eval_words.specs.Sights.{located_of}
use Rattle.just_eval_words.proofs.Targets.{word_found, word_inside}
use Rattle.just_eval_words.proofs.target.chosen.Goals as goal

pub returns-in-Recipe-clause-found : goal.returns-in-Recipe-clause-found
returns-in-Recipe-clause-found c =
    let ms = map (λ m. m.now) c.args.modules.now in
    let ws = c.args.words.now in
    let w = c.index-words-at.result in
    let lt : c.words.at < length ws = search rules in
    let is : w ≡ get_or ws c.words.at w = c.index-words-at.is in
    let h : target_of ms (parts w) w c.words.justfile.now ≡ Ok (Target.to_recipe (located_of c.in-Recipe.found)) = search rules in
    sym c.words.invariant ∙ word_found ms ws c.words.at c.words.justfile.now w (located_of c.in-Recipe.found) lt is h

pub words-preserved : goal.words-preserved
words-preserved c =
    let ms = map (λ m. m.now) c.args.modules.now in
    let ws = c.args.words.now in
    let w = c.index-words-at.result in
    let lt : c.words.at < length ws = search rules in
    let is : w ≡ get_or ws c.words.at w = c.index-words-at.is in
    let h : target_of ms (parts w) w c.words.justfile.now ≡ Ok (Target.to_module c.in-Module.inside.now) = search rules in
    word_inside ms ws c.words.at c.words.justfile.now w c.in-Module.inside.now lt is h ∙ c.words.invariant
