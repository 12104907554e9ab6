-- The map has the number of one more source.
use Rattle.std.proofs.Common.{◌≡◌, ◌++◌, ◌∷◌, [], length, ap, sym, ◌∙◌, arith}
use Rattle.std.proofs.lemmas.Grind.{common_steps}
use Rattle.just_search_load.specs.Numbers.{number_at}
use Rattle.just_search_load.proofs.Numbered.{numbered_more}
use Rattle.just_search_load.proofs.loader.Sources.keep.Goals as goal

pub returns-clause-numbered : goal.returns-clause-numbered
returns-clause-numbered c =
    let s = c.args.self.now.sources.items in
    let last : c.in-Ok.number ≡ length s = first_of (omega arith, grind (arith, common_steps)) in
    let behind : c.push_reserved.new.self.items ≡ s ++ c.args.source ∷ [] = first_of (cc, grind (arith, common_steps)) in
    λ place. numbered_more s c.args.self.now.numbers c.insert.new.self c.args.source c.args.place c.in-Ok.number c.requires.numbered c.in_ok-insert.ensures.updates last c.requires.place c.requires.new place ∙ ap (λ xs. number_at xs place) (sym behind)
