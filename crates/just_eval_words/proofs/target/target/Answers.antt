-- The last part of the word, and a part in front of `::` that is no module's name.
use Rattle.std.proofs.Common.{rules, ◌≡◌, [], ◌∷◌, map, None, Err, sym, ap, ◌∙◌}
use Rattle.just_lang_types.specs.declared.project.LangError.{LangError}
use Rattle.just_eval_words.specs.Names.{module_named}
use Rattle.just_eval_words.specs.Paths.{parts}
use Rattle.just_eval_words.proofs.Targets.{last_part, part_refused}
use Rattle.just_eval_words.proofs.target.target.Goals as goal

pub returns-clause-target : goal.returns-clause-target
returns-clause-target c =
    let ms = map (λ m. m.now) c.args.modules.now in
    let single : parts c.parts.rest.now ≡ c.parts.rest.now ∷ [] = search rules in
    sym c.parts.invariant.same ∙ last_part ms c.parts.inside.now c.args.word.now c.parts.rest.now single ∙ c.in_ok-target.ensures.target

pub returns-in-None-clause-refused : goal.returns-in-None-clause-refused
returns-in-None-clause-refused c some =
    let ms = map (λ m. m.now) c.args.modules.now in
    let split : parts c.parts.rest.now ≡ c.in-Some.name.now ∷ parts c.in-Some.behind.now = search rules in
    let none : module_named ms c.parts.inside.now c.in-Some.name.now ≡ None = search rules in
    sym c.parts.invariant.same ∙ part_refused ms c.parts.inside.now c.args.word.now c.parts.rest.now c.in-Some.name.now c.in-Some.behind.now split none
    ∙ ap (λ (e : LangError). Err e) (sym c.in_ok-no_module-in-None.ensures)
