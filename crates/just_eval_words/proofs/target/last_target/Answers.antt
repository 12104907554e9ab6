-- What has the name, or that nothing in front has it.
use Rattle.std.proofs.Common.{rules, ◌≡◌, false, map, Some, None, Err, sym, ap, ◌∙◌}
use Rattle.just_lang_types.specs.declared.project.Justfile.{out-Justfile}
use Rattle.just_lang_types.specs.declared.project.LangError.{LangError}
use Rattle.just_eval_words.specs.Names.{alias_at, aliased_recipe, disabled_at, is_absent, module_named, recipe_in}
use Rattle.just_eval_words.proofs.Targets.{module_is, absent_is, no_recipe_is, recipe_is, no_alias_is, unknown_is}
use Rattle.just_eval_words.proofs.target.last_target.Goals as goal

pub returns-in-Some-clause-target : goal.returns-in-Some-clause-target
returns-in-Some-clause-target c =
    let ms = map (λ m. m.now) c.args.modules.now in
    let j = c.args.justfile.now in
    let h : module_named ms j c.args.name.now ≡ Some c.in-Some.inside.now = search rules in
    module_is ms j c.args.name.now c.args.word.now c.in-Some.inside.now h

pub returns-in-Some-disabled_at-clause-refused : goal.returns-in-Some-disabled_at-clause-refused
returns-in-Some-disabled_at-clause-refused c some =
    let ms = map (λ m. m.now) c.args.modules.now in
    let j = c.args.justfile.now in
    let q = c.args.name.now in
    let h : module_named ms j q ≡ None = search rules in
    let k : is_absent j q ≡ false = search rules in
    let l : disabled_at (out-Justfile j).disabled_recipes q ≡ Some c.in-Some-disabled_at.disabled.now = search rules in
    no_recipe_is ms j q c.args.word.now c.in-Some-disabled_at.disabled.now h k l ∙ ap (λ (e : LangError). Err e) (sym (c.recipe_disabled.ensures some))

pub returns-in-Some-disabled_at-2-clause-refused : goal.returns-in-Some-disabled_at-2-clause-refused
returns-in-Some-disabled_at-2-clause-refused c some =
    let ms = map (λ m. m.now) c.args.modules.now in
    let j = c.args.justfile.now in
    let q = c.args.name.now in
    let h : module_named ms j q ≡ None = search rules in
    let k : is_absent j q ≡ false = search rules in
    let l : disabled_at (out-Justfile j).disabled_recipes q ≡ None = search rules in
    let m : recipe_in j q ≡ None = search rules in
    let n : disabled_at (out-Justfile j).disabled_aliases q ≡ Some c.in-Some-disabled_at-2.disabled.now = search rules in
    no_alias_is ms j q c.args.word.now c.in-Some-disabled_at-2.disabled.now h k l m n ∙ ap (λ (e : LangError). Err e) (sym (c.alias_disabled.ensures some))

pub returns-in-None-clause-refused : goal.returns-in-None-clause-refused
returns-in-None-clause-refused c some =
    let ms = map (λ m. m.now) c.args.modules.now in
    let j = c.args.justfile.now in
    let q = c.args.name.now in
    let h : module_named ms j q ≡ None = search rules in
    let k : is_absent j q ≡ false = search rules in
    let l : disabled_at (out-Justfile j).disabled_recipes q ≡ None = search rules in
    let m : recipe_in j q ≡ None = search rules in
    let n : disabled_at (out-Justfile j).disabled_aliases q ≡ None = search rules in
    let o : aliased_recipe ms (alias_at (out-Justfile j).recipe_aliases q) ≡ None = search rules in
    unknown_is ms j q c.args.word.now h k l m n o ∙ ap (λ (e : LangError). Err e) (sym (c.unknown_recipe.ensures some))
