-- The fields are what the module says.
use Rattle.std.proofs.Common.{◌≡◌, ◌∙◌, ℕ, List, ap}
use Rattle.just_lang_syntax.specs.declared.ast.AstItem.{AstItem}
use Rattle.just_lang_layout.specs.declared.layout.File.{File}
use Rattle.just_lang_layout.specs.Items.{items_of_module}
use Rattle.just_lang_spots.specs.Entries.{entries}
use Rattle.just_lang_spots.specs.Winners.{wins_in}
use Rattle.just_lang_shapes.specs.Scopes.{assignments_of, unexports_of}
use Rattle.just_lang_shapes.specs.Settings.{settings_of}
use Rattle.just_lang_justfile.specs.Aliases.{recipe_aliases_of, module_aliases_of, disabled_aliases_of}
use Rattle.just_lang_justfile.specs.Modules.{source_of}
use Rattle.just_lang_justfile.specs.Recipes.{recipes_of, disabled_recipes_of}
use Rattle.just_lang_justfile.specs.Standing.{standing_recipes, standing_variables, absent_names}
use Rattle.just_lang_justfile.proofs.content.module_of.Goals as goal

pub returns-clause-said : goal.returns-clause-said
returns-clause-said g c =
    let text_of = g.T.Texts.text_of c.args.project.now.texts.now in
    let links = g.L.Linker.links c.args.project.now.links.now in
    let wins = wins_in c.args.project.now.winners.now in
    let files = c.args.project.now.layout.now.files in
    let n = c.args.number in
    let m = c.args.some_module.now in
    let items : entries c.as_slice-items.result.now ≡ items_of_module files m =
    ap entries c.as_slice-items.ensures.value ∙ c.in_ok-found.ensures ∙ ap (λ (fs : List File). items_of_module fs m) c.as_slice-files.ensures in
    record {
      module_path = c.justfile_with.ensures.module_path ∙ c.in_ok-location.ensures.module_path;
      source = c.justfile_with.ensures.source ∙ c.in_ok-location.ensures.source ∙ ap (λ (fs : List File). source_of fs m) c.as_slice-files.ensures;
      settings = c.justfile_with.ensures.settings ∙ c.in_ok-own.ensures.settings ∙ ap (settings_of text_of) items;
      assignments = c.justfile_with.ensures.assignments ∙ c.in_ok-standing.ensures.assignments ∙ ap (λ (xs : List (ℕ × AstItem)). assignments_of text_of (standing_variables wins xs)) items;
      unexports = c.justfile_with.ensures.unexports ∙ c.in_ok-own.ensures.unexports ∙ ap unexports_of items;
      recipes = c.justfile_with.ensures.recipes ∙ c.in_ok-standing.ensures.recipes ∙ ap (λ (xs : List (ℕ × AstItem)). recipes_of links n text_of files m.path (standing_recipes wins xs)) items;
      recipe_aliases = c.justfile_with.ensures.recipe_aliases ∙ c.in_ok-aliases.ensures.recipes ∙ ap (recipe_aliases_of links n) items;
      module_aliases = c.justfile_with.ensures.module_aliases ∙ c.in_ok-aliases.ensures.modules ∙ ap (module_aliases_of links n) items;
      absent_modules = c.justfile_with.ensures.absent_modules ∙ c.in_ok-location.ensures.absent_modules ∙ ap (λ (fs : List File). absent_names fs m) c.as_slice-files.ensures;
      disabled_recipes = c.justfile_with.ensures.disabled_recipes ∙ c.in_ok-standing.ensures.disabled_recipes ∙ ap (λ (xs : List (ℕ × AstItem)). disabled_recipes_of links n (standing_recipes wins xs)) items;
      disabled_aliases = c.justfile_with.ensures.disabled_aliases ∙ c.in_ok-aliases.ensures.disabled ∙ ap (disabled_aliases_of links n) items;
      groups = c.justfile_with.ensures.groups ∙ c.in_ok-declared.ensures.groups;
      doc = c.justfile_with.ensures.doc ∙ c.in_ok-declared.ensures.doc;
    }
