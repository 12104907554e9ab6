-- A project that commands ask for what it has.
use denote.Ref.{Bor}
use Rattle.std.specs.Prelude.{List, map}
use Rattle.just_lang_types.specs.declared.project.Justfile.{Justfile}
use Rattle.just_lang_layout.specs.declared.layout.Layout.{Layout}
use Rattle.just_print_lists.specs.declared.listed.ListedModule.{ListedModule}
use Rattle.just_print_tree.specs.Told.{ToldRecipe}
use Rattle.just_print_tree.specs.Kept.{tolds}
use Rattle.just_print_commands.specs.declared.project.Project.{Project}

-- its layout, the modules of its justfile in their order, its root, what listings show of it, and the recipes of each module
pub record Parts : Type 0 where
  pub layout : Layout
  pub modules : List Justfile
  pub root : Justfile
  pub tree : ListedModule
  pub recipes : List (List ToldRecipe)

abbrev pub parts : Project → Parts
parts p = record {
  layout = p.layout.now;
  modules = map (λ (j : Bor Justfile). j.now) p.justfiles.now;
  root = p.root.now;
  tree = p.tree.now;
  recipes = map tolds p.recipes.now;
}
