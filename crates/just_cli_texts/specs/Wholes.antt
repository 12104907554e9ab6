-- The parts of a project that the code keeps.
use denote.Ref.{Bor}
use Rattle.std.specs.Prelude.{map}
use Rattle.just_lang_types.specs.declared.project.Justfile.{Justfile}
use Rattle.just_print_tree.specs.Kept.{tolds}
use Rattle.just_print_commands.specs.Projects.{Parts}
use Rattle.just_cli_texts.specs.declared.whole.Whole.{Whole}

abbrev pub parts_in : Whole → Parts
parts_in w = record {
  layout = w.laid.now.layout;
  modules = map (λ (j : Bor Justfile). j.now) w.justfiles.items;
  root = w.laid.now.justfile;
  tree = w.tree;
  recipes = map tolds w.recipes.items;
}
