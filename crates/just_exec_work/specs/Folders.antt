-- The folders of recipes and of their scripts.
use Rattle.std.specs.Prelude.{ℕ, ◌||◌, ◌==◌, if◌then◌else◌, List, length, Option, Some, None, option_map}
use Rattle.std.specs.Option.{option_or, unwrap_or}
use Rattle.just_path.specs.Path.{pushed}
use Rattle.just_path.specs.Parts.{parent_of}
use Rattle.just_lang_types.specs.declared.recipe.Modulepath.{Modulepath}
use Rattle.just_lang_types.specs.declared.settings.Settings.{Settings}
use Rattle.just_exec_work.specs.declared.run_attributes.RunAttributes.{RunAttributes}
use Rattle.just_exec_work.specs.declared.run_flags.RunFlags.{RunFlags}

-- the folder of a module: of the root it is the working folder, of any other that of its file
abbrev pub module_folder : List ℕ → Modulepath → List ℕ → List ℕ
module_folder working path source = if length path.components == 0 then working else unwrap_or (parent_of source) source

-- a path under a folder, where there is one
abbrev pub under : List ℕ → Option (List ℕ) → List ℕ
under folder None = folder
under folder (Some path) = pushed folder path

-- the folder of a recipe in a module with that folder, if it has one: under that of the setting that of the attribute
abbrev pub recipe_folder : Settings → RunAttributes → List ℕ → Option (List ℕ)
recipe_folder settings attributes folder =
    if settings.no_cd || attributes.no_cd then None
    else Some (under (under folder settings.working_directory) attributes.working_directory)

-- the folder in which the fresh folder of a script is made, if one is asked for
abbrev pub script_folder : RunFlags → Settings → Option (List ℕ)
script_folder flags settings = option_map (pushed flags.folder) (option_or flags.tempdir settings.tempdir)
