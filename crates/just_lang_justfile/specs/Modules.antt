-- What a module says, but for the modules in it.
use Rattle.std.specs.Prelude.{◌≡◌, ℕ, List, Option}
use Rattle.just_lang_syntax.specs.declared.ast.StringLiteral.{StringLiteral}
use Rattle.just_lang_types.specs.declared.project.Justfile.{Justfile, out-Justfile}
use Rattle.just_lang_layout.specs.declared.layout.File.{File}
use Rattle.just_lang_layout.specs.declared.layout.Module.{Module}
use Rattle.just_lang_layout.specs.Items.{items_of_module}
use Rattle.just_lang_layout.specs.Laid.{path_of}
use Rattle.just_lang_spots.specs.Standing.{Wins}
use Rattle.just_lang_shapes.specs.Settings.{settings_of}
use Rattle.just_lang_shapes.specs.Scopes.{assignments_of, unexports_of}
use Rattle.just_lang_justfile.specs.Aliases.{recipe_aliases_of, module_aliases_of, disabled_aliases_of}
use Rattle.just_lang_justfile.specs.Declarations.{declaration_of, doc_in, groups_in}
use Rattle.just_lang_justfile.specs.Links.{Links}
use Rattle.just_lang_justfile.specs.Recipes.{recipes_of, disabled_recipes_of}
use Rattle.just_lang_justfile.specs.Standing.{standing_recipes, standing_variables, absent_names}

-- the path of a module's file, which is one of the files
abbrev pub source_of : List File → Module → List ℕ
source_of files m = path_of files m.file

module _ (text_of : StringLiteral → Option (List ℕ)) (links : Links) (wins : Wins) (files : List File) where
  -- the justfile says what the module of that number does
  pub record IsModuleOf (number : ℕ) (m : Module) (j : Justfile) : Type 0 where
    pub module_path : (out-Justfile j).module_path ≡ m.path
    pub source : (out-Justfile j).source ≡ source_of files m
    pub settings : (out-Justfile j).settings ≡ settings_of text_of (items_of_module files m)
    pub assignments : (out-Justfile j).assignments ≡ assignments_of text_of (standing_variables wins (items_of_module files m))
    pub unexports : (out-Justfile j).unexports ≡ unexports_of (items_of_module files m)
    pub recipes : (out-Justfile j).recipes ≡ recipes_of links number text_of files m.path (standing_recipes wins (items_of_module files m))
    pub recipe_aliases : (out-Justfile j).recipe_aliases ≡ recipe_aliases_of links number (items_of_module files m)
    pub module_aliases : (out-Justfile j).module_aliases ≡ module_aliases_of links number (items_of_module files m)
    pub absent_modules : (out-Justfile j).absent_modules ≡ absent_names files m
    pub disabled_recipes : (out-Justfile j).disabled_recipes ≡ disabled_recipes_of links number (standing_recipes wins (items_of_module files m))
    pub disabled_aliases : (out-Justfile j).disabled_aliases ≡ disabled_aliases_of links number (items_of_module files m)
    pub groups : (out-Justfile j).groups ≡ groups_in text_of (declaration_of files m)
    pub doc : (out-Justfile j).doc ≡ doc_in text_of files (declaration_of files m)
