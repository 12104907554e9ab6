-- What is asked before a recipe is run, and whether its dependencies may run side by side.
use Rattle.std.specs.Prelude.{ℕ, Bool, ◌||◌, if◌then◌else◌, List, ◌++◌, Option, Some, None, codes}
use Rattle.just_lang_types.specs.declared.recipe.Recipe.{Recipe}
use Rattle.just_exec_work.specs.declared.run_flags.RunFlags.{RunFlags}
use Rattle.just_exec_work.specs.Attributes.{has_attribute, attribute_text}

-- the text of `confirm` with one blank behind it, or where it has none a question with the recipe's name
abbrev pub question : List ℕ → Option (List ℕ) → List ℕ
question name (Some text) = text ++ codes " "
question name None = codes "Run recipe `" ++ (name ++ codes "`? ")

-- a recipe with `confirm` is asked for, unless the words say yes or nothing is run
abbrev pub prompt : RunFlags → Recipe → Option (List ℕ)
prompt flags r =
    if flags.yes || flags.dry_run then None
    else (if has_attribute r.attributes (codes "confirm") then Some (question r.name (attribute_text r.attributes (codes "confirm"))) else None)

abbrev pub is_parallel : Recipe → Bool
is_parallel r = has_attribute r.attributes (codes "parallel")
