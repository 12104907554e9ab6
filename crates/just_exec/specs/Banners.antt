-- What is printed when the body of a recipe is begun.
use Rattle.std.specs.Prelude.{ℕ, if◌then◌else◌, List, [], ◌++◌, Option, Some, None, codes}
use Rattle.just_lang_types.specs.declared.recipe.Recipe.{Recipe}
use Rattle.just_exec_work.specs.Scripts.{ended}
use Rattle.just_exec_work.specs.declared.run_flags.RunFlags.{RunFlags}

abbrev pub name_line : List ℕ → List ℕ
name_line name = ended (codes "===> Running recipe `" ++ (name ++ codes "`..."))

abbrev pub doc_line : Option (List ℕ) → List ℕ
doc_line None = []
doc_line (Some doc) = ended (codes "# " ++ doc)

-- a line with the recipe's name, where much is told, and behind it one with its doc, where that is asked for
abbrev pub banner : RunFlags → Recipe → List ℕ
banner flags r = (if flags.loquacious then name_line r.name else []) ++ (if flags.explain then doc_line r.doc else [])
