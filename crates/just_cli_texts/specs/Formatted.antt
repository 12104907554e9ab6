-- The text of a justfile as `--fmt` writes it.
use Rattle.std.specs.Prelude.{◌≡◌, ◌≢◌, ℕ, List, Result, Ok, Err}
use Rattle.just_lang_syntax.specs.declared.ast.AstItem.{AstItem}
use Rattle.just_lang_types.specs.declared.project.LangError.{LangError}
use Rattle.just_lang_types.specs.declared.project.LangError.TheVariants as lang
use Rattle.just_lang_types.specs.declared.source.Source.{Source}
use Rattle.just_lang_types.specs.Trees.{IsTree, RefusesSource}
use Rattle.just_lang_layout.specs.Paths.{Pairs}
use Rattle.just_lang_rulebook.specs.Meant.{meant}
use Rattle.just_lang_shapes.specs.Settings.{settings_of}
use Rattle.just_lang_layout.specs.Items.{in_file}
use Rattle.just_config.specs.declared.config.Config.{Config}
use Rattle.just_print.specs.Printed.{printed}
use Rattle.just_print_lists.specs.Indentations.{chosen_indentation}
use Rattle.just_exec.specs.Refusals.{error_of_lang}
use Rattle.just_exec.specs.declared.error.Error.{Error}

-- the text of items, whose bodies are indented as is given, else as the file itself has it set
abbrev pub format_text : Config → Pairs → List AstItem → List ℕ
format_text c environ items = printed items (chosen_indentation c.indentation (settings_of (meant environ) (in_file 0 items)).indentation)

-- the text of a source, or why it has no tree; want of memory isn't told so
abbrev pub Formats : Config → Pairs → Source → Result (List ℕ) Error → Type 0
Formats c environ source (Ok text) = (items : List AstItem) × IsTree source.text items × (text ≡ format_text c environ items)
Formats c environ source (Err e) = (l : LangError) × RefusesSource source l × (l ≢ lang.NoMemory) × (e ≡ error_of_lang l)
