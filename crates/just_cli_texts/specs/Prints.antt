-- What commands print of a project.
use Rattle.std.specs.Prelude.{◌≡◌, ℕ, if◌then◌else◌, List, [], ◌∷◌, Option, Some, None, Result, Ok, Err, codes}
use Rattle.just_lang_syntax.specs.declared.ast.AstItem.{AstItem}
use Rattle.just_lang_types.specs.Modules.{assignments_of, settings_of}
use Rattle.just_lang_layout.specs.Paths.{Pairs}
use Rattle.just_lang_layout.specs.declared.layout.File.{File}
use Rattle.just_config_words.specs.declared.subcommand.Subcommand.{Subcommand}
use Rattle.just_config_words.specs.declared.subcommand.Subcommand.TheVariants as command
use Rattle.just_config.specs.declared.config.Config.{Config}
use Rattle.just_print.specs.Printed.{printed}
use Rattle.just_print_lists.specs.Groups.{is_nil}
use Rattle.just_print_lists.specs.Indentations.{chosen_indentation}
use Rattle.just_print_lists.specs.NameLists.{variables_text, groups_text}
use Rattle.just_print_lists.specs.Summaries.{ArePaths, joined_line}
use Rattle.just_print_commands.specs.Projects.{Parts}
use Rattle.just_exec.specs.declared.error.Error.{Error}
use Rattle.just_cli_texts.specs.declared.printed.Printed.{Printed}
use Rattle.just_cli_texts.specs.Laid.{LaidSources, ArePartsOf}
use Rattle.just_cli_texts.specs.ListOptions.{prefix_of}
use Rattle.just_cli_texts.specs.Targets.{names_of, Lists, Shows, Uses}

-- a text, beside which nothing is told
abbrev pub alone : List ℕ → Printed
alone text = record { text = text; told = None }

abbrev pub as_printed : Result (List ℕ) Error → Result Printed Error
as_printed (Ok text) = Ok (alone text)
as_printed (Err e) = Err e

-- ---- the paths of recipes

-- what is told beside the paths of recipes: that there are none
abbrev pub no_recipes : List (List ℕ) → Option (List ℕ)
no_recipes paths = if is_nil paths then Some (codes "justfile contains no recipes\n") else None

-- what `--summary` prints and tells
abbrev pub IsSummed : Config → Parts → Printed → Type 0
IsSummed c p x = (paths : List (List ℕ)) × ArePaths c.unsorted p.tree paths × (x ≡ record { text = joined_line paths; told = no_recipes paths })

-- ---- the tree of the root

abbrev pub items_in : List File → List AstItem
items_in [] = []
items_in (f ∷ fs) = f.items

-- what `--dump` prints: the tree of the root's file
abbrev pub dump_text : Config → Parts → List ℕ
dump_text c p = printed (items_in p.layout.files) (chosen_indentation c.indentation (settings_of p.root).indentation)

-- ---- the commands

-- what a command prints of a project, or why it prints nothing; each of the others does something else
abbrev pub PrintsOf : Config → Option Subcommand → Parts → Result Printed Error → Type 0
PrintsOf c None p r = ⊥
PrintsOf c (Some (command.Dump ws)) p r = r ≡ Ok (alone (dump_text c p))
PrintsOf c (Some (command.Groups ws)) p r = r ≡ Ok (alone (groups_text c.unsorted (prefix_of c) p.tree))
PrintsOf c (Some (command.List ws)) p r = (x : Result (List ℕ) Error) × Lists c p (names_of ws) x × (r ≡ as_printed x)
PrintsOf c (Some (command.Show ws)) p r = (x : Result (List ℕ) Error) × Shows c p (names_of ws) x × (r ≡ as_printed x)
PrintsOf c (Some (command.Summary ws)) p r = (x : Printed) × IsSummed c p x × (r ≡ Ok x)
PrintsOf c (Some (command.Usage ws)) p r = (x : Result (List ℕ) Error) × Uses p (names_of ws) x × (r ≡ as_printed x)
PrintsOf c (Some (command.Variables ws)) p r = r ≡ Ok (alone (variables_text (assignments_of p.root)))
PrintsOf c (Some (command.Choose ws)) p r = ⊥
PrintsOf c (Some (command.Clean ws)) p r = ⊥
PrintsOf c (Some (command.Command ws)) p r = ⊥
PrintsOf c (Some (command.Edit ws)) p r = ⊥
PrintsOf c (Some (command.Evaluate ws)) p r = ⊥
PrintsOf c (Some (command.Fmt ws)) p r = ⊥
PrintsOf c (Some (command.Init ws)) p r = ⊥
PrintsOf c (Some (command.Request ws)) p r = ⊥
PrintsOf c (Some (command.Vectors ws)) p r = ⊥

-- what a configuration's command prints of a justfile with its layout
abbrev pub Prints : Pairs → Config → LaidSources → Result Printed Error → Type 0
Prints environ c l r = (p : Parts) × ArePartsOf environ l p × PrintsOf c c.subcommand p r
