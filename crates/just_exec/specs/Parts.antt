-- Texts that those of errors are made of.
use Rattle.std.specs.Prelude.{ℕ, ◌==◌, ◌++◌, nat_lt, not, ◌&&◌, Bool, if◌then◌else◌, List, [], length, Option, Some, None, codes, decimal}
use Rattle.std.specs.List.{list_any, filter}
use Rattle.just_path.specs.declared.host.Miss.{Miss}
use Rattle.just_path.specs.declared.host.Miss.TheVariants as miss
use Rattle.just_host_record.specs.declared.entry.HostFault.{HostFault}
use Rattle.just_host_record.specs.declared.entry.HostFault.TheVariants as fault
use Rattle.just_lang_types.specs.declared.error.CompileKind.{CompileKind}
use Rattle.just_lang_types.specs.declared.error.CompileKind.TheVariants as kind
use Rattle.just_lang_types.specs.declared.recipe.Parameter.{Parameter}
use Rattle.just_lang_types.specs.declared.switch.Switch.{Switch}
use Rattle.just_lang_types.specs.Switches.{switch_text}
use Rattle.just_print.specs.SmallTexts.{ticked, list_text}
use Rattle.just_print.specs.Usages.{is_option, is_optional, is_variadic}
use Rattle.just_config_words.specs.declared.usage.UsageKind.{UsageKind}
use Rattle.just_config_words.specs.declared.usage.UsageKind.TheVariants as usage

-- ---- single words

abbrev pub miss_text : Miss → List ℕ
miss_text miss.NotFound = codes "not found"
miss_text miss.NotFolder = codes "not a folder"
miss_text miss.IsFolder = codes "is a folder"
miss_text miss.NotUtf8 = codes "not UTF-8"
miss_text miss.NotEmpty = codes "folder not empty"
miss_text miss.TooLarge = codes "too large"

abbrev pub fault_text : HostFault → List ℕ
fault_text (fault.Missed m) = miss_text m
fault_text (fault.Failed c) = codes "failed"
fault_text fault.NoMemory = codes "out of memory"

abbrev pub kind_text : CompileKind → List ℕ
kind_text kind.Syntax = codes "Syntax"
kind_text kind.Unsupported = codes "Unsupported"
kind_text kind.Depth = codes "Depth"
kind_text kind.SourceLimit = codes "SourceLimit"
kind_text kind.ShellExpansion = codes "ShellExpansion"
kind_text kind.UnknownSetting = codes "UnknownSetting"
kind_text kind.DuplicateSetting = codes "DuplicateSetting"
kind_text kind.UnknownAttribute = codes "UnknownAttribute"
kind_text kind.DuplicateAttribute = codes "DuplicateAttribute"
kind_text kind.AttributeConflict = codes "AttributeConflict"
kind_text kind.DuplicateRecipe = codes "DuplicateRecipe"
kind_text kind.DuplicateVariable = codes "DuplicateVariable"
kind_text kind.DuplicateAlias = codes "DuplicateAlias"
kind_text kind.DuplicateParameter = codes "DuplicateParameter"
kind_text kind.RequiredParameterFollowsDefault = codes "RequiredParameterFollowsDefault"
kind_text kind.UndefinedVariable = codes "UndefinedVariable"
kind_text kind.UnknownAliasTarget = codes "UnknownAliasTarget"
kind_text kind.UnknownDependency = codes "UnknownDependency"
kind_text kind.DependencyArgumentCount = codes "DependencyArgumentCount"
kind_text kind.DependencyIsOption = codes "DependencyIsOption"
kind_text kind.CircularVariable = codes "CircularVariable"
kind_text kind.CircularRecipe = codes "CircularRecipe"
kind_text kind.UnknownArgParameter = codes "UnknownArgParameter"
kind_text kind.ArgumentPatternRegex = codes "ArgumentPatternRegex"
kind_text kind.ArgumentPatternSize = codes "ArgumentPatternSize"
kind_text kind.GuardAndInfallible = codes "GuardAndInfallible"
kind_text kind.DuplicateDefault = codes "DuplicateDefault"

abbrev pub usage_text : UsageKind → List ℕ
usage_text usage.Unknown = codes "Unknown"
usage_text usage.LeftOut = codes "LeftOut"
usage_text usage.MissingValue = codes "MissingValue"
usage_text usage.UnexpectedValue = codes "UnexpectedValue"
usage_text usage.BadValue = codes "BadValue"
usage_text usage.Repeated = codes "Repeated"
usage_text usage.Conflict = codes "Conflict"
usage_text usage.Requires = codes "Requires"
usage_text usage.NoMemory = codes "NoMemory"

-- what stands behind a noun for so many things
abbrev pub plural_end : ℕ → List ℕ
plural_end number = if number == 1 then [] else codes "s"

-- a noun for so many things
abbrev pub several : List ℕ → ℕ → List ℕ
several noun number = noun ++ plural_end number

-- ---- places

-- `PATH:LINE:COLUMN`
abbrev pub place_text : List ℕ → ℕ → ℕ → List ℕ
place_text path line column = path ++ (codes ":" ++ (decimal line ++ (codes ":" ++ decimal column)))

-- ` on line N`, where the line is known
abbrev pub line_text : Option ℕ → List ℕ
line_text (Some n) = codes " on line " ++ decimal n
line_text None = []

-- ---- numbers and lists

-- `N noun`, of so many things
abbrev pub counted : ℕ → List ℕ → List ℕ
counted number noun = decimal number ++ (codes " " ++ several noun number)

-- `noun LIST`, of these things
abbrev pub listed : List ℕ → List (List ℕ) → List ℕ
listed noun names = several noun (length names) ++ (codes " " ++ list_text (codes "and") names)

-- ---- sentences

-- a text in backquotes, and what stands behind it
abbrev pub ticked_before : List ℕ → List ℕ → List ℕ
ticked_before name behind = ticked name ++ behind

-- a text in backquotes between two others
abbrev pub naming : List ℕ → List ℕ → List ℕ → List ℕ
naming before name behind = codes "error: " ++ (before ++ (ticked name ++ behind))

-- what is told of a recipe
abbrev pub of_recipe : List ℕ → List ℕ → List ℕ
of_recipe recipe told = codes "error: recipe " ++ (ticked recipe ++ told)

-- what is told of a recipe and of a part of it, as a parameter, a shell or an output
abbrev pub of_part : List ℕ → List ℕ → List ℕ → List ℕ → List ℕ
of_part recipe before part behind = of_recipe recipe (before ++ (ticked part ++ behind))

-- what is told of a recipe and one of its switches
abbrev pub of_switch : List ℕ → List ℕ → Switch → List ℕ → List ℕ
of_switch recipe before switch behind = of_part recipe before (switch_text switch) behind

-- a file is imported by one that it leads to
abbrev pub circular_text : List ℕ → List ℕ → List ℕ
circular_text current import = naming (codes "import ") import (codes " in ") ++ ticked_before current (codes " is circular")

-- what depends on modules that aren't there; the noun has a blank behind it
abbrev pub absent_text : List ℕ → List ℕ → List (List ℕ) → List ℕ
absent_text noun name modules = naming noun name (codes " depends on absent ") ++ listed (codes "module") modules

-- a parameter was given too few or too many values
abbrev pub values_text : List ℕ → List ℕ → ℕ → List ℕ → ℕ → List ℕ
values_text recipe parameter found bound number =
    of_part recipe (codes " parameter ") parameter (codes " got ") ++ (counted found (codes "value") ++ (codes " but takes at " ++ (bound ++ (codes " " ++ decimal number))))

-- no pattern of a parameter matches a value
abbrev pub pattern_text : List ℕ → List ℕ → List ℕ → List (List ℕ) → List ℕ
pattern_text argument recipe parameter patterns =
    naming (codes "argument ") argument (codes " passed to recipe ")
    ++ (ticked_before recipe (codes " parameter ") ++ (ticked_before parameter (codes " does not match pattern ") ++ list_text (codes "or") patterns))

abbrev pub default_text : List ℕ → ℕ → List ℕ
default_text recipe least =
    of_recipe recipe (codes " cannot be used as default recipe since it requires at least ") ++ counted least (codes "argument")

-- variables that the words override and the justfile hasn't
abbrev pub overrides_text : List (List ℕ) → List ℕ
overrides_text vs = codes "error: " ++ (listed (codes "variable") vs ++ codes " overridden on the command line but not present in justfile")

-- the shell of a recipe's line had an I/O error
abbrev pub shell_text : List ℕ → List ℕ → HostFault → List ℕ
shell_text recipe shell io =
    of_part recipe (codes " could not be run because of an IO error while launching the shell ") shell (codes ": ") ++ fault_text io

-- the file of a recipe's script had one
abbrev pub folder_text : List ℕ → HostFault → List ℕ
folder_text recipe io =
    of_recipe recipe (codes " could not be run because of an IO error while trying to create a temporary directory or write a file to that directory: ") ++ fault_text io

-- an argument behind a blank, where there is one
abbrev pub behind_blank : Option (List ℕ) → List ℕ
behind_blank None = []
behind_blank (Some t) = codes " " ++ t

abbrev pub execution_text : HostFault → List ℕ
execution_text io = codes "` execution error: " ++ fault_text io

abbrev pub shebang_text : List ℕ → List ℕ → Option (List ℕ) → HostFault → List ℕ
shebang_text recipe command argument io =
    of_recipe recipe (codes " with shebang `#!") ++ (command ++ (behind_blank argument ++ execution_text io))

abbrev pub script_text : List ℕ → List ℕ → HostFault → List ℕ
script_text recipe command io = of_part recipe (codes " with command ") command (codes " execution error: ") ++ fault_text io

-- a recipe's line failed, or was ended by a signal
abbrev pub failed_text : List ℕ → Option ℕ → List ℕ
failed_text recipe line = of_recipe recipe (codes " failed") ++ line_text line

abbrev pub terminated_text : List ℕ → Option ℕ → List ℕ
terminated_text recipe line = of_recipe recipe (codes " was terminated") ++ line_text line

-- ---- how many positional arguments a recipe takes

abbrev pub is_positional : Parameter → Bool
is_positional p = not (is_option p)

-- those that it needs
abbrev pub is_needed : Parameter → Bool
is_needed p = not (is_option p) && not (is_optional p)

abbrev pub least : List Parameter → ℕ
least ps = length (filter is_needed ps)

-- those that take one argument each
abbrev pub most : List Parameter → ℕ
most ps = length (filter is_positional ps)

abbrev pub has_variadic : List Parameter → Bool
has_variadic ps = list_any (λ p. not (is_option p) && is_variadic p.kind) ps

-- whether it takes one number of them alone
abbrev pub takes_one_number : List Parameter → Bool
takes_one_number ps = not (has_variadic ps) && (least ps == most ps)

-- `takes M`, `only takes M`, `takes at least M` or `takes at most M`, where so many were found
abbrev pub takes_text : List Parameter → ℕ → List ℕ
takes_text ps found =
    if nat_lt found (least ps)
    then (if takes_one_number ps then codes "takes " else codes "takes at least ") ++ decimal (least ps)
    else (if takes_one_number ps then codes "only takes " else codes "takes at most ") ++ decimal (most ps)
