-- How a recipe is used, at length.
use Rattle.std.specs.Prelude.{ℕ, Bool, not, is_some, ◌||◌, if◌then◌else◌, List, [], ◌∷◌, ◌++◌, Option, Some, None, codes, encode_utf8}
use Rattle.std.specs.List.{list_any, flat_map}
use Rattle.just_lang_types.specs.declared.recipe.Parameter.{Parameter}
use Rattle.just_lang_types.specs.declared.recipe.Pattern.{Pattern}
use Rattle.just_lang_syntax.specs.declared.ast.Expr.{Expr}
use Rattle.just_print.specs.Printed.{newline, only_if, separated, printed_expr}
use Rattle.just_print.specs.Usages.{is_option, has_options, path_text, parameter_text, argument_text}

-- the line of an alias, with its target as its file has it
abbrev pub alias_line : List ℕ → List (List ℕ) → List ℕ
alias_line name target = codes "alias " ++ (name ++ (codes " := " ++ (path_text target ++ newline)))

-- the words of a usage
unfoldable pub usage_word : List ℕ
usage_word = codes "Usage: just "

unfoldable pub options_sign : List ℕ
options_sign = codes " [OPTIONS]"

unfoldable pub arguments_word : List ℕ
arguments_word = newline ++ (newline ++ codes "Arguments:")

unfoldable pub options_word : List ℕ
options_word = newline ++ codes "Options:"

unfoldable pub default_word : List ℕ
default_word = codes " [default: "

unfoldable pub pattern_word : List ℕ
pattern_word = codes " [pattern: '"

-- a parameter that is no option
abbrev pub is_argument : Parameter → Bool
is_argument p = not (is_option p)

abbrev pub has_arguments : List Parameter → Bool
has_arguments ps = list_any is_argument ps

-- ---- options

-- `-S`, or two blanks
abbrev pub short_text : Option ℕ → List ℕ
short_text None = codes "  "
short_text (Some c) = codes "-" ++ encode_utf8 c

-- `, --LONG`, with two blanks in place of `, ` where there is no short name
abbrev pub long_text : Bool → Option (List ℕ) → List ℕ
long_text has_short None = []
long_text has_short (Some name) = (if has_short then codes ", " else codes "  ") ++ (codes "--" ++ name)

-- the name of its value, unless it is a flag or has a value
abbrev pub option_name : Parameter → List ℕ
option_name p = if p.flag || is_some p.value then [] else codes " " ++ p.name

abbrev pub option_text : Parameter → List ℕ
option_text p = short_text p.short ++ (long_text (is_some p.short) p.long ++ option_name p)

-- ---- what stands behind each parameter

abbrev pub help_text : Option (List ℕ) → List ℕ
help_text None = []
help_text (Some text) = codes " " ++ text

abbrev pub default_value : Option Expr → List ℕ
default_value None = []
default_value (Some x) = default_word ++ (printed_expr x ++ codes "]")

abbrev pub default_text : Parameter → List ℕ
default_text p = if is_some p.value then [] else default_value p.default

abbrev pub patterns_text : List (List ℕ) → List ℕ
patterns_text [] = []
patterns_text (x ∷ xs) = pattern_word ++ (separated (codes "' | '") (x ∷ xs) ++ codes "']")

abbrev pub pattern_text : Option Pattern → List ℕ
pattern_text None = []
pattern_text (Some pattern) = patterns_text pattern.texts

abbrev pub details : Parameter → List ℕ
details p = help_text p.help ++ (default_text p ++ pattern_text p.pattern)

-- ---- the parts of a usage

-- each parameter on a new line behind two blanks
abbrev pub argument_line : Parameter → List ℕ
argument_line p = if is_option p then [] else newline ++ (codes "  " ++ (parameter_text p ++ details p))

abbrev pub option_line : Parameter → List ℕ
option_line p = if is_option p then newline ++ (codes "  " ++ (option_text p ++ details p)) else []

-- two newlines, `Arguments:` and the arguments, where there are some
abbrev pub arguments_text : List Parameter → List ℕ
arguments_text ps = if has_arguments ps then arguments_word ++ flat_map argument_line ps else []

-- two newlines, `Options:` and the options, where there are some; without arguments it is one newline
abbrev pub options_text : List Parameter → List ℕ
options_text ps = if has_options ps then only_if (has_arguments ps) newline ++ (options_word ++ flat_map option_line ps) else []

-- `Usage: just PATH`, ` [OPTIONS]` where there are some, and the arguments
abbrev pub head_text : List ℕ → List Parameter → List ℕ
head_text path ps = usage_word ++ (path ++ (only_if (has_options ps) options_sign ++ flat_map argument_text ps))

-- The long usage of a recipe under that path.
abbrev pub usage_text : List (List ℕ) → List Parameter → List ℕ
usage_text path ps = head_text (path_text path) ps ++ (arguments_text ps ++ (options_text ps ++ newline))
