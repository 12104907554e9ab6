-- Positional arguments: what a recipe's parameters that are no options were given.
use Rattle.std.specs.Prelude.{ℕ, Bool, is_some, not, ◌&&◌, if◌then◌else◌, List, [], ◌∷◌, ◌++◌}
use Rattle.just_lang_types.specs.declared.key.Value.{Value}
use Rattle.just_lang_types.specs.declared.recipe.Parameter.{Parameter}
use Rattle.just_exec_work.specs.declared.kind.ShellKind.{ShellKind}
use Rattle.just_exec_work.specs.Kinds.{takes_shell_name}

abbrev pub is_positional : Parameter → Bool
is_positional p = not (is_some p.long) && not (is_some p.short)

-- what a parameter was given, where it is no option
abbrev pub given_texts : Parameter → Value → List (List ℕ)
given_texts p v = if is_positional p then v.elements else []

-- the elements of what such parameters were given, in order
abbrev pub positional_texts : List Parameter → List Value → List (List ℕ)
positional_texts [] values = []
positional_texts (p ∷ ps) [] = []
positional_texts (p ∷ ps) (v ∷ vs) = given_texts p v ++ positional_texts ps vs

-- the words behind a line, for a shell of that kind: where it takes its own name first, that is the recipe's
abbrev pub words_behind_line : ShellKind → List ℕ → List (List ℕ) → List (List ℕ)
words_behind_line kind recipe texts = if takes_shell_name kind then recipe ∷ texts else texts
