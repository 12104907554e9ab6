-- How the attributes of a recipe ask it to be run.
use Rattle.std.specs.Prelude.{ℕ, Bool, is_some, not, ◌&&◌, ◌||◌, List, [], ◌∷◌, map, Option, Some, None, option_map, find, bytes_eq, codes}
use Rattle.std.specs.Option.{option_and_then, unwrap_or}
use Rattle.just_lang_syntax.specs.declared.ast.Argument.{Argument}
use Rattle.just_lang_syntax.specs.declared.ast.Attribute.{Attribute}
use Rattle.just_lang_syntax.specs.Meanings.{text_of}
use Rattle.just_lang_types.specs.declared.settings.Settings.{Settings}
use Rattle.just_lang_types.specs.ConstantTexts.{const_text}
use Rattle.just_exec_work.specs.declared.run_attributes.RunAttributes.{RunAttributes}

-- the attribute of that name: the first
abbrev pub attribute_named : List Attribute → List ℕ → Option Attribute
attribute_named attributes name = find (λ a. bytes_eq a.name.text name) attributes

abbrev pub has_attribute : List Attribute → List ℕ → Bool
has_attribute attributes name = is_some (attribute_named attributes name)

-- the text of an argument; in a sound justfile each of these is constant
abbrev pub argument_text : Argument → List ℕ
argument_text a = unwrap_or (const_text text_of a.value) []

-- the texts of the arguments of the attribute of that name
abbrev pub attribute_texts : List Attribute → List ℕ → Option (List (List ℕ))
attribute_texts attributes name = option_map (λ a. map argument_text a.arguments) (attribute_named attributes name)

abbrev pub first_text : List Argument → Option (List ℕ)
first_text [] = None
first_text (a ∷ rest) = Some (argument_text a)

-- the text of the first of them
abbrev pub attribute_text : List Attribute → List ℕ → Option (List ℕ)
attribute_text attributes name = option_and_then (λ a. first_text a.arguments) (attribute_named attributes name)

-- whether the error of a recipe that failed by a code is printed: not with `no-exit-message` and, where the setting of that
-- name is on, only with `exit-message`
abbrev pub prints_code : Settings → List Attribute → Bool
prints_code settings attributes = not (has_attribute attributes (codes "no-exit-message")) && (has_attribute attributes (codes "exit-message") || not settings.no_exit_message)

abbrev pub run_attributes : List Attribute → RunAttributes
run_attributes attributes =
    record {
      script = attribute_texts attributes (codes "script");
      extension = attribute_text attributes (codes "extension");
      working_directory = attribute_text attributes (codes "working-directory");
      no_cd = has_attribute attributes (codes "no-cd");
      no_quiet = has_attribute attributes (codes "no-quiet");
      positional_arguments = has_attribute attributes (codes "positional-arguments");
    }
