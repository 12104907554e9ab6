-- The parameters that are options.
use Rattle.std.specs.Prelude.{ℕ, Bool, false, ◌&&◌, ◌||◌, is_some, if◌then◌else◌, List, [], ◌∷◌, Option, Some, None, bytes_eq, chars, codes, slice_get}
use Rattle.std.specs.List.{list_any}
use Rattle.std.specs.Option.{option_or}
use Rattle.just_lang_syntax.specs.declared.ast.StringLiteral.{StringLiteral}
use Rattle.just_lang_syntax.specs.declared.ast.Argument.{Argument}
use Rattle.just_lang_syntax.specs.declared.ast.Attribute.{Attribute}
use Rattle.just_lang_syntax.specs.declared.ast.AstParameter.{AstParameter}
use Rattle.just_lang_syntax.specs.declared.ast.Name.{Name}
use Rattle.just_lang_syntax.specs.Attributes.{has_key}
use Rattle.just_lang_types.specs.Attributes.{is_called}
use Rattle.just_lang_types.specs.ConstantTexts.{const_text}

abbrev pub is_text : List ℕ → Option (List ℕ) → Bool
is_text name None = false
is_text name (Some text) = bytes_eq text name

abbrev pub is_named_key : List ℕ → Option Name → Bool
is_named_key key None = false
is_named_key key (Some n) = bytes_eq n.text key

-- whether there is a text, and it isn't empty
abbrev pub has_character : Option (List ℕ) → Bool
has_character None = false
has_character (Some text) = is_some (slice_get (chars text) 0)

module _ (text_of : StringLiteral → Option (List ℕ)) where
  -- the text of an argument with that key
  abbrev pub text_at : List ℕ → Argument → Option (List ℕ)
  text_at key x = if is_named_key key x.key then const_text text_of x.value else None

  -- the first text of that key
  abbrev pub first_text : List ℕ → List Argument → Option (List ℕ)
  first_text key [] = None
  first_text key (x ∷ xs) = option_or (text_at key x) (first_text key xs)

  -- whether keys of `arg` give its parameter a name as an option: `long` is among them, or `short` with a text that isn't empty
  abbrev pub names_option : List Argument → Bool
  names_option keys = has_key keys (codes "long") || has_character (first_text (codes "short") keys)

  -- whether arguments of `arg` make the parameter of that name an option: the first names it, and the others give it one of its own
  abbrev pub makes_option : List ℕ → List Argument → Bool
  makes_option name [] = false
  makes_option name (x ∷ keys) = names_option keys && is_text name (const_text text_of x.value)

  abbrev pub is_option_by : List ℕ → Attribute → Bool
  is_option_by name a = is_called (codes "arg") a && makes_option name a.arguments

  -- whether one of a recipe's attributes makes the parameter an option
  abbrev pub is_option : List Attribute → AstParameter → Bool
  is_option attributes p = list_any (is_option_by p.name.text) attributes
