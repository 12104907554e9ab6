-- The parameters of a recipe, with what `arg` says of each.
use Rattle.std.specs.Prelude.{◌≡◌, ℕ, Bool, false, not, ◌&&◌, is_some, if◌then◌else◌, List, [], ◌∷◌, map, filter_map, Option, Some, None, codes, chars, slice_get}
use Rattle.std.specs.List.{list_any}
use Rattle.std.specs.Option.{option_and_then, option_copied, unwrap_or}
use Rattle.std.specs.Ordering.{nat_cmp}
use Rattle.std.specs.Cmp.Lexicographic.{slice_cmp}
use Rattle.std.specs.BTreeMap.{BTreeMap, get_by}
use denote.Ref.{Bor}
use Rattle.just_lang_syntax.specs.declared.ast.Argument.{Argument}
use Rattle.just_lang_syntax.specs.declared.ast.AstParameter.{AstParameter}
use Rattle.just_lang_syntax.specs.declared.ast.Attribute.{Attribute}
use Rattle.just_lang_syntax.specs.declared.ast.StringLiteral.{StringLiteral}
use Rattle.just_lang_syntax.specs.Attributes.{is_named, has_key}
use Rattle.just_lang_types.specs.declared.recipe.Parameter.{Parameter}
use Rattle.just_lang_types.specs.declared.recipe.Pattern.{Pattern}
use Rattle.just_lang_types.specs.Attributes.{is_called}
use Rattle.just_lang_types.specs.ConstantTexts.{const_text}
use Rattle.just_lang_types.specs.Options.{is_text, text_at}
use Rattle.just_lang_shapes.specs.declared.keys.Keys.{Keys}
use Rattle.just_lang_shapes.specs.Attributes.{first_of}
use Rattle.just_lang_shapes.specs.Expansions.{expanded_default}
use Rattle.just_lang_read.specs.Decimal.{decimal}

-- ---- keys

-- a key that stands alone
abbrev pub is_alone : List ℕ → Argument → Bool
is_alone key x = not (is_some x.key) && is_named key x.value

abbrev pub stands_alone : List ℕ → List Argument → Bool
stands_alone key xs = list_any (is_alone key) xs

abbrev pub or_earlier : Option (List Argument) → Option (List Argument) → Option (List Argument)
or_earlier earlier None = earlier
or_earlier earlier (Some keys) = Some keys

-- the patterns, where there are any
abbrev pub pattern_of : List (List ℕ) → Option Pattern
pattern_of [] = None
pattern_of (text ∷ texts) = Some (record { texts = text ∷ texts })

abbrev pub first_character : List ℕ → Option ℕ
first_character text = slice_get (chars text) 0

-- what a table has for a name
abbrev pub found_at : BTreeMap (List ℕ) (Bor (List Argument)) → List ℕ → Option (List Argument)
found_at table name = option_copied (get_by (λ (k : List ℕ). slice_cmp nat_cmp name k) table)

abbrev pub keys_in : Keys → List ℕ → List Argument
keys_in keys name = unwrap_or (found_at keys.table name) []

module _ (text_of : StringLiteral → Option (List ℕ)) where
  -- what stands behind the parameter's name in an `arg` for it
  abbrev pub keys_behind : List ℕ → List Argument → Option (List Argument)
  keys_behind name [] = None
  keys_behind name (x ∷ xs) = if is_text name (const_text text_of x.value) then Some xs else None

  abbrev pub keys_for : List ℕ → Attribute → Option (List Argument)
  keys_for name a = if is_called (codes "arg") a then keys_behind name a.arguments else None

  -- those of the `arg` for that parameter: of several, of the last
  abbrev pub last_keys : List Attribute → List ℕ → Option (List Argument)
  last_keys [] name = None
  last_keys (a ∷ attributes) name = or_earlier (keys_for name a) (last_keys attributes name)

  abbrev pub keys_of : List Attribute → List ℕ → List Argument
  keys_of attributes name = unwrap_or (last_keys attributes name) []

  -- the texts of a key, in their order
  abbrev pub values_of : List ℕ → List Argument → List (List ℕ)
  values_of key xs = filter_map (text_at text_of key) xs

  abbrev pub value_of : List ℕ → List Argument → Option (List ℕ)
  value_of key xs = first_of (values_of key xs)

  -- ---- parameters

  -- where `long` is there, its text, or the parameter's name where it has none
  abbrev pub long_of : List ℕ → List Argument → Option (List ℕ)
  long_of name xs = if has_key xs (codes "long") then Some (unwrap_or (value_of (codes "long") xs) name) else None

  -- the first character of the text of `short`
  abbrev pub short_of : List Argument → Option ℕ
  short_of xs = option_and_then first_character (value_of (codes "short") xs)

  -- the number that the text of a key is
  abbrev pub number_at : List ℕ → List Argument → Option ℕ
  number_at key xs = option_and_then decimal (value_of key xs)

  unfoldable pub parameter_with : List Argument → AstParameter → Parameter
  parameter_with xs p = record {
    name = p.name.text;
    kind = p.kind;
    export = p.export;
    default = expanded_default text_of p.default;
    long = long_of p.name.text xs;
    short = short_of xs;
    value = value_of (codes "value") xs;
    flag = stands_alone (codes "flag") xs;
    multiple = stands_alone (codes "multiple") xs;
    help = value_of (codes "help") xs;
    pattern = pattern_of (values_of (codes "pattern") xs);
    min = number_at (codes "min") xs;
    max = number_at (codes "max") xs;
  }

  abbrev pub parameter_of : List Attribute → AstParameter → Parameter
  parameter_of attributes p = parameter_with (keys_of attributes p.name.text) p

  -- the parameters of a recipe with these attributes
  abbrev pub parameters_of : List Attribute → List AstParameter → List Parameter
  parameters_of attributes ps = map (parameter_of attributes) ps

  -- ---- what the code keeps

  -- a table has for each name the keys of the `arg` for the parameter of that name
  abbrev pub AreKeys : List Attribute → Keys → Type 0
  AreKeys attributes keys = (name : List ℕ) → keys_in keys name ≡ keys_of attributes name
