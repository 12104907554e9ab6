-- What the code reads from a place on, step by step: attributes, recipes, bodies and items. That this is what the grammar
-- says is proved in proofs/.
use Rattle.std.specs.Prelude.{ℕ, zero, suc, Bool, true, false, not, if◌then◌else◌, List, [], ◌∷◌, ◌++◌, length, Option, Some, None, Ok, Err, codes, encode_utf8_all}
use Rattle.just_lang_read.specs.Place.{Place, next, first, begins, behind_text}
use Rattle.just_lang_read.specs.Reader.{Reader, and_then, ◌>>=◌, ◌>>◌, pure, refuse, many}
use Rattle.just_lang_read.specs.declared.error.ReadError.TheVariants.{Syntax}
use Rattle.just_lang_syntax.specs.declared.ast.Name.{Name}
use Rattle.just_lang_syntax.specs.declared.ast.StringLiteral.{StringLiteral}
use Rattle.just_lang_syntax.specs.declared.ast.Expr.{Expr}
use Rattle.just_lang_syntax.specs.declared.ast.Expr.TheVariants as e
use Rattle.just_lang_syntax.specs.declared.ast.Argument.{Argument}
use Rattle.just_lang_syntax.specs.declared.ast.Attribute.{Attribute}
use Rattle.just_lang_syntax.specs.declared.ast.ParameterKind.{ParameterKind}
use Rattle.just_lang_syntax.specs.declared.ast.ParameterKind.TheVariants.{Singular, Plus, Star}
use Rattle.just_lang_syntax.specs.declared.ast.AstParameter.{AstParameter}
use Rattle.just_lang_syntax.specs.declared.ast.AstDependency.{AstDependency}
use Rattle.just_lang_syntax.specs.declared.ast.AstRecipe.{AstRecipe}
use Rattle.just_lang_syntax.specs.declared.ast.Fragment.{Fragment}
use Rattle.just_lang_syntax.specs.declared.ast.Fragment.TheVariants as fragment
use Rattle.just_lang_syntax.specs.declared.ast.Line.{Line}
use Rattle.just_lang_syntax.specs.declared.ast.SettingValue.{SettingValue}
use Rattle.just_lang_syntax.specs.declared.ast.SettingValue.TheVariants as setting
use Rattle.just_lang_syntax.specs.declared.ast.AstItem.{AstItem}
use Rattle.just_lang_syntax.specs.declared.ast.AstItem.TheVariants as item
use Rattle.just_lang_syntax.specs.declared.entry.Entry.{Entry}
use Rattle.just_lang_syntax.specs.declared.entry.Entry.TheVariants as entry
use Rattle.just_lang_syntax.specs.declared.entry.Body.{Body}
use Rattle.just_lang_syntax.specs.declared.entry.Body.TheVariants as body
use Rattle.just_lang_syntax.specs.declared.form.Form.{Form}
use Rattle.just_lang_syntax.specs.declared.form.Form.TheVariants.{Bare, MaybeText, Text, Texts, Arg, Cache, Open}
use Rattle.just_lang_syntax.specs.declared.form.KeyForm.{KeyForm}
use Rattle.just_lang_syntax.specs.declared.form.KeyForm.TheVariants.{Alone, Either, Value, Number, Unknown}
use Rattle.just_lang_syntax.specs.declared.form.Sort.{Sort}
use Rattle.just_lang_syntax.specs.declared.form.Sort.TheVariants as sort
use Rattle.just_lang_syntax.specs.declared.item.Opening.{Opening}
use Rattle.just_lang_syntax.specs.declared.item.Opening.TheVariants as opening
use Rattle.just_lang_read.specs.Lines.{skip, is_word, ends_line, is_blank_line}
use Rattle.just_lang_read.specs.Quotes.{begins_string}
use Rattle.just_lang_syntax.specs.Strings.{concat}
use Rattle.just_lang_syntax.specs.Forms.{form_of, may_be_bare, has_colon, key_form, may_stand_alone, sort_of}
use Rattle.just_lang_syntax.specs.Attributes.{argument_at, is_keyed, may_cache, may_have, is_decimal, goes_on, attribute_of, with_comment, concat as concat_lines}
use Rattle.just_lang_syntax.specs.Recipes.{begins_parameter, begins_dependency, listed}
use Rattle.just_lang_syntax.specs.Bodies.{opens, is_text, is_body_line}
use Rattle.just_lang_syntax.specs.Items.{opening_at, opens_module, goes_on as goes_on_string}
use Rattle.just_lang_syntax.specs.File.{indentation_at, behind_blank, behind_item}
use Rattle.just_lang_syntax.specs.Meanings.{text_of}
use Rattle.just_lang_read.specs.Tokens.{token, word, maybe, newline, blank_line}
use Rattle.just_lang_syntax.specs.Readers.{name, path, comment, rest, string, value, level, inner}

-- an expression, in which at most 256 levels are open at a place
abbrev pub expr : Reader Expr
expr = level (inner 256)

-- ---- attributes

unfoldable pub plain : Option Name → Reader Argument
plain key = λ p. and_then (expr p) (λ x. pure (argument_at key p x))

unfoldable pub keyed : Reader Argument
keyed = do
  k ← name
  token (codes "=")
  plain (Some k)

abbrev pub cached_as : Bool → Name → Reader Argument
cached_as false k = refuse
cached_as true k = token (codes "=") >> plain (Some k)

unfoldable pub cached : List Argument → Reader Argument
cached earlier = do
  k ← name
  cached_as (may_cache earlier k.text) k

abbrev pub is_some_decimal : Option (List ℕ) → Bool
is_some_decimal None = false
is_some_decimal (Some text) = is_decimal text

abbrev pub number_of : Name → Place → StringLiteral → Reader Argument
number_of k p s = λ q. if is_some_decimal (text_of s) then Ok (argument_at (Some k) p (e.Literal s), q) else Err Syntax

-- a string that holds a number
unfoldable pub number_argument : Name → Reader Argument
number_argument k = λ p. and_then (string p) (number_of k p)

abbrev pub valued : KeyForm → Name → Reader Argument
valued Alone k = refuse
valued Either k = token (codes "=") >> plain (Some k)
valued Value k = token (codes "=") >> plain (Some k)
valued Number k = token (codes "=") >> number_argument k
valued Unknown k = refuse

abbrev pub option_as : Bool → Place → Name → Reader Argument
option_as false p k = refuse
option_as true p k = λ q.
    if begins (codes "=") q then valued (key_form k.text) k q
    else (if may_stand_alone (key_form k.text) then Ok (argument_at None p (e.Variable k), q) else Err Syntax)

-- a key of `arg`
unfoldable pub option : List Argument → Reader Argument
option earlier = λ p. and_then (name p) (λ k. option_as (may_have earlier k.text) p k)

-- the one text of an attribute
abbrev pub first_text : List Argument → Reader Argument
first_text [] = plain None
first_text (x ∷ earlier) = refuse

-- the parameter's name of `arg`, or a key behind it
abbrev pub name_or_key : List Argument → Reader Argument
name_or_key [] = plain None
name_or_key (x ∷ earlier) = option earlier

abbrev pub argument_of : Form → List Argument → Reader Argument
argument_of Bare earlier = refuse
argument_of MaybeText earlier = first_text earlier
argument_of Text earlier = first_text earlier
argument_of Texts earlier = plain None
argument_of Arg earlier = name_or_key earlier
argument_of Cache earlier = cached earlier
argument_of Open earlier = λ p. if is_keyed p then keyed p else plain None p

unfoldable pub argument : Form → List Argument → Reader Argument
argument form earlier = argument_of form earlier

unfoldable pub further_argument : Form → List Argument → Reader Argument
further_argument form earlier = token (codes ",") >> argument form earlier

-- further arguments behind these; the number bounds the turns
abbrev pub further_step : Form → (List Argument → Reader (List Argument)) → List Argument → Reader (List Argument)
further_step form others earlier = λ p.
    if goes_on p then (do
      x ← further_argument form earlier
      xs ← others (earlier ++ x ∷ [])
      pure (x ∷ xs)) p
    else Ok ([], p)

abbrev pub further_in : Form → ℕ → List Argument → Reader (List Argument)
further_in form zero = further_step form (λ earlier. refuse)
further_in form (suc n) = further_step form (further_in form n)

unfoldable pub further : Form → List Argument → Reader (List Argument)
further form earlier = λ p. further_in form (length p.rest) earlier p

-- a comma, or nothing
unfoldable pub trailing : Reader (Unit {0})
trailing = λ p. if begins (codes ",") p then token (codes ",") p else Ok (tt, p)

unfoldable pub argument_list : Form → Reader (List Argument)
argument_list form = do
  x ← argument form []
  xs ← further form (x ∷ [])
  pure (x ∷ xs)

unfoldable pub arguments : Form → Reader (List Argument)
arguments form = do
  token (codes "(")
  xs ← argument_list form
  trailing
  token (codes ")")
  pure xs

abbrev pub colon_argument : Form → Reader (List Argument)
colon_argument form = λ p.
    if has_colon form then (do
      token (codes ":")
      λ m. and_then (string m) (λ s. pure (argument_at None m (e.Literal s) ∷ []))) p
    else Err Syntax

abbrev pub attribute_as : Name → Reader Attribute
attribute_as n = λ p.
    if begins (codes ":") p then and_then (colon_argument (form_of n.text) p) (λ xs. pure (attribute_of n true xs))
    else (if begins (codes "(") p then and_then (arguments (form_of n.text) p) (λ xs. pure (attribute_of n false xs))
    else (if may_be_bare (form_of n.text) then Ok (attribute_of n false [], p) else Err Syntax))

unfoldable pub attribute : Reader Attribute
attribute = do
  n ← name
  attribute_as n

unfoldable pub further_attribute : Reader Attribute
further_attribute = token (codes ",") >> attribute

unfoldable pub attribute_list : Reader (List Attribute)
attribute_list = do
  x ← attribute
  xs ← many (begins (codes ",")) further_attribute
  pure (x ∷ xs)

unfoldable pub attribute_line : Reader (List Attribute)
attribute_line = do
  token (codes "[")
  xs ← attribute_list
  token (codes "]")
  c ← rest
  λ p. Ok (with_comment c xs, skip p)

unfoldable pub attributes : Reader (List Attribute)
attributes = do
  lines ← many (begins (codes "[")) attribute_line
  pure (concat_lines lines)

-- ---- recipes

unfoldable pub parameter_default : Reader (Option Expr)
parameter_default = λ p.
    if begins (codes "=") p then (do
      token (codes "=")
      x ← value (inner 256)
      pure (Some x)) p
    else Ok (None, p)

unfoldable pub parameter : ParameterKind → Reader AstParameter
parameter kind = do
  export ← maybe (codes "$")
  n ← name
  d ← parameter_default
  pure (record { kind = kind; export = export; name = n; default = d })

unfoldable pub variadic : Reader (Option AstParameter)
variadic = λ p.
    if begins (codes "*") p then (do
      token (codes "*")
      x ← parameter Star
      pure (Some x)) p
    else (if begins (codes "+") p then (do
      token (codes "+")
      x ← parameter Plus
      pure (Some x)) p
    else Ok (None, p))

unfoldable pub singular : Reader (List AstParameter)
singular = many begins_parameter (parameter Singular)

unfoldable pub parameters : Reader (List AstParameter)
parameters = do
  xs ← singular
  last ← variadic
  pure (xs ++ listed last)

abbrev pub is_open : Place → Bool
is_open p = not (begins (codes ")") p)

unfoldable pub dependency_values : Reader (List Expr)
dependency_values = many is_open expr

unfoldable pub dependency : Reader AstDependency
dependency = λ p.
    if begins (codes "(") p then (do
      token (codes "(")
      ns ← path
      xs ← dependency_values
      token (codes ")")
      pure (record { path = ns; grouped = true; arguments = xs })) p
    else (do
      ns ← path
      pure (record { path = ns; grouped = false; arguments = [] })) p

unfoldable pub dependencies : Reader (List AstDependency)
dependencies = many begins_dependency dependency

abbrev pub some_dependencies : Reader (List AstDependency)
some_dependencies = λ p. if begins_dependency p then dependencies p else Err Syntax

unfoldable pub subsequents : Reader (List AstDependency)
subsequents = λ p. if begins (codes "&&") p then (token (codes "&&") >> some_dependencies) p else Ok ([], p)

-- what stands behind the parameters of a recipe's line
abbrev pub behind_parameters : AstRecipe → Reader AstRecipe
behind_parameters r = do
  token (codes ":")
  a ← dependencies
  b ← subsequents
  c ← rest
  pure (record r { priors = a; subsequents = b; comment = c })

unfoldable pub recipe_line : List Attribute → Reader AstRecipe
recipe_line attributes = do
  quiet ← maybe (codes "@")
  n ← name
  ps ← parameters
  behind_parameters (record { attributes = attributes; quiet = quiet; name = n; parameters = ps; priors = []; subsequents = []; comment = None; body = [] })

-- ---- bodies

abbrev pub letter_of : Option ℕ → Reader (List ℕ)
letter_of None = refuse
letter_of (Some c) = λ p. Ok (c ∷ [], next p)

unfoldable pub letter : Reader (List ℕ)
letter = λ p. if begins (codes "{{{{") p then Ok (codes "{{", behind_text (codes "{{{{") p) else letter_of (first p) p

unfoldable pub text : Reader (List ℕ)
text = do
  letters ← many is_text letter
  pure (encode_utf8_all (concat letters))

abbrev pub closed : Expr → Reader Fragment
closed x = λ p. if begins (codes "}}") p then Ok (fragment.Value x, behind_text (codes "}}") p) else Err Syntax

unfoldable pub fragment_at : Reader Fragment
fragment_at = λ p.
    if opens p then (do
      token (codes "{{")
      x ← expr
      closed x) p
    else (do
      t ← text
      pure (fragment.Text t)) p

abbrev pub line_goes_on : Place → Bool
line_goes_on p = not (ends_line p)

unfoldable pub fragments : Reader (List Fragment)
fragments = many line_goes_on fragment_at

unfoldable pub body_line : List ℕ → Reader Line
body_line indentation = λ p. (do
  fs ← fragments
  newline
  pure (record { number = p.line; fragments = fs })) (behind_text indentation p)

-- ---- items

unfoldable pub alias : Reader AstItem
alias = do
  token (codes "alias")
  n ← name
  token (codes ":=")
  target ← path
  c ← rest
  pure (item.Alias n target c)

unfoldable pub import : Reader AstItem
import = do
  token (codes "import")
  optional ← maybe (codes "?")
  s ← string
  c ← rest
  pure (item.Import optional s c)

unfoldable pub module_path : Reader (Option StringLiteral)
module_path = λ p.
    if begins_string p then (do
      s ← string
      pure (Some s)) p
    else Ok (None, p)

unfoldable pub module_item : List Attribute → Reader AstItem
module_item attributes = do
  token (codes "mod")
  optional ← maybe (codes "?")
  n ← name
  s ← module_path
  c ← rest
  pure (item.Module attributes optional n s c)

unfoldable pub assignment : Bool → Reader AstItem
assignment export = do
  n ← name
  token (codes ":=")
  x ← expr
  c ← rest
  pure (item.Assignment export n x c)

unfoldable pub unexport : Reader AstItem
unexport = do
  token (codes "unexport")
  n ← name
  c ← rest
  pure (item.Unexport n c)

unfoldable pub truth : Reader Bool
truth = λ p. if is_word (codes "true") p then (word (codes "true") >> pure true) p else (word (codes "false") >> pure false) p

unfoldable pub further_string : Reader StringLiteral
further_string = token (codes ",") >> string

-- strings with commas between them, at least one
unfoldable pub string_list : Reader (List StringLiteral)
string_list = do
  s ← string
  others ← many goes_on_string further_string
  pure (s ∷ others)

-- these, and maybe a comma behind them; or nothing
unfoldable pub some_strings : Reader (List StringLiteral)
some_strings = λ p.
    if begins_string p then (do
      xs ← string_list
      trailing
      pure xs) p
    else Ok ([], p)

unfoldable pub strings : Reader (List StringLiteral)
strings = do
  token (codes "[")
  xs ← some_strings
  token (codes "]")
  pure xs

abbrev pub absent : Sort → Reader (Option SettingValue)
absent sort.Flag = pure None
absent sort.Text = refuse
absent sort.List = refuse
absent sort.Open = pure None

abbrev pub text_value : Reader SettingValue
text_value = expr >>= (λ x. pure (setting.Text x))

abbrev pub list_value : Reader SettingValue
list_value = strings >>= (λ xs. pure (setting.List xs))

abbrev pub open_value : Reader SettingValue
open_value = λ p. if begins (codes "[") p then list_value p else text_value p

abbrev pub value_of : Sort → Reader SettingValue
value_of sort.Flag = truth >>= (λ b. pure (setting.Bool b))
value_of sort.Text = text_value
value_of sort.List = list_value
value_of sort.Open = open_value

unfoldable pub setting_value : Sort → Reader (Option SettingValue)
setting_value s = λ p.
    if begins (codes ":=") p then (do
      token (codes ":=")
      x ← value_of s
      pure (Some x)) p
    else absent s p

unfoldable pub setting_item : Reader AstItem
setting_item = do
  token (codes "set")
  n ← name
  x ← setting_value (sort_of n.text)
  c ← rest
  pure (item.Setting n x c)

abbrev pub as_item : Reader AstItem → Reader Entry
as_item r = r >>= (λ x. pure (entry.Item x))

abbrev pub as_recipe : Reader AstRecipe → Reader Entry
as_recipe r = r >>= (λ x. pure (entry.Recipe x))

-- attributes, and what has them
unfoldable pub attributed : Reader Entry
attributed = attributes >>= (λ xs p. if opens_module p then as_item (module_item xs) p else as_recipe (recipe_line xs) p)

abbrev pub item_of : Opening → Reader Entry
item_of opening.Comment = comment >>= (λ t. pure (entry.Item (item.Comment t)))
item_of opening.Alias = as_item alias
item_of opening.Import = as_item import
item_of opening.Module = as_item (module_item [])
item_of opening.Export = token (codes "export") >> as_item (assignment true)
item_of opening.Assignment = as_item (assignment false)
item_of opening.Unexport = as_item unexport
item_of opening.Setting = as_item setting_item
item_of opening.Recipe = attributed

unfoldable pub item_at : Reader Entry
item_at = λ p. item_of (opening_at p) p

-- ---- entries

abbrev pub entry_item : Reader (Entry × Body)
entry_item = item_at >>= (λ x. pure (x, behind_item x))

abbrev pub line_or_item : List ℕ → Reader (Entry × Body)
line_or_item indentation = λ p.
    if is_body_line indentation p then and_then (body_line indentation p) (λ x. pure (entry.Line x, body.Open indentation)) else entry_item p

abbrev pub in_body : Option (List ℕ) → Reader (Entry × Body)
in_body None = entry_item
in_body (Some indentation) = line_or_item indentation

-- the entry at a place, where that body may go on, and the body behind it
unfoldable pub entry_at : Body → Reader (Entry × Body)
entry_at b = λ p.
    if is_blank_line p then (blank_line >> pure (entry.Blank p.line, behind_blank b)) p
    else in_body (indentation_at b p) p
