-- Items and entries of a text: each leads to the place behind it by some characters of the text.
use Rattle.std.proofs.Common.{ℕ, Bool, true, false, List, [], ◌∷◌, ◌++◌, Option, Some, None, codes}
use Rattle.just_lang_read.specs.Place.{Place, behind_text}
use Rattle.just_lang_syntax.specs.declared.ast.Name.{Name}
use Rattle.just_lang_syntax.specs.declared.ast.StringLiteral.{StringLiteral}
use Rattle.just_lang_syntax.specs.declared.ast.Expr.{Expr}
use Rattle.just_lang_syntax.specs.declared.ast.Argument.{Argument}
use Rattle.just_lang_syntax.specs.declared.ast.Attribute.{Attribute}
use Rattle.just_lang_syntax.specs.declared.ast.SettingValue.{SettingValue}
use Rattle.just_lang_syntax.specs.declared.ast.ParameterKind.{ParameterKind}
use Rattle.just_lang_syntax.specs.declared.ast.ParameterKind.TheVariants.{Singular, Plus, Star}
use Rattle.just_lang_syntax.specs.declared.ast.AstParameter.{AstParameter}
use Rattle.just_lang_syntax.specs.declared.ast.AstDependency.{AstDependency}
use Rattle.just_lang_syntax.specs.declared.ast.AstRecipe.{AstRecipe}
use Rattle.just_lang_syntax.specs.declared.ast.AstItem.{AstItem}
use Rattle.just_lang_syntax.specs.declared.ast.Fragment.{Fragment}
use Rattle.just_lang_syntax.specs.declared.ast.Line.{Line}
use Rattle.just_lang_syntax.specs.declared.entry.Entry.{Entry}
use Rattle.just_lang_syntax.specs.declared.entry.Body.{Body}
use Rattle.just_lang_syntax.specs.declared.form.Form.{Form}
use Rattle.just_lang_syntax.specs.declared.form.Sort.{Sort}
use Rattle.just_lang_syntax.specs.Forms.{form_of, sort_of}
use Rattle.just_lang_syntax.specs.Exprs.{IsInner}
use Rattle.just_lang_syntax.specs.Attributes.{behind_first, IsPlain, IsKey, IsOption, IsArgument, AreFurther, IsTrailing, AreArguments, IsAttribute, IsFurtherAttribute, IsAttributeLine, AreAttributes}
use Rattle.just_lang_syntax.specs.Attributes.IsKey.{key_sign}
use Rattle.just_lang_syntax.specs.Attributes.IsOption.{alone, valued, number}
use Rattle.just_lang_syntax.specs.Attributes.IsArgument.{text as plain_text, option, cached, any, any_key}
use Rattle.just_lang_syntax.specs.Attributes.IsTrailing.{comma, nothing}
use Rattle.just_lang_syntax.specs.Attributes.AreArguments.{in_parentheses}
use Rattle.just_lang_syntax.specs.Attributes.IsAttribute.{bare, behind_colon, grouped}
use Rattle.just_lang_syntax.specs.Attributes.IsAttributeLine.{in_brackets}
use Rattle.just_lang_syntax.specs.Attributes.AreAttributes.{line_by_line}
use Rattle.just_lang_syntax.specs.Recipes.{IsMaybe, IsDefault, IsParameter, IsSingular, IsVariadic, AreParameters, IsDependencyValue, IsDependency, AreDependencies, AreSubsequents, IsRecipeLine}
use Rattle.just_lang_syntax.specs.Recipes.IsMaybe.{here, not_here}
use Rattle.just_lang_syntax.specs.Recipes.IsDefault.{default, without}
use Rattle.just_lang_syntax.specs.Recipes.IsParameter.{parameter}
use Rattle.just_lang_syntax.specs.Recipes.IsVariadic.{star, plus, none as no_variadic}
use Rattle.just_lang_syntax.specs.Recipes.AreParameters.{parameters}
use Rattle.just_lang_syntax.specs.Recipes.IsDependency.{bare as bare_dependency, grouped as grouped_dependency}
use Rattle.just_lang_syntax.specs.Recipes.AreDependencies.{dependencies}
use Rattle.just_lang_syntax.specs.Recipes.AreSubsequents.{none as no_subsequents, some as some_subsequents}
use Rattle.just_lang_syntax.specs.Recipes.IsRecipeLine.{line as recipe_line}
use Rattle.just_lang_syntax.specs.Bodies.{IsLetter, IsFragment, IsBodyLine}
use Rattle.just_lang_syntax.specs.Bodies.IsLetter.{braces, itself}
use Rattle.just_lang_syntax.specs.Bodies.IsFragment.{text as text_fragment, value as value_fragment}
use Rattle.just_lang_syntax.specs.Bodies.IsBodyLine.{line as line_of_body}
use Rattle.just_lang_syntax.specs.Items.{IsTruth, IsFurtherString, AreStrings, IsSettingValue, IsAlias, IsImport, IsModulePath, IsModule, IsAssignment, IsUnexport, IsSetting, IsItem}
use Rattle.just_lang_syntax.specs.Items.IsTruth.{yes_word, no_word}
use Rattle.just_lang_syntax.specs.Items.AreStrings.{none as no_strings, some as some_strings}
use Rattle.just_lang_syntax.specs.Items.IsSettingValue.{absent as value_absent, flag as value_flag, text as value_text, list as value_list, any_text, any_list}
use Rattle.just_lang_syntax.specs.Items.IsModulePath.{path as path_behind_name, without as no_path_behind}
use Rattle.just_lang_syntax.specs.Items.IsItem.{comment as comment_item, alias as alias_item, import as import_item, module_alone, assignment as assignment_item, export as export_item, unexport as unexport_item, setting_item, attributed_module, recipe as recipe_item}
use Rattle.just_lang_syntax.specs.File.{IsEntry}
use Rattle.just_lang_syntax.specs.File.IsEntry.{blank, body_line, further as further_item}
use Rattle.just_search_load.proofs.Behind.{IsBehind, stays, ◌>>◌, next_behind, text_behind, many_behind, blanks_behind, token_behind, word_behind, name_behind, path_behind, newline_behind, blank_line_behind, comment_behind, rest_behind, string_behind, value_behind, inner_behind, expr_behind}

-- ---- attributes

plain_behind : (key : Option Name) (p q : Place) (x : Argument) → IsPlain key p q x → IsBehind p q
plain_behind key p q x (y, i, z) = expr_behind p q y i

key_behind : (p q : Place) (k : Name) → IsKey p q k → IsBehind p q
key_behind p q k (key_sign m i t) = name_behind p m k i >> token_behind (codes "=") m q t

option_behind : (earlier : List Argument) (p q : Place) (x : Argument) → IsOption earlier p q x → IsBehind p q
option_behind earlier p q x (alone k i b a n z) = name_behind p q k i
option_behind earlier p q x (valued m k i b f v) = key_behind p m k i >> plain_behind (Some k) m q x v
option_behind earlier p q x (number m k s digits i b f st means d z) = key_behind p m k i >> string_behind m q s st

argument_behind : (form : Form) (earlier : List Argument) (p q : Place) (x : Argument) → IsArgument form earlier p q x → IsBehind p q
argument_behind form earlier p q x (plain_text t v) = plain_behind None p q x v
argument_behind form earlier p q x (option f n o) = option_behind (behind_first earlier) p q x o
argument_behind form earlier p q x (cached m k f i b v) = key_behind p m k i >> plain_behind (Some k) m q x v
argument_behind form earlier p q x (any f n v) = plain_behind None p q x v
argument_behind form earlier p q x (any_key m k f i v) = key_behind p m k i >> plain_behind (Some k) m q x v

further_arguments_behind : (form : Form) (earlier : List Argument) (p q : Place) (xs : List Argument) → AreFurther form earlier p q xs → IsBehind p q
further_arguments_behind form earlier p q [] (n, e) = stays e
further_arguments_behind form earlier p q (x ∷ xs) (m, n, g, t, i, are) =
    token_behind (codes ",") p m t >> argument_behind form earlier m n x i >> further_arguments_behind form (earlier ++ x ∷ []) n q xs are

trailing_behind : (p q : Place) → IsTrailing p q → IsBehind p q
trailing_behind p q (comma t) = token_behind (codes ",") p q t
trailing_behind p q (nothing n e) = stays e

arguments_behind : (form : Form) (p q : Place) (xs : List Argument) → AreArguments form p q xs → IsBehind p q
arguments_behind form p q xs (in_parentheses m n o r first others a i are c b z) =
    token_behind (codes "(") p m a >> argument_behind form [] m n first i >> further_arguments_behind form (first ∷ []) n o others are >> trailing_behind o r c >> token_behind (codes ")") r q b

attribute_behind : (p q : Place) (x : Attribute) → IsAttribute p q x → IsBehind p q
attribute_behind p q x (bare n i b c d z) = name_behind p q n i
attribute_behind p q x (behind_colon m o n s i c t st z) = name_behind p m n i >> token_behind (codes ":") m o t >> string_behind o q s st
attribute_behind p q x (grouped m n xs i are z) = name_behind p m n i >> arguments_behind (form_of n.text) m q xs are

further_attribute_behind : (p q : Place) (x : Attribute) → IsFurtherAttribute p q x → IsBehind p q
further_attribute_behind p q x (m, t, i) = token_behind (codes ",") p m t >> attribute_behind m q x i

attribute_line_behind : (p q : Place) (xs : List Attribute) → IsAttributeLine p q xs → IsBehind p q
attribute_line_behind p q xs (in_brackets m n o r s first others c t i are u v e z) =
    token_behind (codes "[") p m t >> attribute_behind m n first i >> many_behind IsFurtherAttribute further_attribute_behind n o others are >> token_behind (codes "]") o r u >> rest_behind r s c v
    >> blanks_behind s >> stays e

-- behind the attributes in front of an item
pub attributes_behind : (p q : Place) (xs : List Attribute) → AreAttributes p q xs → IsBehind p q
attributes_behind p q xs (line_by_line lines are n z) = many_behind IsAttributeLine attribute_line_behind p q lines are

-- ---- recipes

maybe_behind : (mark : List ℕ) (p q : Place) (b : Bool) → IsMaybe mark p q b → IsBehind p q
maybe_behind mark p q b (here t z) = token_behind mark p q t
maybe_behind mark p q b (not_here n e z) = stays e

default_behind : (p q : Place) (x : Option Expr) → IsDefault p q x → IsBehind p q
default_behind p q x (default m y t i z) = token_behind (codes "=") p m t >> value_behind (IsInner 256) (inner_behind 256) m q y i
default_behind p q x (without n e z) = stays e

parameter_behind : (kind : ParameterKind) (p q : Place) (x : AstParameter) → IsParameter kind p q x → IsBehind p q
parameter_behind kind p q x (parameter m n export name d i j k z) = maybe_behind (codes "$") p m export i >> name_behind m n name j >> default_behind n q d k

singular_behind : (p q : Place) (x : AstParameter) → IsSingular p q x → IsBehind p q
singular_behind p q x (b, i) = parameter_behind Singular p q x i

variadic_behind : (p q : Place) (x : Option AstParameter) → IsVariadic p q x → IsBehind p q
variadic_behind p q x (star m y t i z) = token_behind (codes "*") p m t >> parameter_behind Star m q y i
variadic_behind p q x (plus m y t i z) = token_behind (codes "+") p m t >> parameter_behind Plus m q y i
variadic_behind p q x (no_variadic n o e z) = stays e

parameters_behind : (p q : Place) (xs : List AstParameter) → AreParameters p q xs → IsBehind p q
parameters_behind p q xs (parameters m ys several are done v z) = many_behind IsSingular singular_behind p m ys are >> variadic_behind m q several v

dependency_value_behind : (p q : Place) (x : Expr) → IsDependencyValue p q x → IsBehind p q
dependency_value_behind p q x (n, i) = expr_behind p q x i

dependency_behind : (p q : Place) (x : AstDependency) → IsDependency p q x → IsBehind p q
dependency_behind p q x (bare_dependency path i z) = path_behind p q path i
dependency_behind p q x (grouped_dependency m n o path xs t i are u z) =
    token_behind (codes "(") p m t >> path_behind m n path i >> many_behind IsDependencyValue dependency_value_behind n o xs are >> token_behind (codes ")") o q u

dependencies_behind : (p q : Place) (xs : List AstDependency) → AreDependencies p q xs → IsBehind p q
dependencies_behind p q xs (dependencies are done) = many_behind IsDependency dependency_behind p q xs are

subsequents_behind : (p q : Place) (xs : List AstDependency) → AreSubsequents p q xs → IsBehind p q
subsequents_behind p q xs (no_subsequents n e z) = stays e
subsequents_behind p q xs (some_subsequents m t b i) = token_behind (codes "&&") p m t >> dependencies_behind m q xs i

recipe_line_behind : (attributes : List Attribute) (p q : Place) (x : AstRecipe) → IsRecipeLine attributes p q x → IsBehind p q
recipe_line_behind attributes p q x (recipe_line m n o r s t quiet name ps a b c k i j u d g l z) =
    maybe_behind (codes "@") p m quiet k >> name_behind m n name i >> parameters_behind n o ps j >> token_behind (codes ":") o r u >> dependencies_behind r s a d >> subsequents_behind s t b g
    >> rest_behind t q c l

-- ---- lines of bodies

letter_behind : (p q : Place) (x : List ℕ) → IsLetter p q x → IsBehind p q
letter_behind p q x (braces t b e z) = text_behind (codes "{{{{") p >> stays e
letter_behind p q x (itself c t b f e z) = next_behind p >> stays e

fragment_behind : (p q : Place) (x : Fragment) → IsFragment p q x → IsBehind p q
fragment_behind p q x (text_fragment letters t are n z) = many_behind IsLetter letter_behind p q letters are
fragment_behind p q x (value_fragment m n y o t i b e z) = token_behind (codes "{{") p m t >> expr_behind m n y i >> text_behind (codes "}}") n >> stays e

body_line_behind : (indentation : List ℕ) (p q : Place) (x : Line) → IsBodyLine indentation p q x → IsBehind p q
body_line_behind indentation p q x (line_of_body m fragments h are e n z) =
    text_behind indentation p >> many_behind IsFragment fragment_behind (behind_text indentation p) m fragments are >> newline_behind m q n

-- ---- items that aren't recipes

alias_behind : (p q : Place) (x : AstItem) → IsAlias p q x → IsBehind p q
alias_behind p q x (m, n, o, r, name, target, c, a, i, t, ns, re, z) =
    token_behind (codes "alias") p m a >> name_behind m n name i >> token_behind (codes ":=") n o t >> path_behind o r target ns >> rest_behind r q c re

import_behind : (p q : Place) (x : AstItem) → IsImport p q x → IsBehind p q
import_behind p q x (m, n, o, optional, s, c, a, b, st, re, z) =
    token_behind (codes "import") p m a >> maybe_behind (codes "?") m n optional b >> string_behind n o s st >> rest_behind o q c re

module_path_behind : (p q : Place) (x : Option StringLiteral) → IsModulePath p q x → IsBehind p q
module_path_behind p q x (path_behind_name s i z) = string_behind p q s i
module_path_behind p q x (no_path_behind n e z) = stays e

module_behind : (attributes : List Attribute) (p q : Place) (x : AstItem) → IsModule attributes p q x → IsBehind p q
module_behind attributes p q x (m, n, o, r, optional, name, s, c, a, b, i, ps, re, z) =
    token_behind (codes "mod") p m a >> maybe_behind (codes "?") m n optional b >> name_behind n o name i >> module_path_behind o r s ps >> rest_behind r q c re

assignment_behind : (export : Bool) (p q : Place) (x : AstItem) → IsAssignment export p q x → IsBehind p q
assignment_behind export p q x (m, n, o, name, y, c, i, t, v, re, z) =
    name_behind p m name i >> token_behind (codes ":=") m n t >> expr_behind n o y v >> rest_behind o q c re

unexport_behind : (p q : Place) (x : AstItem) → IsUnexport p q x → IsBehind p q
unexport_behind p q x (m, n, name, c, a, i, re, z) = token_behind (codes "unexport") p m a >> name_behind m n name i >> rest_behind n q c re

truth_behind : (p q : Place) (x : Bool) → IsTruth p q x → IsBehind p q
truth_behind p q x (yes_word w z) = word_behind (codes "true") p q w
truth_behind p q x (no_word w z) = word_behind (codes "false") p q w

further_string_behind : (p q : Place) (x : StringLiteral) → IsFurtherString p q x → IsBehind p q
further_string_behind p q x (m, g, t, i) = token_behind (codes ",") p m t >> string_behind m q x i

strings_behind : (p q : Place) (xs : List StringLiteral) → AreStrings p q xs → IsBehind p q
strings_behind p q xs (no_strings m a b z) = token_behind (codes "[") p m a >> token_behind (codes "]") m q b
strings_behind p q xs (some_strings m n o r first others a i are d c b z) =
    token_behind (codes "[") p m a >> string_behind m n first i >> many_behind IsFurtherString further_string_behind n o others are >> trailing_behind o r c >> token_behind (codes "]") r q b

setting_value_behind : (kind : Sort) (p q : Place) (x : Option SettingValue) → IsSettingValue kind p q x → IsBehind p q
setting_value_behind kind p q x (value_absent n m b e z) = stays e
setting_value_behind kind p q x (value_flag m b k t i z) = token_behind (codes ":=") p m t >> truth_behind m q b i
setting_value_behind kind p q x (value_text m y k t i z) = token_behind (codes ":=") p m t >> expr_behind m q y i
setting_value_behind kind p q x (value_list m ys k t i z) = token_behind (codes ":=") p m t >> strings_behind m q ys i
setting_value_behind kind p q x (any_text m y k t b i z) = token_behind (codes ":=") p m t >> expr_behind m q y i
setting_value_behind kind p q x (any_list m ys k t i z) = token_behind (codes ":=") p m t >> strings_behind m q ys i

setting_behind : (p q : Place) (x : AstItem) → IsSetting p q x → IsBehind p q
setting_behind p q x (m, n, o, name, y, c, a, i, v, re, z) =
    token_behind (codes "set") p m a >> name_behind m n name i >> setting_value_behind (sort_of name.text) n o y v >> rest_behind o q c re

-- ---- items and entries

item_behind : (p q : Place) (x : Entry) → IsItem p q x → IsBehind p q
item_behind p q x (comment_item t e i z) = comment_behind p q t i
item_behind p q x (alias_item y e i z) = alias_behind p q y i
item_behind p q x (import_item y e i z) = import_behind p q y i
item_behind p q x (module_alone y e i z) = module_behind [] p q y i
item_behind p q x (assignment_item y e i z) = assignment_behind false p q y i
item_behind p q x (export_item m y e t i z) = token_behind (codes "export") p m t >> assignment_behind true m q y i
item_behind p q x (unexport_item y e i z) = unexport_behind p q y i
item_behind p q x (setting_item y e i z) = setting_behind p q y i
item_behind p q x (attributed_module m xs y e are b i z) = attributes_behind p m xs are >> module_behind xs m q y i
item_behind p q x (recipe_item m xs y e are b i z) = attributes_behind p m xs are >> recipe_line_behind xs m q y i

-- behind an entry
pub entry_behind : (b : Body) (p q : Place) (x : Entry) (c : Body) → IsEntry b p q x c → IsBehind p q
entry_behind b p q x c (blank i z w) = blank_line_behind p q i
entry_behind b p q x c (body_line indentation y n e i z w) = body_line_behind indentation p q y i
entry_behind b p q x c (further_item n m i w) = item_behind p q x i
