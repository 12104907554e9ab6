-- Where a text has scalar values alone, so has what is left of it behind an item.
use Rattle.std.proofs.Common.{ℕ, Bool, true, false, List, [], ◌∷◌, ◌++◌, codes, Option, Some, None}
use Rattle.just_lang_read.specs.Place.{Place, past, behind_text}
use Rattle.just_lang_syntax.specs.declared.ast.Name.{Name}
use Rattle.just_lang_syntax.specs.declared.ast.StringLiteral.{StringLiteral}
use Rattle.just_lang_syntax.specs.declared.ast.Expr.{Expr}
use Rattle.just_lang_syntax.specs.declared.ast.Argument.{Argument}
use Rattle.just_lang_syntax.specs.declared.ast.Attribute.{Attribute}
use Rattle.just_lang_syntax.specs.declared.ast.ParameterKind.{ParameterKind}
use Rattle.just_lang_syntax.specs.declared.ast.ParameterKind.TheVariants.{Singular, Plus, Star}
use Rattle.just_lang_syntax.specs.declared.ast.AstParameter.{AstParameter}
use Rattle.just_lang_syntax.specs.declared.ast.AstDependency.{AstDependency}
use Rattle.just_lang_syntax.specs.declared.ast.AstRecipe.{AstRecipe}
use Rattle.just_lang_syntax.specs.declared.ast.AstItem.{AstItem}
use Rattle.just_lang_syntax.specs.declared.ast.SettingValue.{SettingValue}
use Rattle.just_lang_syntax.specs.declared.entry.Entry.{Entry}
use Rattle.just_lang_syntax.specs.declared.form.Form.{Form}
use Rattle.just_lang_syntax.specs.declared.form.Sort.{Sort}
use Rattle.just_lang_read.specs.Characters.{is_blank, in_line}
use Rattle.just_lang_read.specs.Lines.{crlf, skip, IsNewline}
use Rattle.just_lang_syntax.specs.Places.{IsFurtherName, IsPath, IsComment, IsRest}
use Rattle.just_lang_syntax.specs.Places.IsPath.{names}
use Rattle.just_lang_read.specs.Lines.IsNewline.{last, feed, return_feed}
use Rattle.just_lang_syntax.specs.Places.IsRest.{ended, commented}
use Rattle.just_lang_syntax.specs.Exprs.{IsInner}
use Rattle.just_lang_syntax.specs.Attributes.{IsPlain, IsKey, IsOption, IsArgument, AreFurther, IsTrailing, AreArguments, IsAttribute, IsFurtherAttribute, IsAttributeLine, AreAttributes}
use Rattle.just_lang_syntax.specs.Attributes.IsKey.{key_sign}
use Rattle.just_lang_syntax.specs.Attributes.IsOption.{alone, valued, number}
use Rattle.just_lang_syntax.specs.Attributes.IsArgument.{text, option, cached, any, any_key}
use Rattle.just_lang_syntax.specs.Attributes.IsTrailing.{comma, nothing}
use Rattle.just_lang_syntax.specs.Attributes.AreArguments.{in_parentheses}
use Rattle.just_lang_syntax.specs.Attributes.IsAttributeLine.{in_brackets}
use Rattle.just_lang_syntax.specs.Attributes.AreAttributes.{line_by_line}
use Rattle.just_lang_syntax.specs.Recipes.{IsMaybe, IsDefault, IsParameter, IsVariadic, IsSingular, AreParameters, IsDependencyValue, IsDependency, AreDependencies, AreSubsequents, IsRecipeLine}
use Rattle.just_lang_syntax.specs.Recipes.IsMaybe.{here, not_here}
use Rattle.just_lang_syntax.specs.Recipes.IsDefault.{default, without}
use Rattle.just_lang_syntax.specs.Recipes.IsParameter.{parameter}
use Rattle.just_lang_syntax.specs.Recipes.AreParameters.{parameters}
use Rattle.just_lang_syntax.specs.Recipes.AreDependencies.{dependencies}
use Rattle.just_lang_syntax.specs.Recipes.IsRecipeLine.{line}
use Rattle.just_lang_syntax.specs.Items.{IsTruth, IsFurtherString, AreStrings, IsSettingValue, IsAlias, IsImport, IsModulePath, IsModule, IsAssignment, IsUnexport, IsSetting, IsItem}
use Rattle.just_lang_syntax.specs.Items.IsTruth.{yes_word, no_word}
use Rattle.just_lang_syntax.specs.Forms.{form_of, sort_of}
use Rattle.just_print.proofs.Scalars.{Keeps, text_keeps, past_keeps, same_keeps, character_keeps, token_keeps, word_keeps, name_keeps, many_keep, string_keeps, value_keeps, inner_keeps, expr_keeps}

-- ---- paths and the ends of lines

further_name_keeps : (p q : Place) (x : Name) → IsFurtherName p q x → Keeps p q
further_name_keeps p q x (m, t, i) s = name_keeps m q x i (token_keeps (codes "::") p m t s)

path_keeps : (p q : Place) (xs : List Name) → IsPath p q xs → Keeps p q
path_keeps p q xs (names m x others i are n z) s = many_keep IsFurtherName further_name_keeps m q others are (name_keeps p m x i s)

-- behind the end of a line
pub newline_keeps : (p q : Place) → IsNewline p q → Keeps p q
newline_keeps p q (last e z) s = same_keeps p q p z (λ t. t) s
newline_keeps p q (feed i) s = character_keeps 10 p q i s
newline_keeps p q (return_feed b z) s = same_keeps p q (behind_text crlf p) z (text_keeps crlf p) s

comment_keeps : (p q : Place) (x : List ℕ) → IsComment p q x → Keeps p q
comment_keeps p q x (h, z, n) s = newline_keeps (past in_line p) q n (past_keeps in_line p s)

rest_keeps : (p q : Place) (x : Option (List ℕ)) → IsRest p q x → Keeps p q
rest_keeps p q x (ended n z) s = newline_keeps p q n s
rest_keeps p q x (commented c i z) s = comment_keeps p q c i s

maybe_keeps : (mark : List ℕ) (p q : Place) (x : Bool) → IsMaybe mark p q x → Keeps p q
maybe_keeps mark p q x (here t z) s = token_keeps mark p q t s
maybe_keeps mark p q x (not_here b e z) s = same_keeps p q p e (λ t. t) s

-- ---- attributes

plain_keeps : (key : Option Name) (p q : Place) (x : Argument) → IsPlain key p q x → Keeps p q
plain_keeps key p q x (y, i, z) s = expr_keeps p q y i s

key_keeps : (p q : Place) (x : Name) → IsKey p q x → Keeps p q
key_keeps p q x (key_sign m i t) s = token_keeps (codes "=") m q t (name_keeps p m x i s)

option_keeps : (earlier : List Argument) (p q : Place) (x : Argument) → IsOption earlier p q x → Keeps p q
option_keeps earlier p q x (alone k i m a n z) s = name_keeps p q k i s
option_keeps earlier p q x (valued m k i h t l) s = plain_keeps (Some k) m q x l (key_keeps p m k i s)
option_keeps earlier p q x (number m k c t i h f l u d z) s = string_keeps m q c l (key_keeps p m k i s)

argument_keeps : (form : Form) (earlier : List Argument) (p q : Place) (x : Argument) → IsArgument form earlier p q x → Keeps p q
argument_keeps form earlier p q x (text t i) s = plain_keeps None p q x i s
argument_keeps form earlier p q x (option f b i) s = option_keeps _ p q x i s
argument_keeps form earlier p q x (cached m k f i h l) s = plain_keeps (Some k) m q x l (key_keeps p m k i s)
argument_keeps form earlier p q x (any f n i) s = plain_keeps None p q x i s
argument_keeps form earlier p q x (any_key m k f i l) s = plain_keeps (Some k) m q x l (key_keeps p m k i s)

further_keeps : (form : Form) (earlier : List Argument) (p q : Place) (xs : List Argument) → AreFurther form earlier p q xs → Keeps p q
further_keeps form earlier p q [] (n, e) s = same_keeps p q p e (λ t. t) s
further_keeps form earlier p q (x ∷ xs) (m, n, g, t, i, are) s =
    further_keeps form (earlier ++ x ∷ []) n q xs are (argument_keeps form earlier m n x i (token_keeps (codes ",") p m t s))

trailing_keeps : (p q : Place) → IsTrailing p q → Keeps p q
trailing_keeps p q (comma t) s = token_keeps (codes ",") p q t s
trailing_keeps p q (nothing b e) s = same_keeps p q p e (λ t. t) s

arguments_keep : (form : Form) (p q : Place) (xs : List Argument) → AreArguments form p q xs → Keeps p q
arguments_keep form p q xs (in_parentheses m n o r x others t i are c u z) s =
    token_keeps (codes ")") r q u (trailing_keeps o r c (further_keeps form (x ∷ []) n o others are (argument_keeps form [] m n x i (token_keeps (codes "(") p m t s))))

attribute_keeps : (p q : Place) (x : Attribute) → IsAttribute p q x → Keeps p q
attribute_keeps p q x (IsAttribute.bare n i b c g z) s = name_keeps p q n i s
attribute_keeps p q x (IsAttribute.behind_colon m o n c i h t j z) s = string_keeps o q c j (token_keeps (codes ":") m o t (name_keeps p m n i s))
attribute_keeps p q x (IsAttribute.grouped m n xs i are z) s = arguments_keep (form_of n.text) m q xs are (name_keeps p m n i s)

further_attribute_keeps : (p q : Place) (x : Attribute) → IsFurtherAttribute p q x → Keeps p q
further_attribute_keeps p q x (m, t, i) s = attribute_keeps m q x i (token_keeps (codes ",") p m t s)

attribute_line_keeps : (p q : Place) (xs : List Attribute) → IsAttributeLine p q xs → Keeps p q
attribute_line_keeps p q xs (in_brackets m n o r e x others c t i are u w z v) s =
    same_keeps p q (skip e) z (λ k. past_keeps is_blank e (rest_keeps r e c w (token_keeps (codes "]") o r u
    (many_keep IsFurtherAttribute further_attribute_keeps n o others are (attribute_keeps m n x i (token_keeps (codes "[") p m t k)))))) s

attributes_keep : (p q : Place) (xs : List Attribute) → AreAttributes p q xs → Keeps p q
attributes_keep p q xs (line_by_line lines are n z) s = many_keep IsAttributeLine attribute_line_keeps p q lines are s

-- ---- recipes

default_keeps : (p q : Place) (x : Option Expr) → IsDefault p q x → Keeps p q
default_keeps p q x (default m y t i z) s = value_keeps (IsInner 256) (inner_keeps 256) m q y i (token_keeps (codes "=") p m t s)
default_keeps p q x (without b e z) s = same_keeps p q p e (λ t. t) s

parameter_keeps : (kind : ParameterKind) (p q : Place) (x : AstParameter) → IsParameter kind p q x → Keeps p q
parameter_keeps kind p q x (parameter m n b k d i j l z) s = default_keeps n q d l (name_keeps m n k j (maybe_keeps (codes "$") p m b i s))

variadic_keeps : (p q : Place) (x : Option AstParameter) → IsVariadic p q x → Keeps p q
variadic_keeps p q x (IsVariadic.star m y t i z) s = parameter_keeps Star m q y i (token_keeps (codes "*") p m t s)
variadic_keeps p q x (IsVariadic.plus m y t i z) s = parameter_keeps Plus m q y i (token_keeps (codes "+") p m t s)
variadic_keeps p q x (IsVariadic.none b c e z) s = same_keeps p q p e (λ t. t) s

singular_keeps : (p q : Place) (x : AstParameter) → IsSingular p q x → Keeps p q
singular_keeps p q x (b, i) s = parameter_keeps Singular p q x i s

parameters_keep : (p q : Place) (xs : List AstParameter) → AreParameters p q xs → Keeps p q
parameters_keep p q xs (parameters m ys y are b v z) s = variadic_keeps m q y v (many_keep IsSingular singular_keeps p m ys are s)

dependency_value_keeps : (p q : Place) (x : Expr) → IsDependencyValue p q x → Keeps p q
dependency_value_keeps p q x (n, i) s = expr_keeps p q x i s

dependency_keeps : (p q : Place) (x : AstDependency) → IsDependency p q x → Keeps p q
dependency_keeps p q x (IsDependency.bare path i z) s = path_keeps p q path i s
dependency_keeps p q x (IsDependency.grouped m n o path xs t i are u z) s =
    token_keeps (codes ")") o q u (many_keep IsDependencyValue dependency_value_keeps n o xs are (path_keeps m n path i (token_keeps (codes "(") p m t s)))

dependencies_keep : (p q : Place) (xs : List AstDependency) → AreDependencies p q xs → Keeps p q
dependencies_keep p q xs (dependencies are n) s = many_keep IsDependency dependency_keeps p q xs are s

subsequents_keep : (p q : Place) (xs : List AstDependency) → AreSubsequents p q xs → Keeps p q
subsequents_keep p q xs (AreSubsequents.none b e z) s = same_keeps p q p e (λ t. t) s
subsequents_keep p q xs (AreSubsequents.some m t b i) s = dependencies_keep m q xs i (token_keeps (codes "&&") p m t s)

recipe_line_keeps : (attributes : List Attribute) (p q : Place) (x : AstRecipe) → IsRecipeLine attributes p q x → Keeps p q
recipe_line_keeps attributes p q x (line m n o r e t b k xs ys zs c i j l u d v w z) s =
    rest_keeps t q c w (subsequents_keep e t zs v (dependencies_keep r e ys d (token_keeps (codes ":") o r u
    (parameters_keep n o xs l (name_keeps m n k j (maybe_keeps (codes "@") p m b i s))))))

-- ---- settings

truth_keeps : (p q : Place) (x : Bool) → IsTruth p q x → Keeps p q
truth_keeps p q x (yes_word w z) s = word_keeps (codes "true") p q w s
truth_keeps p q x (no_word w z) s = word_keeps (codes "false") p q w s

further_string_keeps : (p q : Place) (x : StringLiteral) → IsFurtherString p q x → Keeps p q
further_string_keeps p q x (m, g, t, i) s = string_keeps m q x i (token_keeps (codes ",") p m t s)

strings_keep : (p q : Place) (xs : List StringLiteral) → AreStrings p q xs → Keeps p q
strings_keep p q xs (AreStrings.none m t u z) s = token_keeps (codes "]") m q u (token_keeps (codes "[") p m t s)
strings_keep p q xs (AreStrings.some m n o r x others t i are g c u z) s =
    token_keeps (codes "]") r q u (trailing_keeps o r c (many_keep IsFurtherString further_string_keeps n o others are (string_keeps m n x i (token_keeps (codes "[") p m t s))))

setting_value_keeps : (kind : Sort) (p q : Place) (x : Option SettingValue) → IsSettingValue kind p q x → Keeps p q
setting_value_keeps kind p q x (IsSettingValue.absent a b n e z) s = same_keeps p q p e (λ t. t) s
setting_value_keeps kind p q x (IsSettingValue.flag m b k t i z) s = truth_keeps m q b i (token_keeps (codes ":=") p m t s)
setting_value_keeps kind p q x (IsSettingValue.text m y k t i z) s = expr_keeps m q y i (token_keeps (codes ":=") p m t s)
setting_value_keeps kind p q x (IsSettingValue.list m ys k t i z) s = strings_keep m q ys i (token_keeps (codes ":=") p m t s)
setting_value_keeps kind p q x (IsSettingValue.any_text m y k t b i z) s = expr_keeps m q y i (token_keeps (codes ":=") p m t s)
setting_value_keeps kind p q x (IsSettingValue.any_list m ys k t i z) s = strings_keep m q ys i (token_keeps (codes ":=") p m t s)

-- ---- items

alias_keeps : (p q : Place) (x : AstItem) → IsAlias p q x → Keeps p q
alias_keeps p q x (m, n, o, r, name, target, c, t, k, u, i, w, z) s =
    rest_keeps r q c w (path_keeps o r target i (token_keeps (codes ":=") n o u (name_keeps m n name k (token_keeps (codes "alias") p m t s))))

import_keeps : (p q : Place) (x : AstItem) → IsImport p q x → Keeps p q
import_keeps p q x (m, n, o, b, path, c, t, k, i, w, z) s =
    rest_keeps o q c w (string_keeps n o path i (maybe_keeps (codes "?") m n b k (token_keeps (codes "import") p m t s)))

module_path_keeps : (p q : Place) (x : Option StringLiteral) → IsModulePath p q x → Keeps p q
module_path_keeps p q x (IsModulePath.path c i z) s = string_keeps p q c i s
module_path_keeps p q x (IsModulePath.without n e z) s = same_keeps p q p e (λ t. t) s

module_keeps : (attributes : List Attribute) (p q : Place) (x : AstItem) → IsModule attributes p q x → Keeps p q
module_keeps attributes p q x (m, n, o, r, b, name, path, c, t, k, u, i, w, z) s =
    rest_keeps r q c w (module_path_keeps o r path i (name_keeps n o name u (maybe_keeps (codes "?") m n b k (token_keeps (codes "mod") p m t s))))

assignment_keeps : (exported : Bool) (p q : Place) (x : AstItem) → IsAssignment exported p q x → Keeps p q
assignment_keeps exported p q x (m, n, o, name, y, c, k, u, i, w, z) s =
    rest_keeps o q c w (expr_keeps n o y i (token_keeps (codes ":=") m n u (name_keeps p m name k s)))

unexport_keeps : (p q : Place) (x : AstItem) → IsUnexport p q x → Keeps p q
unexport_keeps p q x (m, n, name, c, t, k, w, z) s = rest_keeps n q c w (name_keeps m n name k (token_keeps (codes "unexport") p m t s))

setting_keeps : (p q : Place) (x : AstItem) → IsSetting p q x → Keeps p q
setting_keeps p q x (m, n, o, name, y, c, t, k, i, w, z) s =
    rest_keeps o q c w (setting_value_keeps (sort_of name.text) n o y i (name_keeps m n name k (token_keeps (codes "set") p m t s)))

-- behind an item, or the line of a recipe
pub item_keeps : (p q : Place) (x : Entry) → IsItem p q x → Keeps p q
item_keeps p q x (IsItem.comment c o i z) s = comment_keeps p q c i s
item_keeps p q x (IsItem.alias y o i z) s = alias_keeps p q y i s
item_keeps p q x (IsItem.import y o i z) s = import_keeps p q y i s
item_keeps p q x (IsItem.module_alone y o i z) s = module_keeps [] p q y i s
item_keeps p q x (IsItem.assignment y o i z) s = assignment_keeps false p q y i s
item_keeps p q x (IsItem.export m y o t i z) s = assignment_keeps true m q y i (token_keeps (codes "export") p m t s)
item_keeps p q x (IsItem.unexport y o i z) s = unexport_keeps p q y i s
item_keeps p q x (IsItem.setting_item y o i z) s = setting_keeps p q y i s
item_keeps p q x (IsItem.attributed_module m xs y o are b i z) s = module_keeps xs m q y i (attributes_keep p m xs are s)
item_keeps p q x (IsItem.recipe m xs y o are b i z) s = recipe_line_keeps xs m q y i (attributes_keep p m xs are s)
