-- Items take characters.
use Rattle.std.proofs.Common.{◌<◌, ◌≤◌, Bool, true, false, List, [], ◌∷◌, length, Option, codes, arith}
use Rattle.just_lang_read.specs.Place.{Place}
use Rattle.just_lang_syntax.specs.declared.ast.StringLiteral.{StringLiteral}
use Rattle.just_lang_syntax.specs.declared.ast.Attribute.{Attribute}
use Rattle.just_lang_syntax.specs.declared.ast.SettingValue.{SettingValue}
use Rattle.just_lang_syntax.specs.declared.ast.AstItem.{AstItem}
use Rattle.just_lang_syntax.specs.declared.entry.Entry.{Entry}
use Rattle.just_lang_syntax.specs.declared.form.Sort.{Sort}
use Rattle.just_lang_syntax.specs.Forms.{sort_of}
use Rattle.just_lang_syntax.specs.Items.{IsTruth, IsFurtherString, AreStrings, IsSettingValue, IsAlias, IsImport, IsModulePath, IsModule, IsAssignment, IsUnexport, IsSetting, IsItem}
use Rattle.just_lang_syntax.specs.Items.IsTruth.{yes_word, no_word}
use Rattle.just_lang_syntax.specs.Items.AreStrings.{none as no_strings, some as some_strings}
use Rattle.just_lang_syntax.specs.Items.IsSettingValue.{absent as value_absent, flag as value_flag, text as value_text, list as value_list, any_text, any_list}
use Rattle.just_lang_syntax.specs.Items.IsModulePath.{path as path_behind, without as no_path_behind}
use Rattle.just_lang_syntax.specs.Items.IsItem.{comment as comment_item, alias as alias_item, import as import_item, module_alone, assignment as assignment_item, export as export_item, unexport as unexport_item, setting_item, attributed_module, recipe as recipe_item}
use Rattle.just_lang_syntax.proofs.Tokens.{token_lt, word_lt}
use Rattle.just_lang_syntax.proofs.LineLaws.{behind_maybe, behind_trailing, behind_path, behind_comment, behind_rest}
use Rattle.just_lang_syntax.proofs.StringLaws.{string_lt}
use Rattle.just_lang_syntax.proofs.ExprShorter.{name_lt}
use Rattle.just_lang_syntax.proofs.PathLoop.{are_le}
use Rattle.just_lang_syntax.proofs.Shorter.{behind_expr}
use Rattle.just_lang_syntax.proofs.AttributeShorter.{behind_attributes}
use Rattle.just_lang_syntax.proofs.RecipeShorter.{behind_recipe_line}

-- ---- items that aren't recipes

-- an alias takes a character
alias_lt : (p q : Place) (x : AstItem) → IsAlias p q x → length q.rest < length p.rest
alias_lt p q x (m, n, o, r, name, target, c, a, i, t, ns, re, z) =
    omega (arith, token_lt 97 (108 ∷ 105 ∷ 97 ∷ 115 ∷ []) p m a, name_lt m n name i, token_lt 58 (61 ∷ []) n o t, behind_path o r target ns, behind_rest r q c re)

-- an import takes a character
import_lt : (p q : Place) (x : AstItem) → IsImport p q x → length q.rest < length p.rest
import_lt p q x (m, n, o, optional, s, c, a, b, st, re, z) =
    omega (arith, token_lt 105 (109 ∷ 112 ∷ 111 ∷ 114 ∷ 116 ∷ []) p m a, behind_maybe (codes "?") m n optional b, string_lt n o s st, behind_rest o q c re)

-- the string behind a module's name takes nothing back
module_path_le : (p q : Place) (x : Option StringLiteral) → IsModulePath p q x → length q.rest ≤ length p.rest
module_path_le p q x (path_behind s i z) = omega (arith, string_lt p q s i)
module_path_le p q x (no_path_behind n e z) = rw e (omega arith)

-- a module takes a character
module_lt : (attributes : List Attribute) (p q : Place) (x : AstItem) → IsModule attributes p q x → length q.rest < length p.rest
module_lt attributes p q x (m, n, o, r, optional, name, s, c, a, b, i, ps, re, z) =
    omega (arith, token_lt 109 (111 ∷ 100 ∷ []) p m a, behind_maybe (codes "?") m n optional b, name_lt n o name i, module_path_le o r s ps, behind_rest r q c re)

-- an assignment takes a character
assignment_lt : (export : Bool) (p q : Place) (x : AstItem) → IsAssignment export p q x → length q.rest < length p.rest
assignment_lt export p q x (m, n, o, name, y, c, i, t, v, re, z) =
    omega (arith, name_lt p m name i, token_lt 58 (61 ∷ []) m n t, behind_expr n o y v, behind_rest o q c re)

-- an `unexport` takes a character
unexport_lt : (p q : Place) (x : AstItem) → IsUnexport p q x → length q.rest < length p.rest
unexport_lt p q x (m, n, name, c, a, i, re, z) =
    omega (arith, token_lt 117 (110 ∷ 101 ∷ 120 ∷ 112 ∷ 111 ∷ 114 ∷ 116 ∷ []) p m a, name_lt m n name i, behind_rest n q c re)

-- ---- settings

-- `true` and `false` take a character
truth_lt : (p q : Place) (x : Bool) → IsTruth p q x → length q.rest < length p.rest
truth_lt p q x (yes_word w z) = word_lt 116 (114 ∷ 117 ∷ 101 ∷ []) p q w
truth_lt p q x (no_word w z) = word_lt 102 (97 ∷ 108 ∷ 115 ∷ 101 ∷ []) p q w

-- a comma and a further string take a character
further_string_lt : (p q : Place) (x : StringLiteral) → IsFurtherString p q x → length q.rest < length p.rest
further_string_lt p q x (m, g, t, i) = omega (arith, token_lt 44 [] p m t, string_lt m q x i)

-- strings in brackets take a character
strings_lt : (p q : Place) (xs : List StringLiteral) → AreStrings p q xs → length q.rest < length p.rest
strings_lt p q xs (no_strings m a b z) = omega (arith, token_lt 91 [] p m a, token_lt 93 [] m q b)
strings_lt p q xs (some_strings m n o r first others a i are d c b z) =
    omega (arith, token_lt 91 [] p m a, string_lt m n first i, are_le IsFurtherString further_string_lt n o others are, behind_trailing o r c, token_lt 93 [] r q b)

-- what stands behind a setting's name takes nothing back
setting_value_le : (kind : Sort) (p q : Place) (x : Option SettingValue) → IsSettingValue kind p q x → length q.rest ≤ length p.rest
setting_value_le kind p q x (value_absent n m b e z) = rw e (omega arith)
setting_value_le kind p q x (value_flag m b k t i z) = omega (arith, token_lt 58 (61 ∷ []) p m t, truth_lt m q b i)
setting_value_le kind p q x (value_text m y k t i z) = omega (arith, token_lt 58 (61 ∷ []) p m t, behind_expr m q y i)
setting_value_le kind p q x (value_list m ys k t i z) = omega (arith, token_lt 58 (61 ∷ []) p m t, strings_lt m q ys i)
setting_value_le kind p q x (any_text m y k t b i z) = omega (arith, token_lt 58 (61 ∷ []) p m t, behind_expr m q y i)
setting_value_le kind p q x (any_list m ys k t i z) = omega (arith, token_lt 58 (61 ∷ []) p m t, strings_lt m q ys i)

-- a setting takes a character
setting_lt : (p q : Place) (x : AstItem) → IsSetting p q x → length q.rest < length p.rest
setting_lt p q x (m, n, o, name, y, c, a, i, v, re, z) =
    omega (arith, token_lt 115 (101 ∷ 116 ∷ []) p m a, name_lt m n name i, setting_value_le (sort_of name.text) n o y v, behind_rest o q c re)

-- ---- items

-- an item, or the line of a recipe, takes a character
pub item_takes : (p q : Place) (x : Entry) → IsItem p q x → length q.rest < length p.rest
item_takes p q x (comment_item t e i z) = behind_comment p q t i
item_takes p q x (alias_item y e i z) = alias_lt p q y i
item_takes p q x (import_item y e i z) = import_lt p q y i
item_takes p q x (module_alone y e i z) = module_lt [] p q y i
item_takes p q x (assignment_item y e i z) = assignment_lt false p q y i
item_takes p q x (export_item m y e t i z) = omega (arith, token_lt 101 (120 ∷ 112 ∷ 111 ∷ 114 ∷ 116 ∷ []) p m t, assignment_lt true m q y i)
item_takes p q x (unexport_item y e i z) = unexport_lt p q y i
item_takes p q x (setting_item y e i z) = setting_lt p q y i
item_takes p q x (attributed_module m xs y e are b i z) = omega (arith, behind_attributes p m xs are, module_lt xs m q y i)
item_takes p q x (recipe_item m xs y e are b i z) =
    omega (arith, behind_attributes p m xs are, behind_recipe_line xs m q y i)
