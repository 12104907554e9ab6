-- Items: what the grammar says is read.
use Rattle.std.proofs.Common.{◌≡◌, Bool, true, false, List, [], ◌∷◌, Option, None, Ok, codes, refl}
use Rattle.just_lang_read.specs.Place.{Place, begins}
use Rattle.just_lang_read.proofs.Laws.{many_again}
use Rattle.just_lang_syntax.specs.declared.ast.StringLiteral.{StringLiteral}
use Rattle.just_lang_syntax.specs.declared.ast.Attribute.{Attribute}
use Rattle.just_lang_syntax.specs.declared.ast.SettingValue.{SettingValue}
use Rattle.just_lang_syntax.specs.declared.ast.AstItem.{AstItem}
use Rattle.just_lang_syntax.specs.declared.entry.Entry.{Entry}
use Rattle.just_lang_syntax.specs.declared.form.Sort.{Sort}
use Rattle.just_lang_syntax.specs.declared.form.Sort.TheVariants as sort
use Rattle.just_lang_syntax.specs.Forms.{sort_of}
use Rattle.just_lang_syntax.specs.Items.{goes_on, IsTruth, IsFurtherString, AreStrings, IsSettingValue, IsAlias, IsImport, IsModulePath, IsModule, IsAssignment, IsUnexport, IsSetting, IsItem}
use Rattle.just_lang_syntax.specs.Items.IsTruth.{yes_word, no_word}
use Rattle.just_lang_syntax.specs.Items.AreStrings.{none as no_strings, some as some_strings}
use Rattle.just_lang_syntax.specs.Items.IsSettingValue.{absent as value_absent, flag as value_flag, text as value_text, list as value_list, any_text, any_list}
use Rattle.just_lang_syntax.specs.Items.IsModulePath.{path as path_behind, without as no_path_behind}
use Rattle.just_lang_syntax.specs.Items.IsItem.{comment as comment_item, alias as alias_item, import as import_item, module_alone, assignment as assignment_item, export as export_item, unexport as unexport_item, setting_item, attributed_module, recipe as recipe_item}
use Rattle.just_lang_syntax.specs.ItemReaders as item
use Rattle.just_lang_read.proofs.Laws.{begins_first, begins_other}
use Rattle.just_lang_syntax.proofs.Beginnings.{no_string, word_begins}
use Rattle.just_lang_syntax.proofs.Tokens.{token_again, word_again, name_again}
use Rattle.just_lang_syntax.proofs.LineLaws.{maybe_again, trailing_again, path_again, comment_again, rest_again}
use Rattle.just_lang_syntax.proofs.StringLaws.{string_again, string_begins}
use Rattle.just_lang_syntax.proofs.ExprComplete.{expr_again}
use Rattle.just_lang_syntax.proofs.AttributeComplete.{attributes_again}
use Rattle.just_lang_syntax.proofs.AttributeLoops.{strings_shorter}
use Rattle.just_lang_syntax.proofs.RecipeComplete.{recipe_line_again}

-- ---- items that aren't recipes

-- an alias that stands there is read
alias_again : (p q : Place) (x : AstItem) → IsAlias p q x → item.alias p ≡ Ok (x, q)
unfolding item.alias
alias_again p q x (m, n, o, r, name, target, c, a, i, t, ns, re, z) =
    rw (token_again (codes "alias") p m a, name_again m n name i, token_again (codes ":=") n o t, path_again o r target ns, rest_again r q c re, z) refl

-- an import that stands there is read
import_again : (p q : Place) (x : AstItem) → IsImport p q x → item.import p ≡ Ok (x, q)
unfolding item.import
import_again p q x (m, n, o, optional, s, c, a, b, st, re, z) =
    rw (token_again (codes "import") p m a, maybe_again (codes "?") m n optional b, string_again n o s st, rest_again o q c re, z) refl

-- the string behind a module's name is read
module_path_again : (p q : Place) (x : Option StringLiteral) → IsModulePath p q x → item.module_path p ≡ Ok (x, q)
unfolding item.module_path
module_path_again p q x (path_behind s i z) = rw (string_begins p q s i, string_again p q s i, z) refl
module_path_again p q x (no_path_behind n e z) = rw (n, e, z) refl

-- a module that stands there is read
module_again : (attributes : List Attribute) (p q : Place) (x : AstItem) → IsModule attributes p q x → item.module_item attributes p ≡ Ok (x, q)
unfolding item.module_item
module_again attributes p q x (m, n, o, r, optional, name, s, c, a, b, i, ps, re, z) =
    rw (token_again (codes "mod") p m a, maybe_again (codes "?") m n optional b, name_again n o name i, module_path_again o r s ps, rest_again r q c re, z) refl

-- an assignment that stands there is read
assignment_again : (export : Bool) (p q : Place) (x : AstItem) → IsAssignment export p q x → item.assignment export p ≡ Ok (x, q)
unfolding item.assignment
assignment_again export p q x (m, n, o, name, y, c, i, t, v, re, z) =
    rw (name_again p m name i, token_again (codes ":=") m n t, expr_again n o y v, rest_again o q c re, z) refl

-- an `unexport` that stands there is read
unexport_again : (p q : Place) (x : AstItem) → IsUnexport p q x → item.unexport p ≡ Ok (x, q)
unfolding item.unexport
unexport_again p q x (m, n, name, c, a, i, re, z) =
    rw (token_again (codes "unexport") p m a, name_again m n name i, rest_again n q c re, z) refl

-- ---- settings

-- `true` or `false` that stands there is read
truth_again : (p q : Place) (x : Bool) → IsTruth p q x → item.truth p ≡ Ok (x, q)
unfolding item.truth
truth_again p q x (yes_word w z) = rw (w.0, word_again (codes "true") p q w, z) refl
truth_again p q x (no_word w z) =
    rw (
      begins_other 102 116 (114 ∷ 117 ∷ 101 ∷ []) p (begins_first 102 (97 ∷ 108 ∷ 115 ∷ 101 ∷ []) p (word_begins (codes "false") p q w)) refl,
      word_again (codes "false") p q w,
      z,
    ) refl

-- a comma and a string that stand there are read
further_string_again : (p q : Place) (x : StringLiteral) → IsFurtherString p q x → (goes_on p ≡ true) × (item.further_string p ≡ Ok (x, q))
unfolding item.further_string
further_string_again p q x (m, g, t, i) = (g, rw (token_again (codes ",") p m t) (string_again m q x i))

-- strings in brackets that stand there are read
strings_again : (p q : Place) (xs : List StringLiteral) → AreStrings p q xs → item.strings p ≡ Ok (xs, q)
unfolding item.strings item.some_strings item.string_list
strings_again p q xs (no_strings m a b z) =
    rw (token_again (codes "[") p m a, no_string 93 [] m b.0 refl refl, token_again (codes "]") m q b, z) refl
strings_again p q xs (some_strings m n o r first others a i are d c b z) =
    rw (
      token_again (codes "[") p m a,
      string_begins m n first i,
      string_again m n first i,
      many_again goes_on item.further_string strings_shorter IsFurtherString further_string_again n o others are d,
      trailing_again o r c,
      token_again (codes "]") r q b,
      z,
    ) refl

-- strings in brackets begin with a bracket
strings_begin : (p q : Place) (xs : List StringLiteral) → AreStrings p q xs → begins (codes "[") p ≡ true
strings_begin p q xs (no_strings m a b z) = a.0
strings_begin p q xs (some_strings m n o r first others a i are d c b z) = a.0

-- a setting of a sort that may have no value is read without one
absent_again : (kind : Sort) (p : Place) → (kind ≡ sort.Text → ⊥) → (kind ≡ sort.List → ⊥) → item.absent kind p ≡ Ok (None, p)
absent_again sort.Flag p n m = refl
absent_again sort.Text p n m = absurd (n refl)
absent_again sort.List p n m = absurd (m refl)
absent_again sort.Open p n m = refl

-- what stands behind a setting's name is read
setting_value_again : (kind : Sort) (p q : Place) (x : Option SettingValue) → IsSettingValue kind p q x → item.setting_value kind p ≡ Ok (x, q)
unfolding item.setting_value
setting_value_again kind p q x (value_absent n m b e z) = rw (b, absent_again kind p n m, e, z) refl
setting_value_again kind p q x (value_flag m b k t i z) = rw (k, t.0, token_again (codes ":=") p m t, truth_again m q b i, z) refl
setting_value_again kind p q x (value_text m y k t i z) = rw (k, t.0, token_again (codes ":=") p m t, expr_again m q y i, z) refl
setting_value_again kind p q x (value_list m ys k t i z) = rw (k, t.0, token_again (codes ":=") p m t, strings_again m q ys i, z) refl
setting_value_again kind p q x (any_text m y k t b i z) = rw (k, t.0, token_again (codes ":=") p m t, b, expr_again m q y i, z) refl
setting_value_again kind p q x (any_list m ys k t i z) =
    rw (k, t.0, token_again (codes ":=") p m t, strings_begin m q ys i, strings_again m q ys i, z) refl

-- a setting that stands there is read
setting_again : (p q : Place) (x : AstItem) → IsSetting p q x → item.setting_item p ≡ Ok (x, q)
unfolding item.setting_item
setting_again p q x (m, n, o, name, y, c, a, i, v, re, z) =
    rw (token_again (codes "set") p m a, name_again m n name i, setting_value_again (sort_of name.text) n o y v, rest_again o q c re, z) refl

-- ---- items

-- an item, or the line of a recipe, that stands there is read
pub item_again : (p q : Place) (x : Entry) → IsItem p q x → item.item_at p ≡ Ok (x, q)
unfolding item.item_at item.attributed
item_again p q x (comment_item t e i z) = rw (e, comment_again p q t i, z) refl
item_again p q x (alias_item y e i z) = rw (e, alias_again p q y i, z) refl
item_again p q x (import_item y e i z) = rw (e, import_again p q y i, z) refl
item_again p q x (module_alone y e i z) = rw (e, module_again [] p q y i, z) refl
item_again p q x (assignment_item y e i z) = rw (e, assignment_again false p q y i, z) refl
item_again p q x (export_item m y e t i z) = rw (e, token_again (codes "export") p m t, assignment_again true m q y i, z) refl
item_again p q x (unexport_item y e i z) = rw (e, unexport_again p q y i, z) refl
item_again p q x (setting_item y e i z) = rw (e, setting_again p q y i, z) refl
item_again p q x (attributed_module m xs y e are b i z) = rw (e, attributes_again p m xs are, b, module_again xs m q y i, z) refl
item_again p q x (recipe_item m xs y e are b i z) = rw (e, attributes_again p m xs are, b, recipe_line_again xs m q y i, z) refl
