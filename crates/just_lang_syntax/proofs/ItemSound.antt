-- Items: what the code reads is what the grammar says.
use Rattle.std.proofs.Common.{◌≡◌, Bool, true, false, ◌&&◌, ◌||◌, if◌then◌else◌, List, [], ◌∷◌, Option, Some, None, Ok, codes, refl, sym, ap, ◌∙◌, subst, ⊎_elim}
use Rattle.just_lang_read.specs.Place.{Place, AreMany, sees, begins}
use Rattle.just_lang_read.specs.Reader.{Outcome, and_then, pure, many}
use Rattle.just_lang_read.proofs.Laws.{bind_ok, choose, ok_value, ok_place, many_ok}
use Rattle.just_lang_syntax.specs.declared.ast.StringLiteral.{StringLiteral}
use Rattle.just_lang_syntax.specs.declared.ast.Expr.{Expr}
use Rattle.just_lang_syntax.specs.declared.ast.Attribute.{Attribute}
use Rattle.just_lang_syntax.specs.declared.ast.SettingValue.{SettingValue}
use Rattle.just_lang_syntax.specs.declared.ast.SettingValue.TheVariants as value
use Rattle.just_lang_syntax.specs.declared.ast.AstItem.{AstItem}
use Rattle.just_lang_syntax.specs.declared.ast.AstItem.TheVariants as tree
use Rattle.just_lang_syntax.specs.declared.entry.Entry.{Entry}
use Rattle.just_lang_syntax.specs.declared.entry.Entry.TheVariants as entry
use Rattle.just_lang_syntax.specs.declared.form.Sort.{Sort}
use Rattle.just_lang_syntax.specs.declared.form.Sort.TheVariants as sort
use Rattle.just_lang_syntax.specs.declared.item.Opening.{Opening}
use Rattle.just_lang_syntax.specs.declared.item.Opening.TheVariants as opening
use Rattle.just_lang_read.specs.Lines.{is_word, behind_word, IsToken, IsWord}
use Rattle.just_lang_syntax.specs.Places.{IsComment, IsRest}
use Rattle.just_lang_read.specs.Quotes.{begins_string}
use Rattle.just_lang_syntax.specs.Strings.{IsString}
use Rattle.just_lang_syntax.specs.Exprs.{IsExpr}
use Rattle.just_lang_syntax.specs.Forms.{sort_of}
use Rattle.just_lang_syntax.specs.Attributes.{IsTrailing, AreAttributes}
use Rattle.just_lang_syntax.specs.Recipes.{IsRecipeLine}
use Rattle.just_lang_syntax.specs.Items.{opening_at, is_assignment, is_last_name, is_module, opens_module, goes_on, IsTruth, IsFurtherString, AreStrings, IsSettingValue, IsAlias, IsImport, IsModulePath, IsModule, IsAssignment, IsUnexport, IsSetting, IsItem}
use Rattle.just_lang_syntax.specs.Items.IsTruth.{yes_word, no_word}
use Rattle.just_lang_syntax.specs.Items.AreStrings.{none as no_strings, some as some_strings}
use Rattle.just_lang_syntax.specs.Items.IsSettingValue.{absent as value_absent, flag as value_flag, text as value_text, list as value_list, any_text, any_list}
use Rattle.just_lang_syntax.specs.Items.IsModulePath.{path as path_behind, without as no_path_behind}
use Rattle.just_lang_syntax.specs.Items.IsItem.{comment as comment_item, alias as alias_item, import as import_item, module_alone, assignment as assignment_item, export as export_item, unexport as unexport_item, setting_item, attributed_module, recipe as recipe_item}
use Rattle.just_lang_syntax.specs.ItemReaders as item
use Rattle.just_lang_syntax.specs.Readers as reader
use Rattle.just_lang_read.specs.Tokens as tokens
use Rattle.just_lang_syntax.proofs.Tokens.{token_ok, word_ok, name_ok}
use Rattle.just_lang_syntax.proofs.LineLaws.{maybe_ok, trailing_ok, path_ok, comment_ok, rest_ok}
use Rattle.just_lang_syntax.proofs.StringLaws.{string_ok}
use Rattle.just_lang_syntax.proofs.ExprComplete.{expr_ok}
use Rattle.just_lang_syntax.proofs.AttributeSound.{attributes_ok}
use Rattle.just_lang_syntax.proofs.RecipeSound.{recipe_line_ok}

-- ---- items that aren't recipes

-- an alias that is read stands there
alias_ok : (p q : Place) (x : AstItem) → item.alias p ≡ Ok (x, q) → IsAlias p q x
unfolding item.alias
alias_ok p q x h =
    let (u, m, h1, k1) = bind_ok (tokens.token (codes "alias") p) _ x q h in
    let (name, n, h2, k2) = bind_ok (reader.name m) _ x q k1 in
    let (v, o, h3, k3) = bind_ok (tokens.token (codes ":=") n) _ x q k2 in
    let (target, r, h4, k4) = bind_ok (reader.path o) _ x q k3 in
    let (c, s, h5, k5) = bind_ok (reader.rest r) _ x q k4 in (
      m,
      n,
      o,
      r,
      name,
      target,
      c,
      token_ok (codes "alias") p u m h1,
      name_ok m name n h2,
      token_ok (codes ":=") n v o h3,
      path_ok o r target h4,
      subst (λ (l : Place). IsRest r l c) (ok_place (tree.Alias name target c) x s q k5) (rest_ok r s c h5),
      sym (ok_value (tree.Alias name target c) x s q k5),
    )

-- an import that is read stands there
import_ok : (p q : Place) (x : AstItem) → item.import p ≡ Ok (x, q) → IsImport p q x
unfolding item.import
import_ok p q x h =
    let (u, m, h1, k1) = bind_ok (tokens.token (codes "import") p) _ x q h in
    let (optional, n, h2, k2) = bind_ok (tokens.maybe (codes "?") m) _ x q k1 in
    let (t, o, h3, k3) = bind_ok (reader.string n) _ x q k2 in
    let (c, s, h4, k4) = bind_ok (reader.rest o) _ x q k3 in (
      m,
      n,
      o,
      optional,
      t,
      c,
      token_ok (codes "import") p u m h1,
      maybe_ok (codes "?") m n optional h2,
      string_ok n o t h3,
      subst (λ (l : Place). IsRest o l c) (ok_place (tree.Import optional t c) x s q k4) (rest_ok o s c h4),
      sym (ok_value (tree.Import optional t c) x s q k4),
    )

-- a string that is read behind a module's name stands there, and none does where none is read
module_path_ok : (p q : Place) (x : Option StringLiteral) → item.module_path p ≡ Ok (x, q) → IsModulePath p q x
unfolding item.module_path
module_path_ok p q x h =
    ⊎_elim
    (λ (s : _).
    let (t, m, h1, k1) = bind_ok (reader.string p) (λ t. pure (Some t)) x q s.1 in
    path_behind t (subst (λ (r : Place). IsString p r t) (ok_place (Some t) x m q k1) (string_ok p m t h1)) (sym (ok_value (Some t) x m q k1)))
    (λ (s : _). no_path_behind s.0 (sym (ok_place None x p q s.1)) (sym (ok_value None x p q s.1)))
    (choose (begins_string p) (and_then (reader.string p) (λ t. pure (Some t))) (Ok (None, p)) (Ok (x, q)) h)

-- a module that is read stands there
module_ok : (attributes : List Attribute) (p q : Place) (x : AstItem) → item.module_item attributes p ≡ Ok (x, q) → IsModule attributes p q x
unfolding item.module_item
module_ok attributes p q x h =
    let (u, m, h1, k1) = bind_ok (tokens.token (codes "mod") p) _ x q h in
    let (optional, n, h2, k2) = bind_ok (tokens.maybe (codes "?") m) _ x q k1 in
    let (name, o, h3, k3) = bind_ok (reader.name n) _ x q k2 in
    let (t, r, h4, k4) = bind_ok (item.module_path o) _ x q k3 in
    let (c, s, h5, k5) = bind_ok (reader.rest r) _ x q k4 in (
      m,
      n,
      o,
      r,
      optional,
      name,
      t,
      c,
      token_ok (codes "mod") p u m h1,
      maybe_ok (codes "?") m n optional h2,
      name_ok n name o h3,
      module_path_ok o r t h4,
      subst (λ (l : Place). IsRest r l c) (ok_place (tree.Module attributes optional name t c) x s q k5) (rest_ok r s c h5),
      sym (ok_value (tree.Module attributes optional name t c) x s q k5),
    )

-- an assignment that is read stands there
assignment_ok : (export : Bool) (p q : Place) (x : AstItem) → item.assignment export p ≡ Ok (x, q) → IsAssignment export p q x
unfolding item.assignment
assignment_ok export p q x h =
    let (name, m, h1, k1) = bind_ok (reader.name p) _ x q h in
    let (u, n, h2, k2) = bind_ok (tokens.token (codes ":=") m) _ x q k1 in
    let (y, o, h3, k3) = bind_ok (item.expr n) _ x q k2 in
    let (c, s, h4, k4) = bind_ok (reader.rest o) _ x q k3 in (
      m,
      n,
      o,
      name,
      y,
      c,
      name_ok p name m h1,
      token_ok (codes ":=") m u n h2,
      expr_ok n o y h3,
      subst (λ (l : Place). IsRest o l c) (ok_place (tree.Assignment export name y c) x s q k4) (rest_ok o s c h4),
      sym (ok_value (tree.Assignment export name y c) x s q k4),
    )

-- an `unexport` that is read stands there
unexport_ok : (p q : Place) (x : AstItem) → item.unexport p ≡ Ok (x, q) → IsUnexport p q x
unfolding item.unexport
unexport_ok p q x h =
    let (u, m, h1, k1) = bind_ok (tokens.token (codes "unexport") p) _ x q h in
    let (name, n, h2, k2) = bind_ok (reader.name m) _ x q k1 in
    let (c, s, h3, k3) = bind_ok (reader.rest n) _ x q k2 in (
      m,
      n,
      name,
      c,
      token_ok (codes "unexport") p u m h1,
      name_ok m name n h2,
      subst (λ (l : Place). IsRest n l c) (ok_place (tree.Unexport name c) x s q k3) (rest_ok n s c h3),
      sym (ok_value (tree.Unexport name c) x s q k3),
    )

-- ---- settings

-- `true` or `false` that is read stands there
truth_ok : (p q : Place) (x : Bool) → item.truth p ≡ Ok (x, q) → IsTruth p q x
unfolding item.truth
truth_ok p q x h =
    ⊎_elim
    (λ (s : _).
    let (u, m, h1, k1) = bind_ok (tokens.word (codes "true") p) (λ _. pure true) x q s.1 in
    yes_word (subst (λ (r : Place). IsWord (codes "true") p r) (ok_place true x m q k1) (word_ok (codes "true") p u m h1)) (sym (ok_value true x m q k1)))
    (λ (s : _).
    let (u, m, h1, k1) = bind_ok (tokens.word (codes "false") p) (λ _. pure false) x q s.1 in
    no_word (subst (λ (r : Place). IsWord (codes "false") p r) (ok_place false x m q k1) (word_ok (codes "false") p u m h1)) (sym (ok_value false x m q k1)))
    (choose (is_word (codes "true") p) (and_then (tokens.word (codes "true") p) (λ _. pure true)) (and_then (tokens.word (codes "false") p) (λ _. pure false)) (Ok (x, q)) h)

-- a comma and a string that are read stand there
further_string_ok : (p q : Place) (x : StringLiteral) → goes_on p ≡ true → item.further_string p ≡ Ok (x, q) → IsFurtherString p q x
unfolding item.further_string
further_string_ok p q x g h =
    let (u, m, h1, k1) = bind_ok (tokens.token (codes ",") p) (λ _. reader.string) x q h in
    (m, g, token_ok (codes ",") p u m h1, string_ok m q x k1)

-- strings that are read between brackets stand there with these
some_strings_ok : (p m n q : Place) (xs : List StringLiteral) → IsToken (codes "[") p m → item.some_strings m ≡ Ok (xs, n) → IsToken (codes "]") n q → AreStrings p q xs
unfolding item.some_strings item.string_list
some_strings_ok p m n q xs a h b =
    ⊎_elim
    (λ (s : _).
    let (ys, o, h1, k1) = bind_ok (item.string_list m) (λ ys o. and_then (item.trailing o) (λ _. pure ys)) xs n s.1 in
    let (u, r, h2, k2) = bind_ok (item.trailing o) (λ _. pure ys) xs n k1 in
    let (t, l, h3, k3) = bind_ok (reader.string m) (λ t l. and_then (many goes_on item.further_string l) (λ zs. pure (t ∷ zs))) ys o h1 in
    let (zs, i, h4, k4) = bind_ok (many goes_on item.further_string l) (λ zs. pure (t ∷ zs)) ys o k3 in
    let (are, done) = many_ok goes_on item.further_string IsFurtherString further_string_ok l i zs h4 in
    let end : i ≡ o = ok_place (t ∷ zs) ys i o k4 in
    some_strings m l o n t zs a (string_ok m l t h3) (subst (λ (w : Place). AreMany IsFurtherString l w zs) end are) (subst (λ (w : Place). goes_on w ≡ false) end done)
    (subst (λ (w : Place). IsTrailing o w) (ok_place ys xs r n k2) (trailing_ok o r u h2)) b (sym (ok_value (t ∷ zs) ys i o k4 ∙ ok_value ys xs r n k2)))
    (λ (s : _). no_strings m a (subst (λ (w : Place). IsToken (codes "]") w q) (sym (ok_place [] xs m n s.1)) b) (sym (ok_value [] xs m n s.1)))
    (choose (begins_string m) (and_then (item.string_list m) (λ ys o. and_then (item.trailing o) (λ _. pure ys))) (Ok ([], m)) (Ok (xs, n)) h)

-- strings in brackets that are read stand there
strings_ok : (p q : Place) (xs : List StringLiteral) → item.strings p ≡ Ok (xs, q) → AreStrings p q xs
unfolding item.strings
strings_ok p q xs h =
    let (u, m, h1, k1) = bind_ok (tokens.token (codes "[") p) _ xs q h in
    let (ys, n, h2, k2) = bind_ok (item.some_strings m) _ xs q k1 in
    let (v, o, h3, k3) = bind_ok (tokens.token (codes "]") n) _ xs q k2 in
    subst (λ (zs : List StringLiteral). AreStrings p q zs) (ok_value ys xs o q k3)
    (some_strings_ok p m n q ys (token_ok (codes "[") p u m h1) h2 (subst (λ (w : Place). IsToken (codes "]") n w) (ok_place ys xs o q k3) (token_ok (codes "]") n v o h3)))

-- a text that is read behind `:=` stands there
text_value_ok : (m q : Place) (x : SettingValue) → item.text_value m ≡ Ok (x, q) → (y : Expr) × IsExpr m q y × (Some x ≡ Some (value.Text y))
text_value_ok m q x h =
    let (y, n, h1, k1) = bind_ok (item.expr m) (λ y. pure (value.Text y)) x q h in
    (y, subst (λ (r : Place). IsExpr m r y) (ok_place (value.Text y) x n q k1) (expr_ok m n y h1), ap Some (sym (ok_value (value.Text y) x n q k1)))

-- so does a list of strings
list_value_ok : (m q : Place) (x : SettingValue) → item.list_value m ≡ Ok (x, q) → (ys : List StringLiteral) × AreStrings m q ys × (Some x ≡ Some (value.List ys))
list_value_ok m q x h =
    let (ys, n, h1, k1) = bind_ok (item.strings m) (λ ys. pure (value.List ys)) x q h in
    (ys, subst (λ (r : Place). AreStrings m r ys) (ok_place (value.List ys) x n q k1) (strings_ok m n ys h1), ap Some (sym (ok_value (value.List ys) x n q k1)))

-- a value that is read behind `:=` is one of a setting of the sort
value_of_ok : (kind : Sort) (p m q : Place) (x : SettingValue) → IsToken (codes ":=") p m → item.value_of kind m ≡ Ok (x, q) → IsSettingValue kind p q (Some x)
value_of_ok sort.Flag p m q x t h =
    let (b, n, h1, k1) = bind_ok (item.truth m) (λ b. pure (value.Bool b)) x q h in
    value_flag m b refl t (subst (λ (r : Place). IsTruth m r b) (ok_place (value.Bool b) x n q k1) (truth_ok m n b h1)) (ap Some (sym (ok_value (value.Bool b) x n q k1)))
value_of_ok sort.Text p m q x t h = let (y, i, z) = text_value_ok m q x h in value_text m y refl t i z
value_of_ok sort.List p m q x t h = let (ys, i, z) = list_value_ok m q x h in value_list m ys refl t i z
value_of_ok sort.Open p m q x t h =
    ⊎_elim (λ (s : _). let (ys, i, z) = list_value_ok m q x s.1 in any_list m ys refl t i z)
    (λ (s : _). let (y, i, z) = text_value_ok m q x s.1 in any_text m y refl t s.0 i z)
    (choose (begins (codes "[") m) (item.list_value m) (item.text_value m) (Ok (x, q)) h)

-- where no value is read a setting of the sort may have none
absent_ok : (kind : Sort) (p q : Place) (x : Option SettingValue) → begins (codes ":=") p ≡ false → item.absent kind p ≡ Ok (x, q) → IsSettingValue kind p q x
absent_ok sort.Flag p q x b h =
    value_absent (λ e. let no : ⊥ = cc (e) in no) (λ e. let no : ⊥ = cc (e) in no) b (sym (ok_place None x p q h)) (sym (ok_value None x p q h))
absent_ok sort.Text p q x b h = absurd (let no : ⊥ = cc (h) in no)
absent_ok sort.List p q x b h = absurd (let no : ⊥ = cc (h) in no)
absent_ok sort.Open p q x b h =
    value_absent (λ e. let no : ⊥ = cc (e) in no) (λ e. let no : ⊥ = cc (e) in no) b (sym (ok_place None x p q h)) (sym (ok_value None x p q h))

-- what is read behind a setting's name stands there
setting_value_ok : (kind : Sort) (p q : Place) (x : Option SettingValue) → item.setting_value kind p ≡ Ok (x, q) → IsSettingValue kind p q x
unfolding item.setting_value
setting_value_ok kind p q x h =
    ⊎_elim
    (λ (s : _).
    let (u, m, h1, k1) = bind_ok (tokens.token (codes ":=") p) (λ _ m. and_then (item.value_of kind m) (λ y. pure (Some y))) x q s.1 in
    let (y, n, h2, k2) = bind_ok (item.value_of kind m) (λ y. pure (Some y)) x q k1 in
    subst (λ (z : Option SettingValue). IsSettingValue kind p q z) (ok_value (Some y) x n q k2)
    (subst (λ (r : Place). IsSettingValue kind p r (Some y)) (ok_place (Some y) x n q k2) (value_of_ok kind p m n y (token_ok (codes ":=") p u m h1) h2)))
    (λ (s : _). absent_ok kind p q x s.0 s.1)
    (choose (begins (codes ":=") p) (and_then (tokens.token (codes ":=") p) (λ _ m. and_then (item.value_of kind m) (λ y. pure (Some y)))) (item.absent kind p) (Ok (x, q)) h)

-- a setting that is read stands there
setting_ok : (p q : Place) (x : AstItem) → item.setting_item p ≡ Ok (x, q) → IsSetting p q x
unfolding item.setting_item
setting_ok p q x h =
    let (u, m, h1, k1) = bind_ok (tokens.token (codes "set") p) _ x q h in
    let (name, n, h2, k2) = bind_ok (reader.name m) _ x q k1 in
    let (y, o, h3, k3) = bind_ok (item.setting_value (sort_of name.text) n) _ x q k2 in
    let (c, s, h4, k4) = bind_ok (reader.rest o) _ x q k3 in (
      m,
      n,
      o,
      name,
      y,
      c,
      token_ok (codes "set") p u m h1,
      name_ok m name n h2,
      setting_value_ok (sort_of name.text) n o y h3,
      subst (λ (l : Place). IsRest o l c) (ok_place (tree.Setting name y c) x s q k4) (rest_ok o s c h4),
      sym (ok_value (tree.Setting name y c) x s q k4),
    )

-- ---- which item begins

-- of two openings that are no comment neither is
no_comment_if : (b : Bool) (x y : Opening) → (x ≡ opening.Comment → ⊥) → (y ≡ opening.Comment → ⊥) → (if b then x else y) ≡ opening.Comment → ⊥
no_comment_if true x y n m h = n h
no_comment_if false x y n m h = m h

-- where an opening is a comment, and the other way is none, the test holds
comment_if : (b : Bool) (y : Opening) → (y ≡ opening.Comment → ⊥) → (if b then opening.Comment else y) ≡ opening.Comment → b ≡ true
comment_if true y n h = refl
comment_if false y n h = absurd (n h)

-- a comment begins with `#`
comment_sees : (p : Place) → opening_at p ≡ opening.Comment → sees 35 p ≡ true
comment_sees p h =
    comment_if (sees 35 p) _
    (no_comment_if (is_assignment p) opening.Assignment _ (λ e. let no : ⊥ = cc (e) in no)
    (no_comment_if (is_word (codes "alias") p && is_assignment (behind_word p)) opening.Alias _ (λ e. let no : ⊥ = cc (e) in no)
    (no_comment_if (is_word (codes "export") p && is_assignment (behind_word p)) opening.Export _ (λ e. let no : ⊥ = cc (e) in no)
    (no_comment_if (is_word (codes "unexport") p && is_last_name (behind_word p)) opening.Unexport _ (λ e. let no : ⊥ = cc (e) in no)
    (no_comment_if (is_word (codes "import") p && (begins (codes "?") (behind_word p) || begins_string (behind_word p))) opening.Import _ (λ e. let no : ⊥ = cc (e) in no)
    (no_comment_if (is_word (codes "mod") p && is_module (behind_word p)) opening.Module _ (λ e. let no : ⊥ = cc (e) in no)
    (no_comment_if (is_word (codes "set") p && (is_assignment (behind_word p) || is_last_name (behind_word p))) opening.Setting opening.Recipe
    (λ e. let no : ⊥ = cc (e) in no) (λ e. let no : ⊥ = cc (e) in no)))))))) h

-- ---- items

-- an item that a reader of items reads, and where it ends
as_item_ok : (o : Outcome AstItem) (q : Place) (x : Entry) → and_then o (λ y. pure (entry.Item y)) ≡ Ok (x, q) → (y : AstItem) × (o ≡ Ok (y, q)) × (x ≡ entry.Item y)
as_item_ok o q x h =
    let (y, m, h1, k1) = bind_ok o (λ y. pure (entry.Item y)) x q h in
    (y, subst (λ (w : Place). o ≡ Ok (y, w)) (ok_place (entry.Item y) x m q k1) h1, sym (ok_value (entry.Item y) x m q k1))

-- a module or a recipe line that is read behind its attributes stands there
attributed_ok : (p q : Place) (x : Entry) → opening_at p ≡ opening.Recipe → item.attributed p ≡ Ok (x, q) → IsItem p q x
unfolding item.attributed
attributed_ok p q x e h =
    let (xs, m, h1, k1) = bind_ok (item.attributes p)
    (λ xs m. if opens_module m then and_then (item.module_item xs m) (λ y. pure (entry.Item y)) else and_then (item.recipe_line xs m) (λ y. pure (entry.Recipe y))) x q h in
    let are : AreAttributes p m xs = attributes_ok p m xs h1 in
    ⊎_elim (λ (s : _). let (y, h2, z) = as_item_ok (item.module_item xs m) q x s.1 in attributed_module m xs y e are s.0 (module_ok xs m q y h2) z)
    (λ (s : _).
    let (y, n, h2, k2) = bind_ok (item.recipe_line xs m) (λ y. pure (entry.Recipe y)) x q s.1 in
    recipe_item m xs y e are s.0 (subst (λ (r : Place). IsRecipeLine xs m r y) (ok_place (entry.Recipe y) x n q k2) (recipe_line_ok xs m n y h2))
    (sym (ok_value (entry.Recipe y) x n q k2)))
    (choose (opens_module m) (and_then (item.module_item xs m) (λ y. pure (entry.Item y))) (and_then (item.recipe_line xs m) (λ y. pure (entry.Recipe y))) (Ok (x, q)) k1)

-- an item that is read by what it begins with stands there
item_of_ok : (o : Opening) (p q : Place) (x : Entry) → opening_at p ≡ o → item.item_of o p ≡ Ok (x, q) → IsItem p q x
item_of_ok opening.Comment p q x e h =
    let (t, m, h1, k1) = bind_ok (reader.comment p) (λ t. pure (entry.Item (tree.Comment t))) x q h in
    comment_item t e (subst (λ (r : Place). IsComment p r t) (ok_place (entry.Item (tree.Comment t)) x m q k1) (comment_ok p m t (comment_sees p e) h1))
    (sym (ok_value (entry.Item (tree.Comment t)) x m q k1))
item_of_ok opening.Alias p q x e h = let (y, k, z) = as_item_ok (item.alias p) q x h in alias_item y e (alias_ok p q y k) z
item_of_ok opening.Import p q x e h = let (y, k, z) = as_item_ok (item.import p) q x h in import_item y e (import_ok p q y k) z
item_of_ok opening.Module p q x e h = let (y, k, z) = as_item_ok (item.module_item [] p) q x h in module_alone y e (module_ok [] p q y k) z
item_of_ok opening.Export p q x e h =
    let (u, m, h1, k1) = bind_ok (tokens.token (codes "export") p) (λ _ m. and_then (item.assignment true m) (λ y. pure (entry.Item y))) x q h in
    let (y, k, z) = as_item_ok (item.assignment true m) q x k1 in
    export_item m y e (token_ok (codes "export") p u m h1) (assignment_ok true m q y k) z
item_of_ok opening.Assignment p q x e h = let (y, k, z) = as_item_ok (item.assignment false p) q x h in assignment_item y e (assignment_ok false p q y k) z
item_of_ok opening.Unexport p q x e h = let (y, k, z) = as_item_ok (item.unexport p) q x h in unexport_item y e (unexport_ok p q y k) z
item_of_ok opening.Setting p q x e h = let (y, k, z) = as_item_ok (item.setting_item p) q x h in setting_item y e (setting_ok p q y k) z
item_of_ok opening.Recipe p q x e h = attributed_ok p q x e h

-- an item, or the line of a recipe, that is read stands there
pub item_ok : (p q : Place) (x : Entry) → item.item_at p ≡ Ok (x, q) → IsItem p q x
unfolding item.item_at
item_ok p q x h = item_of_ok (opening_at p) p q x refl h
