-- Items: which one begins at a place, and what each is.
use Rattle.std.specs.Prelude.{◌≡◌, ℕ, Bool, true, false, ◌&&◌, ◌||◌, if◌then◌else◌, List, [], ◌∷◌, Option, Some, None, codes}
use Rattle.just_lang_read.specs.Place.{Place, AreMany, next, starts, sees, begins}
use Rattle.just_lang_syntax.specs.declared.ast.Name.{Name}
use Rattle.just_lang_syntax.specs.declared.ast.StringLiteral.{StringLiteral}
use Rattle.just_lang_syntax.specs.declared.ast.Expr.{Expr}
use Rattle.just_lang_syntax.specs.declared.ast.Attribute.{Attribute}
use Rattle.just_lang_syntax.specs.declared.ast.SettingValue.{SettingValue}
use Rattle.just_lang_syntax.specs.declared.ast.SettingValue.TheVariants as setting
use Rattle.just_lang_syntax.specs.declared.ast.AstRecipe.{AstRecipe}
use Rattle.just_lang_syntax.specs.declared.ast.AstItem.{AstItem}
use Rattle.just_lang_syntax.specs.declared.ast.AstItem.TheVariants as item
use Rattle.just_lang_syntax.specs.declared.entry.Entry.{Entry}
use Rattle.just_lang_syntax.specs.declared.entry.Entry.TheVariants as entry
use Rattle.just_lang_syntax.specs.declared.form.Sort.{Sort}
use Rattle.just_lang_syntax.specs.declared.form.Sort.TheVariants as sort
use Rattle.just_lang_syntax.specs.declared.item.Opening.{Opening}
use Rattle.just_lang_syntax.specs.declared.item.Opening.TheVariants as opening
use Rattle.just_lang_read.specs.Characters.{begins_name}
use Rattle.just_lang_read.specs.Lines.{skip, is_word, behind_word, is_rest, IsToken, IsWord}
use Rattle.just_lang_syntax.specs.Places.{IsName, IsPath, IsComment, IsRest}
use Rattle.just_lang_read.specs.Quotes.{begins_string}
use Rattle.just_lang_syntax.specs.Strings.{IsString}
use Rattle.just_lang_syntax.specs.Exprs.{IsExpr}
use Rattle.just_lang_syntax.specs.Forms.{sort_of}
use Rattle.just_lang_syntax.specs.Attributes.{IsTrailing, AreAttributes}
use Rattle.just_lang_syntax.specs.Recipes.{IsMaybe, IsRecipeLine}

-- ---- which item begins here: no word is reserved, and what follows it tells

-- a name and `:=`
abbrev pub is_assignment : Place → Bool
is_assignment p = starts begins_name p && begins (codes ":=") (behind_word p)

-- a name, and the end of the line behind it
abbrev pub is_last_name : Place → Bool
is_last_name p = starts begins_name p && is_rest (behind_word p)

-- `?`, or a name with a string or the end of the line behind it
abbrev pub is_module : Place → Bool
is_module p = begins (codes "?") p || (starts begins_name p && (begins_string (behind_word p) || is_rest (behind_word p)))

abbrev pub opening_at : Place → Opening
opening_at p =
    if sees 35 p then opening.Comment
    else (if is_assignment p then opening.Assignment
    else (if is_word (codes "alias") p && is_assignment (behind_word p) then opening.Alias
    else (if is_word (codes "export") p && is_assignment (behind_word p) then opening.Export
    else (if is_word (codes "unexport") p && is_last_name (behind_word p) then opening.Unexport
    else (if is_word (codes "import") p && (begins (codes "?") (behind_word p) || begins_string (behind_word p)) then opening.Import
    else (if is_word (codes "mod") p && is_module (behind_word p) then opening.Module
    else (if is_word (codes "set") p && (is_assignment (behind_word p) || is_last_name (behind_word p)) then opening.Setting else opening.Recipe)))))))

-- ---- settings

-- `true` or `false`
pub data IsTruth (p q : Place) (x : Bool) : Type 0 where
  yes_word : IsWord (codes "true") p q → x ≡ true → IsTruth p q x
  no_word : IsWord (codes "false") p q → x ≡ false → IsTruth p q x

-- whether a comma and a further string stand here
abbrev pub goes_on : Place → Bool
goes_on p = begins (codes ",") p && begins_string (skip (next p))

-- a comma and a string
abbrev pub IsFurtherString : Place → Place → StringLiteral → Type 0
IsFurtherString p q x = (m : Place) × (goes_on p ≡ true) × IsToken (codes ",") p m × IsString m q x

-- strings in brackets
pub data AreStrings (p q : Place) (xs : List StringLiteral) : Type 0 where
  none : (m : Place) → IsToken (codes "[") p m → IsToken (codes "]") m q → xs ≡ [] → AreStrings p q xs
  some : (m n o r : Place) (first : StringLiteral) (others : List StringLiteral) → IsToken (codes "[") p m → IsString m n first → AreMany IsFurtherString n o others
      → goes_on o ≡ false → IsTrailing o r → IsToken (codes "]") r q → xs ≡ first ∷ others → AreStrings p q xs

-- what stands behind the name of a setting of the sort; an unknown one may be of any
pub data IsSettingValue (kind : Sort) (p q : Place) (x : Option SettingValue) : Type 0 where
  absent : (kind ≡ sort.Text → ⊥) → (kind ≡ sort.List → ⊥) → begins (codes ":=") p ≡ false → q ≡ p → x ≡ None → IsSettingValue kind p q x
  flag : (m : Place) (b : Bool) → kind ≡ sort.Flag → IsToken (codes ":=") p m → IsTruth m q b → x ≡ Some (setting.Bool b) → IsSettingValue kind p q x
  text : (m : Place) (y : Expr) → kind ≡ sort.Text → IsToken (codes ":=") p m → IsExpr m q y → x ≡ Some (setting.Text y) → IsSettingValue kind p q x
  list : (m : Place) (ys : List StringLiteral) → kind ≡ sort.List → IsToken (codes ":=") p m → AreStrings m q ys → x ≡ Some (setting.List ys) → IsSettingValue kind p q x
  any_text : (m : Place) (y : Expr) → kind ≡ sort.Open → IsToken (codes ":=") p m → begins (codes "[") m ≡ false → IsExpr m q y → x ≡ Some (setting.Text y)
      → IsSettingValue kind p q x
  any_list : (m : Place) (ys : List StringLiteral) → kind ≡ sort.Open → IsToken (codes ":=") p m → AreStrings m q ys → x ≡ Some (setting.List ys)
      → IsSettingValue kind p q x

-- ---- items

abbrev pub IsAlias : Place → Place → AstItem → Type 0
IsAlias p q x =
    (m : Place) × (n : Place) × (o : Place) × (r : Place) × (name : Name) × (target : List Name) × (comment : Option (List ℕ))
    × IsToken (codes "alias") p m × IsName m n name × IsToken (codes ":=") n o × IsPath o r target × IsRest r q comment × (x ≡ item.Alias name target comment)

abbrev pub IsImport : Place → Place → AstItem → Type 0
IsImport p q x =
    (m : Place) × (n : Place) × (o : Place) × (optional : Bool) × (path : StringLiteral) × (comment : Option (List ℕ))
    × IsToken (codes "import") p m × IsMaybe (codes "?") m n optional × IsString n o path × IsRest o q comment × (x ≡ item.Import optional path comment)

-- the string behind a module's name, if there is one
pub data IsModulePath (p q : Place) (x : Option StringLiteral) : Type 0 where
  path : (s : StringLiteral) → IsString p q s → x ≡ Some s → IsModulePath p q x
  without : begins_string p ≡ false → q ≡ p → x ≡ None → IsModulePath p q x

abbrev pub IsModule : List Attribute → Place → Place → AstItem → Type 0
IsModule attributes p q x =
    (m : Place) × (n : Place) × (o : Place) × (r : Place) × (optional : Bool) × (name : Name) × (path : Option StringLiteral) × (comment : Option (List ℕ))
    × IsToken (codes "mod") p m × IsMaybe (codes "?") m n optional × IsName n o name × IsModulePath o r path × IsRest r q comment
    × (x ≡ item.Module attributes optional name path comment)

abbrev pub IsAssignment : Bool → Place → Place → AstItem → Type 0
IsAssignment export p q x =
    (m : Place) × (n : Place) × (o : Place) × (name : Name) × (value : Expr) × (comment : Option (List ℕ))
    × IsName p m name × IsToken (codes ":=") m n × IsExpr n o value × IsRest o q comment × (x ≡ item.Assignment export name value comment)

abbrev pub IsUnexport : Place → Place → AstItem → Type 0
IsUnexport p q x =
    (m : Place) × (n : Place) × (name : Name) × (comment : Option (List ℕ))
    × IsToken (codes "unexport") p m × IsName m n name × IsRest n q comment × (x ≡ item.Unexport name comment)

abbrev pub IsSetting : Place → Place → AstItem → Type 0
IsSetting p q x =
    (m : Place) × (n : Place) × (o : Place) × (name : Name) × (value : Option SettingValue) × (comment : Option (List ℕ))
    × IsToken (codes "set") p m × IsName m n name × IsSettingValue (sort_of name.text) n o value × IsRest o q comment × (x ≡ item.Setting name value comment)

-- whether a module stands behind attributes; else it is a recipe
abbrev pub opens_module : Place → Bool
opens_module p = is_word (codes "mod") p && is_module (behind_word p)

-- an item, or the line of a recipe
pub data IsItem (p q : Place) (x : Entry) : Type 0 where
  comment : (text : List ℕ) → opening_at p ≡ opening.Comment → IsComment p q text → x ≡ entry.Item (item.Comment text) → IsItem p q x
  alias : (y : AstItem) → opening_at p ≡ opening.Alias → IsAlias p q y → x ≡ entry.Item y → IsItem p q x
  import : (y : AstItem) → opening_at p ≡ opening.Import → IsImport p q y → x ≡ entry.Item y → IsItem p q x
  module_alone : (y : AstItem) → opening_at p ≡ opening.Module → IsModule [] p q y → x ≡ entry.Item y → IsItem p q x
  assignment : (y : AstItem) → opening_at p ≡ opening.Assignment → IsAssignment false p q y → x ≡ entry.Item y → IsItem p q x
  export : (m : Place) (y : AstItem) → opening_at p ≡ opening.Export → IsToken (codes "export") p m → IsAssignment true m q y → x ≡ entry.Item y → IsItem p q x
  unexport : (y : AstItem) → opening_at p ≡ opening.Unexport → IsUnexport p q y → x ≡ entry.Item y → IsItem p q x
  setting_item : (y : AstItem) → opening_at p ≡ opening.Setting → IsSetting p q y → x ≡ entry.Item y → IsItem p q x
  attributed_module : (m : Place) (attributes : List Attribute) (y : AstItem) → opening_at p ≡ opening.Recipe → AreAttributes p m attributes
      → opens_module m ≡ true → IsModule attributes m q y → x ≡ entry.Item y → IsItem p q x
  recipe : (m : Place) (attributes : List Attribute) (y : AstRecipe) → opening_at p ≡ opening.Recipe → AreAttributes p m attributes → opens_module m ≡ false
      → IsRecipeLine attributes m q y → x ≡ entry.Recipe y → IsItem p q x
