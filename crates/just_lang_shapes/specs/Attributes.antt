-- What attributes say in texts, and what a listing says.
use Rattle.std.specs.Prelude.{ℕ, Bool, false, ◌||◌, ◌==◌, if◌then◌else◌, List, [], ◌∷◌, filter_map, Option, Some, None, codes}
use Rattle.std.specs.List.{list_any}
use Rattle.just_lang_syntax.specs.declared.ast.Argument.{Argument}
use Rattle.just_lang_syntax.specs.declared.ast.Attribute.{Attribute}
use Rattle.just_lang_syntax.specs.declared.ast.StringLiteral.{StringLiteral}
use Rattle.just_lang_types.specs.Attributes.{is_called}
use Rattle.just_lang_types.specs.ConstantTexts.{const_text}

-- the first of a list
abbrev pub first_of : {A : Type 0} → List A → Option A
first_of [] = None
first_of (x ∷ xs) = Some x

-- whether one of the attributes has that name
abbrev pub has_attribute : List ℕ → List Attribute → Bool
has_attribute name attributes = list_any (is_called name) attributes

abbrev pub begins_underscore : List ℕ → Bool
begins_underscore [] = false
begins_underscore (c ∷ cs) = c == 95

-- whether listings leave out what has these attributes and that name
abbrev pub is_private : List Attribute → List ℕ → Bool
is_private attributes name = begins_underscore name || has_attribute (codes "private") attributes

module _ (text_of : StringLiteral → Option (List ℕ)) where
  abbrev pub first_text : List Argument → Option (List ℕ)
  first_text [] = None
  first_text (x ∷ xs) = const_text text_of x.value

  -- the text behind an attribute of that name
  abbrev pub text_behind : List ℕ → Attribute → Option (List ℕ)
  text_behind name a = if is_called name a then first_text a.arguments else None

  -- the texts behind the attributes of that name, in their order
  abbrev pub texts_behind : List ℕ → List Attribute → List (List ℕ)
  texts_behind name attributes = filter_map (text_behind name) attributes

  -- what a listing says: what `doc` has, where it stands, else the comment directly above
  abbrev pub doc_of : List Attribute → Option (List ℕ) → Option (List ℕ)
  doc_of attributes above = if has_attribute (codes "doc") attributes then first_of (texts_behind (codes "doc") attributes) else above

  -- the groups that attributes name
  abbrev pub groups_of : List Attribute → List (List ℕ)
  groups_of attributes = texts_behind (codes "group") attributes
