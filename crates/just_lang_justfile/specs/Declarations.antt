-- What the `mod` of a module says of it.
use Rattle.std.specs.Prelude.{ℕ, List, [], Option, Some, None}
use Rattle.std.specs.Option.{option_and_then}
use Rattle.just_lang_syntax.specs.declared.ast.AstItem.{AstItem}
use Rattle.just_lang_syntax.specs.declared.ast.AstItem.TheVariants as item
use Rattle.just_lang_syntax.specs.declared.ast.Name.{Name}
use Rattle.just_lang_syntax.specs.declared.ast.StringLiteral.{StringLiteral}
use Rattle.just_lang_layout.specs.declared.layout.File.{File}
use Rattle.just_lang_layout.specs.declared.layout.Module.{Module}
use Rattle.just_lang_layout.specs.Items.{item_at}
use Rattle.just_lang_shapes.specs.Attributes.{doc_of, groups_of}
use Rattle.just_lang_justfile.specs.Comments.{above_in}

-- the `mod` that names a module, with the number of its file; the root has none
abbrev pub declaration_of : List File → Module → Option (ℕ × AstItem)
declaration_of files m = option_and_then (item_at files) m.declaration

module _ (text_of : StringLiteral → Option (List ℕ)) where
  -- what a listing says of it, by what stands above the names in files
  abbrev pub doc_by : (ℕ → Name → Option (List ℕ)) → Option (ℕ × AstItem) → Option (List ℕ)
  doc_by above None = None
  doc_by above (Some (n, item.Module attributes optional name path comment)) = doc_of text_of attributes (above n name)
  doc_by above (Some (n, item.Blank)) = None
  doc_by above (Some (n, item.Comment text)) = None
  doc_by above (Some (n, item.Alias name path comment)) = None
  doc_by above (Some (n, item.Import optional path comment)) = None
  doc_by above (Some (n, item.Assignment export name value comment)) = None
  doc_by above (Some (n, item.Unexport name comment)) = None
  doc_by above (Some (n, item.Setting name value comment)) = None
  doc_by above (Some (n, item.Recipe r)) = None

  abbrev pub doc_in : List File → Option (ℕ × AstItem) → Option (List ℕ)
  doc_in files declaration = doc_by (above_in files) declaration

  -- the groups that it is in
  abbrev pub groups_in : Option (ℕ × AstItem) → List (List ℕ)
  groups_in None = []
  groups_in (Some (n, item.Module attributes optional name path comment)) = groups_of text_of attributes
  groups_in (Some (n, item.Blank)) = []
  groups_in (Some (n, item.Comment text)) = []
  groups_in (Some (n, item.Alias name path comment)) = []
  groups_in (Some (n, item.Import optional path comment)) = []
  groups_in (Some (n, item.Assignment export name value comment)) = []
  groups_in (Some (n, item.Unexport name comment)) = []
  groups_in (Some (n, item.Setting name value comment)) = []
  groups_in (Some (n, item.Recipe r)) = []
