-- The files that a tree names.
use Rattle.std.specs.Prelude.{ℕ, List, filter_map, Option, Some, None}
use Rattle.just_lang_syntax.specs.declared.ast.AstItem.{AstItem}
use Rattle.just_lang_syntax.specs.declared.ast.AstItem.TheVariants as item
use Rattle.just_lang_syntax.specs.declared.ast.StringLiteral.{StringLiteral}
use Rattle.just_lang_syntax.specs.Meanings.{text_of}
use Rattle.just_lang_types.specs.declared.reference.FileKind.TheVariants.{Import, Module}
use Rattle.just_lang_types.specs.declared.reference.FileRef.{FileRef}

-- the text that a string means, where there is one
abbrev pub maybe_text : Option StringLiteral → Option (List ℕ)
maybe_text None = None
maybe_text (Some s) = text_of s

abbrev pub reference_in : AstItem → Option FileRef
reference_in item.Blank = None
reference_in (item.Comment text) = None
reference_in (item.Alias name target comment) = None
reference_in (item.Import optional path comment) = Some (record { kind = Import; name = None; path = text_of path; optional = optional })
reference_in (item.Module attributes optional name path comment) = Some (record { kind = Module; name = Some name.text; path = maybe_text path; optional = optional })
reference_in (item.Assignment export name value comment) = None
reference_in (item.Unexport name comment) = None
reference_in (item.Setting name value comment) = None
reference_in (item.Recipe r) = None

-- the imports and modules among some items, in their order
abbrev pub references_of : List AstItem → List FileRef
references_of items = filter_map reference_in items
