-- The entries of a file as they are printed, and apart from places.
use Rattle.std.specs.Prelude.{ℕ, Bool, true, false, not, List, [], ◌++◌}
use Rattle.just_lang_syntax.specs.declared.entry.Entry.{Entry}
use Rattle.just_lang_syntax.specs.declared.entry.Entry.TheVariants as entry
use Rattle.just_print.specs.Printed.{printed_attributes, printed_recipe_line, printed_item, is_blank_item}
use Rattle.just_print.specs.Shapes.{bare_line, bare_recipe, bare_item}

-- an item, or the attributes and the line of a recipe
abbrev pub printed_entry : List ℕ → Entry → List ℕ
printed_entry indentation (entry.Blank number) = []
printed_entry indentation (entry.Item x) = printed_item indentation x
printed_entry indentation (entry.Recipe x) = printed_attributes x.attributes ++ printed_recipe_line x
printed_entry indentation (entry.Line x) = []

-- an entry without places and line numbers
abbrev pub bare_entry : Entry → Entry
bare_entry (entry.Blank number) = entry.Blank 0
bare_entry (entry.Item x) = entry.Item (bare_item x)
bare_entry (entry.Recipe x) = entry.Recipe (bare_recipe x)
bare_entry (entry.Line x) = entry.Line (bare_line x)

-- whether an entry is one that isn't blank, outside bodies
abbrev pub is_outside : Entry → Bool
is_outside (entry.Blank number) = false
is_outside (entry.Item x) = not (is_blank_item x)
is_outside (entry.Recipe x) = true
is_outside (entry.Line x) = false
