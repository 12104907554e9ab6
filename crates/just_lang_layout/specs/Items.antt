-- The items of files and of modules, each with the number of its file.
use Rattle.std.specs.Prelude.{ℕ, suc, List, [], ◌∷◌, ◌++◌, map, filter_map, slice_get, Option, Some, None, option_map}
use Rattle.just_lang_syntax.specs.declared.ast.AstItem.{AstItem}
use Rattle.just_lang_layout.specs.declared.layout.File.{File}
use Rattle.just_lang_layout.specs.declared.layout.Placed.{Placed}
use Rattle.just_lang_layout.specs.declared.layout.Module.{Module}

abbrev pub in_file : ℕ → List AstItem → List (ℕ × AstItem)
in_file number items = map (λ x. (number, x)) items

abbrev pub items_from : ℕ → List File → List (ℕ × AstItem)
items_from number [] = []
items_from number (file ∷ files) = in_file number file.items ++ items_from (suc number) files

-- all items of all files, in the order of the sources
abbrev pub items_of_files : List File → List (ℕ × AstItem)
items_of_files files = items_from 0 files

abbrev pub item_in : Option File → ℕ → Option AstItem
item_in None n = None
item_in (Some file) n = slice_get file.items n

-- the item at a place
abbrev pub item_at : List File → Placed → Option (ℕ × AstItem)
item_at files p = option_map (λ x. (p.file, x)) (item_in (slice_get files p.file) p.item)

-- the items of a module, those of its imports in their places
abbrev pub items_of_module : List File → Module → List (ℕ × AstItem)
items_of_module files m = filter_map (item_at files) m.placed
