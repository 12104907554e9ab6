-- The files that sources are.
use Rattle.std.specs.Prelude.{◌≡◌, ℕ, List, [], ◌∷◌, Option, Some, None, chars}
use Rattle.just_lang_syntax.specs.declared.error.Fault.{Fault}
use Rattle.just_lang_syntax.specs.declared.error.ParseError.TheVariants as parse_error
use Rattle.just_lang_syntax.specs.declared.ast.AstItem.{AstItem}
use Rattle.just_lang_syntax.specs.Faults.{Refuses}
use Rattle.just_lang_types.specs.declared.source.Source.{Source}
use Rattle.just_lang_types.specs.Trees.{IsTree}
use Rattle.just_lang_layout.specs.declared.layout.File.{File}

-- the items are the tree of the text; or the text is refused with that fault, and there are none
abbrev pub IsRead : List ℕ → List AstItem → Option Fault → Type 0
IsRead text items None = IsTree text items
IsRead text items (Some fault) = (items ≡ []) × Refuses (chars text) (parse_error.Fault fault)

pub record IsFileOf (source : Source) (file : File) : Type 0 where
  pub path_is : file.path ≡ source.path
  pub root_is : file.root ≡ source.root
  pub read : IsRead source.text file.items file.fault

-- the files are those of the sources, in their order
abbrev pub AreFilesOf : List Source → List File → Type 0
AreFilesOf [] [] = Unit {0}
AreFilesOf [] (file ∷ files) = ⊥
AreFilesOf (source ∷ sources) [] = ⊥
AreFilesOf (source ∷ sources) (file ∷ files) = IsFileOf source file × AreFilesOf sources files
