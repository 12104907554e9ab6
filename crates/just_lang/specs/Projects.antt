-- The first rule that sources break.
use Rattle.std.specs.Prelude.{◌≡◌, ◌⊎◌, ◌↔◌, ℕ, true, List}
use Rattle.just_lang_types.specs.declared.project.LangError.{LangError}
use Rattle.just_lang_types.specs.declared.source.Source.{Source}
use Rattle.just_lang_layout.specs.declared.error.LayoutError.{LayoutError}
use Rattle.just_lang_layout.specs.declared.layout.Layout.{Layout}
use Rattle.just_lang_layout.specs.Laid.{IsLayoutOf, HasNoLayout}
use Rattle.just_lang_layout.specs.Paths.{Pairs}
use Rattle.just_lang_spots.specs.Graph.{Reaches}
use Rattle.just_lang_spots.specs.Importers.{own_imports}
use Rattle.just_lang_spots.specs.Standing.{Wins}
use Rattle.just_lang.specs.Errors.{error_of_files, BreaksNone, IsErrorIn}

-- which file of a layout wins over which: one that imports the other, straight or through others
abbrev pub AreWins : Layout → Wins → Type 0
AreWins layout wins = (f g : ℕ) → (wins f g ≡ true) ↔ Reaches (own_imports layout.imports) f g

-- a layout breaks no rule
unfoldable pub HasNone : Pairs → Layout → Type 0
HasNone environ layout = (wins : Wins) × AreWins layout wins × BreaksNone environ wins layout

-- the error of the first rule that it breaks
unfoldable pub HasError : Pairs → Layout → LangError → Type 0
HasError environ layout e = (wins : Wins) × AreWins layout wins × IsErrorIn environ wins layout e

-- sources break no rule
unfoldable pub AreWell : List Source → Pairs → Type 0
AreWell sources environ = (layout : Layout) × IsLayoutOf sources environ layout × HasNone environ layout

-- the error of the first rule that they break: one on files, else one of their layout
unfoldable pub IsFirstError : List Source → Pairs → LangError → Type 0
IsFirstError sources environ e =
    ((on_files : LayoutError) × HasNoLayout sources environ on_files × (e ≡ error_of_files on_files)) ⊎ ((layout : Layout) × IsLayoutOf sources environ layout × HasError environ layout e)
