-- What a refusal says of a text.
use Rattle.std.specs.Prelude.{◌≡◌, ◌↔◌, ℕ, List, Some}
use Rattle.just_lang_read.specs.Place.{Place}
use Rattle.just_lang_syntax.specs.declared.ast.Name.{Name}
use Rattle.just_lang_syntax.specs.declared.ast.AstItem.{AstItem}
use Rattle.just_lang_syntax.specs.declared.entry.Body.{Body}
use Rattle.just_lang_syntax.specs.declared.error.FaultKind.{FaultKind}
use Rattle.just_lang_syntax.specs.declared.error.FaultKind.TheVariants.{Syntax, Unsupported, Depth}
use Rattle.just_lang_syntax.specs.declared.error.Fault.{Fault}
use Rattle.just_lang_syntax.specs.declared.error.ParseError.{ParseError}
use Rattle.just_lang_syntax.specs.declared.error.ParseError.TheVariants as error
use Rattle.just_lang_syntax.specs.File.{IsFile, Stops, first_left_out}
use Rattle.just_lang_syntax.specs.Deep.{IsDeepEntry}

-- the text goes on where its longest front of entries ends, and that is the fault's place
pub record IsFaultAt (text : List ℕ) (f : Fault) (p : Place) (b : Body) : Type 0 where
  pub stops : Stops text p b
  pub line : f.line ≡ p.line
  pub column : f.column ≡ p.column
  pub deep : (f.kind ≡ Depth) ↔ IsDeepEntry b p

-- the text has a tree, and this is the place of the first left-out name in it
pub record IsLeftOut (text : List ℕ) (f : Fault) : Type 0 where
  pub items : List AstItem
  pub name : Name
  pub file : IsFile text items
  pub first : first_left_out items ≡ Some name
  pub line : f.line ≡ name.line
  pub column : f.column ≡ name.column

-- what a fault says by its kind
abbrev pub TellsFault : List ℕ → Fault → FaultKind → Type 0
TellsFault text f Syntax = (p : Place) × (b : Body) × IsFaultAt text f p b
TellsFault text f Depth = (p : Place) × (b : Body) × IsFaultAt text f p b
TellsFault text f Unsupported = IsLeftOut text f

-- what an error says of a text; want of memory says nothing
abbrev pub Refuses : List ℕ → ParseError → Type 0
Refuses text (error.Fault f) = TellsFault text f f.kind
Refuses text error.NoMemory = Unit {0}
