-- The tree of a source, and why a source has none.
use Rattle.std.specs.Prelude.{◌≡◌, ℕ, List, None, chars}
use Rattle.just_lang_syntax.specs.declared.ast.AstItem.{AstItem}
use Rattle.just_lang_syntax.specs.declared.error.Fault.{Fault}
use Rattle.just_lang_syntax.specs.declared.error.FaultKind.{FaultKind}
use Rattle.just_lang_syntax.specs.declared.error.FaultKind.TheVariants as fault
use Rattle.just_lang_syntax.specs.declared.error.ParseError.TheVariants as parse_error
use Rattle.just_lang_syntax.specs.File.{IsFile, first_left_out}
use Rattle.just_lang_syntax.specs.Faults.{Refuses}
use Rattle.just_lang_types.specs.declared.position.Position.{Position}
use Rattle.just_lang_types.specs.declared.source.Source.{Source}
use Rattle.just_lang_types.specs.declared.error.CompileError.{CompileError}
use Rattle.just_lang_types.specs.declared.error.CompileKind.{CompileKind}
use Rattle.just_lang_types.specs.declared.error.CompileKind.TheVariants.{Syntax, Unsupported, Depth}
use Rattle.just_lang_types.specs.declared.project.LangError.{LangError}
use Rattle.just_lang_types.specs.declared.project.LangError.TheVariants as error

-- a text is these items, and none of them has a left-out name
abbrev pub IsTree : List ℕ → List AstItem → Type 0
IsTree text items = IsFile (chars text) items × (first_left_out items ≡ None)

-- the kind of a fault of a text
abbrev pub kind_of : FaultKind → CompileKind
kind_of fault.Syntax = Syntax
kind_of fault.Unsupported = Unsupported
kind_of fault.Depth = Depth

-- the error of that kind at a position of the source of that path
abbrev pub compile_error : List ℕ → CompileKind → Position → CompileError
compile_error path kind p = record { kind = kind; path = path; line = p.line; column = p.column }

abbrev pub position_of : Fault → Position
position_of f = record { line = f.line; column = f.column }

-- the error is the fault of the source's text, at its path; want of memory says nothing
abbrev pub RefusesSource : Source → LangError → Type 0
RefusesSource source (error.Compile c) = (f : Fault) × Refuses (chars source.text) (parse_error.Fault f) × (c ≡ compile_error source.path (kind_of f.kind) (position_of f))
RefusesSource source error.NoMemory = Unit {0}
RefusesSource source _ = ⊥
