-- The places of what stands in a file.
use Rattle.std.specs.Prelude.{ℕ}
use Rattle.just_lang_syntax.specs.declared.ast.Name.{Name}
use Rattle.just_lang_syntax.specs.declared.ast.StringLiteral.{StringLiteral}
use Rattle.just_lang_syntax.specs.declared.ast.Argument.{Argument}
use Rattle.just_lang_spots.specs.declared.spot.Spot.{Spot}

abbrev pub name_spot : ℕ → Name → Spot
name_spot file x = record { file = file; line = x.line; column = x.column }

abbrev pub literal_spot : ℕ → StringLiteral → Spot
literal_spot file x = record { file = file; line = x.line; column = x.column }

abbrev pub argument_spot : ℕ → Argument → Spot
argument_spot file x = record { file = file; line = x.line; column = x.column }
