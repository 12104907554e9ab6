-- The text that a string means over an environment: the one of which `Means` holds.
use Rattle.std.specs.Prelude.{ℕ, List, Option}
use Rattle.just_lang_syntax.specs.declared.ast.StringLiteral.{StringLiteral}
use Rattle.just_lang_layout.specs.Paths.{Pairs}
use Rattle.just_lang_layout.proofs.TextsExist.{text_meant}

-- the text, with an `x` in front expanded; none where it can't be
unfoldable pub meant : Pairs → StringLiteral → Option (List ℕ)
meant environ x = (text_meant environ x).0
