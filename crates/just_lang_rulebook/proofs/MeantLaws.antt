-- What a string means is the text that its definition names.
use Rattle.std.proofs.Common.{◌≡◌, ℕ, List}
use Rattle.std.specs.Prelude.{Option}
use Rattle.just_lang_syntax.specs.declared.ast.StringLiteral.{StringLiteral}
use Rattle.just_lang_layout.specs.Paths.{Pairs, Means}
use Rattle.just_lang_layout.proofs.Meanings.{means_once}
use Rattle.just_lang_layout.proofs.TextsExist.{text_meant}
use Rattle.just_lang_rulebook.specs.Meant.{meant}

pub meant_means : (environ : Pairs) (x : StringLiteral) → Means environ x (meant environ x)
unfolding meant
meant_means environ x = (text_meant environ x).1

pub is_meant : (environ : Pairs) (x : StringLiteral) (t : Option (List ℕ)) → Means environ x t → t ≡ meant environ x
is_meant environ x t means = means_once environ x t (meant environ x) means (meant_means environ x)
