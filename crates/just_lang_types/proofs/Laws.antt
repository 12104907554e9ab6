-- What the proofs of crates above rest on.
use Rattle.std.proofs.Common.{◌≡◌, ℕ, List, chars}
use Rattle.just_lang_syntax.specs.declared.ast.AstItem.{AstItem}
use Rattle.just_lang_syntax.proofs.Laws.{one_file}
use Rattle.just_lang_types.specs.Trees.{IsTree}

-- A text has one tree.
pub one_tree : (text : List ℕ) (xs ys : List AstItem) → IsTree text xs → IsTree text ys → xs ≡ ys
one_tree text xs ys h g = one_file (chars text) xs ys h.0 g.0
