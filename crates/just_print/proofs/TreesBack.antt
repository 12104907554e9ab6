-- What is printed of a text's tree is a text whose tree has the same shape.
use Rattle.std.proofs.Common.{◌≡◌, ℕ, true, List, chars, IsUtf8}
use Rattle.just_lang_read.specs.Place.{Place}
use Rattle.just_lang_syntax.specs.declared.ast.Attribute.{Attribute}
use Rattle.just_lang_syntax.specs.declared.ast.AstItem.{AstItem}
use Rattle.just_lang_syntax.specs.Attributes.{AreAttributes}
use Rattle.just_lang_syntax.specs.File.{IsFile}
use Rattle.just_print.specs.Printed.{printed}
use Rattle.just_print.specs.Shapes.{SameShape}
use Rattle.just_print.specs.Law.{IsIndentation, NoReturnAtEnd}
use lib.Utf8.{scalars}
use Rattle.just_print.proofs.AttributesBack.{AttributesBack, attributes_back, attributes_stand}
use Rattle.just_print.proofs.RecipesOutside.{ReadAgain, recipe_outside}
use Rattle.just_print.proofs.AttributedOutside.{tree_reads_back}

-- what is printed of attributes is read again
read_again : (p q : Place) (xs : List Attribute) → AreAttributes p q xs → ReadAgain xs
read_again p q xs are =
    let b : AttributesBack xs = attributes_back p q xs are in (b.letters, b.encoded, λ r rest h n d. attributes_stand xs b r rest h n d)

-- the tree of what is printed of a text's tree has the same shape: for an indentation of one or more blanks, where no line of a body
-- ends in a carriage return
pub printed_tree_reads_back : (text : List ℕ) (items : List AstItem) (indentation : List ℕ) → IsFile text items → scalars text ≡ true → IsIndentation indentation
    → NoReturnAtEnd items → IsUtf8 (printed items indentation) → (ys : List AstItem) × IsFile (chars (printed items indentation)) ys × SameShape items ys
printed_tree_reads_back = tree_reads_back (recipe_outside read_again)
