-- What the crate offers to the proofs of crates above: what is printed is read again in the same shape.
use Rattle.std.proofs.Common.{◌≡◌, ℕ, true, List, [], ◌++◌, map, chars, encode_utf8_all, refl, sym, ap, ◌∙◌, append-nil}
use Rattle.std.specs.Prelude.{IsUtf8, None}
use lib.Utf8.{scalars}
use Rattle.std.proofs.lemmas.Str.{chars_from_encodes}
use Rattle.just_lang_read.specs.Place.{Place, start, is_empty, is_end}
use Rattle.just_lang_syntax.specs.declared.ast.StringLiteral.{StringLiteral}
use Rattle.just_lang_syntax.specs.declared.ast.Expr.{Expr}
use Rattle.just_lang_syntax.specs.declared.ast.Attribute.{Attribute}
use Rattle.just_lang_syntax.specs.declared.ast.AstRecipe.{AstRecipe}
use Rattle.just_lang_syntax.specs.declared.ast.AstItem.{AstItem}
use Rattle.just_lang_syntax.specs.File.{IsFile, first_left_out}
use Rattle.just_lang_syntax.specs.Strings.{IsString}
use Rattle.just_lang_syntax.specs.Exprs.{begins_condition, IsExpr}
use Rattle.just_lang_syntax.specs.Recipes.{IsRecipeLine}
use Rattle.just_print.specs.Printed.{printed_string, printed_expr, printed_recipe_line, printed}
use Rattle.just_print.specs.Law.{IsIndentation, NoReturnAtEnd}
use Rattle.just_print.specs.Shapes.{bare_string, bare_expr, bare_attribute, bare_recipe, SameShape}
use Rattle.just_print.proofs.Places.{closes, both_close}
use Rattle.just_print.proofs.NamesBack.{Back}
use Rattle.just_print.proofs.StringsBack.{StringStands, string_stands}
use Rattle.just_print.proofs.ValuesBack.{At}
use Rattle.just_print.proofs.ExprsBack.{expr_back}
use Rattle.just_print.proofs.RecipesBack.{RecipeLineBack, recipe_line_back}
use Rattle.just_print.proofs.TreesBack.{printed_tree_reads_back}
use Rattle.just_print.proofs.LeftOut.{left_out_of_shape}

-- nothing is left where a place ends
ends_at : (s : Place) → s.rest ≡ [] → is_end s ≡ true
ends_at s h = ap is_empty h

-- the characters of a text that is encoded so are those
letters_are : (text letters : List ℕ) → IsUtf8 text → text ≡ encode_utf8_all letters → (start (chars text)).rest ≡ letters ++ []
letters_are text letters u h = sym (chars_from_encodes letters text u (sym h)) ∙ sym (append-nil letters)

-- the text that a string is printed as is that string, apart from its place
pub string_reads_back : (p q : Place) (x : StringLiteral) → IsString p q x → IsUtf8 (printed_string x)
    → (s : Place) × (y : StringLiteral) × IsString (start (chars (printed_string x))) s y × (is_end s ≡ true) × (bare_string y ≡ bare_string x)
string_reads_back p q x i u =
    let b : StringStands p x = string_stands p q x i in
    let (s, y, j, left, shape) = b.again (start (chars (printed_string x))) [] (letters_are (printed_string x) b.letters u b.encoded) (refl, refl) in
    (s, y, j, ends_at s left, shape)

-- the text that an expression is printed as is an expression of the same shape, where a line ended behind the expression
pub expr_reads_back : (p q : Place) (x : Expr) → IsExpr p q x → closes q.rest ≡ true → IsUtf8 (printed_expr x)
    → (s : Place) × (y : Expr) × IsExpr (start (chars (printed_expr x))) s y × (is_end s ≡ true) × (bare_expr y ≡ bare_expr x)
expr_reads_back p q x i c u =
    let b : Back (At IsExpr (begins_condition p)) bare_expr p q x (printed_expr x) = expr_back p q x i in
    let (s, y, j, left, shape) = b.again (start (chars (printed_expr x))) [] (letters_are (printed_expr x) b.letters u b.encoded) (refl, refl) (both_close refl c) in
    (s, y, j.1, ends_at s left, shape)

-- the text that a recipe's line is printed as is a recipe's line of the same shape, behind attributes of the same shape
pub recipe_line_reads_back : (attributes others : List Attribute) (p q : Place) (x : AstRecipe) → IsRecipeLine attributes p q x
    → map bare_attribute others ≡ map bare_attribute attributes → IsUtf8 (printed_recipe_line x)
    → (s : Place) × (y : AstRecipe) × IsRecipeLine others (start (chars (printed_recipe_line x))) s y × (is_end s ≡ true) × (bare_recipe y ≡ bare_recipe x)
recipe_line_reads_back attributes others p q x i same u =
    let b : RecipeLineBack attributes p x = recipe_line_back attributes p q x i in
    let (s, y, j, left, shape) =
    b.again others same (start (chars (printed_recipe_line x))) [] (letters_are (printed_recipe_line x) b.letters u b.encoded) in
    (s, y, j, ends_at s left, shape)

-- what is printed of the tree of a text is a text whose tree has the same shape, apart from places, line numbers and how many blank
-- lines stand together: for an indentation of one or more blanks, where no line of a body ends in a carriage return; and where the
-- tree has no left-out name, that one has none
pub tree_reads_back : (text : List ℕ) (items : List AstItem) (indentation : List ℕ) → IsFile text items → first_left_out items ≡ None → scalars text ≡ true
    → IsIndentation indentation → NoReturnAtEnd items → IsUtf8 (printed items indentation)
    → (ys : List AstItem) × IsFile (chars (printed items indentation)) ys × (first_left_out ys ≡ None) × SameShape items ys
tree_reads_back text items indentation file none s i n u =
    let (ys, whole, same) = printed_tree_reads_back text items indentation file s i n u in (ys, whole, left_out_of_shape items ys same none, same)
