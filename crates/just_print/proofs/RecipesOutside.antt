-- Lines of recipes that are printed, with their attributes in front, are read again as entries.
use Rattle.std.proofs.Common.{◌≡◌, ℕ, ◌==◌, false, List, [], ◌∷◌, ◌++◌, map, Some, codes, encode_utf8_all, refl, sym, ap, ◌∙◌, append_assoc}
use Rattle.just_lang_read.specs.Place.{Place, first, first_in, passes, begins_in}
use Rattle.just_lang_syntax.specs.declared.ast.Attribute.{Attribute}
use Rattle.just_lang_syntax.specs.declared.ast.AstRecipe.{AstRecipe}
use Rattle.just_lang_syntax.specs.declared.entry.Entry.TheVariants as entry
use Rattle.just_lang_syntax.specs.declared.item.Opening.TheVariants as opening
use Rattle.just_lang_read.specs.Characters.{is_blank}
use Rattle.just_lang_syntax.specs.Attributes.{AreAttributes}
use Rattle.just_lang_syntax.specs.Attributes.AreAttributes.{line_by_line}
use Rattle.just_lang_syntax.specs.Recipes.{IsRecipeLine}
use Rattle.just_lang_syntax.specs.Items.{opening_at, opens_module, IsItem}
use Rattle.just_print.specs.Printed.{printed_end, behind_attribute, printed_attributes, printed_recipe_line}
use Rattle.just_print.specs.Shapes.{bare_attribute}
use Rattle.just_print.proofs.Places.{closes}
use Rattle.just_print.proofs.WordsBack.{joined_text, begins_other, other_in}
use Rattle.just_print.proofs.RecipesBack.{RecipeLineBack, recipe_line_back}
use Rattle.just_print.proofs.EntriesBack.{OutsideBack}
use Rattle.just_print.proofs.SettingsOutside.{front_letters}
use Rattle.just_print.proofs.RecipesOpen.{bracket_opens, line_opens, line_first, line_attributes}

-- what is printed of attributes is read as attributes of the same shape, before a text that begins neither with a bracket nor with a blank
abbrev pub ReadAgain : List Attribute → Type 0
ReadAgain xs =
    (letters : List ℕ) × (printed_attributes xs ≡ encode_utf8_all letters)
    × ((r : Place) (rest : List ℕ) → r.rest ≡ letters ++ rest → begins_in (codes "[") rest ≡ false → passes is_blank (first_in rest) ≡ false
    → (s : Place) × (ys : List Attribute) × AreAttributes r s ys × (s.rest ≡ rest) × (map bare_attribute ys ≡ map bare_attribute xs))

-- a printed line begins with the character that the line began with
head_is : (attributes : List Attribute) (m q : Place) (x : AstRecipe) → IsRecipeLine attributes m q x → (b : RecipeLineBack attributes m x)
    → (closes (b.head ∷ []) ≡ false) × ((b.head == 91) ≡ false)
head_is attributes m q x i b =
    let (c, f, ends, other) = line_first attributes m q x i in
    let both : Some c ≡ Some b.head = sym f ∙ b.seen in
    let same : c ≡ b.head = cc (both) in
    (ap (λ (d : ℕ). closes (d ∷ [])) (sym same) ∙ ends, ap (λ (d : ℕ). d == 91) (sym same) ∙ other)

-- a recipe without attributes
alone_outside : (new : List ℕ) (m q : Place) (x : AstRecipe) → IsRecipeLine [] m q x → RecipeLineBack [] m x → OutsideBack new (entry.Recipe x)
alone_outside new m q x i b =
    let (ends, other) = head_is [] m q x i b in
    record {
      letters = b.letters;
      head = b.head;
      tail = b.tail;
      encoded = ap (λ (l : List Attribute). printed_attributes l ++ printed_recipe_line x) (line_attributes [] m q x i) ∙ b.encoded;
      begins_so = b.begins;
      dark_head = b.dark_head;
      goes_on = ends;
      again = λ r rest h.
          let (s, y, is, left, same) = b.again [] refl r rest h in
          let (opened, no_module) = line_opens [] r s y is in
          let front : first r ≡ Some b.head = ap first_in h ∙ ap (λ (l : List ℕ). first_in (l ++ rest)) b.begins in
          let none : AreAttributes r r [] = line_by_line [] refl (begins_other b.head 91 [] r front other) refl in
          (s, entry.Recipe y, IsItem.recipe r [] y opened none no_module is refl, left, ap (λ (e : AstRecipe). entry.Recipe e) same);
    }

-- a recipe behind attributes
behind_outside : (new : List ℕ) (m q : Place) (a : Attribute) (attributes : List Attribute) (x : AstRecipe) → IsRecipeLine (a ∷ attributes) m q x → ReadAgain (a ∷ attributes)
    → RecipeLineBack (a ∷ attributes) m x → OutsideBack new (entry.Recipe x)
behind_outside new m q a attributes x i (letters, encoded, again) b =
    let (ends, other) = head_is (a ∷ attributes) m q x i b in
    let bytes : List ℕ = (a.name.text ++ (behind_attribute a.colon a.arguments ++ (codes "]" ++ printed_end a.comment))) ++ printed_attributes attributes in
    let (tail, made) = front_letters (codes "[") bytes letters refl (sym encoded) in
    record {
      letters = letters ++ b.letters;
      head = 91;
      tail = tail ++ b.letters;
      encoded = ap (λ (l : List Attribute). printed_attributes l ++ printed_recipe_line x) (line_attributes (a ∷ attributes) m q x i)
          ∙ joined_text (printed_attributes (a ∷ attributes)) (printed_recipe_line x) letters b.letters encoded b.encoded;
      begins_so = ap (λ (l : List ℕ). l ++ b.letters) made;
      dark_head = refl;
      goes_on = refl;
      again = λ r rest h.
          let from : r.rest ≡ letters ++ (b.letters ++ rest) = h ∙ append_assoc letters b.letters rest in
          let front : first_in (b.letters ++ rest) ≡ Some b.head = ap (λ (l : List ℕ). first_in (l ++ rest)) b.begins in
          let (m2, ys, are, left_over, shapes) = again r (b.letters ++ rest) from (other_in b.head 91 [] (b.letters ++ rest) front other) (ap (passes is_blank) front ∙ b.dark_head) in
          let (s, y, is, left, same) = b.again ys shapes m2 rest left_over in
          let opened : opening_at r ≡ opening.Recipe = bracket_opens r (ap first_in from ∙ ap (λ (l : List ℕ). first_in (l ++ (b.letters ++ rest))) made) in
          (s, entry.Recipe y, IsItem.recipe m2 ys y opened are (line_opens ys m2 s y is).1 is refl, left, ap (λ (e : AstRecipe). entry.Recipe e) same);
    }

-- a recipe behind attributes or without them
either_outside : (new : List ℕ) (m q : Place) (attributes : List Attribute) (x : AstRecipe) → IsRecipeLine attributes m q x → ReadAgain attributes
    → RecipeLineBack attributes m x → OutsideBack new (entry.Recipe x)
either_outside new m q [] x i f b = alone_outside new m q x i b
either_outside new m q (a ∷ attributes) x i f b = behind_outside new m q a attributes x i f b

-- what is known of attributes: what is printed of them is read again
module _ (read_again : (p q : Place) (xs : List Attribute) → AreAttributes p q xs → ReadAgain xs) where
  -- the line of a recipe is printed and read with the same shape, with its attributes in front
  pub recipe_outside : (new : List ℕ) (p m q : Place) (attributes : List Attribute) (x : AstRecipe) → opening_at p ≡ opening.Recipe → AreAttributes p m attributes
      → opens_module m ≡ false → IsRecipeLine attributes m q x → OutsideBack new (entry.Recipe x)
  recipe_outside new p m q attributes x o are k i = either_outside new m q attributes x i (read_again p m attributes are) (recipe_line_back attributes m q x i)
