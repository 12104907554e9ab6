-- Modules behind attributes that are printed are read again as entries.
use lib.Utf8.{scalars}
use Rattle.std.proofs.Common.{◌≡◌, ℕ, ◌==◌, Bool, true, false, not, ◌&&◌, List, [], ◌∷◌, ◌++◌, ◌⊎◌, inl, inr, codes, chars, encode_utf8_all, IsUtf8, refl, sym, ap, ◌∙◌, subst, append_assoc}
use Rattle.std.proofs.lemmas.Bool.{false≢true}
use Rattle.std.proofs.lemmas.List.{append_cancel_left}
use Rattle.just_lang_read.specs.Place.{Place, next, first_in, passes, starts, sees, begins, begins_in, behind_text}
use Rattle.just_lang_read.proofs.Laws.{first_is}
use Rattle.just_lang_syntax.specs.declared.ast.Attribute.{Attribute}
use Rattle.just_lang_syntax.specs.declared.ast.AstRecipe.{AstRecipe}
use Rattle.just_lang_syntax.specs.declared.ast.AstItem.{AstItem}
use Rattle.just_lang_syntax.specs.declared.entry.Entry.TheVariants as entry
use Rattle.just_lang_syntax.specs.declared.item.Opening.TheVariants as opening
use Rattle.just_lang_read.specs.Characters.{is_blank, begins_name, in_name}
use Rattle.just_lang_read.specs.Lines.{behind_word, is_word}
use Rattle.just_lang_syntax.specs.Attributes.{IsAttributeLine, concat, AreAttributes}
use Rattle.just_lang_syntax.specs.Attributes.IsAttributeLine.{in_brackets}
use Rattle.just_lang_syntax.specs.Attributes.AreAttributes.{line_by_line}
use Rattle.just_lang_syntax.specs.Recipes.{IsRecipeLine}
use Rattle.just_lang_syntax.specs.Items.{is_assignment, is_module, opening_at, opens_module, IsModule, IsItem}
use Rattle.just_lang_syntax.specs.File.{IsFile}
use Rattle.just_print.specs.Printed.{only_if, printed_attributes, printed_file, printed_end, printed_item, printed}
use Rattle.just_print.specs.Shapes.{SameShape}
use Rattle.just_print.specs.Law.{IsIndentation, NoReturnAtEnd}
use Rattle.just_print.proofs.Places.{beyond, and_true}
use Rattle.just_print.proofs.PiecesBack.{front_of}
use Rattle.just_print.proofs.WordsBack.{joined_text, word_in, is_word_in, begins_first}
use Rattle.just_print.proofs.ModulesBack.{ModuleBack, module_back}
use Rattle.just_print.proofs.EntriesBack.{OutsideBack}
use Rattle.just_print.proofs.OutsideBack.{after, behind_in}
use Rattle.just_print.proofs.SettingsOutside.{token_left}
use Rattle.just_print.proofs.ModulesOutside.{module_stands, word_tests, module_letters, moved}
use Rattle.just_print.proofs.AttributesBack.{AttributesBack, attributes_back, attributes_stand}
use Rattle.just_print.proofs.FileBack.{reads_back}

-- ---- what begins where

-- where a sign comes first no file or end of a module's line does
sign_by : (b : Bool) (q : Place) → begins (codes ":=") q ≡ b → is_module q ≡ true → b ≡ false
sign_by false q h k = refl
sign_by true q h k =
    let cell : q.rest ≡ 58 ∷ (next q).rest = first_is q 58 (begins_first 58 (codes "=") q h) in
    let mark : begins (codes "?") q ≡ false = ap (begins_in (codes "?")) cell in
    let letter : starts begins_name q ≡ false = ap (λ (l : List ℕ). passes begins_name (first_in l)) cell in
    let none : is_module q ≡ false = rw (mark, letter) refl in
    absurd (false≢true (sym none ∙ k))

-- where a module begins behind attributes, one begins where there are none
opens_alone : (p : Place) → opens_module p ≡ true → opening_at p ≡ opening.Module
opens_alone p h =
    let (word, stands) = and_true (is_word (codes "mod") p) (is_module (behind_word p)) h in
    let (rest, made) = front_of (codes "mod") p.rest (and_true (begins (codes "mod") p) (not (starts in_name (behind_text (codes "mod") p))) word).0 in
    let hash : sees 35 p ≡ false = ap (λ (l : List ℕ). passes (λ d. d == 35) (first_in l)) made in
    let letter : starts begins_name p ≡ true = ap (λ (l : List ℕ). passes begins_name (first_in l)) made in
    let other : begins (codes ":=") (behind_word p) ≡ false = sign_by (begins (codes ":=") (behind_word p)) (behind_word p) refl stands in
    let unsigned : is_assignment p ≡ false = rw (letter, other) refl in
    let no_alias : is_word (codes "alias") p ≡ false = is_word_in (codes "alias") p ∙ ap (word_in (codes "alias")) made in
    let no_export : is_word (codes "export") p ≡ false = is_word_in (codes "export") p ∙ ap (word_in (codes "export")) made in
    let no_unexport : is_word (codes "unexport") p ≡ false = is_word_in (codes "unexport") p ∙ ap (word_in (codes "unexport")) made in
    let no_import : is_word (codes "import") p ≡ false = is_word_in (codes "import") p ∙ ap (word_in (codes "import")) made in
    rw (hash, unsigned, no_alias, no_export, no_unexport, no_import, word, stands) refl

-- where a bracket comes first a recipe or a module behind attributes begins
pub bracket_opens : (a : Place) (more : List ℕ) → a.rest ≡ 91 ∷ more → opening_at a ≡ opening.Recipe
bracket_opens a more h =
    let hash : sees 35 a ≡ false = ap (λ (l : List ℕ). passes (λ d. d == 35) (first_in l)) h in
    let letter : starts begins_name a ≡ false = ap (λ (l : List ℕ). passes begins_name (first_in l)) h in
    let unsigned : is_assignment a ≡ false = ap (λ (b : Bool). b && begins (codes ":=") (behind_word a)) letter in
    let no_word : (word : List ℕ) → word_in word (91 ∷ more) ≡ false → is_word word a ≡ false = λ word k. is_word_in word a ∙ (ap (word_in word) h ∙ k) in
    let no_alias : is_word (codes "alias") a ≡ false = no_word (codes "alias") refl in
    let no_export : is_word (codes "export") a ≡ false = no_word (codes "export") refl in
    let no_unexport : is_word (codes "unexport") a ≡ false = no_word (codes "unexport") refl in
    let no_import : is_word (codes "import") a ≡ false = no_word (codes "import") refl in
    let no_mod : is_word (codes "mod") a ≡ false = no_word (codes "mod") refl in
    let no_set : is_word (codes "set") a ≡ false = no_word (codes "set") refl in
    rw (hash, unsigned, no_alias, no_export, no_unexport, no_import, no_mod, no_set) refl

-- where a module stands behind attributes, it is a module that begins
module_opens : (a s : Place) (attributes : List Attribute) (y : AstItem) (more : List ℕ) → after (codes "mod" ++ more) ≡ beyond is_blank more
    → word_in (codes "mod") (codes "mod" ++ more) ≡ true → a.rest ≡ codes "mod" ++ more → IsModule attributes a s y → opens_module a ≡ true
module_opens a s attributes y more same word h (m, n, o, r, optional, name, path, comment, t, k, u, i, w, z) =
    let behind : (behind_word a).rest ≡ m.rest = behind_in a ∙ (ap after h ∙ (same ∙ sym (token_left (codes "mod") more a m h t))) in
    let (stands, other) = module_stands m n o r s (behind_word a) optional name path comment k u i w behind in
    let begun : is_word (codes "mod") a ≡ true = is_word_in (codes "mod") a ∙ (ap (word_in (codes "mod")) h ∙ word) in
    rw (begun, stands) refl

-- ---- no attributes

-- a line has an attribute
line_some : (p q : Place) (line more : List Attribute) → IsAttributeLine p q line → line ++ more ≡ [] → ⊥
line_some p q line more (in_brackets m n o r s x [] comment t i are u w k z) h =
    let e : _ ∷ more ≡ [] = ap (λ (l : List Attribute). l ++ more) (sym z) ∙ h in let no : ⊥ = cc (e) in no
line_some p q line more (in_brackets m n o r s x (y ∷ ys) comment t i are u w k z) h =
    let e : x ∷ _ ≡ [] = ap (λ (l : List Attribute). l ++ more) (sym z) ∙ h in let no : ⊥ = cc (e) in no

-- where there are no attributes nothing is read of them
pub no_attributes : (p q : Place) (xs : List Attribute) → AreAttributes p q xs → xs ≡ [] → q ≡ p
no_attributes p q xs (line_by_line [] are n z) h = are
no_attributes p q xs (line_by_line (line ∷ lines) (m, i, are) n z) h = absurd (line_some p m line (concat lines) i (sym z ∙ h))

-- ---- modules

module _ (new : List ℕ) (p m q : Place) (attributes : List Attribute) (y : AstItem) (o : opening_at p ≡ opening.Recipe) (are : AreAttributes p m attributes)
    (k : opens_module m ≡ true) (i : IsModule attributes m q y) where
  -- there are attributes, else it were a module alone
  never_alone : attributes ≡ [] → ⊥
  never_alone h =
      let opened : opening_at p ≡ opening.Module = opens_alone p (subst (λ (r : Place). opens_module r ≡ true) (no_attributes p m attributes are h) k) in
      let no : ⊥ = cc (sym opened ∙ o) in no

  -- a module behind what is printed of its attributes
  attributed_by : (b : AttributesBack attributes) → ModuleBack attributes y → (((attributes ≡ []) × (b.letters ≡ [])) ⊎ ((tail : List ℕ) × (b.letters ≡ 91 ∷ tail)))
      → IsModule attributes m q y → OutsideBack new (entry.Item y)
  attributed_by b M (inl (n, z)) j = absurd (never_alone n)
  attributed_by b M (inr (tail, z)) (m1, n1, o1, r1, optional, name, path, comment, t1, a1, k1, i1, w1, made_so) =
      let text : List ℕ = name.text ++ (printed_file path ++ printed_end comment) in
      let bytes : encode_utf8_all M.letters ≡ (codes "mod" ++ (only_if optional (codes "?") ++ codes " ")) ++ text =
      append_cancel_left (printed_attributes attributes) (encode_utf8_all M.letters) ((codes "mod" ++ (only_if optional (codes "?") ++ codes " ")) ++ text)
      (sym (M.encoded new) ∙ ap (printed_item new) made_so) in
      let (more, made) = module_letters optional text M.letters bytes in
      record {
        letters = b.letters ++ M.letters;
        head = 91;
        tail = tail ++ M.letters;
        encoded = M.encoded new ∙ joined_text (printed_attributes attributes) (encode_utf8_all M.letters) b.letters M.letters b.encoded refl;
        begins_so = ap (λ (l : List ℕ). l ++ M.letters) z;
        dark_head = refl;
        goes_on = refl;
        again = λ a rest h.
            let behind : List ℕ = only_if optional (codes "?") ++ (codes " " ++ (more ++ rest)) in
            let from : M.letters ++ rest ≡ codes "mod" ++ behind = ap (λ (l : List ℕ). l ++ rest) made ∙ moved optional more rest in
            let spread : a.rest ≡ b.letters ++ (M.letters ++ rest) = h ∙ append_assoc b.letters M.letters rest in
            let (s, ys, stand, left, shapes) =
            attributes_stand attributes b a (M.letters ++ rest) spread (ap (begins_in (codes "[")) from) (ap (λ (l : List ℕ). passes is_blank (first_in l)) from) in
            let (e, x, is, end, same) = M.again ys shapes s rest left in
            let opened : opening_at a ≡ opening.Recipe =
            bracket_opens a (tail ++ (M.letters ++ rest)) (spread ∙ ap (λ (l : List ℕ). l ++ (M.letters ++ rest)) z) in
            let (skipped, word) = word_tests optional (more ++ rest) in
            let begun : opens_module s ≡ true = module_opens s e ys x behind skipped word (left ∙ from) is in
            (e, entry.Item x, IsItem.attributed_module s ys x opened stand begun is refl, end, ap (λ (v : AstItem). entry.Item v) same);
      }

-- a module behind attributes is printed and read with the same shape
pub attributed_outside : (new : List ℕ) (p m q : Place) (attributes : List Attribute) (y : AstItem) → opening_at p ≡ opening.Recipe → AreAttributes p m attributes
    → opens_module m ≡ true → IsModule attributes m q y → OutsideBack new (entry.Item y)
attributed_outside new p m q attributes y o are k i =
    let b : AttributesBack attributes = attributes_back p m attributes are in
    attributed_by new p m q attributes y o are k i b (module_back attributes m q y i) b.front i

-- what is printed of a text's tree is a text whose tree has the same shape, where what is printed of a recipe's line behind its attributes is read again
pub tree_reads_back : ((new : List ℕ) (p m q : Place) (attributes : List Attribute) (y : AstRecipe) → opening_at p ≡ opening.Recipe → AreAttributes p m attributes
    → opens_module m ≡ false → IsRecipeLine attributes m q y → OutsideBack new (entry.Recipe y))
    → (text : List ℕ) (items : List AstItem) (indentation : List ℕ) → IsFile text items → scalars text ≡ true → IsIndentation indentation → NoReturnAtEnd items
    → IsUtf8 (printed items indentation) → (ys : List AstItem) × IsFile (chars (printed items indentation)) ys × SameShape items ys
tree_reads_back recipe_outside text items new file s i n u = reads_back attributed_outside recipe_outside text items new file s i n u
