-- Imports that are printed are read again as entries.
use Rattle.std.proofs.Common.{◌≡◌, ℕ, ◌==◌, Bool, true, false, ◌||◌, if◌then◌else◌, List, [], ◌++◌, Some, codes, encode_utf8_all, refl, sym, ap, ◌∙◌}
use Rattle.just_lang_read.specs.Place.{Place, next, first, first_in, passes, starts, sees, begins, begins_in}
use Rattle.just_lang_read.proofs.Laws.{sees_first, first_is}
use Rattle.just_lang_read.specs.declared.quote.Quote.{Quote}
use Rattle.just_lang_read.specs.declared.quote.Quote.TheVariants.{Single, Double, SingleBlock, DoubleBlock}
use Rattle.just_lang_syntax.specs.declared.ast.StringLiteral.{StringLiteral}
use Rattle.just_lang_syntax.specs.declared.ast.AstItem.{AstItem}
use Rattle.just_lang_syntax.specs.declared.entry.Entry.TheVariants as entry
use Rattle.just_lang_syntax.specs.declared.item.Opening.TheVariants as opening
use Rattle.just_lang_read.specs.Characters.{is_blank, is_quote, begins_name}
use Rattle.just_lang_read.specs.Lines.{behind_word, is_word}
use Rattle.just_lang_read.specs.Quotes.{quote_at, begins_string}
use Rattle.just_lang_syntax.specs.Strings.{IsString}
use Rattle.just_lang_syntax.specs.Strings.IsString.{string}
use Rattle.just_lang_syntax.specs.Recipes.{IsMaybe}
use Rattle.just_lang_syntax.specs.Recipes.IsMaybe.{here, not_here}
use Rattle.just_lang_syntax.specs.Items.{is_assignment, opening_at, IsImport, IsItem}
use Rattle.just_print.specs.Printed.{only_if, printed_string, printed_end, printed_item}
use Rattle.just_print.proofs.Places.{beyond, next_rest}
use Rattle.just_print.proofs.StringsBack.{quote_character, quote_first}
use Rattle.just_print.proofs.WordsBack.{word_in, is_word_in, begins_other, token_first}
use Rattle.just_print.proofs.ItemsBack.{ItemBack, import_back}
use Rattle.just_print.proofs.EntriesBack.{OutsideBack}
use Rattle.just_print.proofs.OutsideBack.{after, behind_in}
use Rattle.just_print.proofs.SettingsOutside.{either, front_letters, token_left}

quote_quotes : (quote : Quote) → (is_quote (quote_character quote) ≡ true) × ((quote_character quote == 58) ≡ false)
quote_quotes Single = (refl, refl)
quote_quotes Double = (refl, refl)
quote_quotes SingleBlock = (refl, refl)
quote_quotes DoubleBlock = (refl, refl)

-- whether a string begins here is what the text from here says
string_by : (b : Bool) (p q : Place) (quote : Quote) → sees 120 p ≡ b → quote_at (if b then next p else p) ≡ Some quote → q.rest ≡ p.rest
    → (starts is_quote (if b then next q else q) ≡ true) × (begins (codes ":=") p ≡ false)
string_by true p q quote s k h =
    let f : first (next p) ≡ Some (quote_character quote) = quote_first (next p) quote k in
    let left : (next q).rest ≡ (next p).rest = next_rest q 120 (next p).rest (h ∙ first_is p 120 (sees_first 120 p s)) in
    (ap (λ (l : List ℕ). passes is_quote (first_in l)) left ∙ (ap (passes is_quote) f ∙ (quote_quotes quote).0), begins_other 120 58 (codes "=") p (sees_first 120 p s) refl)
string_by false p q quote s k h =
    let f : first p ≡ Some (quote_character quote) = quote_first p quote k in
    (ap (λ (l : List ℕ). passes is_quote (first_in l)) h ∙ (ap (passes is_quote) f ∙ (quote_quotes quote).0), begins_other (quote_character quote) 58 (codes "=") p f (quote_quotes quote).1)

-- where a string stands, one begins, and no sign
pub string_begins : (p q s : Place) (x : StringLiteral) → IsString p s x → q.rest ≡ p.rest → (begins_string q ≡ true) × (begins (codes ":=") p ≡ false)
string_begins p q s x (string m quote raw k r e z) h =
    let (a, b) = string_by (sees 120 p) p q quote refl k h in
    (ap (λ (v : Bool). starts is_quote (if v then next q else q)) (ap (λ (l : List ℕ). passes (λ d. d == 120) (first_in l)) h) ∙ a, b)

-- what stands behind the word `import`
file_stands : (m n o q : Place) (optional : Bool) (path : StringLiteral) → IsMaybe (codes "?") m n optional → IsString n o path → q.rest ≡ m.rest
    → ((begins (codes "?") q || begins_string q) ≡ true) × (begins (codes ":=") q ≡ false)
file_stands m n o q optional path (here t z) i h = (
  (either (begins (codes "?") q) (begins_string q)).0 (ap (begins_in (codes "?")) h ∙ t.0),
  begins_other 63 58 (codes "=") q (ap first_in h ∙ token_first 63 [] m n t) refl,
)
file_stands m n o q optional path (not_here b e z) i h =
    let (is, other) = string_begins n q o path i (h ∙ ap (λ (r : Place). r.rest) (sym e)) in
    ((either (begins (codes "?") q) (begins_string q)).1 is, ap (begins_in (codes ":=")) (h ∙ ap (λ (r : Place). r.rest) (sym e)) ∙ other)

-- where an import stands, it is an import that begins
import_opens : (a s : Place) (y : AstItem) (more : List ℕ) → after (codes "import" ++ more) ≡ beyond is_blank more → word_in (codes "import") (codes "import" ++ more) ≡ true
    → a.rest ≡ codes "import" ++ more → IsImport a s y → opening_at a ≡ opening.Import
import_opens a s y more same word h (m, n, o, optional, path, comment, t, k, i, w, z) =
    let behind : (behind_word a).rest ≡ m.rest = behind_in a ∙ (ap after h ∙ (same ∙ sym (token_left (codes "import") more a m h t))) in
    let (stands, other) = file_stands m n o (behind_word a) optional path k i behind in
    let hash : sees 35 a ≡ false = ap (λ (l : List ℕ). passes (λ d. d == 35) (first_in l)) h in
    let letter : starts begins_name a ≡ true = ap (λ (l : List ℕ). passes begins_name (first_in l)) h in
    let unsigned : is_assignment a ≡ false = rw (letter, other) refl in
    let no_alias : is_word (codes "alias") a ≡ false = is_word_in (codes "alias") a ∙ ap (word_in (codes "alias")) h in
    let no_export : is_word (codes "export") a ≡ false = is_word_in (codes "export") a ∙ ap (word_in (codes "export")) h in
    let no_unexport : is_word (codes "unexport") a ≡ false = is_word_in (codes "unexport") a ∙ ap (word_in (codes "unexport")) h in
    let begun : is_word (codes "import") a ≡ true = is_word_in (codes "import") a ∙ (ap (word_in (codes "import")) h ∙ word) in
    rw (hash, unsigned, no_alias, no_export, no_unexport, begun, stands) refl

-- the tests of the word, with a `?` behind it or not
word_tests : (optional : Bool) (more : List ℕ)
    → (after (codes "import" ++ (only_if optional (codes "?") ++ (codes " " ++ more))) ≡ beyond is_blank (only_if optional (codes "?") ++ (codes " " ++ more)))
    × (word_in (codes "import") (codes "import" ++ (only_if optional (codes "?") ++ (codes " " ++ more))) ≡ true)
word_tests true more = (refl, refl)
word_tests false more = (refl, refl)

-- the letters of an import begin with its word
import_letters : (optional : Bool) (bytes list : List ℕ) → encode_utf8_all list ≡ (codes "import" ++ (only_if optional (codes "?") ++ codes " ")) ++ bytes
    → (more : List ℕ) × (list ≡ codes "import" ++ (only_if optional (codes "?") ++ (codes " " ++ more)))
import_letters true bytes list h = front_letters (codes "import? ") bytes list refl h
import_letters false bytes list h = front_letters (codes "import ") bytes list refl h

moved : (optional : Bool) (more rest : List ℕ) → (codes "import" ++ (only_if optional (codes "?") ++ (codes " " ++ more))) ++ rest
    ≡ codes "import" ++ (only_if optional (codes "?") ++ (codes " " ++ (more ++ rest)))
moved true more rest = refl
moved false more rest = refl

-- an import is printed and read with the same shape
pub import_outside : (new : List ℕ) (p q : Place) (x : AstItem) → IsImport p q x → OutsideBack new (entry.Item x)
import_outside new p q x i = import_by new p q x i (import_back p q x i)
  where
    import_by : (new : List ℕ) (p q : Place) (x : AstItem) → IsImport p q x → ItemBack IsImport x → OutsideBack new (entry.Item x)
    import_by new p q x (m, n, o, optional, path, comment, t, k, i, w, z) b =
        let (more, made) = import_letters optional (printed_string path ++ printed_end comment) b.letters (sym (b.encoded new) ∙ ap (printed_item new) z) in
        record {
          letters = b.letters;
          head = 105;
          tail = codes "mport" ++ (only_if optional (codes "?") ++ (codes " " ++ more));
          encoded = b.encoded new;
          begins_so = made;
          dark_head = refl;
          goes_on = refl;
          again = λ a rest h.
              let (s, y, is, left, same) = b.again a rest h in
              let from : a.rest ≡ codes "import" ++ (only_if optional (codes "?") ++ (codes " " ++ (more ++ rest))) =
              h ∙ (ap (λ (l : List ℕ). l ++ rest) made ∙ moved optional more rest) in
              let (skipped, word) = word_tests optional (more ++ rest) in
              let opened = import_opens a s y (only_if optional (codes "?") ++ (codes " " ++ (more ++ rest))) skipped word from is in
              (s, entry.Item y, IsItem.import y opened is refl, left, ap (λ (e : AstItem). entry.Item e) same);
        }
