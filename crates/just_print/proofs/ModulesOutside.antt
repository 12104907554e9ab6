-- Modules without attributes that are printed are read again as entries.
use Rattle.std.proofs.Common.{◌≡◌, ℕ, ◌==◌, Bool, true, false, ◌&&◌, ◌||◌, List, [], ◌++◌, Option, codes, encode_utf8_all, refl, sym, ap, ◌∙◌}
use Rattle.just_lang_read.specs.Place.{Place, first_in, passes, starts, sees, begins, begins_in}
use Rattle.just_lang_syntax.specs.declared.ast.Name.{Name}
use Rattle.just_lang_syntax.specs.declared.ast.StringLiteral.{StringLiteral}
use Rattle.just_lang_syntax.specs.declared.ast.AstItem.{AstItem}
use Rattle.just_lang_syntax.specs.declared.entry.Entry.TheVariants as entry
use Rattle.just_lang_syntax.specs.declared.item.Opening.TheVariants as opening
use Rattle.just_lang_read.specs.Characters.{is_blank, begins_name}
use Rattle.just_lang_read.specs.Lines.{behind_word, is_word, is_rest}
use Rattle.just_lang_syntax.specs.Places.{IsName, IsRest}
use Rattle.just_lang_read.specs.Quotes.{begins_string}
use Rattle.just_lang_syntax.specs.Recipes.{IsMaybe}
use Rattle.just_lang_syntax.specs.Recipes.IsMaybe.{here, not_here}
use Rattle.just_lang_syntax.specs.Items.{is_assignment, is_module, opening_at, IsModulePath, IsModule, IsItem}
use Rattle.just_print.specs.Printed.{only_if, printed_file, printed_end, printed_item}
use Rattle.just_print.proofs.Places.{beyond, not_that}
use Rattle.just_print.proofs.PathsBack.{name_cell}
use Rattle.just_print.proofs.WordsBack.{word_in, is_word_in, begins_other, token_first}
use Rattle.just_print.proofs.ModulesBack.{ModuleBack, module_back}
use Rattle.just_print.proofs.EntriesBack.{OutsideBack}
use Rattle.just_print.proofs.OutsideBack.{after, behind_in, rest_stands}
use Rattle.just_print.proofs.SettingsOutside.{either, front_letters, token_left, rest_alike}
use Rattle.just_print.proofs.ImportsOutside.{string_begins}

-- what stands behind the name of a module
path_stands : (o r s q : Place) (path : Option StringLiteral) (comment : Option (List ℕ)) → IsModulePath o r path → IsRest r s comment → q.rest ≡ o.rest
    → (begins_string q || is_rest q) ≡ true
path_stands o r s q path comment (IsModulePath.path c i z) w h = (either (begins_string q) (is_rest q)).0 (string_begins o q r c i h).0
path_stands o r s q path comment (IsModulePath.without n e z) w h =
    (either (begins_string q) (is_rest q)).1 (rest_alike q r (h ∙ ap (λ (p : Place). p.rest) (sym e)) ∙ rest_stands r s comment w)

-- what stands behind the word `mod`
pub module_stands : (m n o r s q : Place) (optional : Bool) (name : Name) (path : Option StringLiteral) (comment : Option (List ℕ)) → IsMaybe (codes "?") m n optional
    → IsName n o name → IsModulePath o r path → IsRest r s comment → q.rest ≡ m.rest → (is_module q ≡ true) × (begins (codes ":=") q ≡ false)
module_stands m n o r s q optional name path comment (here t z) k u w h = (
  (either (begins (codes "?") q) (starts begins_name q && (begins_string (behind_word q) || is_rest (behind_word q)))).0 (ap (begins_in (codes "?")) h ∙ t.0),
  begins_other 63 58 (codes "=") q (ap first_in h ∙ token_first 63 [] m n t) refl,
)
module_stands m n o r s q optional name path comment (not_here b e z) k u w h =
    let (c, f, cell, is_dark, is_letter) = name_cell n o name k in
    let same : q.rest ≡ n.rest = h ∙ ap (λ (p : Place). p.rest) (sym e) in
    let begun : starts begins_name q ≡ true = ap (λ (l : List ℕ). passes begins_name (first_in l)) same ∙ k.0 in
    let further : (behind_word q).rest ≡ o.rest = behind_in q ∙ (ap after same ∙ (sym (behind_in n) ∙ ap (λ (p : Place). p.rest) (sym k.1))) in
    let stands : (begins_string (behind_word q) || is_rest (behind_word q)) ≡ true = path_stands o r s (behind_word q) path comment u w further in
    let both : (starts begins_name q && (begins_string (behind_word q) || is_rest (behind_word q))) ≡ true = rw (begun, stands) refl in (
      (either (begins (codes "?") q) (starts begins_name q && (begins_string (behind_word q) || is_rest (behind_word q)))).1 both,
      begins_other c 58 (codes "=") q (ap first_in same ∙ f) (not_that begins_name c 58 is_letter refl),
    )

-- where a module stands, it is a module that begins
module_opens : (a s : Place) (y : AstItem) (more : List ℕ) → after (codes "mod" ++ more) ≡ beyond is_blank more → word_in (codes "mod") (codes "mod" ++ more) ≡ true
    → a.rest ≡ codes "mod" ++ more → IsModule [] a s y → opening_at a ≡ opening.Module
module_opens a s y more same word h (m, n, o, r, optional, name, path, comment, t, k, u, i, w, z) =
    let behind : (behind_word a).rest ≡ m.rest = behind_in a ∙ (ap after h ∙ (same ∙ sym (token_left (codes "mod") more a m h t))) in
    let (stands, other) = module_stands m n o r s (behind_word a) optional name path comment k u i w behind in
    let hash : sees 35 a ≡ false = ap (λ (l : List ℕ). passes (λ d. d == 35) (first_in l)) h in
    let letter : starts begins_name a ≡ true = ap (λ (l : List ℕ). passes begins_name (first_in l)) h in
    let unsigned : is_assignment a ≡ false = rw (letter, other) refl in
    let no_alias : is_word (codes "alias") a ≡ false = is_word_in (codes "alias") a ∙ ap (word_in (codes "alias")) h in
    let no_export : is_word (codes "export") a ≡ false = is_word_in (codes "export") a ∙ ap (word_in (codes "export")) h in
    let no_unexport : is_word (codes "unexport") a ≡ false = is_word_in (codes "unexport") a ∙ ap (word_in (codes "unexport")) h in
    let no_import : is_word (codes "import") a ≡ false = is_word_in (codes "import") a ∙ ap (word_in (codes "import")) h in
    let begun : is_word (codes "mod") a ≡ true = is_word_in (codes "mod") a ∙ (ap (word_in (codes "mod")) h ∙ word) in
    rw (hash, unsigned, no_alias, no_export, no_unexport, no_import, begun, stands) refl

-- the tests of the word, with a `?` behind it or not
pub word_tests : (optional : Bool) (more : List ℕ)
    → (after (codes "mod" ++ (only_if optional (codes "?") ++ (codes " " ++ more))) ≡ beyond is_blank (only_if optional (codes "?") ++ (codes " " ++ more)))
    × (word_in (codes "mod") (codes "mod" ++ (only_if optional (codes "?") ++ (codes " " ++ more))) ≡ true)
word_tests true more = (refl, refl)
word_tests false more = (refl, refl)

-- the letters of a module begin with its word
pub module_letters : (optional : Bool) (bytes list : List ℕ) → encode_utf8_all list ≡ (codes "mod" ++ (only_if optional (codes "?") ++ codes " ")) ++ bytes
    → (more : List ℕ) × (list ≡ codes "mod" ++ (only_if optional (codes "?") ++ (codes " " ++ more)))
module_letters true bytes list h = front_letters (codes "mod? ") bytes list refl h
module_letters false bytes list h = front_letters (codes "mod ") bytes list refl h

-- what stands behind the word, before more
pub moved : (optional : Bool) (more rest : List ℕ) → (codes "mod" ++ (only_if optional (codes "?") ++ (codes " " ++ more))) ++ rest
    ≡ codes "mod" ++ (only_if optional (codes "?") ++ (codes " " ++ (more ++ rest)))
moved true more rest = refl
moved false more rest = refl

-- a module without attributes is printed and read with the same shape
pub module_outside : (new : List ℕ) (p q : Place) (x : AstItem) → IsModule [] p q x → OutsideBack new (entry.Item x)
module_outside new p q x i = module_by new p q x i (module_back [] p q x i)
  where
    module_by : (new : List ℕ) (p q : Place) (x : AstItem) → IsModule [] p q x → ModuleBack [] x → OutsideBack new (entry.Item x)
    module_by new p q x (m, n, o, r, optional, name, path, comment, t, k, u, i, w, z) b =
        let (more, made) = module_letters optional (name.text ++ (printed_file path ++ printed_end comment)) b.letters (sym (b.encoded new) ∙ ap (printed_item new) z) in
        record {
          letters = b.letters;
          head = 109;
          tail = codes "od" ++ (only_if optional (codes "?") ++ (codes " " ++ more));
          encoded = b.encoded new;
          begins_so = made;
          dark_head = refl;
          goes_on = refl;
          again = λ a rest h.
              let (s, y, is, left, same) = b.again [] refl a rest h in
              let from : a.rest ≡ codes "mod" ++ (only_if optional (codes "?") ++ (codes " " ++ (more ++ rest))) =
              h ∙ (ap (λ (l : List ℕ). l ++ rest) made ∙ moved optional more rest) in
              let (skipped, word) = word_tests optional (more ++ rest) in
              let opened = module_opens a s y (only_if optional (codes "?") ++ (codes " " ++ (more ++ rest))) skipped word from is in
              (s, entry.Item y, IsItem.module_alone y opened is refl, left, ap (λ (e : AstItem). entry.Item e) same);
        }
