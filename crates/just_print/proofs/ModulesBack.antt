-- What is printed of a module behind its attributes is read again.
use Rattle.std.specs.Option.{option_map}
use Rattle.std.proofs.Common.{◌≡◌, ℕ, ◌==◌, Bool, false, if◌then◌else◌, List, [], ◌++◌, map, Option, Some, None, codes, encode_utf8_all, refl, sym, ap, ◌∙◌, subst, append_assoc}
use Rattle.just_lang_read.specs.Place.{Place, next, run, first_in, passes, starts, sees}
use Rattle.just_lang_syntax.specs.declared.ast.Name.{Name}
use Rattle.just_lang_syntax.specs.declared.ast.StringLiteral.{StringLiteral}
use Rattle.just_lang_syntax.specs.declared.ast.Attribute.{Attribute}
use Rattle.just_lang_syntax.specs.declared.ast.AstItem.{AstItem}
use Rattle.just_lang_syntax.specs.declared.ast.AstItem.TheVariants as item
use Rattle.just_lang_read.specs.Characters.{is_blank, begins_name, in_name, is_quote}
use Rattle.just_lang_read.specs.Lines.{behind_word}
use Rattle.just_lang_syntax.specs.Places.{name_at, IsRest}
use Rattle.just_lang_read.specs.Quotes.{begins_string}
use Rattle.just_lang_syntax.specs.Items.{IsModulePath, IsModule}
use Rattle.just_lang_syntax.specs.Items.IsModulePath.{path, without}
use Rattle.just_print.specs.Printed.{only_if, printed_string, printed_attributes, printed_word, printed_file, printed_end, printed_item}
use Rattle.just_print.specs.Shapes.{bare_name, bare_string, bare_attribute, bare_item}
use Rattle.just_print.proofs.Places.{beyond, beyond_dark, not_that, alike_test, IsApart, token_back}
use Rattle.just_print.proofs.NamesBack.{name_stands}
use Rattle.just_print.proofs.StringsBack.{StringStands, string_stands}
use Rattle.just_print.proofs.PathsBack.{name_cell}
use Rattle.just_print.proofs.WordsBack.{joined_text, plain_text}
use Rattle.just_print.proofs.LinesBack.{EndBack, end_back}
use Rattle.just_print.proofs.RecipesBack.{rest_first}
use Rattle.just_print.proofs.ItemsBack.{maybe_blank, only_mark}

-- the file of a module, before the end of the line
pub record FileBack (x : Option StringLiteral) (end : List ℕ) : Type 0 where
  pub letters : List ℕ
  pub encoded : printed_file x ≡ encode_utf8_all letters
  pub apart : (rest : List ℕ) → IsApart (letters ++ (end ++ rest))
  pub again : (s : Place) (rest : List ℕ) → s.rest ≡ beyond is_blank (letters ++ (end ++ rest))
      → (t : Place) × (y : Option StringLiteral) × IsModulePath s t y × (t.rest ≡ beyond is_blank (end ++ rest)) × (option_map bare_string y ≡ option_map bare_string x)

x_or : (b : Bool) (r : Place) → b ≡ false → starts is_quote r ≡ false → starts is_quote (if b then next r else r) ≡ false
x_or b r h k = rw h k

file_back : (p o q : Place) (x : Option StringLiteral) (comment : Option (List ℕ)) (w : IsRest o q comment) → IsModulePath p o x → FileBack x (end_back o q comment w).letters
file_back p o q x comment w (path s i z) =
    let E : EndBack o comment = end_back o q comment w in
    let b : StringStands p s = string_stands p o s i in
    subst (λ (y : Option StringLiteral). FileBack y E.letters) (sym z) record {
      letters = codes " " ++ b.letters;
      encoded = joined_text (codes " ") (printed_string s) (codes " ") b.letters (plain_text (codes " ") refl) b.encoded;
      apart = λ rest. (refl, refl);
      again = λ r rest h.
          let (t, y, j, left, shape) = b.again r (E.letters ++ rest) (h ∙ beyond_dark b.letters b.head b.tail (E.letters ++ rest) b.begins b.dark_head) (E.apart rest) in
          (t, Some y, path y j refl, left, ap (λ (a : StringLiteral). Some a) shape);
    }
file_back p o q x comment w (without n e z) =
    let E : EndBack o comment = end_back o q comment w in
    subst (λ (y : Option StringLiteral). FileBack y E.letters) (sym z) record {
      letters = [];
      encoded = refl;
      apart = E.apart;
      again = λ r rest h.
          let test : (t : ℕ → Bool) → t 10 ≡ false → t 13 ≡ false → t 35 ≡ false → starts t r ≡ false =
          λ t a b c. ap (λ (l : List ℕ). passes t (first_in l)) h
          ∙ (alike_test t (beyond is_blank (E.letters ++ rest)) o.rest a b (E.alike rest) ∙ rest_first t o q comment a b c w) in
          let no_string : begins_string r ≡ false = x_or (sees 120 r) r (test (λ d. d == 120) refl refl refl) (test is_quote refl refl refl) in
          (r, None, without no_string refl refl, h, refl);
    }

-- a module behind its attributes is printed and read as it is, behind attributes of the same shape
pub record ModuleBack (attributes : List Attribute) (x : AstItem) : Type 0 where
  pub letters : List ℕ
  pub encoded : (indentation : List ℕ) → printed_item indentation x ≡ printed_attributes attributes ++ encode_utf8_all letters
  pub again : (others : List Attribute) → map bare_attribute others ≡ map bare_attribute attributes → (r : Place) (rest : List ℕ) → r.rest ≡ letters ++ rest
      → (s : Place) × (y : AstItem) × IsModule others r s y × (s.rest ≡ rest) × (bare_item y ≡ bare_item x)

-- a module is printed and read as it is
pub module_back : (attributes : List Attribute) (p q : Place) (x : AstItem) → IsModule attributes p q x → ModuleBack attributes x
module_back attributes p q x (m, n, o, r, optional, name, file, comment, t, a, k, i, w, z) =
    let E : EndBack r comment = end_back r q comment w in
    let F : FileBack file E.letters = file_back o r q file comment w i in
    let word : List ℕ = run in_name n.rest in
    let (c, f, cell, is_dark, is_letter) = name_cell n o name k in
    let at : List ℕ = only_if optional (codes "?") in
    let tail : List ℕ = word ++ (F.letters ++ E.letters) in
    let text : List ℕ = name.text ++ (printed_file file ++ printed_end comment) in
    let moved : printed_word (codes "mod") optional ++ text ≡ codes "mod" ++ (at ++ (codes " " ++ text)) =
    ap (λ (l : List ℕ). codes "mod" ++ l) (append_assoc at (codes " ") text) in
    record {
      letters = codes "mod" ++ (at ++ (codes " " ++ tail));
      encoded = λ indentation. ap (printed_item indentation) z ∙ ap (λ (l : List ℕ). printed_attributes attributes ++ l) (moved
          ∙ joined_text (codes "mod") (at ++ (codes " " ++ text)) (codes "mod") (at ++ (codes " " ++ tail)) (plain_text (codes "mod") refl)
          (joined_text at (codes " " ++ text) at (codes " " ++ tail) (only_mark optional)
          (joined_text (codes " ") text (codes " ") tail (plain_text (codes " ") refl)
          (joined_text name.text (printed_file file ++ printed_end comment) word (F.letters ++ E.letters) (ap (λ (b : Name). b.text) k.2)
          (joined_text (printed_file file) (printed_end comment) F.letters E.letters F.encoded E.encoded)))));
      again = λ others same r0 rest h.
          let r1 : List ℕ = F.letters ++ (E.letters ++ rest) in
          let spread : r0.rest ≡ codes "mod" ++ (at ++ (codes " " ++ (word ++ r1))) =
          h ∙ ap (λ (l : List ℕ). codes "mod" ++ l) (append_assoc at (codes " " ++ tail) rest
          ∙ ap (λ (l : List ℕ). at ++ (codes " " ++ l)) (append_assoc word (F.letters ++ E.letters) rest
          ∙ ap (λ (l : List ℕ). word ++ l) (append_assoc F.letters E.letters rest))) in
          let (m2, t2, l1) = token_back (codes "mod") (at ++ (codes " " ++ (word ++ r1))) r0 spread in
          let (n2, a2, l2) = maybe_blank optional c m2 (word ++ r1) l1 (ap (λ (l : List ℕ). first_in (l ++ r1)) cell) (not_that begins_name c 63 is_letter refl) is_dark in
          let (is, l3, shape) = name_stands n o name k n2 r1 l2 (F.apart rest).0 in
          let (r2, y, i2, l4, shape2) = F.again (behind_word n2) rest l3 in
          let (q2, w2, l5) = E.again r2 rest l4 in (
            q2,
            item.Module others optional (name_at n2) y comment,
            (m2, n2, behind_word n2, r2, optional, name_at n2, y, comment, t2, a2, is, i2, w2, refl),
            l5,
            ap (λ (l : List Attribute). item.Module l optional (bare_name (name_at n2)) (option_map bare_string y) comment) same
                ∙ (ap (λ (b : Name). item.Module (map bare_attribute attributes) optional b (option_map bare_string y) comment) shape
                ∙ (ap (λ (b : Option StringLiteral). item.Module (map bare_attribute attributes) optional (bare_name name) b comment) shape2 ∙ sym (ap bare_item z))),
          );
    }
