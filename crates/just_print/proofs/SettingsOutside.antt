-- Settings that are printed are read again as entries.
use Rattle.std.proofs.Common.{◌≡◌, ℕ, ◌==◌, ◌<◌, nat_lt, Bool, true, false, ◌||◌, List, [], ◌∷◌, ◌++◌, Option, codes, encode_utf8_all, refl, sym, ap, ◌∙◌, arith}
use Rattle.std.proofs.lemmas.Bool.{false≢true}
use Rattle.std.proofs.lemmas.Str.{encode_ascii, cons_from_encodes}
use Rattle.just_lang_read.specs.Place.{Place, first_in, passes, starts, sees, begins, begins_in, behind_text, is_empty}
use Rattle.just_lang_syntax.specs.declared.ast.SettingValue.{SettingValue}
use Rattle.just_lang_syntax.specs.declared.ast.AstItem.{AstItem}
use Rattle.just_lang_syntax.specs.declared.entry.Entry.TheVariants as entry
use Rattle.just_lang_syntax.specs.declared.form.Sort.{Sort}
use Rattle.just_lang_syntax.specs.declared.item.Opening.TheVariants as opening
use Rattle.just_lang_read.specs.Characters.{is_blank, begins_name}
use Rattle.just_lang_read.specs.Lines.{crlf, behind_word, is_word, is_rest, IsToken}
use Rattle.just_lang_syntax.specs.Places.{IsRest}
use Rattle.just_lang_syntax.specs.Forms.{sort_of}
use Rattle.just_lang_syntax.specs.Items.{is_assignment, is_last_name, opening_at, IsSettingValue, IsSetting, IsItem}
use Rattle.just_print.specs.Printed.{printed_setting, printed_end, printed_item}
use Rattle.just_print.proofs.Places.{beyond, past_rest, behind_front, is_plain, and_true, not_that}
use Rattle.just_print.proofs.PathsBack.{name_cell}
use Rattle.just_print.proofs.WordsBack.{word_in, is_word_in, begins_other}
use Rattle.just_print.proofs.ItemsBack.{ItemBack}
use Rattle.just_print.proofs.SettingsBack.{setting_back}
use Rattle.just_print.proofs.EntriesBack.{OutsideBack}
use Rattle.just_print.proofs.OutsideBack.{after, behind_in, rest_stands}

-- letters that are encoded behind a mark of ASCII begin with the mark
pub front_letters : (mark bytes list : List ℕ) → is_plain mark ≡ true → encode_utf8_all list ≡ mark ++ bytes → (more : List ℕ) × (list ≡ mark ++ more)
front_letters [] bytes list p h = (list, refl)
front_letters (c ∷ mark) bytes list p h =
    let (a, b) = and_true (nat_lt c 128) (is_plain mark) p in
    let low : c < 128 = grind (arith) in
    let (es, e, f) = cons_from_encodes list (mark ++ bytes) c (h ∙ ap (λ (l : List ℕ). l ++ (mark ++ bytes)) (sym (encode_ascii c low))) in
    let (more, g) = front_letters mark bytes es b f in
    (more, e ∙ ap (λ (l : List ℕ). c ∷ l) g)

-- behind a mark that stands before a blank
pub token_left : (mark more : List ℕ) (p q : Place) → p.rest ≡ mark ++ more → IsToken mark p q → q.rest ≡ beyond is_blank more
token_left mark more p q h (b, e) =
    ap (λ (r : Place). r.rest) e ∙ (past_rest is_blank (behind_text mark p) ∙ ap (beyond is_blank) (behind_front mark more p h))

-- one of two is enough
pub either : (a b : Bool) → (a ≡ true → (a || b) ≡ true) × (b ≡ true → (a || b) ≡ true)
either true b = (λ h. refl, λ h. refl)
either false b = (λ h. absurd (false≢true h), λ h. h)

-- behind a setting's name stand `:=` or the end of the line
value_stands : (kind : Sort) (n o q : Place) (v : Option SettingValue) (comment : Option (List ℕ)) → IsSettingValue kind n o v → IsRest o q comment
    → (begins (codes ":=") n || is_rest n) ≡ true
value_stands kind n o q v comment (IsSettingValue.absent a b c e z) w =
    (either (begins (codes ":=") n) (is_rest n)).1 (ap is_rest (sym e) ∙ rest_stands o q comment w)
value_stands kind n o q v comment (IsSettingValue.flag m b k t i z) w = (either (begins (codes ":=") n) (is_rest n)).0 t.0
value_stands kind n o q v comment (IsSettingValue.text m y k t i z) w = (either (begins (codes ":=") n) (is_rest n)).0 t.0
value_stands kind n o q v comment (IsSettingValue.list m ys k t i z) w = (either (begins (codes ":=") n) (is_rest n)).0 t.0
value_stands kind n o q v comment (IsSettingValue.any_text m y k t b i z) w = (either (begins (codes ":=") n) (is_rest n)).0 t.0
value_stands kind n o q v comment (IsSettingValue.any_list m ys k t i z) w = (either (begins (codes ":=") n) (is_rest n)).0 t.0

-- whether `:=` or the end of a line comes first
abbrev sign_or_rest : List ℕ → Bool
sign_or_rest list = begins_in (codes ":=") list || (passes (λ d. d == 35) (first_in list) || (is_empty list || (passes (λ d. d == 10) (first_in list) || begins_in crlf list)))

-- whether an item may end here is what the text from here says
pub rest_alike : (p q : Place) → p.rest ≡ q.rest → is_rest p ≡ is_rest q
rest_alike p q h = ap rest_first h
  where
    rest_first : List ℕ → Bool
    rest_first list = passes (λ d. d == 35) (first_in list) || (is_empty list || (passes (λ d. d == 10) (first_in list) || begins_in crlf list))

-- where a setting stands before which `set` and a blank stand, it is a setting that begins
setting_opens : (a s : Place) (y : AstItem) (more : List ℕ) → a.rest ≡ codes "set" ++ (codes " " ++ more) → IsSetting a s y → opening_at a ≡ opening.Setting
setting_opens a s y more h (m, n, o, name, value, comment, t, k, v, w, z) =
    let (c, f, cell, is_dark, is_letter) = name_cell m n name k in
    let behind : (behind_word a).rest ≡ m.rest = behind_in a ∙ (ap after h ∙ sym (token_left (codes "set") (codes " " ++ more) a m h t)) in
    let further : (behind_word (behind_word a)).rest ≡ n.rest =
    behind_in (behind_word a) ∙ (ap after behind ∙ (sym (behind_in m) ∙ ap (λ (r : Place). r.rest) (sym k.1))) in
    let begun : starts begins_name (behind_word a) ≡ true = ap (λ (l : List ℕ). passes begins_name (first_in l)) behind ∙ k.0 in
    let other : begins (codes ":=") (behind_word a) ≡ false = begins_other c 58 (codes "=") (behind_word a) (ap first_in behind ∙ f) (not_that begins_name c 58 is_letter refl) in
    let hash : sees 35 a ≡ false = ap (λ (l : List ℕ). passes (λ d. d == 35) (first_in l)) h in
    let letter : starts begins_name a ≡ true = ap (λ (l : List ℕ). passes begins_name (first_in l)) h in
    let unsigned : is_assignment a ≡ false = rw (letter, other) refl in
    let no_alias : is_word (codes "alias") a ≡ false = is_word_in (codes "alias") a ∙ ap (word_in (codes "alias")) h in
    let no_export : is_word (codes "export") a ≡ false = is_word_in (codes "export") a ∙ ap (word_in (codes "export")) h in
    let no_unexport : is_word (codes "unexport") a ≡ false = is_word_in (codes "unexport") a ∙ ap (word_in (codes "unexport")) h in
    let no_import : is_word (codes "import") a ≡ false = is_word_in (codes "import") a ∙ ap (word_in (codes "import")) h in
    let no_module : is_word (codes "mod") a ≡ false = is_word_in (codes "mod") a ∙ ap (word_in (codes "mod")) h in
    let here : is_word (codes "set") a ≡ true = is_word_in (codes "set") a ∙ ap (word_in (codes "set")) h in
    let stands : (begins (codes ":=") (behind_word (behind_word a)) || is_rest (behind_word (behind_word a))) ≡ true =
    ap sign_or_rest further ∙ value_stands (sort_of name.text) n o s value comment v w in
    let valued : (is_assignment (behind_word a) || is_last_name (behind_word a)) ≡ true = rw begun stands in
    rw (hash, unsigned, no_alias, no_export, no_unexport, no_import, no_module, here, valued) refl

-- a setting is printed and read with the same shape
pub setting_outside : (new : List ℕ) (p q : Place) (x : AstItem) → IsSetting p q x → OutsideBack new (entry.Item x)
setting_outside new p q x i = setting_by new p q x i (setting_back p q x i)
  where
    setting_by : (new : List ℕ) (p q : Place) (x : AstItem) → IsSetting p q x → ItemBack IsSetting x → OutsideBack new (entry.Item x)
    setting_by new p q x (m, n, o, name, value, comment, t, k, v, w, z) b =
        let (more, made) =
        front_letters (codes "set ") (name.text ++ (printed_setting value ++ printed_end comment)) b.letters refl (sym (b.encoded new) ∙ ap (printed_item new) z) in
        record {
          letters = b.letters;
          head = 115;
          tail = codes "et " ++ more;
          encoded = b.encoded new;
          begins_so = made;
          dark_head = refl;
          goes_on = refl;
          again = λ a rest h.
              let (s, y, is, left, same) = b.again a rest h in
              let from : a.rest ≡ codes "set" ++ (codes " " ++ (more ++ rest)) = h ∙ ap (λ (l : List ℕ). l ++ rest) made in
              (s, entry.Item y, IsItem.setting_item y (setting_opens a s y (more ++ rest) from is) is refl, left, ap (λ (e : AstItem). entry.Item e) same);
        }
