-- Items that are printed are read again as items: the word or the sign that they begin with tells which.
use Rattle.std.proofs.Common.{◌≡◌, ℕ, ◌==◌, Bool, true, false, ◌&&◌, ◌||◌, List, [], ◌∷◌, ◌++◌, Option, Some, codes, encode_utf8_all, refl, sym, ap, ◌∙◌, append_assoc}
use Rattle.std.proofs.lemmas.Str.{encodes_same}
use Rattle.just_lang_read.specs.Place.{Place, next, past, run, first, first_in, passes, starts, sees, begins, begins_in, is_end}
use Rattle.just_lang_read.proofs.Laws.{sees_first, first_is}
use Rattle.just_lang_syntax.specs.declared.ast.Name.{Name}
use Rattle.just_lang_syntax.specs.declared.ast.AstItem.{AstItem}
use Rattle.just_lang_syntax.specs.declared.ast.AstItem.TheVariants as tree
use Rattle.just_lang_syntax.specs.declared.entry.Entry.TheVariants as entry
use Rattle.just_lang_syntax.specs.declared.item.Opening.TheVariants as opening
use Rattle.just_lang_read.specs.Characters.{is_blank, begins_name, in_name, in_line}
use Rattle.just_lang_read.specs.Lines.{crlf, put, without_returns, behind_word, is_word, is_rest, ends_line, IsNewline}
use Rattle.just_lang_syntax.specs.Places.{IsName, IsComment, IsRest}
use Rattle.just_lang_syntax.specs.Places.IsRest.{ended, commented}
use Rattle.just_lang_syntax.specs.Items.{is_assignment, is_last_name, opening_at, IsAlias, IsAssignment, IsUnexport, IsItem}
use Rattle.just_print.specs.Printed.{newline, printed_path, printed_expr, printed_end, printed_item}
use Rattle.just_print.proofs.Places.{beyond, past_rest, beyond_run, beyond_dark, not_that, token_back}
use Rattle.just_print.proofs.PathsBack.{name_cell, path_back}
use Rattle.just_print.proofs.WordsBack.{joined_text, plain_text, word_in, is_word_in}
use Rattle.just_print.proofs.ExprsBack.{expr_back}
use Rattle.just_print.proofs.LinesBack.{comment_letters, comment_stands, end_back}
use Rattle.just_print.proofs.ItemsBack.{ItemBack, AssignmentBack, alias_back, assignment_back, unexport_back}
use Rattle.just_print.proofs.EntriesBack.{OutsideBack}

-- ---- what stands behind the first word

-- what is left behind a word and the blanks that follow it
abbrev pub after : List ℕ → List ℕ
after list = beyond is_blank (beyond in_name list)

-- behind the first word and its blanks
pub behind_in : (r : Place) → (behind_word r).rest ≡ after r.rest
behind_in r = past_rest is_blank (past in_name r) ∙ ap (beyond is_blank) (past_rest in_name r)

-- whether a name and `:=` come first
abbrev assignment_in : List ℕ → Bool
assignment_in list = passes begins_name (first_in list) && begins_in (codes ":=") (after list)

assigns : (r : Place) (list : List ℕ) → r.rest ≡ list → is_assignment r ≡ assignment_in list
assigns r list h =
    ap (λ (l : List ℕ). passes begins_name (first_in r.rest) && begins_in (codes ":=") l) (behind_in r) ∙ ap assignment_in h

-- a name before a sign
name_assigns : (p m : Place) (x : Name) (rest : List ℕ) → IsName p m x → assignment_in (run in_name p.rest ++ (codes " :=" ++ rest)) ≡ true
name_assigns p m x rest k =
    let (c, f, cell, is_dark, is_letter) = name_cell p m x k in
    let begun : passes begins_name (first_in (run in_name p.rest ++ (codes " :=" ++ rest))) ≡ true =
    ap (λ (l : List ℕ). passes begins_name (first_in (l ++ (codes " :=" ++ rest)))) cell ∙ is_letter in
    let left : after (run in_name p.rest ++ (codes " :=" ++ rest)) ≡ codes ":=" ++ rest = ap (beyond is_blank) (beyond_run in_name p.rest (codes " :=" ++ rest) refl) in
    rw (begun, left) refl

-- a name is no sign
name_no_sign : (p m : Place) (x : Name) (rest : List ℕ) → IsName p m x
    → (beyond is_blank (run in_name p.rest ++ rest) ≡ run in_name p.rest ++ rest) × (begins_in (codes ":=") (run in_name p.rest ++ rest) ≡ false)
name_no_sign p m x rest k =
    let (c, f, cell, is_dark, is_letter) = name_cell p m x k in
    let other : (c == 58) ≡ false = not_that begins_name c 58 is_letter refl in (
      beyond_dark (run in_name p.rest) c (run in_name (next p).rest) rest cell is_dark,
      ap (λ (l : List ℕ). begins_in (codes ":=") (l ++ rest)) cell ∙ rw other refl,
    )

-- ---- comments

put_hash : (list : List ℕ) → put 35 list ≡ 35 ∷ list
put_hash [] = refl
put_hash (c ∷ list) = refl

-- a comment begins with its sign
hash_cell : (p : Place) → first p ≡ Some 35 → comment_letters p ≡ 35 ∷ without_returns (run in_line (next p).rest)
hash_cell p h = ap (λ (l : List ℕ). without_returns (run in_line l)) (first_is p 35 h) ∙ put_hash (without_returns (run in_line (next p).rest))

-- a comment is printed and read as it is
pub comment_outside : (new : List ℕ) (p q : Place) (t : List ℕ) → IsComment p q t → OutsideBack new (entry.Item (tree.Comment t))
comment_outside new p q t i =
    let cell = hash_cell p (sees_first 35 p i.0) in
    let tail : List ℕ = without_returns (run in_line (next p).rest) in
    record {
      letters = comment_letters p ++ newline;
      head = 35;
      tail = tail ++ newline;
      encoded = joined_text t newline (comment_letters p) newline i.1 (plain_text newline refl);
      begins_so = ap (λ (l : List ℕ). l ++ newline) cell;
      dark_head = refl;
      goes_on = refl;
      again = λ r rest h.
          let from : r.rest ≡ comment_letters p ++ (10 ∷ rest) = h ∙ append_assoc (comment_letters p) newline rest in
          let (s, is, left) = comment_stands p q t i r rest from in
          let hash : sees 35 r ≡ true = ap (λ (l : List ℕ). passes (λ d. d == 35) (first_in l)) (from ∙ ap (λ (l : List ℕ). l ++ (10 ∷ rest)) cell) in
          let opened : opening_at r ≡ opening.Comment = rw hash refl in
          (s, entry.Item (tree.Comment t), IsItem.comment t opened is refl, left, refl);
    }

-- ---- assignments

-- an assignment is printed and read with the same shape
pub assignment_outside : (new : List ℕ) (p q : Place) (x : AstItem) → IsAssignment false p q x → OutsideBack new (entry.Item x)
assignment_outside new p q x i = assignment_by new p q x i (assignment_back false p q x i)
  where
    assignment_by : (new : List ℕ) (p q : Place) (x : AstItem) → IsAssignment false p q x → AssignmentBack false x → OutsideBack new (entry.Item x)
    assignment_by new p q x (m, n, o, name, value, comment, k, u, i, w, z) b =
        let V = expr_back n o value i in
        let E = end_back o q comment w in
        let word : List ℕ = run in_name p.rest in
        let (c, f, cell, is_dark, is_letter) = name_cell p m name k in
        let tail : List ℕ = V.letters ++ E.letters in
        let text : printed_item new x ≡ encode_utf8_all (word ++ (codes " := " ++ tail)) =
        ap (printed_item new) z
        ∙ joined_text name.text (codes " := " ++ (printed_expr value ++ printed_end comment)) word (codes " := " ++ tail) (ap (λ (v : Name). v.text) k.2)
        (joined_text (codes " := ") (printed_expr value ++ printed_end comment) (codes " := ") tail (plain_text (codes " := ") refl)
        (joined_text (printed_expr value) (printed_end comment) V.letters E.letters V.encoded E.encoded)) in
        let made : b.letters ≡ word ++ (codes " := " ++ tail) = encodes_same b.letters (word ++ (codes " := " ++ tail)) (sym (b.encoded new) ∙ text) in
        let no_feed : (c == 10) ≡ false = not_that begins_name c 10 is_letter refl in
        let no_return : (c == 13) ≡ false = not_that begins_name c 13 is_letter refl in
        let no_hash : (c == 35) ≡ false = not_that begins_name c 35 is_letter refl in
        record {
          letters = b.letters;
          head = c;
          tail = run in_name (next p).rest ++ (codes " := " ++ tail);
          encoded = b.encoded new;
          begins_so = made ∙ ap (λ (l : List ℕ). l ++ (codes " := " ++ tail)) cell;
          dark_head = is_dark;
          goes_on = rw (no_feed, no_return) refl;
          again = λ r rest h.
              let (s, y, is, left, same) = b.again r rest h in
              let from : r.rest ≡ word ++ (codes " :=" ++ (codes " " ++ (tail ++ rest))) =
              h ∙ (ap (λ (l : List ℕ). l ++ rest) made ∙ append_assoc word (codes " := " ++ tail) rest) in
              let hash : sees 35 r ≡ false =
              ap (λ (l : List ℕ). passes (λ d. d == 35) (first_in l)) from
              ∙ (ap (λ (l : List ℕ). passes (λ d. d == 35) (first_in (l ++ (codes " :=" ++ (codes " " ++ (tail ++ rest)))))) cell ∙ no_hash) in
              let assigned : is_assignment r ≡ true =
              assigns r (word ++ (codes " :=" ++ (codes " " ++ (tail ++ rest)))) from ∙ name_assigns p m name (codes " " ++ (tail ++ rest)) k in
              let opened : opening_at r ≡ opening.Assignment = rw (hash, assigned) refl in
              (s, entry.Item y, IsItem.assignment y opened is refl, left, ap (λ (v : AstItem). entry.Item v) same);
        }

-- ---- a word before a name

-- the tests of a word before a name: the word is no name of an assignment, and the name stands behind it
word_no_sign : (word : List ℕ) (p m : Place) (x : Name) (rest : List ℕ) (r : Place) → IsName p m x
    → after (word ++ (codes " " ++ (run in_name p.rest ++ rest))) ≡ beyond is_blank (run in_name p.rest ++ rest) → r.rest ≡ word ++ (codes " " ++ (run in_name p.rest ++ rest))
    → (is_assignment r ≡ false) × ((behind_word r).rest ≡ run in_name p.rest ++ rest)
word_no_sign word p m x rest r k e h =
    let (same, unsigned) = name_no_sign p m x rest k in
    let behind : (behind_word r).rest ≡ run in_name p.rest ++ rest = behind_in r ∙ (ap after h ∙ (e ∙ same)) in (
      ap (λ (l : List ℕ). passes begins_name (first_in r.rest) && begins_in (codes ":=") l) behind
          ∙ (ap (λ (b : Bool). passes begins_name (first_in r.rest) && b) unsigned ∙ and_none (passes begins_name (first_in r.rest))),
      behind,
    )
  where
    and_none : (b : Bool) → (b && false) ≡ false
    and_none true = refl
    and_none false = refl

-- an alias is printed and read with the same shape
pub alias_outside : (new : List ℕ) (p q : Place) (x : AstItem) → IsAlias p q x → OutsideBack new (entry.Item x)
alias_outside new p q x i = alias_by new p q x i (alias_back p q x i)
  where
    alias_by : (new : List ℕ) (p q : Place) (x : AstItem) → IsAlias p q x → ItemBack IsAlias x → OutsideBack new (entry.Item x)
    alias_by new p q x (m, n, o, r, name, target, comment, t, k, u, i, w, z) b =
        let P = path_back o r target i in
        let E = end_back r q comment w in
        let word : List ℕ = run in_name m.rest in
        let tail : List ℕ = P.letters ++ E.letters in
        let text : printed_item new x ≡ encode_utf8_all (codes "alias " ++ (word ++ (codes " := " ++ tail))) =
        ap (printed_item new) z
        ∙ joined_text (codes "alias ") (name.text ++ (codes " := " ++ (printed_path target ++ printed_end comment))) (codes "alias ") (word ++ (codes " := " ++ tail))
        (plain_text (codes "alias ") refl)
        (joined_text name.text (codes " := " ++ (printed_path target ++ printed_end comment)) word (codes " := " ++ tail) (ap (λ (v : Name). v.text) k.2)
        (joined_text (codes " := ") (printed_path target ++ printed_end comment) (codes " := ") tail (plain_text (codes " := ") refl)
        (joined_text (printed_path target) (printed_end comment) P.letters E.letters P.encoded E.encoded))) in
        let made : b.letters ≡ codes "alias " ++ (word ++ (codes " := " ++ tail)) =
        encodes_same b.letters (codes "alias " ++ (word ++ (codes " := " ++ tail))) (sym (b.encoded new) ∙ text) in
        record {
          letters = b.letters;
          head = 97;
          tail = codes "lias " ++ (word ++ (codes " := " ++ tail));
          encoded = b.encoded new;
          begins_so = made;
          dark_head = refl;
          goes_on = refl;
          again = λ a rest h.
              let (s, y, is, left, same) = b.again a rest h in
              let more : List ℕ = codes " :=" ++ (codes " " ++ (tail ++ rest)) in
              let from : a.rest ≡ codes "alias" ++ (codes " " ++ (word ++ more)) =
              h ∙ (ap (λ (l : List ℕ). l ++ rest) made ∙ ap (λ (l : List ℕ). codes "alias " ++ l) (append_assoc word (codes " := " ++ tail) rest)) in
              let (unsigned, behind) = word_no_sign (codes "alias") m n name more a k refl from in
              let hash : sees 35 a ≡ false = ap (λ (l : List ℕ). passes (λ d. d == 35) (first_in l)) from in
              let here : is_word (codes "alias") a ≡ true = is_word_in (codes "alias") a ∙ ap (word_in (codes "alias")) from in
              let assigned : is_assignment (behind_word a) ≡ true =
              assigns (behind_word a) (word ++ more) behind ∙ name_assigns m n name (codes " " ++ (tail ++ rest)) k in
              let opened : opening_at a ≡ opening.Alias = rw (hash, unsigned, here, assigned) refl in
              (s, entry.Item y, IsItem.alias y opened is refl, left, ap (λ (v : AstItem). entry.Item v) same);
        }

or_second : (a b : Bool) → b ≡ true → (a || b) ≡ true
or_second true b h = refl
or_second false b h = h

-- whether an end of an item's line stands is seen where one does
pub rest_stands : (r s : Place) (comment : Option (List ℕ)) → IsRest r s comment → is_rest r ≡ true
rest_stands r s comment (ended (IsNewline.last e z) c) = or_second (sees 35 r) (ends_line r) (rw e refl)
rest_stands r s comment (ended (IsNewline.feed i) c) = or_second (sees 35 r) (ends_line r) (or_second (is_end r) (sees 10 r || begins crlf r) (rw i.0 refl))
rest_stands r s comment (ended (IsNewline.return_feed b z) c) =
    or_second (sees 35 r) (ends_line r) (or_second (is_end r) (sees 10 r || begins crlf r) (or_second (sees 10 r) (begins crlf r) b))
rest_stands r s comment (commented t i c) = rw i.0 refl

-- behind a printed name stands the end of the line
rest_in : (p q : Place) (comment : Option (List ℕ)) (i : IsRest p q comment) (rest : List ℕ) (r : Place)
    → r.rest ≡ beyond is_blank ((end_back p q comment i).letters ++ rest) → is_rest r ≡ true
rest_in p q comment i rest r h = let (s, is, left) = (end_back p q comment i).again r rest h in rest_stands r s comment is

-- an unexport is printed and read with the same shape
pub unexport_outside : (new : List ℕ) (p q : Place) (x : AstItem) → IsUnexport p q x → OutsideBack new (entry.Item x)
unexport_outside new p q x i = unexport_by new p q x i (unexport_back p q x i)
  where
    unexport_by : (new : List ℕ) (p q : Place) (x : AstItem) → IsUnexport p q x → ItemBack IsUnexport x → OutsideBack new (entry.Item x)
    unexport_by new p q x (m, n, name, comment, t, k, w, z) b =
        let E = end_back n q comment w in
        let word : List ℕ = run in_name m.rest in
        let (c, f, cell, is_dark, is_letter) = name_cell m n name k in
        let text : printed_item new x ≡ encode_utf8_all (codes "unexport " ++ (word ++ E.letters)) =
        ap (printed_item new) z
        ∙ joined_text (codes "unexport ") (name.text ++ printed_end comment) (codes "unexport ") (word ++ E.letters) (plain_text (codes "unexport ") refl)
        (joined_text name.text (printed_end comment) word E.letters (ap (λ (v : Name). v.text) k.2) E.encoded) in
        let made : b.letters ≡ codes "unexport " ++ (word ++ E.letters) =
        encodes_same b.letters (codes "unexport " ++ (word ++ E.letters)) (sym (b.encoded new) ∙ text) in
        record {
          letters = b.letters;
          head = 117;
          tail = codes "nexport " ++ (word ++ E.letters);
          encoded = b.encoded new;
          begins_so = made;
          dark_head = refl;
          goes_on = refl;
          again = λ a rest h.
              let (s, y, is, left, same) = b.again a rest h in
              let more : List ℕ = E.letters ++ rest in
              let from : a.rest ≡ codes "unexport" ++ (codes " " ++ (word ++ more)) =
              h ∙ (ap (λ (l : List ℕ). l ++ rest) made ∙ ap (λ (l : List ℕ). codes "unexport " ++ l) (append_assoc word E.letters rest)) in
              let (unsigned, behind) = word_no_sign (codes "unexport") m n name more a k refl from in
              let hash : sees 35 a ≡ false = ap (λ (l : List ℕ). passes (λ d. d == 35) (first_in l)) from in
              let no_alias : is_word (codes "alias") a ≡ false = is_word_in (codes "alias") a ∙ ap (word_in (codes "alias")) from in
              let no_export : is_word (codes "export") a ≡ false = is_word_in (codes "export") a ∙ ap (word_in (codes "export")) from in
              let here : is_word (codes "unexport") a ≡ true = is_word_in (codes "unexport") a ∙ ap (word_in (codes "unexport")) from in
              let begun : starts begins_name (behind_word a) ≡ true =
              ap (λ (l : List ℕ). passes begins_name (first_in l)) behind ∙ (ap (λ (l : List ℕ). passes begins_name (first_in (l ++ more))) cell ∙ is_letter) in
              let left_over : (behind_word (behind_word a)).rest ≡ beyond is_blank more =
              behind_in (behind_word a) ∙ (ap after behind ∙ ap (beyond is_blank) (beyond_run in_name m.rest more (E.apart rest).0)) in
              let ends : is_rest (behind_word (behind_word a)) ≡ true = rest_in n q comment w rest (behind_word (behind_word a)) left_over in
              let last_name : is_last_name (behind_word a) ≡ true = rw (begun, ends) refl in
              let opened : opening_at a ≡ opening.Unexport = rw (hash, unsigned, no_alias, no_export, here, last_name) refl in
              (s, entry.Item y, IsItem.unexport y opened is refl, left, ap (λ (v : AstItem). entry.Item v) same);
        }

-- an assignment behind `export` is printed and read with the same shape
pub export_outside : (new : List ℕ) (p q : Place) (x : AstItem) → IsAssignment true p q x → OutsideBack new (entry.Item x)
export_outside new p q x i = export_by new p q x i (assignment_back true p q x i)
  where
    export_by : (new : List ℕ) (p q : Place) (x : AstItem) → IsAssignment true p q x → AssignmentBack true x → OutsideBack new (entry.Item x)
    export_by new p q x (m, n, o, name, value, comment, k, u, i, w, z) b =
        let V = expr_back n o value i in
        let E = end_back o q comment w in
        let word : List ℕ = run in_name p.rest in
        let tail : List ℕ = V.letters ++ E.letters in
        let mine : List ℕ = word ++ (codes " := " ++ tail) in
        let text : printed_item new x ≡ encode_utf8_all (codes "export " ++ mine) =
        ap (printed_item new) z
        ∙ joined_text (codes "export ") (name.text ++ (codes " := " ++ (printed_expr value ++ printed_end comment))) (codes "export ") mine (plain_text (codes "export ") refl)
        (joined_text name.text (codes " := " ++ (printed_expr value ++ printed_end comment)) word (codes " := " ++ tail) (ap (λ (v : Name). v.text) k.2)
        (joined_text (codes " := ") (printed_expr value ++ printed_end comment) (codes " := ") tail (plain_text (codes " := ") refl)
        (joined_text (printed_expr value) (printed_end comment) V.letters E.letters V.encoded E.encoded))) in
        let whole : printed_item new x ≡ encode_utf8_all (codes "export " ++ b.letters) =
        b.encoded new ∙ joined_text (codes "export ") (encode_utf8_all b.letters) (codes "export ") b.letters (plain_text (codes "export ") refl) refl in
        let made : codes "export " ++ b.letters ≡ codes "export " ++ mine = encodes_same (codes "export " ++ b.letters) (codes "export " ++ mine) (sym whole ∙ text) in
        record {
          letters = codes "export " ++ b.letters;
          head = 101;
          tail = codes "xport " ++ b.letters;
          encoded = whole;
          begins_so = refl;
          dark_head = refl;
          goes_on = refl;
          again = λ a rest h.
              let (a2, token, l1) = token_back (codes "export") (codes " " ++ (b.letters ++ rest)) a h in
              let (s, y, is, left, same) = b.again a2 rest (l1 ∙ beyond_dark b.letters b.head b.tail rest b.begins b.dark_head) in
              let more : List ℕ = codes " :=" ++ (codes " " ++ (tail ++ rest)) in
              let from : a.rest ≡ codes "export" ++ (codes " " ++ (word ++ more)) =
              h ∙ (ap (λ (l : List ℕ). l ++ rest) made ∙ ap (λ (l : List ℕ). codes "export " ++ l) (append_assoc word (codes " := " ++ tail) rest)) in
              let (unsigned, behind) = word_no_sign (codes "export") p m name more a k refl from in
              let hash : sees 35 a ≡ false = ap (λ (l : List ℕ). passes (λ d. d == 35) (first_in l)) from in
              let no_alias : is_word (codes "alias") a ≡ false = is_word_in (codes "alias") a ∙ ap (word_in (codes "alias")) from in
              let here : is_word (codes "export") a ≡ true = is_word_in (codes "export") a ∙ ap (word_in (codes "export")) from in
              let assigned : is_assignment (behind_word a) ≡ true =
              assigns (behind_word a) (word ++ more) behind ∙ name_assigns p m name (codes " " ++ (tail ++ rest)) k in
              let opened : opening_at a ≡ opening.Export = rw (hash, unsigned, no_alias, here, assigned) refl in
              (s, entry.Item y, IsItem.export a2 y opened token is refl, left, ap (λ (v : AstItem). entry.Item v) same);
        }
