-- What is printed of a path is read again as that path.
use Rattle.std.proofs.Common.{◌≡◌, ℕ, true, false, List, [], ◌∷◌, ◌++◌, map, Some, codes, encode_utf8_all, refl, sym, ap, ◌∙◌, append_assoc}
use Rattle.just_lang_read.specs.Place.{Place, AreMany, run, first, next, begins_in}
use Rattle.just_lang_read.proofs.Laws.{starts_at, starts_with, run_next}
use Rattle.just_lang_syntax.specs.declared.ast.Name.{Name}
use Rattle.just_lang_read.specs.Characters.{is_blank, begins_name, in_name}
use Rattle.just_lang_read.specs.Lines.{behind_word}
use Rattle.just_lang_syntax.specs.Places.{name_at, IsName, IsFurtherName, IsPath}
use Rattle.just_lang_syntax.specs.Places.IsPath.{names}
use Rattle.just_print.specs.Printed.{led, printed_name, printed_path}
use Rattle.just_print.specs.Shapes.{bare_name}
use Rattle.just_print.proofs.Places.{beyond, beyond_dark, dark, IsApart, token_back}
use Rattle.just_print.proofs.NamesBack.{in_name_first, name_stands}
use Rattle.just_print.proofs.WordsBack.{joined_text, plain_text}

-- the first character of a name
pub name_cell : (p q : Place) (x : Name) → IsName p q x
    → (c : ℕ) × (first p ≡ Some c) × (run in_name p.rest ≡ c ∷ run in_name (next p).rest) × (is_blank c ≡ false) × (begins_name c ≡ true)
name_cell p q x (b, e, z) =
    let (c, f, t) = starts_with begins_name p b in
    (c, f, run_next in_name p c f (starts_at in_name p c f ∙ in_name_first c t), dark begins_name c t refl refl, t)

-- names behind `::` that are printed and read again
pub record FurtherBack (xs : List Name) : Type 0 where
  pub letters : List ℕ
  pub encoded : led (codes "::") (map printed_name xs) ≡ encode_utf8_all letters
  pub apart : (rest : List ℕ) → IsApart rest → IsApart (letters ++ rest)
  pub again : (s : Place) (rest : List ℕ) → s.rest ≡ beyond is_blank (letters ++ rest) → IsApart rest
      → (t : Place) × (ys : List Name) × AreMany IsFurtherName s t ys × (t.rest ≡ beyond is_blank rest) × (map bare_name ys ≡ map bare_name xs)

further_back : (m q : Place) (xs : List Name) → AreMany IsFurtherName m q xs → FurtherBack xs
further_back m q [] e = record { letters = []; encoded = refl; apart = λ rest a. a; again = λ s rest h a. (s, [], refl, h, refl) }
further_back m q (x ∷ xs) (k, (o, t, i), are) =
    let others : FurtherBack xs = further_back k q xs are in
    let name : List ℕ = run in_name o.rest in
    let (c, f, cell, is_dark, letter) = name_cell o k x i in
    record {
      letters = codes "::" ++ (name ++ others.letters);
      encoded = joined_text (codes "::") (x.text ++ led (codes "::") (map printed_name xs)) (codes "::") (name ++ others.letters) (plain_text (codes "::") refl)
          (joined_text x.text (led (codes "::") (map printed_name xs)) name others.letters (ap (λ (n : Name). n.text) i.2) others.encoded);
      apart = λ rest a. (refl, refl);
      again = λ s rest h a.
          let (o2, t2, l1) = token_back (codes "::") ((name ++ others.letters) ++ rest) s h in
          let here : o2.rest ≡ name ++ (others.letters ++ rest) =
          l1 ∙ (ap (beyond is_blank) (append_assoc name others.letters rest)
          ∙ beyond_dark name c (run in_name (next o).rest) (others.letters ++ rest) cell is_dark) in
          let (is, left, shape) = name_stands o k x i o2 (others.letters ++ rest) here (others.apart rest a).0 in
          let (t, ys, many, end, shapes) = others.again (behind_word o2) rest left a in (
            t,
            name_at o2 ∷ ys,
            (behind_word o2, (o2, t2, is), many),
            end,
            ap (λ (n : Name). n ∷ map bare_name ys) shape ∙ ap (λ (ns : List Name). bare_name x ∷ ns) shapes,
          );
    }

-- a path that is printed and read again, where no further name follows
pub record PathBack (p : Place) (xs : List Name) : Type 0 where
  pub letters : List ℕ
  pub head : ℕ
  pub tail : List ℕ
  pub encoded : printed_path xs ≡ encode_utf8_all letters
  pub begins : letters ≡ head ∷ tail
  pub seen : first p ≡ Some head
  pub dark_head : is_blank head ≡ false
  pub letter : begins_name head ≡ true
  pub again : (r : Place) (rest : List ℕ) → r.rest ≡ letters ++ rest → IsApart rest → begins_in (codes "::") (beyond is_blank rest) ≡ false
      → (s : Place) × (ys : List Name) × IsPath r s ys × (s.rest ≡ beyond is_blank rest) × (map bare_name ys ≡ map bare_name xs)

-- a path is printed and read as it is
pub path_back : (p q : Place) (xs : List Name) → IsPath p q xs → PathBack p xs
path_back p q xs (names m first_name others i are n z) =
    let more : FurtherBack others = further_back m q others are in
    let name : List ℕ = run in_name p.rest in
    let (c, f, cell, is_dark, is_letter) = name_cell p m first_name i in
    record {
      letters = name ++ more.letters;
      head = c;
      tail = run in_name (next p).rest ++ more.letters;
      encoded = ap printed_path z
          ∙ joined_text first_name.text (led (codes "::") (map printed_name others)) name more.letters (ap (λ (n : Name). n.text) i.2) more.encoded;
      begins = ap (λ (l : List ℕ). l ++ more.letters) cell;
      seen = f;
      dark_head = is_dark;
      letter = is_letter;
      again = λ r rest h a k.
          let here : r.rest ≡ name ++ (more.letters ++ rest) = h ∙ append_assoc name more.letters rest in
          let (is, left, shape) = name_stands p m first_name i r (more.letters ++ rest) here (more.apart rest a).0 in
          let (s, ys, many, end, shapes) = more.again (behind_word r) rest left a in (
            s,
            name_at r ∷ ys,
            names (behind_word r) (name_at r) ys is many (ap (begins_in (codes "::")) end ∙ k) refl,
            end,
            ap (λ (n : Name). n ∷ map bare_name ys) shape ∙ (ap (λ (ns : List Name). bare_name first_name ∷ ns) shapes ∙ sym (ap (map bare_name) z)),
          );
    }
