-- What is printed of a body line is read again behind the new indentation as a line of the same shape.
use lib.Utf8.{scalars}
use Rattle.std.proofs.Common.{◌≡◌, ℕ, ◌==◌, nat_lt, Bool, true, false, not, ◌&&◌, ◌||◌, List, [], ◌∷◌, ◌++◌, encode_utf8_all, refl, sym, ap, ◌∙◌, append_assoc}
use Rattle.std.proofs.lemmas.Bool.{false≢true, eqb-true}
use Rattle.std.specs.List.{flat_map, list_all}
use Rattle.just_lang_read.specs.Place.{Place, AreMany, next, run, first_in, passes, starts, begins, begins_in, behind_text, is_empty, is_end}
use Rattle.just_lang_syntax.specs.declared.ast.Fragment.{Fragment}
use Rattle.just_lang_syntax.specs.declared.ast.Line.{Line}
use Rattle.just_lang_read.specs.Characters.{is_blank}
use Rattle.just_lang_read.specs.Lines.{skip, ends_line, is_blank_line}
use Rattle.just_lang_syntax.specs.Bodies.{is_body_line, IsFragment, IsBodyLine}
use Rattle.just_lang_syntax.specs.Bodies.IsBodyLine.{line}
use Rattle.just_print.specs.Printed.{newline, printed_fragment, printed_line}
use Rattle.just_print.specs.Shapes.{bare_line}
use Rattle.just_print.specs.Law.{IsIndentation, line_returns}
use Rattle.just_print.proofs.Places.{beyond, past_rest, begins_front, behind_front, run_run, alike_test, and_true, is_plain}
use Rattle.just_print.proofs.PiecesBack.{front_of}
use Rattle.just_print.proofs.WordsBack.{joined_text, plain_text}
use Rattle.just_print.proofs.LinesBack.{newline_back}
use Rattle.just_print.proofs.TextsBack.{ends_in}
use Rattle.just_print.proofs.Scalars.{text_keeps}
use Rattle.just_print.proofs.FragmentsBack.{ends_stay, Fragments, fragments_back}

-- ---- indentations

low_by : (a b : Bool) (c : ℕ) → (c == 32) ≡ a → (c == 9) ≡ b → (a || b) ≡ true → nat_lt c 128 ≡ true
low_by true b c h k e = ap (λ (d : ℕ). nat_lt d 128) (eqb-true c 32 h)
low_by false true c h k e = ap (λ (d : ℕ). nat_lt d 128) (eqb-true c 9 k)
low_by false false c h k e = absurd (false≢true e)

-- blanks are ASCII
pub blanks_plain : (list : List ℕ) → list_all is_blank list ≡ true → is_plain list ≡ true
blanks_plain [] h = refl
blanks_plain (c ∷ list) h =
    let (a, b) = and_true (is_blank c) (list_all is_blank list) h in rw (low_by (c == 32) (c == 9) c refl refl a, blanks_plain list b) refl

-- blanks are skipped
pub beyond_blanks : (list rest : List ℕ) → list_all is_blank list ≡ true → beyond is_blank (list ++ rest) ≡ beyond is_blank rest
beyond_blanks [] rest h = refl
beyond_blanks (c ∷ list) rest h =
    let (a, b) = and_true (is_blank c) (list_all is_blank list) h in rw a (beyond_blanks list rest b)

-- blanks are a run
blanks_run : (list : List ℕ) → list_all is_blank list ≡ true → run is_blank list ≡ list
blanks_run [] h = refl
blanks_run (c ∷ list) h = let (a, b) = and_true (is_blank c) (list_all is_blank list) h in rw (a, blanks_run list b) refl

-- and the whole run where no blank follows
pub blanks_front : (list rest : List ℕ) → list_all is_blank list ≡ true → passes is_blank (first_in rest) ≡ false → run is_blank (list ++ rest) ≡ list
blanks_front list rest h e = ap (λ (l : List ℕ). run is_blank (l ++ rest)) (sym (blanks_run list h)) ∙ (run_run is_blank list rest e ∙ blanks_run list h)

-- the first of some blanks is one
blank_first : (list rest : List ℕ) → is_empty list ≡ false → list_all is_blank list ≡ true → passes is_blank (first_in (list ++ rest)) ≡ true
blank_first [] rest e h = absurd (false≢true (sym e))
blank_first (c ∷ list) rest e h = (and_true (is_blank c) (list_all is_blank list) h).0

-- ---- body lines

-- a body line behind these blanks: what is printed of it behind the new indentation, and that it is read again; it keeps no blanks in front where
-- the line had none behind its own indentation
pub record LineBack (old new : List ℕ) (p : Place) (x : Line) : Type 0 where
  pub letters : List ℕ
  pub encoded : printed_line new x ≡ encode_utf8_all letters
  pub again : (r : Place) (rest : List ℕ) → r.rest ≡ letters ++ rest
      → (s : Place) × (y : Line) × (is_blank_line r ≡ false) × IsBodyLine new r s y × (s.rest ≡ rest) × (bare_line y ≡ bare_line x)
  pub blanks : starts is_blank (behind_text old p) ≡ false → (rest : List ℕ)
      → (passes is_blank (first_in (letters ++ rest)) ≡ true) × (run is_blank (letters ++ rest) ≡ new)

not_true : (b : Bool) → not b ≡ true → b ≡ false
not_true true h = absurd (false≢true h)
not_true false h = refl

and_false : (a b : Bool) → b ≡ false → (a && b) ≡ false
and_false true b h = h
and_false false b h = refl

-- the fragments of a line behind its indentation, at which no blank line stands
some_back : (old new : List ℕ) (p : Place) (f : Fragment) (fs : List Fragment) (x : Line) → IsIndentation new → x ≡ record { number = p.line; fragments = f ∷ fs }
    → ends_in (beyond is_blank (behind_text old p).rest) ≡ false → Fragments (behind_text old p) (f ∷ fs) → LineBack old new p x
some_back old new p f fs x (some, all) z dark g =
    let parts : (rest : List ℕ) → ((new ++ g.letters) ++ newline) ++ rest ≡ new ++ (g.letters ++ 10 ∷ rest) = λ rest.
    append_assoc (new ++ g.letters) newline rest ∙ append_assoc new g.letters (10 ∷ rest) in
    record {
      letters = (new ++ g.letters) ++ newline;
      encoded = ap (printed_line new) z
          ∙ joined_text (new ++ flat_map printed_fragment (f ∷ fs)) newline (new ++ g.letters) newline
          (joined_text new (flat_map printed_fragment (f ∷ fs)) new g.letters (plain_text new (blanks_plain new all)) g.encoded) (plain_text newline refl);
      again = λ r rest h.
          let from : r.rest ≡ new ++ (g.letters ++ 10 ∷ rest) = h ∙ parts rest in
          let (s, ys, are, left, shape) = g.again (behind_text new r) rest (behind_front new (g.letters ++ 10 ∷ rest) r from) in
          let (ends, behind) = newline_back s rest left in
          let lit : ends_line (skip r) ≡ false =
          ap ends_in (past_rest is_blank r ∙ (ap (beyond is_blank) from ∙ beyond_blanks new (g.letters ++ 10 ∷ rest) all)) ∙ g.dark rest dark in
          let begun : begins new r ≡ true = ap (begins_in new) from ∙ begins_front new (g.letters ++ 10 ∷ rest) in
          let here : is_body_line new r ≡ true = rw (begun, lit) refl in (
            next s,
            record { number = r.line; fragments = ys },
            and_false (not (is_end r)) (ends_line (skip r)) lit,
            line s ys here are (ap ends_in left) ends refl,
            behind,
            ap (λ (l : List Fragment). record { number = 0; fragments = l }) shape ∙ sym (ap bare_line z),
          );
      blanks = λ n rest.
          let apart : passes is_blank (first_in (g.letters ++ 10 ∷ rest)) ≡ false = alike_test is_blank (g.letters ++ 10 ∷ rest) (behind_text old p).rest refl refl (g.alike rest) ∙ n in (
            ap (λ (l : List ℕ). passes is_blank (first_in l)) (parts rest) ∙ blank_first new (g.letters ++ 10 ∷ rest) some all,
            ap (run is_blank) (parts rest) ∙ blanks_front new (g.letters ++ 10 ∷ rest) all apart,
          );
    }

-- a line whose fragments stand behind its indentation
made_back : (old new : List ℕ) (p m : Place) (fs : List Fragment) (x : Line) → IsIndentation new → x ≡ record { number = p.line; fragments = fs }
    → ends_in (beyond is_blank (behind_text old p).rest) ≡ false → AreMany IsFragment (behind_text old p) m fs → ends_line m ≡ true
    → scalars (behind_text old p).rest ≡ true → line_returns fs ≡ false → LineBack old new p x
made_back old new p m [] x i z dark are end s n =
    let ends : ends_in (behind_text old p).rest ≡ true = ap ends_line (sym are) ∙ end in
    absurd (false≢true (sym dark ∙ (ap ends_in (ends_stay (behind_text old p).rest ends) ∙ ends)))
made_back old new p m (f ∷ fs) x i z dark are end s n =
    some_back old new p f fs x i z dark (fragments_back (behind_text old p) m (f ∷ fs) are end s n)

-- a body line is printed and read with the same shape
pub line_back : (old new : List ℕ) (p q : Place) (x : Line) → IsIndentation new → list_all is_blank old ≡ true → scalars p.rest ≡ true
    → line_returns x.fragments ≡ false → IsBodyLine old p q x → LineBack old new p x
line_back old new p q x i all s n (line m fs b are end nl z) =
    let (begun, lit) = and_true (begins old p) (not (ends_line (skip p))) b in
    let (rest, h) = front_of old p.rest begun in
    let left : (behind_text old p).rest ≡ rest = behind_front old rest p h in
    let skipped : (skip p).rest ≡ beyond is_blank (behind_text old p).rest =
    past_rest is_blank p ∙ (ap (beyond is_blank) h ∙ (beyond_blanks old rest all ∙ ap (beyond is_blank) (sym left))) in
    let dark : ends_in (beyond is_blank (behind_text old p).rest) ≡ false = ap ends_in (sym skipped) ∙ not_true (ends_line (skip p)) lit in
    made_back old new p m fs x i z dark are end (text_keeps old p s) (ap (λ (l : Line). line_returns l.fragments) (sym z) ∙ n)
