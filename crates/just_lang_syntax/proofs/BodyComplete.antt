-- Body lines: what the grammar says is read, so it is one.
use Rattle.std.proofs.Common.{◌≡◌, ℕ, ◌==◌, true, false, not, List, [], ◌∷◌, Ok, codes, encode_utf8_all, refl, sym, ◌∙◌}
use Rattle.just_lang_read.specs.Place.{Place, AreMany, begins, behind_text}
use Rattle.just_lang_read.specs.Reader.{pure}
use Rattle.just_lang_read.proofs.Laws.{many_again, not_end_where_starts, ok_value, ok_place}
use Rattle.just_lang_syntax.specs.declared.ast.Fragment.{Fragment}
use Rattle.just_lang_syntax.specs.declared.ast.Line.{Line}
use Rattle.just_lang_read.specs.Lines.{ends_line}
use Rattle.just_lang_syntax.specs.Strings.{concat}
use Rattle.just_lang_syntax.specs.Bodies.{opens, is_text, is_body_line, IsLetter, IsFragment, IsBodyLine}
use Rattle.just_lang_syntax.specs.Bodies.IsLetter.{braces, itself}
use Rattle.just_lang_syntax.specs.Bodies.IsFragment.{text, value}
use Rattle.just_lang_syntax.specs.Bodies.IsBodyLine.{line}
use Rattle.just_lang_syntax.specs.ItemReaders as item
use Rattle.just_lang_read.proofs.Laws.{and_true, begins_starts, begins_first, begins_other}
use Rattle.just_lang_syntax.proofs.Beginnings.{not_true}
use Rattle.just_lang_syntax.proofs.Tokens.{token_again}
use Rattle.just_lang_syntax.proofs.Shorter.{letter_lt}
use Rattle.just_lang_syntax.proofs.Loops.{fragments_shorter}
use Rattle.just_lang_syntax.proofs.LineLaws.{newline_again}
use Rattle.just_lang_syntax.proofs.ExprComplete.{expr_again}

-- a letter of a text
pub letter_again : (p q : Place) (x : List ℕ) → IsLetter p q x → item.letter p ≡ Ok (x, q)
unfolding item.letter
letter_again p q x (braces i b e z) = rw (b, e, z) refl
letter_again p q x (itself c i b f e z) = rw (b, f, e, z) refl

-- a letter is text
letter_is : (p q : Place) (x : List ℕ) → IsLetter p q x → is_text p ≡ true
letter_is p q x (braces i b e z) = i
letter_is p q x (itself c i b f e z) = i

-- a text
pub text_again : (p q : Place) (letters : List (List ℕ)) → AreMany IsLetter p q letters → is_text q ≡ false → item.text p ≡ Ok (encode_utf8_all (concat letters), q)
unfolding item.text
text_again p q letters are done =
    rw (many_again is_text item.letter letter_lt IsLetter (λ a b x i. (letter_is a b x i, letter_again a b x i)) p q letters are done) refl

-- where an interpolation opens no line ends
pub opens_goes_on : (p : Place) → opens p ≡ true → item.line_goes_on p ≡ true
opens_goes_on p o =
    let b : begins (codes "{{") p ≡ true = (and_true (begins (codes "{{") p) (not (begins (codes "{{{{") p)) o).0 in
    rw (
      not_end_where_starts (λ d. d == 123) p (begins_starts (λ d. d == 123) 123 (123 ∷ []) p b),
      begins_starts (λ d. d == 10) 123 (123 ∷ []) p b,
      begins_other 123 13 (10 ∷ []) p (begins_first 123 (123 ∷ []) p b) refl,
    ) refl

-- where a fragment stands the line goes on
pub fragment_begins : (p q : Place) (x : Fragment) → IsFragment p q x → item.line_goes_on p ≡ true
fragment_begins p q x (text ls i are done z) = (and_true (not (ends_line p)) (not (opens p)) i).0
fragment_begins p q x (value m n y o t i b e z) = opens_goes_on p o

-- a fragment
pub fragment_again : (p q : Place) (x : Fragment) → IsFragment p q x → item.fragment_at p ≡ Ok (x, q)
unfolding item.fragment_at
fragment_again p q x (text ls i are done z) =
    rw (not_true (opens p) (and_true (not (ends_line p)) (not (opens p)) i).1, text_again p q ls are done, z) refl
fragment_again p q x (value m n y o t i b e z) = rw (o, token_again (codes "{{") p m t, expr_again m n y i, b, e, z) refl

-- the fragments up to the line's end
pub fragments_again : (p q : Place) (xs : List Fragment) → AreMany IsFragment p q xs → ends_line q ≡ true → item.fragments p ≡ Ok (xs, q)
unfolding item.fragments
fragments_again p q xs are done =
    many_again item.line_goes_on item.fragment_at fragments_shorter IsFragment (λ a b x i. (fragment_begins a b x i, fragment_again a b x i)) p q xs are (rw done refl)

-- a line of a body with this indentation
pub body_line_again : (indentation : List ℕ) (p q : Place) (x : Line) → IsBodyLine indentation p q x → item.body_line indentation p ≡ Ok (x, q)
unfolding item.body_line
body_line_again indentation p q x (line m fs i are e n z) =
    rw (fragments_again (behind_text indentation p) m fs are e, newline_again m q n, z) refl

-- where it stands there is one
pub body_line_begins : (indentation : List ℕ) (p q : Place) (x : Line) → IsBodyLine indentation p q x → is_body_line indentation p ≡ true
body_line_begins indentation p q x (line m fs i are e n z) = i

-- so one line stands there, and ends at one place
pub body_line_one : (indentation : List ℕ) (p q r : Place) (x y : Line) → IsBodyLine indentation p q x → IsBodyLine indentation p r y → (x ≡ y) × (q ≡ r)
body_line_one indentation p q r x y i j =
    let e : pure x q ≡ Ok (y, r) = sym (body_line_again indentation p q x i) ∙ body_line_again indentation p r y j in
    (ok_value x y q r e, ok_place x y q r e)
