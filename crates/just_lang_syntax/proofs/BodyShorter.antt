-- Body lines take characters.
use Rattle.std.proofs.Common.{◌≡◌, ℕ, ◌<◌, true, false, not, List, [], ◌∷◌, length, None, Ok, refl, sym, ap, ◌∙◌, subst, arith}
use Rattle.std.proofs.lemmas.Bool.{false≢true}
use Rattle.just_lang_read.specs.Place.{Place, AreMany, first_in, begins, behind_text, is_end, is_empty}
use Rattle.just_lang_read.proofs.Laws.{starts_none, past_stays, character_shorter}
use Rattle.just_lang_syntax.specs.declared.ast.Fragment.{Fragment}
use Rattle.just_lang_syntax.specs.declared.ast.Line.{Line}
use Rattle.just_lang_read.specs.Characters.{is_blank}
use Rattle.just_lang_read.specs.Lines.{skip, ends_line, IsNewline}
use Rattle.just_lang_read.specs.Lines.IsNewline.{last, feed, return_feed}
use Rattle.just_lang_syntax.specs.Bodies.{is_body_line, IsFragment, IsBodyLine}
use Rattle.just_lang_syntax.specs.Bodies.IsBodyLine.{line}
use Rattle.just_lang_syntax.specs.ItemReaders as item
use Rattle.just_lang_read.proofs.Laws.{and_true, behind_shorter, behind_le}
use Rattle.just_lang_syntax.proofs.Beginnings.{not_true}
use Rattle.just_lang_syntax.proofs.LineLaws.{behind_newline}
use Rattle.just_lang_syntax.proofs.PathLoop.{are_le}
use Rattle.just_lang_syntax.proofs.Shorter.{behind_fragment}
use Rattle.just_lang_syntax.proofs.BodySound.{body_line_ok}

-- an empty text has no first character
no_first : (rest : List ℕ) → is_empty rest ≡ true → first_in rest ≡ None
no_first [] h = refl
no_first (c ∷ rest) h = absurd (false≢true h)

-- where the text ends so does a line, behind blanks too
end_ends : (p : Place) → is_end p ≡ true → ends_line (skip p) ≡ true
end_ends p h = rw (past_stays is_blank p (starts_none is_blank p (no_first p.rest h)), h) refl

-- the end of a line that isn't blank takes a character
newline_takes : (p q : Place) → ends_line (skip p) ≡ false → IsNewline p q → length q.rest < length p.rest
newline_takes p q n (last b e) = absurd (false≢true (sym n ∙ end_ends p b))
newline_takes p q n (feed s) = character_shorter 10 p q s
newline_takes p q n (return_feed b e) = rw e (behind_shorter 13 (10 ∷ []) p b)

-- a line that isn't blank has an indentation, a fragment or an end that takes a character
line_takes : (indentation : List ℕ) (p m q : Place) (fs : List Fragment) → is_body_line indentation p ≡ true
    → AreMany IsFragment (behind_text indentation p) m fs → IsNewline m q → length q.rest < length p.rest
line_takes [] p m q [] i e n = newline_takes p q (not_true (ends_line (skip p)) i) (subst (λ (l : Place). IsNewline l q) e n)
line_takes (c ∷ indentation) p m q [] i e n =
    let b = (and_true (begins (c ∷ indentation) p) (not (ends_line (skip p))) i).0 in
    let k : length m.rest ≡ length (behind_text (c ∷ indentation) p).rest = ap (λ (l : Place). length l.rest) e in
    omega (arith, behind_shorter c indentation p b, behind_newline m q n, k)
line_takes indentation p m q (f ∷ fs) i (o, a, are) n =
    omega (arith, behind_le indentation p, behind_fragment (behind_text indentation p) o f a, are_le IsFragment behind_fragment o m fs are, behind_newline m q n)

-- behind a body line less is left
pub behind_body_line : (indentation : List ℕ) (p q : Place) (x : Line) → IsBodyLine indentation p q x → length q.rest < length p.rest
behind_body_line indentation p q x (line m fs i are e n z) = line_takes indentation p m q fs i are n

-- a body line takes a character
pub body_line_lt : (indentation : List ℕ) (p q : Place) (x : Line) → is_body_line indentation p ≡ true → item.body_line indentation p ≡ Ok (x, q)
    → length q.rest < length p.rest
body_line_lt indentation p q x i h = behind_body_line indentation p q x (body_line_ok indentation p q x i h)
