-- What is printed of the end of an item's line is read again, with its comment.
use Rattle.std.proofs.Common.{◌≡◌, ℕ, ◌==◌, Bool, true, false, List, [], ◌∷◌, ◌++◌, Option, Some, None, codes, encode_utf8_all, refl, sym, ap, ◌∙◌, subst, append_assoc}
use Rattle.std.proofs.lemmas.Bool.{false≢true}
use Rattle.just_lang_read.specs.Place.{Place, next, past, run, first, first_in, passes, is_empty}
use Rattle.just_lang_read.proofs.Laws.{sees_first, starts_at}
use Rattle.just_lang_read.specs.Characters.{is_blank, in_line}
use Rattle.just_lang_read.specs.Lines.{put, without_returns, IsNewline}
use Rattle.just_lang_syntax.specs.Places.{IsComment, IsRest}
use Rattle.just_lang_read.specs.Lines.IsNewline.{last, feed, return_feed}
use Rattle.just_lang_syntax.specs.Places.IsRest.{ended, commented}
use Rattle.just_print.specs.Printed.{newline, printed_end}
use Rattle.just_print.proofs.Places.{beyond, past_rest, next_rest, beyond_run, closes, Alike, one_first, both_close, IsApart}
use Rattle.just_print.proofs.PiecesBack.{sees_at}
use Rattle.just_print.proofs.WordsBack.{joined_text, plain_text, begins_first}

-- ---- the ends of lines

closes_first : (list : List ℕ) (c : ℕ) → first_in list ≡ Some c → closes (c ∷ []) ≡ true → closes list ≡ true
closes_first [] c h k = refl
closes_first (d ∷ list) c h k = let e : d ≡ c = cc (h) in ap (λ (x : ℕ). closes (x ∷ [])) e ∙ k

closes_end : (list : List ℕ) → is_empty list ≡ true → closes list ≡ true
closes_end [] h = refl
closes_end (c ∷ list) h = absurd (false≢true h)

-- where a line ends, it closes
pub newline_closes : (p q : Place) → IsNewline p q → closes p.rest ≡ true
newline_closes p q (last e z) = closes_end p.rest e
newline_closes p q (feed s) = closes_first p.rest 10 (sees_first 10 p s.0) refl
newline_closes p q (return_feed b z) = closes_first p.rest 13 (begins_first 13 (10 ∷ []) p b) refl

-- a line feed ends a line
pub newline_back : (s : Place) (rest : List ℕ) → s.rest ≡ 10 ∷ rest → IsNewline s (next s) × ((next s).rest ≡ rest)
newline_back s rest h = (feed (sees_at 10 s rest h, refl), next_rest s 10 rest h)

-- ---- comments

put_put_by : (b : Bool) (c : ℕ) (list : List ℕ) → (c == 13) ≡ b → without_returns list ≡ list → without_returns (put c list) ≡ put c list
put_put_by true c [] h e = rw h refl
put_put_by false c [] h e = rw (h, h) refl
put_put_by b c (d ∷ list) h e = rw e refl

-- a text without returns at its end has none to lose
pub no_returns : (list : List ℕ) → without_returns (without_returns list) ≡ without_returns list
no_returns [] = refl
no_returns (c ∷ list) = put_put_by (c == 13) c (without_returns list) refl (no_returns list)

put_line_by : (b : Bool) (c : ℕ) (list rest : List ℕ) → (c == 13) ≡ b → in_line c ≡ true → run in_line (list ++ (10 ∷ rest)) ≡ list
    → run in_line (put c list ++ (10 ∷ rest)) ≡ put c list
put_line_by true c [] rest h k e = rw h refl
put_line_by false c [] rest h k e = rw (h, k) refl
put_line_by b c (d ∷ list) rest h k e = rw k (ap (λ (l : List ℕ). c ∷ l) e)

line_by : (b : Bool) (c : ℕ) (list rest : List ℕ) → in_line c ≡ b → run in_line (without_returns (run in_line list) ++ (10 ∷ rest)) ≡ without_returns (run in_line list)
    → run in_line (without_returns (run in_line (c ∷ list)) ++ (10 ∷ rest)) ≡ without_returns (run in_line (c ∷ list))
line_by true c list rest h e = rw h (put_line_by (c == 13) c (without_returns (run in_line list)) rest refl h e)
line_by false c list rest h e = rw h refl

-- what is left of a line without returns is a line
pub line_again : (list rest : List ℕ) → run in_line (without_returns (run in_line list) ++ (10 ∷ rest)) ≡ without_returns (run in_line list)
line_again [] rest = refl
line_again (c ∷ list) rest = line_by (in_line c) c list rest refl (line_again list rest)

beyond_front : (t : ℕ → Bool) (list rest : List ℕ) → run t (list ++ rest) ≡ list → passes t (first_in rest) ≡ false → beyond t (list ++ rest) ≡ rest
beyond_front t list rest h k = ap (λ (l : List ℕ). beyond t (l ++ rest)) (sym h) ∙ beyond_run t (list ++ rest) rest k

put_first : (list : List ℕ) → first_in (put 35 list) ≡ Some 35
put_first [] = refl
put_first (c ∷ list) = refl

hash_first : (list : List ℕ) → first_in list ≡ Some 35 → first_in (without_returns (run in_line list)) ≡ Some 35
hash_first [] h = h
hash_first (c ∷ list) h =
    let e : c ≡ 35 = cc (h) in
    ap (λ (d : ℕ). first_in (without_returns (run in_line (d ∷ list)))) e ∙ put_first (without_returns (run in_line list))

hash_beyond : (list rest : List ℕ) → first_in list ≡ Some 35 → beyond is_blank (list ++ rest) ≡ list ++ rest
hash_beyond [] rest h = absurd (let no : ⊥ = cc (h) in no)
hash_beyond (c ∷ list) rest h = let e : c ≡ 35 = cc (h) in rw e refl

hash_append : (list rest : List ℕ) → first_in list ≡ Some 35 → first_in (list ++ rest) ≡ Some 35
hash_append [] rest h = absurd (let no : ⊥ = cc (h) in no)
hash_append (c ∷ list) rest h = h

-- the letters of a comment
abbrev pub comment_letters : Place → List ℕ
comment_letters p = without_returns (run in_line p.rest)

-- a comment that stands before a line feed
pub comment_stands : (p q : Place) (text : List ℕ) → IsComment p q text → (s : Place) (rest : List ℕ) → s.rest ≡ comment_letters p ++ (10 ∷ rest)
    → (t : Place) × IsComment s t text × (t.rest ≡ rest)
comment_stands p q text (b, z, n) s rest h =
    let w : List ℕ = comment_letters p in
    let line : run in_line s.rest ≡ w = ap (run in_line) h ∙ line_again p.rest rest in
    let left : (past in_line s).rest ≡ 10 ∷ rest = past_rest in_line s ∙ (ap (beyond in_line) h ∙ beyond_front in_line w (10 ∷ rest) (line_again p.rest rest) refl) in
    let (ends, behind) = newline_back (past in_line s) rest left in
    let hash : first s ≡ Some 35 = ap first_in h ∙ hash_append w (10 ∷ rest) (hash_first p.rest (sees_first 35 p b)) in
    (next (past in_line s), (starts_at (λ d. d == 35) s 35 hash, z ∙ ap encode_utf8_all (sym (ap without_returns line ∙ no_returns (run in_line p.rest))), ends), behind)

-- ---- what stands behind an item on its line

-- it is printed, and read again behind the blanks
pub record EndBack (p : Place) (comment : Option (List ℕ)) : Type 0 where
  pub letters : List ℕ
  pub encoded : printed_end comment ≡ encode_utf8_all letters
  pub apart : (rest : List ℕ) → IsApart (letters ++ rest)
  pub alike : (rest : List ℕ) → Alike (beyond is_blank (letters ++ rest)) p.rest
  pub again : (s : Place) (rest : List ℕ) → s.rest ≡ beyond is_blank (letters ++ rest) → (t : Place) × IsRest s t comment × (t.rest ≡ rest)

ended_back : (p q : Place) → IsNewline p q → EndBack p None
ended_back p q n =
    record {
      letters = newline;
      encoded = plain_text newline refl;
      apart = λ rest. (refl, refl);
      alike = λ rest. both_close refl (newline_closes p q n);
      again = λ s rest h. let (ends, left) = newline_back s rest h in (next s, ended ends refl, left);
    }

commented_back : (p q : Place) (text : List ℕ) → IsComment p q text → EndBack p (Some text)
commented_back p q text i =
    let w : List ℕ = comment_letters p in
    let hash : first_in w ≡ Some 35 = hash_first p.rest (sees_first 35 p i.0) in
    let dropped : (rest : List ℕ) → beyond is_blank ((w ++ newline) ++ rest) ≡ w ++ (10 ∷ rest) =
    λ rest. ap (beyond is_blank) (append_assoc w newline rest) ∙ hash_beyond w (10 ∷ rest) hash in
    record {
      letters = codes " " ++ (w ++ newline);
      encoded = joined_text (codes " ") (text ++ newline) (codes " ") (w ++ newline) (plain_text (codes " ") refl)
          (joined_text text newline w newline i.1 (plain_text newline refl));
      apart = λ rest. (refl, refl);
      alike = λ rest. one_first (ap first_in (dropped rest) ∙ (hash_append w (10 ∷ rest) hash ∙ sym (sees_first 35 p i.0)));
      again = λ s rest h.
          let (t, is, left) = comment_stands p q text i s rest (h ∙ dropped rest) in (t, commented text is refl, left);
    }

-- the end of an item's line is printed and read as it is
pub end_back : (p q : Place) (comment : Option (List ℕ)) → IsRest p q comment → EndBack p comment
end_back p q comment (ended n z) = subst (λ (c : Option (List ℕ)). EndBack p c) (sym z) (ended_back p q n)
end_back p q comment (commented text i z) = subst (λ (c : Option (List ℕ)). EndBack p c) (sym z) (commented_back p q text i)
