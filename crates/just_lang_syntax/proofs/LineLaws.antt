-- Tokens that may stand, paths, the ends of lines and comments: what the code reads is what the grammar says. Those of tokens,
-- words and names are in Tokens.
use Rattle.std.proofs.Common.{◌≡◌, ℕ, ◌<◌, ◌≤◌, ◌==◌, Bool, true, false, not, if◌then◌else◌, List, [], ◌∷◌, length, Option, Some, None, Ok, Err, codes, encode_utf8_all, refl, sym, ap, ◌∙◌, subst, ⊎_elim, arith}
use Rattle.std.proofs.lemmas.Bool.{false≢true}
use Rattle.just_lang_read.specs.Place.{Place, AreMany, next, past, run, starts, sees, begins, behind_text, is_end}
use Rattle.just_lang_read.specs.Reader.{and_then, pure, many}
use Rattle.just_lang_read.specs.declared.error.ReadError.TheVariants.{Syntax}
use Rattle.just_lang_read.proofs.Laws.{bind_ok, choose, ok_value, ok_place}
use Rattle.just_lang_read.proofs.Laws.{many_ok, many_again}
use Rattle.just_lang_read.proofs.Laws.{past_le, character_shorter, starts_seen, past_next, next_shorter, length_at_end, length_before_end, not_end_where_starts}
use Rattle.just_lang_syntax.specs.declared.ast.Name.{Name}
use Rattle.just_lang_read.specs.Characters.{is_blank, in_line}
use Rattle.just_lang_read.specs.Lines.{skip, crlf, ends_line, is_blank_line, is_rest, without_returns, IsToken, IsNewline, IsBlankLine}
use Rattle.just_lang_syntax.specs.Places.{IsFurtherName, IsPath, IsComment, IsRest}
use Rattle.just_lang_syntax.specs.Places.IsPath.{names}
use Rattle.just_lang_read.specs.Lines.IsNewline.{last, feed, return_feed}
use Rattle.just_lang_syntax.specs.Places.IsRest.{ended, commented}
use Rattle.just_lang_syntax.specs.Recipes.{IsMaybe}
use Rattle.just_lang_syntax.specs.Recipes.IsMaybe.{here, not_here}
use Rattle.just_lang_syntax.specs.Attributes.{IsTrailing}
use Rattle.just_lang_syntax.specs.Attributes.IsTrailing.{comma, nothing}
use Rattle.just_lang_syntax.specs.ItemReaders as item
use Rattle.just_lang_syntax.specs.Readers as reader
use Rattle.just_lang_read.specs.Tokens as tokens
use Rattle.just_lang_read.proofs.Laws.{and_true, begins_starts, behind_shorter, behind_le}
use Rattle.just_lang_syntax.proofs.Beginnings.{not_true}
use Rattle.just_lang_syntax.proofs.Tokens.{token_ok, token_again, token_lt, name_ok, name_again}
use Rattle.just_lang_syntax.proofs.ExprShorter.{name_lt}
use Rattle.just_lang_syntax.proofs.PathLoop.{shorter, are_le}

-- ---- tokens that may stand

-- whether a token was read is whether it stands there
pub maybe_ok : (text : List ℕ) (p q : Place) (b : Bool) → tokens.maybe text p ≡ Ok (b, q) → IsMaybe text p q b
unfolding tokens.maybe
maybe_ok text p q b h =
    ⊎_elim
    (λ (s : _).
    let (u, m, t, k) = bind_ok (tokens.token text p) (λ _. pure true) b q s.1 in
    here (subst (λ (r : Place). IsToken text p r) (ok_place true b m q k) (token_ok text p u m t)) (sym (ok_value true b m q k)))
    (λ (s : _). not_here s.0 (sym (ok_place false b p q s.1)) (sym (ok_value false b p q s.1)))
    (choose (begins text p) (and_then (tokens.token text p) (λ _. pure true)) (Ok (false, p)) (Ok (b, q)) h)

-- a token that may stand is read
pub maybe_again : (text : List ℕ) (p q : Place) (b : Bool) → IsMaybe text p q b → tokens.maybe text p ≡ Ok (b, q)
unfolding tokens.maybe
maybe_again text p q b (here t z) = rw (t.0, token_again text p q t, z) refl
maybe_again text p q b (not_here n e z) = rw (n, e, z) refl

-- a comma behind a list was read where it stands
pub trailing_ok : (p q : Place) (u : Unit {0}) → item.trailing p ≡ Ok (u, q) → IsTrailing p q
unfolding item.trailing
trailing_ok p q u h =
    ⊎_elim (λ (s : _). comma (token_ok (codes ",") p u q s.1)) (λ (s : _). nothing s.0 (sym (ok_place tt u p q s.1)))
    (choose (begins (codes ",") p) (tokens.token (codes ",") p) (Ok (tt, p)) (Ok (u, q)) h)

-- a comma behind a list is read
pub trailing_again : (p q : Place) → IsTrailing p q → item.trailing p ≡ Ok (tt, q)
unfolding item.trailing
trailing_again p q (comma t) = rw (t.0) (token_again (codes ",") p q t)
trailing_again p q (nothing n e) = rw (n, e) refl

-- ---- paths

-- `::` and a name that are read stand there
pub further_name_ok : (p q : Place) (x : Name) → reader.further_name p ≡ Ok (x, q) → IsFurtherName p q x
unfolding reader.further_name
further_name_ok p q x h =
    let (u, m, t, k) = bind_ok (tokens.token (codes "::") p) (λ _. reader.name) x q h in
    (m, token_ok (codes "::") p u m t, name_ok m x q k)

-- `::` and a name that stand there are read
pub further_name_again : (p q : Place) (x : Name) → IsFurtherName p q x → (begins (codes "::") p ≡ true) × (reader.further_name p ≡ Ok (x, q))
unfolding reader.further_name
further_name_again p q x (m, t, i) = (t.0, rw (token_again (codes "::") p m t) (name_again m q x i))

-- a path that is read stands there
pub path_ok : (p q : Place) (xs : List Name) → reader.path p ≡ Ok (xs, q) → IsPath p q xs
unfolding reader.path
path_ok p q xs h =
    let (n, m, h1, k1) = bind_ok (reader.name p) (λ n m. and_then (many (begins (codes "::")) reader.further_name m) (λ ys. pure (n ∷ ys))) xs q h in
    let (ys, o, h2, k2) = bind_ok (many (begins (codes "::")) reader.further_name m) (λ ys. pure (n ∷ ys)) xs q k1 in
    let (are, done) = many_ok (begins (codes "::")) reader.further_name IsFurtherName (λ a b x g k. further_name_ok a b x k) m o ys h2 in
    let end : o ≡ q = ok_place (n ∷ ys) xs o q k2 in
    names m n ys (name_ok p n m h1) (subst (λ (r : Place). AreMany IsFurtherName m r ys) end are)
    (subst (λ (r : Place). begins (codes "::") r ≡ false) end done) (sym (ok_value (n ∷ ys) xs o q k2))

-- a path that stands there is read
pub path_again : (p q : Place) (xs : List Name) → IsPath p q xs → reader.path p ≡ Ok (xs, q)
unfolding reader.path
path_again p q xs (names m n ys i are done z) =
    rw (name_again p m n i, many_again (begins (codes "::")) reader.further_name shorter IsFurtherName further_name_again m q ys are done, z) refl

-- ---- the ends of lines

-- the end of a line that is read stands there
pub newline_ok : (p q : Place) (u : Unit {0}) → tokens.newline p ≡ Ok (u, q) → IsNewline p q
unfolding tokens.newline
newline_ok p q u h =
    ⊎_elim (λ (s : _). last s.0 (sym (ok_place tt u p q s.1)))
    (λ (s : _).
    ⊎_elim (λ (t : _). feed (t.0, sym (ok_place tt u (next p) q t.1)))
    (λ (t : _).
    ⊎_elim (λ (w : _). return_feed w.0 (sym (ok_place tt u (behind_text crlf p) q w.1)))
    (λ (w : _). absurd (let no : ⊥ = cc (w.1) in no))
    (choose (begins crlf p) (Ok (tt, behind_text crlf p)) (Err Syntax) (Ok (u, q)) t.1))
    (choose (sees 10 p) (Ok (tt, next p)) (if begins crlf p then Ok (tt, behind_text crlf p) else Err Syntax) (Ok (u, q)) s.1))
    (choose (is_end p) (Ok (tt, p)) (if sees 10 p then Ok (tt, next p) else (if begins crlf p then Ok (tt, behind_text crlf p) else Err Syntax)) (Ok (u, q)) h)

-- where `\r\n` stands the text doesn't end
return_no_end : (p : Place) → begins crlf p ≡ true → is_end p ≡ false
return_no_end p b = not_end_where_starts (λ d. d == 13) p (begins_starts (λ d. d == 13) 13 (10 ∷ []) p b)

-- the end of a line that stands there is read
pub newline_again : (p q : Place) → IsNewline p q → tokens.newline p ≡ Ok (tt, q)
unfolding tokens.newline
newline_again p q (last e z) = rw (e, z) refl
newline_again p q (feed s) = rw (not_end_where_starts (λ d. d == 10) p s.0, s.0, s.1) refl
newline_again p q (return_feed b z) = rw (return_no_end p b, begins_starts (λ d. d == 10) 13 (10 ∷ []) p b, b, z) refl

-- where a line's end stands, a line ends
pub newline_ends : (p q : Place) → IsNewline p q → ends_line p ≡ true
newline_ends p q (last e z) = rw e refl
newline_ends p q (feed s) = rw (not_end_where_starts (λ d. d == 10) p s.0, s.0) refl
newline_ends p q (return_feed b z) = rw (return_no_end p b, begins_starts (λ d. d == 10) 13 (10 ∷ []) p b, b) refl

-- where the text ends no character is seen
end_sees : (c : ℕ) (p : Place) (b : Bool) → sees c p ≡ b → is_end p ≡ true → b ≡ false
end_sees c p true s e = absurd (false≢true (sym (not_end_where_starts (λ d. d == c) p s) ∙ e))
end_sees c p false s e = refl

-- where a line's end stands, no comment does
pub newline_no_comment : (p q : Place) → IsNewline p q → sees 35 p ≡ false
newline_no_comment p q (last e z) = end_sees 35 p (sees 35 p) refl e
newline_no_comment p q (feed s) = starts_seen (λ d. d == 35) 10 p s.0
newline_no_comment p q (return_feed b z) = begins_starts (λ d. d == 35) 13 (10 ∷ []) p b

-- behind the end of a line less is left where the text doesn't end
pub newline_lt : (p q : Place) → IsNewline p q → is_end p ≡ false → length q.rest < length p.rest
newline_lt p q (last e z) n = absurd (false≢true (sym n ∙ e))
newline_lt p q (feed s) n = character_shorter 10 p q s
newline_lt p q (return_feed b z) n = rw z (behind_shorter 13 (10 ∷ []) p b)

-- ---- lines with nothing but blanks

-- a line with nothing but blanks that is read stands there
pub blank_line_ok : (p q : Place) (u : Unit {0}) → is_blank_line p ≡ true → tokens.blank_line p ≡ Ok (u, q) → IsBlankLine p q
unfolding tokens.blank_line
blank_line_ok p q u b h = (not_true (is_end p) (and_true (not (is_end p)) (ends_line (skip p)) b).0, newline_ok (skip p) q u h)

-- a line with nothing but blanks that stands there is read
pub blank_line_again : (p q : Place) → IsBlankLine p q → (is_blank_line p ≡ true) × (tokens.blank_line p ≡ Ok (tt, q))
unfolding tokens.blank_line
blank_line_again p q (n, i) = (rw (n, newline_ends (skip p) q i) refl, newline_again (skip p) q i)

-- behind the end of a line of blanks less is left
skipped_lt : (p q : Place) (b : Bool) → is_end (skip p) ≡ b → is_end p ≡ false → IsNewline (skip p) q → length q.rest < length p.rest
skipped_lt p q false e n i = omega (arith, past_le is_blank p, newline_lt (skip p) q i e)
skipped_lt p q true e n (last f z) = rw z (omega (arith, length_at_end (skip p) e, length_before_end p n))
skipped_lt p q true e n (feed s) = absurd (false≢true (sym (not_end_where_starts (λ d. d == 10) (skip p) s.0) ∙ e))
skipped_lt p q true e n (return_feed b z) = absurd (false≢true (sym (return_no_end (skip p) b) ∙ e))

-- behind a line with nothing but blanks less is left
pub blank_line_lt : (p q : Place) → IsBlankLine p q → length q.rest < length p.rest
blank_line_lt p q (n, i) = skipped_lt p q (is_end (skip p)) refl n i

-- ---- comments, and what may stand behind an item

-- a comment that is read stands there
pub comment_ok : (p q : Place) (x : List ℕ) → sees 35 p ≡ true → reader.comment p ≡ Ok (x, q) → IsComment p q x
unfolding reader.comment
comment_ok p q x s h =
    let text = encode_utf8_all (without_returns (run in_line p.rest)) in
    let (u, m, h1, k1) = bind_ok (tokens.newline (past in_line p)) (λ _. pure text) x q h in
    (s, sym (ok_value text x m q k1), subst (λ (r : Place). IsNewline (past in_line p) r) (ok_place text x m q k1) (newline_ok (past in_line p) m u h1))

-- a comment that stands there is read
pub comment_again : (p q : Place) (x : List ℕ) → IsComment p q x → reader.comment p ≡ Ok (x, q)
unfolding reader.comment
comment_again p q x (s, z, i) = rw (newline_again (past in_line p) q i, z) refl

-- what is read behind an item stands there
pub rest_ok : (p q : Place) (x : Option (List ℕ)) → reader.rest p ≡ Ok (x, q) → IsRest p q x
unfolding reader.rest
rest_ok p q x h =
    ⊎_elim
    (λ (s : _).
    let (t, m, h1, k1) = bind_ok (reader.comment p) (λ t. pure (Some t)) x q s.1 in
    commented t (subst (λ (r : Place). IsComment p r t) (ok_place (Some t) x m q k1) (comment_ok p m t s.0 h1)) (sym (ok_value (Some t) x m q k1)))
    (λ (s : _).
    let (u, m, h1, k1) = bind_ok (tokens.newline p) (λ _. pure None) x q s.1 in
    ended (subst (λ (r : Place). IsNewline p r) (ok_place None x m q k1) (newline_ok p m u h1)) (sym (ok_value None x m q k1)))
    (choose (sees 35 p) (and_then (reader.comment p) (λ t. pure (Some t))) (and_then (tokens.newline p) (λ _. pure None)) (Ok (x, q)) h)

-- what stands behind an item is read
pub rest_again : (p q : Place) (x : Option (List ℕ)) → IsRest p q x → reader.rest p ≡ Ok (x, q)
unfolding reader.rest
rest_again p q x (ended i z) = rw (newline_no_comment p q i, newline_again p q i, z) refl
rest_again p q x (commented t i z) = rw (i.0, comment_again p q t i, z) refl

-- where that stands, its test says so
pub rest_begins : (p q : Place) (x : Option (List ℕ)) → IsRest p q x → is_rest p ≡ true
rest_begins p q x (ended i z) = rw (newline_no_comment p q i) (newline_ends p q i)
rest_begins p q x (commented t i z) = rw (i.0) refl

-- ---- what is left

-- behind a token that may stand no more is left
pub behind_maybe : (text : List ℕ) (p q : Place) (b : Bool) → IsMaybe text p q b → length q.rest ≤ length p.rest
behind_maybe text p q b (here t z) = rw (t.1) (omega (arith, past_le is_blank (behind_text text p), behind_le text p))
behind_maybe text p q b (not_here n e z) = rw e (omega arith)

-- nor behind a comma that may stand
pub behind_trailing : (p q : Place) → IsTrailing p q → length q.rest ≤ length p.rest
behind_trailing p q (comma t) = omega (arith, token_lt 44 [] p q t)
behind_trailing p q (nothing n e) = rw e (omega arith)

-- behind `::` and a name less is left
behind_further_name : (p q : Place) (x : Name) → IsFurtherName p q x → length q.rest < length p.rest
behind_further_name p q x (m, t, i) = omega (arith, token_lt 58 (58 ∷ []) p m t, name_lt m q x i)

-- behind a path less is left
pub behind_path : (p q : Place) (xs : List Name) → IsPath p q xs → length q.rest < length p.rest
behind_path p q xs (names m n ys i are done z) = omega (arith, name_lt p m n i, are_le IsFurtherName behind_further_name m q ys are)

-- behind the end of a line no more is left
pub behind_newline : (p q : Place) → IsNewline p q → length q.rest ≤ length p.rest
behind_newline p q (last e z) = rw z (omega arith)
behind_newline p q (feed s) = omega (arith, character_shorter 10 p q s)
behind_newline p q (return_feed b z) = rw z (behind_le crlf p)

-- behind a comment less is left
pub behind_comment : (p q : Place) (x : List ℕ) → IsComment p q x → length q.rest < length p.rest
behind_comment p q x (s, z, i) =
    let h : starts in_line p ≡ true = starts_seen in_line 35 p s in
    let k : past in_line p ≡ past in_line (next p) = sym (past_next in_line p h) in
    omega (arith, behind_newline (past in_line p) q i, past_le in_line (next p), next_shorter in_line p h, ap (λ (r : Place). length r.rest) k)

-- behind what may stand behind an item no more is left
pub behind_rest : (p q : Place) (x : Option (List ℕ)) → IsRest p q x → length q.rest ≤ length p.rest
behind_rest p q x (ended i z) = behind_newline p q i
behind_rest p q x (commented t i z) = omega (arith, behind_comment p q t i)
