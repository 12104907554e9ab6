-- Pairs and lines: what the code reads is what the grammar says, and nothing else.
use Rattle.std.proofs.Common.{◌≡◌, ℕ, ◌<◌, ◌≤◌, ◌==◌, Bool, true, false, ◌&&◌, ◌||◌, if◌then◌else◌, ◌⊎◌, inl, inr, List, [], ◌∷◌, length, Option, Some, None, Ok, Err, codes, bytes_eq, refl, sym, ap, ◌∙◌, subst, ⊎_elim, arith}
use Rattle.std.proofs.lemmas.Bool.{false≢true}
use Rattle.std.proofs.lemmas.Slice.Eq.{bytes_eq-Decides}
use Rattle.std.proofs.lemmas.Str.{cons_from_encodes}
use Rattle.just_lang_read.specs.Place.{Place, next, past, run, first_in, passes, starts, sees, is_end, is_empty}
use Rattle.just_lang_read.specs.Reader.{and_then, pure, expect}
use Rattle.just_lang_read.specs.declared.error.ReadError.TheVariants.{Syntax}
use Rattle.just_lang_read.proofs.Laws.{bind_ok, choose, ok_value, ok_place, expect_ok, expect_again, starts_seen, past_le, character_shorter, not_end_where_starts, length_before_end, not_end_of_length, length_at_end}
use Rattle.just_dotenv.specs.Characters.{is_blank, begins_name, in_name, in_line, number_sign, equals_sign, line_feed, carriage_return}
use Rattle.just_dotenv.specs.Grammar.{behind_blanks, word, Entry, IsValue, IsAssignment, IsPair, IsNewline, IsRest, IsLine}
use Rattle.just_dotenv.specs.Grammar.IsAssignment.{assigned}
use Rattle.just_dotenv.specs.Grammar.IsPair.{plain, exported}
use Rattle.just_dotenv.specs.Grammar.IsNewline.{feed, return_feed, last}
use Rattle.just_dotenv.specs.Grammar.IsRest.{no_comment, comment}
use Rattle.just_dotenv.specs.Grammar.IsLine.{without, with}
use Rattle.just_dotenv.specs.Readers as reader
use Rattle.just_dotenv.proofs.Parts.{and_true}
use Rattle.just_dotenv.proofs.ValueLaws.{value_ok, value_again, value_le}

-- nothing holds together with what fails
and_false : (b : Bool) → (b && false) ≡ false
and_false true = refl
and_false false = refl

-- a test that fails at a character fails where that character stands
other : (t : ℕ → Bool) (c : ℕ) (p : Place) → t c ≡ false → sees c p ≡ true → starts t p ≡ false
other t c p n s = starts_seen t c p s ∙ n

-- ---- pairs

-- what is read from a name on is an assignment
assignment_ok : (p q : Place) (e : Entry) → starts begins_name p ≡ true → reader.assignment (word p) (past in_name p) ≡ Ok (e, q) → IsAssignment p q e
unfolding reader.assignment
assignment_ok p q e b h =
    let (u, m, s, k) = bind_ok (expect equals_sign (behind_blanks (past in_name p))) _ e q h in
    let (v, n, r, j) = bind_ok (reader.value m) _ e q k in
    let same : record { name = word p; value = v } ≡ e = ok_value (record { name = word p; value = v }) e n q j in
    subst (λ (x : Entry). IsAssignment p q x) same
    (assigned m b refl (expect_ok 61 (behind_blanks (past in_name p)) u m s) (subst (λ (l : Place). IsValue m l v) (ok_place (record { name = word p; value = v }) e n q j) (value_ok m n v r)))

-- each assignment is read
assignment_again : (p q : Place) (e : Entry) → IsAssignment p q e → reader.assignment (word p) (past in_name p) ≡ Ok (e, q)
unfolding reader.assignment
assignment_again p q e (assigned m b z s v) = rw (expect_again 61 (behind_blanks (past in_name p)) m s, value_again m q e.value v, ← z) refl

-- what is read from a name or from `export` on is a pair
pub pair_ok : (p q : Place) (e : Entry) → starts begins_name p ≡ true → reader.pair p ≡ Ok (e, q) → IsPair p q e
unfolding reader.pair reader.is_export
pair_ok p q e b h =
    let m : Place = past in_name p in
    ⊎_elim
    (λ (s : _).
    let (w, t) = and_true (bytes_eq (word p) (codes "export")) (starts is_blank m && starts begins_name (behind_blanks m)) s.0 in
    let (blank, name) = and_true (starts is_blank m) (starts begins_name (behind_blanks m)) t in
    exported ((bytes_eq-Decides (word p) (codes "export")).0 w) blank (assignment_ok (behind_blanks m) q e name s.1))
    (λ (s : _). plain (assignment_ok p q e b s.1))
    (choose (reader.is_export p) (reader.assignment (word (behind_blanks m)) (past in_name (behind_blanks m))) (reader.assignment (word p) m) (Ok (e, q)) h)

-- an assignment doesn't begin with `export` and a further name
no_export_at_assignment : (p q : Place) (e : Entry) → IsAssignment p q e → reader.is_export p ≡ false
unfolding reader.is_export
no_export_at_assignment p q e (assigned m b z s v) =
    rw (other begins_name 61 (behind_blanks (past in_name p)) refl s.0, and_false (starts is_blank (past in_name p)), and_false (bytes_eq (word p) (codes "export"))) refl

-- an assignment begins as a name does
assignment_begins : (p q : Place) (e : Entry) → IsAssignment p q e → starts begins_name p ≡ true
assignment_begins p q e (assigned m b z s v) = b

-- `export`, a blank and an assignment are read as that
export_is : (p q : Place) (e : Entry) → word p ≡ codes "export" → starts is_blank (past in_name p) ≡ true → IsAssignment (behind_blanks (past in_name p)) q e → reader.is_export p ≡ true
unfolding reader.is_export
export_is p q e w b a =
    let same : bytes_eq (word p) (codes "export") ≡ true = (bytes_eq-Decides (word p) (codes "export")).1 w in
    rw (same, b, assignment_begins (behind_blanks (past in_name p)) q e a) refl

-- each pair is read
pub pair_again : (p q : Place) (e : Entry) → IsPair p q e → reader.pair p ≡ Ok (e, q)
unfolding reader.pair
pair_again p q e (plain a) = rw (no_export_at_assignment p q e a) (assignment_again p q e a)
pair_again p q e (exported w b a) = rw (export_is p q e w b a) (assignment_again (behind_blanks (past in_name p)) q e a)

-- a run that is some list took its first character or is empty
choose_run : (b : Bool) (d : ℕ) (xs ys : List ℕ) → (if b then d ∷ xs else []) ≡ ys → ((b ≡ true) × (d ∷ xs ≡ ys)) ⊎ ((b ≡ false) × ([] ≡ ys))
choose_run true d xs ys e = inl (refl, e)
choose_run false d xs ys e = inr (refl, e)

-- where a run of name characters begins as a name does, a name begins here
run_begins : (list : List ℕ) (c : ℕ) (cs : List ℕ) → begins_name c ≡ true → run in_name list ≡ c ∷ cs → passes begins_name (first_in list) ≡ true
run_begins [] c cs b e = absurd (let no : ⊥ = cc in no)
run_begins (d ∷ rest) c cs b e =
    ⊎_elim
    (λ (s : _). let same : d ≡ c = (let k : d ∷ run in_name rest ≡ c ∷ cs = s.1 in cc) in ap begins_name same ∙ b)
    (λ (s : _). absurd (let no : ⊥ = cc (s.1) in no))
    (choose_run (in_name d) d (run in_name rest) (c ∷ cs) e)

-- a pair begins as a name does
pub pair_begins : (p q : Place) (e : Entry) → IsPair p q e → starts begins_name p ≡ true
unfolding lib.Utf8.encode
pair_begins p q e (plain a) = assignment_begins p q e a
pair_begins p q e (exported w b a) =
    let (es, k, _) = cons_from_encodes (run in_name p.rest) (codes "xport") 101 w in
    run_begins p.rest 101 es refl k

-- an assignment takes nothing back
assignment_le : (p q : Place) (e : Entry) → IsAssignment p q e → length q.rest ≤ length p.rest
assignment_le p q e (assigned m b z s v) =
    omega (arith, past_le in_name p, past_le is_blank (past in_name p), character_shorter 61 (behind_blanks (past in_name p)) m s, value_le m q e.value v)

-- nor does a pair
pair_le : (p q : Place) (e : Entry) → IsPair p q e → length q.rest ≤ length p.rest
pair_le p q e (plain a) = assignment_le p q e a
pair_le p q e (exported w b a) = omega (arith, past_le in_name p, past_le is_blank (past in_name p), assignment_le (behind_blanks (past in_name p)) q e a)

-- ---- the end of a line

-- what is read at the end of a line is a newline
newline_ok : (p q : Place) (u : Unit {0}) → reader.newline p ≡ Ok (u, q) → IsNewline p q
unfolding reader.newline
newline_ok p q u h =
    ⊎_elim (λ (s : _). last s.0 (sym (ok_place tt u p q s.1)))
    (λ (s : _).
    ⊎_elim (λ (t : _). feed (t.0, sym (ok_place tt u (next p) q t.1)))
    (λ (t : _).
    ⊎_elim (λ (w : _). return_feed (next p) (w.0, refl) (expect_ok 10 (next p) u q w.1))
    (λ (w : _). absurd (let no : ⊥ = cc (w.1) in no))
    (choose (sees carriage_return p) (expect line_feed (next p)) (Err Syntax) (Ok (u, q)) t.1))
    (choose (sees line_feed p) (Ok (tt, next p)) (if sees carriage_return p then expect line_feed (next p) else Err Syntax) (Ok (u, q)) s.1))
    (choose (is_end p) (Ok (tt, p)) (if sees line_feed p then Ok (tt, next p) else (if sees carriage_return p then expect line_feed (next p) else Err Syntax)) (Ok (u, q)) h)

-- each newline is read
newline_again : (p q : Place) → IsNewline p q → reader.newline p ≡ Ok (tt, q)
unfolding reader.newline
newline_again p q (feed s) = rw (not_end_where_starts (λ d. d == 10) p s.0, s.0, s.1) refl
newline_again p q (return_feed m s t) =
    rw (not_end_where_starts (λ d. d == 13) p s.0, other (λ d. d == 10) 13 p refl s.0, s.0, ← s.1) (expect_again 10 m q t)
newline_again p q (last e z) = rw (e, z) refl

-- at the end of a text no character passes a test
at_end : (t : ℕ → Bool) (list : List ℕ) → is_empty list ≡ true → passes t (first_in list) ≡ false
at_end t [] e = refl
at_end t (c ∷ rest) e = absurd (false≢true e)

-- a newline begins with nothing that a test lets through which refuses its two characters
newline_other : (t : ℕ → Bool) (p q : Place) → t 10 ≡ false → t 13 ≡ false → IsNewline p q → starts t p ≡ false
newline_other t p q a b (feed s) = other t 10 p a s.0
newline_other t p q a b (return_feed m s u) = other t 13 p b s.0
newline_other t p q a b (last e z) = at_end t p.rest e

-- a newline takes a character, or ends the text
newline_shorter : (p q : Place) → IsNewline p q → (length q.rest < length p.rest) ⊎ ((q ≡ p) × (length q.rest ≡ 0))
newline_shorter p q (feed s) = inl (character_shorter 10 p q s)
newline_shorter p q (return_feed m s t) = inl (omega (arith, character_shorter 13 p m s, character_shorter 10 m q t))
newline_shorter p q (last e z) = inr (z, rw z (length_at_end p e))

-- what is read behind a pair or a blank is the rest of a line
rest_ok : (at_start : Bool) (p q : Place) (u : Unit {0}) → reader.rest at_start p ≡ Ok (u, q) → IsRest at_start p q
unfolding reader.rest
rest_ok at_start p q u h =
    ⊎_elim
    (λ (s : _).
    let (a, b) = and_true (at_start || starts is_blank p) (sees number_sign (behind_blanks p)) s.0 in
    comment a b (newline_ok (past in_line (behind_blanks p)) q u s.1))
    (λ (s : _). no_comment (newline_ok (behind_blanks p) q u s.1))
    (choose ((at_start || starts is_blank p) && sees number_sign (behind_blanks p)) (reader.newline (past in_line (behind_blanks p))) (reader.newline (behind_blanks p)) (Ok (u, q)) h)

-- each rest is read
rest_again : (at_start : Bool) (p q : Place) → IsRest at_start p q → reader.rest at_start p ≡ Ok (tt, q)
unfolding reader.rest
rest_again at_start p q (no_comment n) =
    rw (newline_other (λ d. d == 35) (behind_blanks p) q refl refl n, and_false (at_start || starts is_blank p)) (newline_again (behind_blanks p) q n)
rest_again at_start p q (comment a b n) = rw (a, b) (newline_again (past in_line (behind_blanks p)) q n)

-- behind the blanks of a rest no name begins
rest_nameless : (at_start : Bool) (p q : Place) → IsRest at_start p q → starts begins_name (behind_blanks p) ≡ false
rest_nameless at_start p q (no_comment n) = newline_other begins_name (behind_blanks p) q refl refl n
rest_nameless at_start p q (comment a b n) = other begins_name 35 (behind_blanks p) refl b

-- what takes a character or ends the text still does so from an earlier place
shorter_or_done : (m p q : Place) → length m.rest ≤ length p.rest → (length q.rest < length m.rest) ⊎ ((q ≡ m) × (length q.rest ≡ 0)) → (length q.rest < length p.rest) ⊎ (length q.rest ≡ 0)
shorter_or_done m p q h s = ⊎_elim (λ (t : _). inl (omega arith)) (λ (t : _). inr (t.1)) s

-- the rest of a line takes a character, or the text ends behind it
rest_shorter : (at_start : Bool) (p q : Place) → IsRest at_start p q → (length q.rest < length p.rest) ⊎ (length q.rest ≡ 0)
rest_shorter at_start p q (no_comment n) = shorter_or_done (behind_blanks p) p q (past_le is_blank p) (newline_shorter (behind_blanks p) q n)
rest_shorter at_start p q (comment a b n) =
    shorter_or_done (past in_line (behind_blanks p)) p q (omega (arith, past_le is_blank p, past_le in_line (behind_blanks p))) (newline_shorter (past in_line (behind_blanks p)) q n)

-- ---- lines

-- what is read before the end of the text is a line
pub line_ok : (p q : Place) (x : Option Entry) → is_end p ≡ false → reader.line p ≡ Ok (x, q) → IsLine p q x
unfolding reader.line
line_ok p q x goes_on h =
    ⊎_elim
    (λ (s : _).
    let (e, m, r, k) = bind_ok (reader.pair (behind_blanks p)) _ x q s.1 in
    let (u, n, t, j) = bind_ok (reader.rest false m) _ x q k in
    let end : n ≡ q = ok_place (Some e) x n q j in
    with m e (pair_ok (behind_blanks p) m e s.0 r) (subst (λ (l : Place). IsRest false m l) end (rest_ok false m n u t)) (sym (ok_value (Some e) x n q j)))
    (λ (s : _).
    let (u, n, t, j) = bind_ok (reader.rest true p) _ x q s.1 in
    let end : n ≡ q = ok_place None x n q j in
    without goes_on (subst (λ (l : Place). IsRest true p l) end (rest_ok true p n u t)) (sym (ok_value None x n q j)))
    (choose (starts begins_name (behind_blanks p))
    (and_then (reader.pair (behind_blanks p)) (λ e m. and_then (reader.rest false m) (λ _. pure (Some e))))
    (and_then (reader.rest true p) (λ _. pure None)) (Ok (x, q)) h)

-- each line is read
pub line_again : (p q : Place) (x : Option Entry) → IsLine p q x → reader.line p ≡ Ok (x, q)
unfolding reader.line
line_again p q x (without goes_on r z) = rw (rest_nameless true p q r, rest_again true p q r, z) refl
line_again p q x (with m e a r z) = rw (pair_begins (behind_blanks p) m e a, pair_again (behind_blanks p) m e a, rest_again false m q r, z) refl

-- a line begins before the end of the text
pub line_goes_on : (p q : Place) (x : Option Entry) → IsLine p q x → is_end p ≡ false
line_goes_on p q x (without goes_on r z) = goes_on
line_goes_on p q x (with m e a r z) =
    not_end_of_length p (omega (arith, past_le is_blank p, length_before_end (behind_blanks p) (not_end_where_starts begins_name (behind_blanks p) (pair_begins (behind_blanks p) m e a))))

-- a line takes a character
pub line_shorter : (p q : Place) (x : Option Entry) → IsLine p q x → length q.rest < length p.rest
line_shorter p q x (without goes_on r z) = ⊎_elim (λ (t : _). t) (λ (t : _). omega (arith, length_before_end p goes_on)) (rest_shorter true p q r)
line_shorter p q x (with m e a r z) =
    let some : 0 < length p.rest = length_before_end p (line_goes_on p q x (with m e a r z)) in
    ⊎_elim (λ (t : _). omega (arith, past_le is_blank p, pair_le (behind_blanks p) m e a)) (λ (t : _). omega arith) (rest_shorter false m q r)
