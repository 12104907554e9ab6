-- What stands between the quotes of a string stands there again when it is printed.
use Rattle.std.proofs.Common.{◌≡◌, ℕ, ◌+◌, ◌-◌, ◌≤◌, ◌==◌, Bool, true, false, not, ◌&&◌, List, [], ◌∷◌, ◌++◌, length, ◌⊎◌, inl, inr, refl, sym, ap, ◌∙◌, append_assoc, length-append, arith}
use Rattle.std.proofs.Math.Seq.{take-append_seam}
use Rattle.std.proofs.lemmas.Bool.{false≢true, eqb-true}
use Rattle.just_lang_read.specs.Place.{Place, AreMany, IsCharacter, next, past, run, first_in, starts, sees, begins, begins_in, between, is_end}
use Rattle.just_lang_read.proofs.Laws.{starts_at, starts_with, sees_first, first_is, run_next}
use Rattle.just_lang_read.specs.declared.quote.Quote.{Quote}
use Rattle.just_lang_read.specs.Characters.{is_hex}
use Rattle.just_lang_read.specs.Quotes.{mark, is_cooked, goes_on, IsEscape, IsPiece, IsPieceOf}
use Rattle.just_lang_read.specs.Quotes.IsEscape.{letter, unicode, feed, return_feed}
use Rattle.just_lang_read.specs.Quotes.IsPiece.{itself, escaped}
use Rattle.just_print.proofs.Places.{beyond, past_rest, run_run, beyond_run, same, next_rest, and_true}

-- the front of a text and what follows it; the front stands for x wherever it stands
pub record Front {A : Type 0} (Is : Place → Place → A → Type 0) (p q : Place) (x : A) : Type 0 where
  pub front : List ℕ
  pub splits : p.rest ≡ front ++ q.rest
  pub again : (r : Place) (rest : List ℕ) → r.rest ≡ front ++ rest → (s : Place) × Is r s x × (s.rest ≡ rest)

-- a character that stands first is seen
pub sees_at : (c : ℕ) (r : Place) (rest : List ℕ) → r.rest ≡ c ∷ rest → sees c r ≡ true
sees_at c r rest h = starts_at (λ d. d == c) r c (ap first_in h) ∙ same c

-- the rest of a text behind a character
character_rest : (c : ℕ) (p q : Place) → IsCharacter c p q → p.rest ≡ c ∷ q.rest
character_rest c p q (s, e) = first_is p c (sees_first c p s) ∙ ap (λ (m : Place). c ∷ m.rest) (sym e)

split_by : (b : Bool) (t : ℕ → Bool) (c : ℕ) (list : List ℕ) → t c ≡ b → list ≡ run t list ++ beyond t list → c ∷ list ≡ run t (c ∷ list) ++ beyond t (c ∷ list)
split_by true t c list h e = rw h (ap (λ (l : List ℕ). c ∷ l) e)
split_by false t c list h e = rw h refl

-- a text is a run and what is left behind it
run_split : (t : ℕ → Bool) (list : List ℕ) → list ≡ run t list ++ beyond t list
run_split t [] = refl
run_split t (c ∷ list) = split_by (t c) t c list refl (run_split t list)

-- an escape stands there again
escape_back : (p q : Place) (x : List ℕ) → IsEscape p q x → Front IsEscape p q x
escape_back p q x (letter c d f m e g) =
    record {
      front = c ∷ [];
      splits = first_is p c f ∙ ap (λ (k : Place). c ∷ k.rest) (sym e);
      again = λ r rest h. (next r, letter c d (ap first_in h) m refl g, next_rest r c rest h);
    }
escape_back p q x (unicode m n c s t b l v k o g) =
    let hex : List ℕ = run is_hex n.rest in
    let end : (past is_hex n).rest ≡ 125 ∷ q.rest = character_rest 125 (past is_hex n) q o in
    let split : n.rest ≡ hex ++ (125 ∷ q.rest) = run_split is_hex n.rest ∙ ap (λ (w : List ℕ). hex ++ w) (sym (past_rest is_hex n) ∙ end) in
    record {
      front = 117 ∷ 123 ∷ (hex ++ 125 ∷ []);
      splits = character_rest 117 p m s ∙ ap (λ (w : List ℕ). 117 ∷ w) (character_rest 123 m n t ∙ ap (λ (w : List ℕ). 123 ∷ w) (split ∙ sym (append_assoc hex (125 ∷ []) q.rest)));
      again = λ r rest h.
          let i : (next r).rest ≡ 123 ∷ ((hex ++ 125 ∷ []) ++ rest) = next_rest r 117 (123 ∷ ((hex ++ 125 ∷ []) ++ rest)) h in
          let n' : Place = next (next r) in
          let j : n'.rest ≡ hex ++ (125 ∷ rest) = next_rest (next r) 123 ((hex ++ 125 ∷ []) ++ rest) i ∙ append_assoc hex (125 ∷ []) rest in
          let same_run : run is_hex n'.rest ≡ hex = ap (run is_hex) j ∙ run_run is_hex n.rest (125 ∷ rest) refl in
          let left : (past is_hex n').rest ≡ 125 ∷ rest = past_rest is_hex n' ∙ (ap (beyond is_hex) j ∙ beyond_run is_hex n.rest (125 ∷ rest) refl) in
          let (d, f, w) = starts_with is_hex n b in
          let cell : hex ≡ d ∷ run is_hex (next n).rest = run_next is_hex n d f b in
          let here : starts is_hex n' ≡ true = starts_at is_hex n' d (ap first_in (j ∙ ap (λ (u : List ℕ). u ++ (125 ∷ rest)) cell)) ∙ w in (
            next (past is_hex n'),
            unicode (next r) n' c (sees_at 117 r (123 ∷ ((hex ++ 125 ∷ []) ++ rest)) h, refl) (sees_at 123 (next r) ((hex ++ 125 ∷ []) ++ rest) i, refl) here
                (rw same_run l) (rw same_run v) k (sees_at 125 (past is_hex n') rest left, refl) g,
            next_rest (past is_hex n') 125 rest left,
          );
    }
escape_back p q x (feed s g) =
    record {
      front = 10 ∷ [];
      splits = character_rest 10 p q s;
      again = λ r rest h. (next r, feed (sees_at 10 r rest h, refl) g, next_rest r 10 rest h);
    }
escape_back p q x (return_feed m s t g) =
    record {
      front = 13 ∷ 10 ∷ [];
      splits = character_rest 13 p m s ∙ ap (λ (w : List ℕ). 13 ∷ w) (character_rest 10 m q t);
      again = λ r rest h.
          let i : (next r).rest ≡ 10 ∷ rest = next_rest r 13 (10 ∷ rest) h in
          (next (next r), return_feed (next r) (sees_at 13 r (10 ∷ rest) h, refl) (sees_at 10 (next r) rest i, refl) g, next_rest (next r) 10 rest i);
    }

-- a piece stands there again, and it is not empty
pub piece_back : (cooked : Bool) (p q : Place) (x : List ℕ) → IsPiece cooked p q x
    → (c : ℕ) × (front : List ℕ) × (p.rest ≡ (c ∷ front) ++ q.rest) × ((r : Place) (rest : List ℕ) → r.rest ≡ (c ∷ front) ++ rest → (s : Place) × IsPiece cooked r s x × (s.rest ≡ rest))
piece_back cooked p q x (itself c f n e g) =
    (c, [], first_is p c f ∙ ap (λ (k : Place). c ∷ k.rest) (sym e), λ r rest h. (next r, itself c (ap first_in h) n refl g, next_rest r c rest h))
piece_back cooked p q x (escaped m a s i) =
    let w = escape_back m q x i in (
      92,
      w.front,
      character_rest 92 p m s ∙ ap (λ (k : List ℕ). 92 ∷ k) w.splits,
      λ r rest h.
          let j : (next r).rest ≡ w.front ++ rest = next_rest r 92 (w.front ++ rest) h in
          let (o, is, left) = w.again (next r) rest j in
          (o, escaped (next r) a (sees_at 92 r (w.front ++ rest) h, refl) is, left),
    )

-- ---- pieces up to the closing quote

-- whether a text comes first doesn't depend on what stands behind a front as long as it
pub begins_local : (text list a b : List ℕ) → length text ≤ length list → begins_in text (list ++ a) ≡ begins_in text (list ++ b)
begins_local [] list a b h = refl
begins_local (c ∷ text) [] a b h = absurd (omega (arith, h))
begins_local (c ∷ text) (d ∷ list) a b h = ap (λ (w : Bool). d == c && w) (begins_local text list a b (omega (arith, h)))

-- what follows a text that comes first
pub front_of : (text list : List ℕ) → begins_in text list ≡ true → (rest : List ℕ) × (list ≡ text ++ rest)
front_of [] list h = (list, refl)
front_of (c ∷ text) [] h = absurd (false≢true h)
front_of (c ∷ text) (d ∷ list) h =
    let (a, b) = and_true (d == c) (begins_in text list) h in
    let (rest, e) = front_of text list b in
    let k : d ≡ c = eqb-true d c a in
    (rest, ap (λ (x : ℕ). x ∷ list) k ∙ ap (λ (l : List ℕ). c ∷ l) e)

goes_on_at : (quote : Quote) (r : Place) (c : ℕ) (rest : List ℕ) → r.rest ≡ c ∷ rest → begins (mark quote) r ≡ false → goes_on quote r ≡ true
goes_on_at quote r c rest h b = rw (b, h) refl

not_true : (b : Bool) → not b ≡ true → b ≡ false
not_true true h = absurd (false≢true h)
not_true false h = refl

-- where it goes on, the quote doesn't begin
pub goes_on_not : (quote : Quote) (p : Place) → goes_on quote p ≡ true → begins (mark quote) p ≡ false
goes_on_not quote p h = not_true (begins (mark quote) p) (and_true (not (is_end p)) (not (begins (mark quote) p)) h).1

-- what stands between the quotes: it comes before the quote, the quote doesn't begin at its front, and it stands there again
pub record Inside (quote : Quote) (p k : Place) (pieces : List (List ℕ)) : Type 0 where
  pub body : List ℕ
  pub splits : p.rest ≡ body ++ k.rest
  pub first_piece : (body ≡ []) ⊎ ((rest : List ℕ) → begins_in (mark quote) (body ++ (mark quote ++ rest)) ≡ false)
  pub again : (r : Place) (rest : List ℕ) → r.rest ≡ body ++ (mark quote ++ rest) → (s : Place) × AreMany (IsPieceOf quote) r s pieces × (s.rest ≡ mark quote ++ rest)

-- the pieces of a string stand again between its quotes
pub pieces_back : (quote : Quote) (p k : Place) (pieces : List (List ℕ)) → AreMany (IsPieceOf quote) p k pieces → begins (mark quote) k ≡ true → Inside quote p k pieces
pieces_back quote p k [] e b = record { body = []; splits = ap (λ (m : Place). m.rest) (sym e); first_piece = inl refl; again = λ r rest h. (r, refl, h) }
pieces_back quote p k (x ∷ xs) (m, i, are) b =
    let (c, front, split, stands) = piece_back (is_cooked quote) p m x i.1 in
    let others = pieces_back quote m k xs are b in
    let body : List ℕ = (c ∷ front) ++ others.body in
    let (behind, e) = front_of (mark quote) k.rest b in
    let whole : p.rest ≡ (body ++ mark quote) ++ behind =
    split ∙ (ap (λ (w : List ℕ). (c ∷ front) ++ w) (others.splits ∙ ap (λ (w : List ℕ). others.body ++ w) e)
    ∙ (sym (append_assoc (c ∷ front) others.body (mark quote ++ behind)) ∙ sym (append_assoc body (mark quote) behind))) in
    let long : length (mark quote) ≤ length (body ++ mark quote) = (let n : length (body ++ mark quote) ≡ length body + length (mark quote) = length-append body (mark quote) in omega arith) in
    let closed : (rest : List ℕ) → begins_in (mark quote) (body ++ (mark quote ++ rest)) ≡ false =
    λ rest. ap (begins_in (mark quote)) (sym (append_assoc body (mark quote) rest))
    ∙ (begins_local (mark quote) (body ++ mark quote) rest behind long ∙ (ap (begins_in (mark quote)) (sym whole) ∙ goes_on_not quote p i.0)) in
    record {
      body = body;
      splits = split ∙ (ap (λ (w : List ℕ). (c ∷ front) ++ w) others.splits ∙ sym (append_assoc (c ∷ front) others.body k.rest));
      first_piece = inr closed;
      again = λ r rest h.
          let j : r.rest ≡ (c ∷ front) ++ (others.body ++ (mark quote ++ rest)) = h ∙ append_assoc (c ∷ front) others.body (mark quote ++ rest) in
          let (s, is, left) = stands r (others.body ++ (mark quote ++ rest)) j in
          let (t, further, end) = others.again s rest left in
          let goes : goes_on quote r ≡ true = goes_on_at quote r c (front ++ (others.body ++ (mark quote ++ rest))) j (ap (begins_in (mark quote)) h ∙ closed rest) in
          (t, (s, (goes, is), further), end);
    }

-- what stands between two places is the front of the first that the second doesn't have
pub between_is : (p k : Place) (body : List ℕ) → p.rest ≡ body ++ k.rest → between p k ≡ body
between_is p k body h =
    let n : length (body ++ k.rest) ≡ length body + length k.rest = length-append body k.rest in
    let m : length p.rest ≡ length body + length k.rest = ap length h ∙ n in
    let l : length p.rest - length k.rest ≡ length body = omega arith in
    rw (l, h) (take-append_seam body k.rest)
