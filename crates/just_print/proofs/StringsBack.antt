-- What is printed of a string is read again as that string.
use Rattle.std.proofs.Common.{◌≡◌, ℕ, ◌==◌, Bool, true, false, ◌&&◌, ◌||◌, if◌then◌else◌, List, [], ◌∷◌, ◌++◌, Some, None, ◌⊎◌, inl, inr, codes, encode_utf8_all, refl, sym, ap, ◌∙◌, append_assoc}
use Rattle.std.specs.Option.{option_map}
use Rattle.std.proofs.lemmas.Bool.{false≢true}
use Rattle.std.proofs.lemmas.Str.{encodes-append}
use Rattle.just_lang_read.specs.Place.{Place, next, first, first_in, passes, sees, begins, begins_in, behind_text, between}
use Rattle.just_lang_read.proofs.Laws.{sees_first, first_is}
use Rattle.just_lang_read.specs.declared.quote.Quote.{Quote}
use Rattle.just_lang_read.specs.declared.quote.Quote.TheVariants.{Single, Double, SingleBlock, DoubleBlock}
use Rattle.just_lang_syntax.specs.declared.ast.StringLiteral.{StringLiteral}
use Rattle.just_lang_read.specs.Characters.{is_blank, is_quote}
use Rattle.just_lang_read.specs.Lines.{skip}
use Rattle.just_lang_read.specs.Quotes.{mark, quote_at, behind_x}
use Rattle.just_lang_syntax.specs.Strings.{literal_at, IsRaw, IsString}
use Rattle.just_lang_syntax.specs.Strings.IsRaw.{closed}
use Rattle.just_lang_syntax.specs.Strings.IsString.{string}
use Rattle.just_print.specs.Printed.{only_if, printed_string}
use Rattle.just_print.specs.Shapes.{bare_string}
use Rattle.just_print.proofs.Places.{beyond, past_rest, next_rest, same, begins_front, behind_front, begins_one, encoded_plain, IsApart}
use Rattle.just_print.proofs.NamesBack.{Back}
use Rattle.just_print.proofs.PiecesBack.{Inside, sees_at, front_of, pieces_back, between_is}

-- ---- the quote

-- the character of which a quote is made
abbrev pub quote_character : Quote → ℕ
quote_character Single = 39
quote_character Double = 34
quote_character SingleBlock = 39
quote_character DoubleBlock = 34

abbrev behind_first : Quote → List ℕ
behind_first Single = []
behind_first Double = []
behind_first SingleBlock = 39 ∷ 39 ∷ []
behind_first DoubleBlock = 34 ∷ 34 ∷ []

mark_is : (quote : Quote) → mark quote ≡ quote_character quote ∷ behind_first quote
mark_is Single = refl
mark_is Double = refl
mark_is SingleBlock = refl
mark_is DoubleBlock = refl

mark_encoded : (quote : Quote) → encode_utf8_all (mark quote) ≡ mark quote
mark_encoded Single = encoded_plain (39 ∷ []) refl
mark_encoded Double = encoded_plain (34 ∷ []) refl
mark_encoded SingleBlock = encoded_plain (39 ∷ 39 ∷ 39 ∷ []) refl
mark_encoded DoubleBlock = encoded_plain (34 ∷ 34 ∷ 34 ∷ []) refl

quote_no_x : (quote : Quote) → (quote_character quote == 120) ≡ false
quote_no_x Single = refl
quote_no_x Double = refl
quote_no_x SingleBlock = refl
quote_no_x DoubleBlock = refl

quote_dark : (quote : Quote) → is_blank (quote_character quote) ≡ false
quote_dark Single = refl
quote_dark Double = refl
quote_dark SingleBlock = refl
quote_dark DoubleBlock = refl

begins_mark : (quote : Quote) (list : List ℕ) → begins_in (mark quote) list ≡ true → first_in list ≡ Some (quote_character quote)
begins_mark quote list h =
    let (rest, e) = front_of (mark quote) list h in
    ap first_in (e ∙ ap (λ (m : List ℕ). m ++ rest) (mark_is quote))

picked : (a b c d : Bool) (list : List ℕ) (quote : Quote) → begins_in (mark SingleBlock) list ≡ a → begins_in (mark Single) list ≡ b → begins_in (mark DoubleBlock) list ≡ c
    → begins_in (mark Double) list ≡ d
    → (if a then Some SingleBlock else (if b then Some Single else (if c then Some DoubleBlock else (if d then Some Double else None)))) ≡ Some quote
    → first_in list ≡ Some (quote_character quote)
picked true b c d list quote e f g h k = begins_mark SingleBlock list e ∙ ap (option_map quote_character) k
picked false true c d list quote e f g h k = begins_mark Single list f ∙ ap (option_map quote_character) k
picked false false true d list quote e f g h k = begins_mark DoubleBlock list g ∙ ap (option_map quote_character) k
picked false false false true list quote e f g h k = begins_mark Double list h ∙ ap (option_map quote_character) k
picked false false false false list quote e f g h k = absurd (let no : ⊥ = cc in no)

-- the first character of a place at which a quote stands
pub quote_first : (p : Place) (quote : Quote) → quote_at p ≡ Some quote → first p ≡ Some (quote_character quote)
quote_first p quote h =
    picked (begins (mark SingleBlock) p) (begins (mark Single) p) (begins (mark DoubleBlock) p) (begins (mark Double) p) p.rest quote refl refl refl refl h

-- what stands between the quotes doesn't begin with the quote
abbrev StandsOpen : Quote → List ℕ → Type 0
StandsOpen quote body = (body ≡ []) ⊎ ((rest : List ℕ) → begins_in (mark quote) (body ++ (mark quote ++ rest)) ≡ false)

left_of : (b : Bool) → (b && true) ≡ false → b ≡ false
left_of true h = h
left_of false h = refl

-- three single quotes don't come first where one stands before another text and one behind it
no_triple : (c : ℕ) (body rest : List ℕ) → ((body ≡ []) ⊎ ((more : List ℕ) → begins_in (c ∷ []) (body ++ (c ∷ more)) ≡ false)) → passes (λ d. d == c) (first_in rest) ≡ false
    → begins_in (c ∷ c ∷ c ∷ []) (c ∷ (body ++ (c ∷ rest))) ≡ false
no_triple c [] rest o apart = rw (same c, begins_one c rest, apart) refl
no_triple c (d ∷ body) rest (inl e) apart = absurd (let no : ⊥ = cc (e) in no)
no_triple c (d ∷ body) rest (inr f) apart = rw (same c, left_of (d == c) (f [])) refl

not_quote_by : (b : Bool) (t : Bool) → (b || t) ≡ false → b ≡ false
not_quote_by true t h = h
not_quote_by false t h = refl

not_second : (b : Bool) (t : Bool) → (b || t) ≡ false → t ≡ false
not_second true t h = absurd (false≢true (sym h))
not_second false t h = h

no_single : (rest : List ℕ) → passes is_quote (first_in rest) ≡ false → passes (λ d. d == 39) (first_in rest) ≡ false
no_single [] h = refl
no_single (c ∷ rest) h = not_quote_by (c == 39) (c == 34) h

no_double : (rest : List ℕ) → passes is_quote (first_in rest) ≡ false → passes (λ d. d == 34) (first_in rest) ≡ false
no_double [] h = refl
no_double (c ∷ rest) h = not_second (c == 39) (c == 34) h

-- the quote of a printed string is that quote
quote_back : (quote : Quote) (body rest : List ℕ) (r : Place) → r.rest ≡ mark quote ++ (body ++ (mark quote ++ rest)) → StandsOpen quote body
    → passes is_quote (first_in rest) ≡ false → quote_at r ≡ Some quote
quote_back Single body rest r h o apart = rw (h, no_triple 39 body rest o (no_single rest apart)) refl
quote_back Double body rest r h o apart = rw (h, no_triple 34 body rest o (no_double rest apart)) refl
quote_back SingleBlock body rest r h o apart = rw h refl
quote_back DoubleBlock body rest r h o apart = rw h refl

-- ---- the string

x_rest : (b : Bool) (p : Place) → sees 120 p ≡ b → p.rest ≡ only_if b (codes "x") ++ (behind_x p).rest
x_rest true p h = rw h (first_is p 120 (sees_first 120 p h))
x_rest false p h = rw h refl

no_x : (quote : Quote) (list : List ℕ) → first_in list ≡ Some (quote_character quote) → passes (λ d. d == 120) (first_in list) ≡ false
no_x quote list h = ap (passes (λ d. d == 120)) h ∙ quote_no_x quote

-- an `x` in front is there again
x_back : (b : Bool) (quote : Quote) (r : Place) (more : List ℕ) → r.rest ≡ only_if b (codes "x") ++ (mark quote ++ more)
    → (sees 120 r ≡ b) × ((behind_x r).rest ≡ mark quote ++ more)
x_back true quote r more h =
    let s : sees 120 r ≡ true = sees_at 120 r (mark quote ++ more) h in
    (s, rw s (next_rest r 120 (mark quote ++ more) h))
x_back false quote r more h =
    let f : first r ≡ Some (quote_character quote) = ap first_in (h ∙ ap (λ (m : List ℕ). m ++ more) (mark_is quote)) in
    let s : sees 120 r ≡ false = no_x quote r.rest f in
    (s, rw s h)

abbrev letters_of : Bool → Quote → List ℕ → List ℕ
letters_of b quote body = only_if b (codes "x") ++ (mark quote ++ (body ++ mark quote))

only_if_encoded : (b : Bool) → encode_utf8_all (only_if b (codes "x")) ≡ only_if b (codes "x")
only_if_encoded true = encoded_plain (codes "x") refl
only_if_encoded false = refl

string_encoded : (b : Bool) (quote : Quote) (body : List ℕ)
    → only_if b (codes "x") ++ (mark quote ++ (encode_utf8_all body ++ mark quote)) ≡ encode_utf8_all (letters_of b quote body)
string_encoded b quote body = sym
    (encodes-append (only_if b (codes "x")) (mark quote ++ (body ++ mark quote))
    ∙ (ap (λ (t : List ℕ). t ++ encode_utf8_all (mark quote ++ (body ++ mark quote))) (only_if_encoded b)
    ∙ ap (λ (t : List ℕ). only_if b (codes "x") ++ t)
    (encodes-append (mark quote) (body ++ mark quote)
    ∙ (ap (λ (t : List ℕ). t ++ encode_utf8_all (body ++ mark quote)) (mark_encoded quote)
    ∙ ap (λ (t : List ℕ). mark quote ++ t) (encodes-append body (mark quote) ∙ ap (λ (t : List ℕ). encode_utf8_all body ++ t) (mark_encoded quote))))))

-- the first character of a printed string, which is the first of the string that was read
cells : (b : Bool) (quote : Quote) (more : List ℕ) → (head : ℕ) × (tail : List ℕ) × (only_if b (codes "x") ++ (mark quote ++ more) ≡ head ∷ tail) × (is_blank head ≡ false)
    × ((p : Place) → sees 120 p ≡ b → first (behind_x p) ≡ Some (quote_character quote) → first p ≡ Some head)
cells true quote more = (120, mark quote ++ more, refl, refl, λ p s f. sees_first 120 p s)
cells false quote more = (
  quote_character quote,
  behind_first quote ++ more,
  ap (λ (m : List ℕ). m ++ more) (mark_is quote),
  quote_dark quote,
  λ p s f. ap (λ (b : Bool). first (if b then next p else p)) (sym s) ∙ f,
)

regroup : (a m b c rest : List ℕ) → (a ++ (m ++ (b ++ c))) ++ rest ≡ a ++ (m ++ (b ++ (c ++ rest)))
regroup a m b c rest =
    append_assoc a (m ++ (b ++ c)) rest ∙ ap (λ (t : List ℕ). a ++ t) (append_assoc m (b ++ c) rest ∙ ap (λ (t : List ℕ). m ++ t) (append_assoc b c rest))

-- a string is printed and read as it is, whatever follows it that is apart from it
pub record StringStands (p : Place) (x : StringLiteral) : Type 0 where
  pub letters : List ℕ
  pub head : ℕ
  pub tail : List ℕ
  pub encoded : printed_string x ≡ encode_utf8_all letters
  pub begins : letters ≡ head ∷ tail
  pub seen : first p ≡ Some head
  pub dark_head : is_blank head ≡ false
  pub again : (r : Place) (rest : List ℕ) → r.rest ≡ letters ++ rest → IsApart rest
      → (s : Place) × (y : StringLiteral) × IsString r s y × (s.rest ≡ beyond is_blank rest) × (bare_string y ≡ bare_string x)

-- a string is printed and read as it is
pub string_stands : (p q : Place) (x : StringLiteral) → IsString p q x → StringStands p x
string_stands p q x (string m quote raw o (closed k pieces are w v u) e z) =
    let b0 : Place = behind_text (mark quote) (behind_x p) in
    let i : Inside quote b0 k pieces = pieces_back quote b0 k pieces are w in
    let b : Bool = sees 120 p in
    let body : List ℕ = i.body in
    let raw_is : raw ≡ encode_utf8_all body = u ∙ ap encode_utf8_all (between_is b0 k body i.splits) in
    let (head, tail, cell, dark_head, firsts) = cells b quote (body ++ mark quote) in
    record {
      letters = letters_of b quote body;
      head = head;
      tail = tail;
      encoded = ap printed_string z ∙ (ap (λ (t : List ℕ). only_if b (codes "x") ++ (mark quote ++ (t ++ mark quote))) raw_is ∙ string_encoded b quote body);
      begins = cell;
      seen = firsts p refl (quote_first (behind_x p) quote o);
      dark_head = dark_head;
      again = λ r rest h apart.
          let (sees_x, here) = x_back b quote r (body ++ (mark quote ++ rest)) (h ∙ regroup (only_if b (codes "x")) (mark quote) body (mark quote) rest) in
          let same_quote : quote_at (behind_x r) ≡ Some quote = quote_back quote body rest (behind_x r) here i.first_piece apart.1 in
          let c0 : Place = behind_text (mark quote) (behind_x r) in
          let inside : c0.rest ≡ body ++ (mark quote ++ rest) = behind_front (mark quote) (body ++ (mark quote ++ rest)) (behind_x r) here in
          let (s, further, left) = i.again c0 rest inside in
          let text : List ℕ = encode_utf8_all (between c0 s) in
          let is : IsRaw quote c0 (behind_text (mark quote) s) text =
          closed s pieces further (ap (begins_in (mark quote)) left ∙ begins_front (mark quote) rest) refl refl in
          let same_text : text ≡ raw = ap encode_utf8_all (between_is c0 s body (inside ∙ ap (λ (t : List ℕ). body ++ t) (sym left))) ∙ sym raw_is in
          let shape : bare_string (literal_at r quote text) ≡ bare_string x =
          ap (λ (c : Bool). record { expands = c; quote = quote; raw = text; line = 0; column = 0 }) sees_x
          ∙ (ap (λ (t : List ℕ). record { expands = b; quote = quote; raw = t; line = 0; column = 0 }) same_text ∙ sym (ap bare_string z)) in (
            skip (behind_text (mark quote) s),
            literal_at r quote text,
            string (behind_text (mark quote) s) quote text same_quote is refl refl,
            past_rest is_blank (behind_text (mark quote) s) ∙ ap (beyond is_blank) (behind_front (mark quote) rest s left),
            shape,
          );
    }

-- the same as of any value
pub string_back : (p q : Place) (x : StringLiteral) → IsString p q x → Back IsString bare_string p q x (printed_string x)
string_back p q x i =
    let b : StringStands p x = string_stands p q x i in
    record {
      letters = b.letters;
      head = b.head;
      tail = b.tail;
      encoded = b.encoded;
      begins = b.begins;
      seen = b.seen;
      dark_head = b.dark_head;
      again = λ r rest h apart alike. b.again r rest h apart;
    }
