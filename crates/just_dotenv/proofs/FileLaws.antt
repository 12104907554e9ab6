-- Texts: a text gives one list of pairs at most, and none where its lines stop before its end.
use Rattle.std.proofs.Common.{◌≡◌, ℕ, ◌<◌, true, false, List, [], ◌∷◌, ◌++◌, length, Option, Some, None, Ok, Err, refl, sym, ap, ◌∙◌, subst}
use Rattle.std.proofs.lemmas.Bool.{false≢true}
use Rattle.just_lang_read.specs.Place.{Place, AreMany, is_end}
use Rattle.just_lang_read.proofs.Laws.{one_value, one_place, bind_ok, ok_value, ok_place}
use Rattle.just_lang_read.specs.declared.error.ReadError.{ReadError}
use Rattle.just_dotenv.specs.declared.error.DotenvError.{DotenvError}
use Rattle.just_dotenv.specs.declared.error.DotenvError.TheVariants.{Line, NoMemory}
use Rattle.just_dotenv.specs.Grammar.{Entry, IsLine}
use Rattle.just_dotenv.specs.Meaning.{Pairs, pairs_from, entry_pair}
use Rattle.just_dotenv.specs.File.{first_line, Gives, Stops, IsRefusedFor}
use Rattle.just_dotenv.specs.Readers as reader
use Rattle.just_dotenv.proofs.LineLaws.{line_ok, line_again, line_goes_on, line_shorter}

-- one line stands at a place
same_line : (p q r : Place) (x y : Option Entry) → IsLine p q x → IsLine p r y → x ≡ y
same_line p q r x y h k = one_value (reader.line p) x y q r (line_again p q x h) (line_again p r y k)

-- and ends at one place
same_end : (p q r : Place) (x y : Option Entry) → IsLine p q x → IsLine p r y → q ≡ r
same_end p q r x y h k = one_place (reader.line p) x y q r (line_again p q x h) (line_again p r y k)

-- what ends at a place ends here, if that is here
ends_here : (p q : Place) → q ≡ p → is_end q ≡ true → is_end p ≡ true
ends_here p q e h = ap is_end (sym e) ∙ h

-- the lines of a text to its end are one list
one_list : (p q r : Place) (xs ys : List (Option Entry)) → AreMany IsLine p q xs → AreMany IsLine p r ys → is_end q ≡ true → is_end r ≡ true → xs ≡ ys
one_list p q r [] [] a b e f = refl
one_list p q r [] (y ∷ ys) a (m, i, b) e f = absurd (false≢true (sym (line_goes_on p m y i) ∙ ends_here p q a e))
one_list p q r (x ∷ xs) [] (m, i, a) b e f = absurd (false≢true (sym (line_goes_on p m x i) ∙ ends_here p r b f))
one_list p q r (x ∷ xs) (y ∷ ys) (m, i, a) (n, j, b) e f =
    let at : m ≡ n = same_end p m n x y i j in
    let rest : xs ≡ ys = one_list m q r xs ys a (subst (λ (l : Place). AreMany IsLine l r ys) (sym at) b) e f in
    ap (λ (l : Option Entry). l ∷ xs) (same_line p m n x y i j) ∙ ap (λ (l : List (Option Entry)). y ∷ l) rest

-- lines that stop before the end are not the front of lines to the end
no_list : (p q r : Place) (xs ys : List (Option Entry)) → AreMany IsLine p q xs → AreMany IsLine p r ys → is_end r ≡ true
    → is_end q ≡ false → ((s : Place) (x : Option Entry) → IsLine q s x → ⊥) → ⊥
no_list p q r [] [] a b f g none = false≢true (sym g ∙ ap is_end a ∙ ends_here p r b f)
no_list p q r [] (y ∷ ys) a (m, i, b) f g none = none m y (subst (λ (l : Place). IsLine l m y) (sym a) i)
no_list p q r (x ∷ xs) [] (m, i, a) b f g none = false≢true (sym (line_goes_on p m x i) ∙ ends_here p r b f)
no_list p q r (x ∷ xs) (y ∷ ys) (m, i, a) (n, j, b) f g none =
    no_list m q r xs ys a (subst (λ (l : Place). AreMany IsLine l r ys) (sym (same_end p m n x y i j)) b) f g none

-- a text gives one list of pairs
pub one_gift : (text : List ℕ) (environ pairs others : Pairs) → Gives text environ pairs → Gives text environ others → pairs ≡ others
one_gift text environ pairs others a b =
    a.means ∙ ap (pairs_from environ []) (one_list (first_line text) a.end b.end a.lines b.lines a.are b.are a.whole b.whole) ∙ sym b.means

-- a text that stops gives none
pub no_gift : (text : List ℕ) (n : ℕ) (environ pairs : Pairs) → Stops text n → Gives text environ pairs → ⊥
no_gift text n environ pairs s g = no_list (first_line text) s.place g.end s.lines g.lines s.are g.are g.whole s.goes_on s.no_line

-- ---- the loop over lines

-- lines and one more behind them are lines
are_more : (p q r : Place) (xs : List (Option Entry)) (x : Option Entry) → AreMany IsLine p q xs → IsLine q r x → AreMany IsLine p r (xs ++ x ∷ [])
are_more p q r [] x e i = (r, subst (λ (l : Place). IsLine l r x) e i, refl)
are_more p q r (y ∷ ys) x (m, j, are) i = (m, j, are_more m q r ys x are i)

-- their pairs are those of the lines and then that of the one
from_more : (environ before : Pairs) (xs : List (Option Entry)) (x : Option Entry) → pairs_from environ before (xs ++ x ∷ []) ≡ pairs_from environ (pairs_from environ before xs) (x ∷ [])
from_more environ before [] x = refl
from_more environ before (None ∷ xs) x = from_more environ before xs x
from_more environ before (Some e ∷ xs) x = from_more environ (before ++ entry_pair environ before e ∷ []) xs x

-- the lines up to a place, and their pairs
pub record UpTo (text : List ℕ) (environ pairs : Pairs) (place : Place) : Type 0 where
  pub lines : List (Option Entry)
  pub are : AreMany IsLine (first_line text) place lines
  pub means : pairs ≡ pairs_from environ [] lines

-- at the first line there are none
pub up_to_none : (text : List ℕ) (environ : Pairs) → UpTo text environ [] (first_line text)
up_to_none text environ = record { lines = []; are = refl; means = refl }

-- behind one more line there is one more
up_to_next : (text : List ℕ) (environ pairs : Pairs) (p q : Place) (x : Option Entry) → UpTo text environ pairs p → IsLine p q x
    → UpTo text environ (pairs_from environ pairs (x ∷ [])) q
up_to_next text environ pairs p q x u i =
    record {
      lines = u.lines ++ x ∷ [];
      are = are_more (first_line text) p q u.lines x u.are i;
      means = ap (λ (l : Pairs). pairs_from environ l (x ∷ [])) u.means ∙ sym (from_more environ [] u.lines x);
    }

-- pairs, and behind them that of a line, if it has one
abbrev pub with_line : Pairs → Option (List ℕ × List ℕ) → Pairs
with_line pairs None = pairs
with_line pairs (Some pair) = pairs ++ pair ∷ []

-- the pairs with one more line are these
line_added : (environ pairs : Pairs) (x : Option Entry) → pairs_from environ pairs (x ∷ []) ≡ with_line pairs (reader.line_pair environ pairs x)
line_added environ pairs None = refl
line_added environ pairs (Some e) = refl

-- what the code reads is a line, and this its pair
line_read : (environ pairs : Pairs) (p q : Place) (o : Option (List ℕ × List ℕ)) → is_end p ≡ false → reader.as_line environ pairs reader.line p ≡ Ok (o, q)
    → (x : Option Entry) × IsLine p q x × (reader.line_pair environ pairs x ≡ o)
line_read environ pairs p q o g h =
    let (x, m, r, k) = bind_ok (reader.line p) _ o q h in
    (x, subst (λ (l : Place). IsLine p l x) (ok_place (reader.line_pair environ pairs x) o m q k) (line_ok p m x g r), ok_value (reader.line_pair environ pairs x) o m q k)

-- behind a line that is read stand its pair and those before it
pub up_to_more : (text : List ℕ) (environ pairs : Pairs) (p q : Place) (o : Option (List ℕ × List ℕ)) → UpTo text environ pairs p → is_end p ≡ false
    → reader.as_line environ pairs reader.line p ≡ Ok (o, q) → UpTo text environ (with_line pairs o) q
up_to_more text environ pairs p q o u g h =
    let (x, i, e) = line_read environ pairs p q o g h in
    subst (λ (l : Pairs). UpTo text environ l q) (line_added environ pairs x ∙ ap (with_line pairs) e) (up_to_next text environ pairs p q x u i)

-- a line that is read takes a character
pub turn_shorter : (environ pairs : Pairs) (p q : Place) (o : Option (List ℕ × List ℕ)) → is_end p ≡ false
    → reader.as_line environ pairs reader.line p ≡ Ok (o, q) → length q.rest < length p.rest
turn_shorter environ pairs p q o g h = let (x, i, e) = line_read environ pairs p q o g h in line_shorter p q x i

-- where no line is read, the text stops
pub up_to_stop : (text : List ℕ) (environ pairs : Pairs) (p : Place) (e : ReadError) → UpTo text environ pairs p → is_end p ≡ false
    → reader.as_line environ pairs reader.line p ≡ Err e → Stops text p.line
up_to_stop text environ pairs p e u g h =
    record {
      lines = u.lines;
      place = p;
      are = u.are;
      goes_on = g;
      no_line = λ q x i.
          let read : reader.as_line environ pairs reader.line p ≡ Ok (reader.line_pair environ pairs x, q) = rw (line_again p q x i) refl in
          let no : ⊥ = cc in no;
      line = refl;
    }

-- and gives no pairs, unless memory was wanting
pub none_given : (text : List ℕ) (environ pairs others : Pairs) (p q : Place) (e : DotenvError) → UpTo text environ pairs p → is_end p ≡ false
    → reader.ReadsLine (reader.as_line environ pairs reader.line p) p.line (Err e) q → Gives text environ others → e ≡ NoMemory
none_given text environ pairs others p q (Line n) u g t gift = absurd (no_gift text p.line environ others (up_to_stop text environ pairs p t.1.0 u g t.1.1) gift)
none_given text environ pairs others p q NoMemory u g t gift = refl

-- and is refused for that line
pub refused_for : (text : List ℕ) (environ pairs : Pairs) (p q : Place) (e : DotenvError) → UpTo text environ pairs p → is_end p ≡ false
    → reader.ReadsLine (reader.as_line environ pairs reader.line p) p.line (Err e) q → IsRefusedFor text e
refused_for text environ pairs p q (Line n) u g t = subst (λ (m : ℕ). Stops text m) (sym t.0) (up_to_stop text environ pairs p t.1.0 u g t.1.1)
refused_for text environ pairs p q NoMemory u g t = tt

-- at the end of the text, what was read is what it gives
pub up_to_end : (text : List ℕ) (environ pairs : Pairs) (p : Place) → UpTo text environ pairs p → is_end p ≡ true → Gives text environ pairs
up_to_end text environ pairs p u e = record { lines = u.lines; end = p; are = u.are; whole = e; means = u.means }
