-- What a split at a character or at `:-` leaves, in the words of the pieces.
use Rattle.std.proofs.Common.{◌≡◌, ◌≢◌, ℕ, ◌<◌, ◌++◌, List, [], ◌∷◌, refl, sym, ◌∙◌, ap, subst, inl, inr, length, take, drop, get_or, arith, length-append, append_assoc, Bor, Option, lit<}
use Rattle.std.specs.Option.{MatchOption}
use Rattle.std.specs.Prelude.{Some, None}
use Rattle.std.specs.Str.Pattern.{FindsText, FindsChar}
use Rattle.std.proofs.lemmas.List.{take-append-drop, append-nil}
use Rattle.std.proofs.Math.Seq.{drop-append_seam}
use Rattle.std.proofs.lemmas.Str.Pattern.{IsSplitOnceResult, split_parts, NoCharPasses-char, drop_at_char}
use Rattle.just_expand.specs.Bytes.{dollar_sign, colon, minus_sign}
use Rattle.just_expand.specs.Pieces.{Lacks, LacksMark, EndsOrBegins, BeginsWithout}
use Rattle.just_expand.proofs.Lists.{lacks_from_index}

-- the bytes of `:-`
abbrev pub default_mark : List ℕ
default_mark = 58 ∷ 45 ∷ []

-- where a search finds no `:-`, it doesn't stand there
pub no_mark : (bs : List ℕ) → FindsText default_mark bs None → LacksMark bs
no_mark bs h = λ front rest e.
    let n = ap length e in
    h (length front) (omega (arith, n, length-append front (default_mark ++ rest))) rest (ap (drop (length front)) e ∙ drop-append_seam front (default_mark ++ rest))

-- what was found is parted at `:-`
pub cut_at_mark : (bs x y : List ℕ) (i j : ℕ) → FindsText default_mark bs (Some (i, j)) → x ≡ take i bs → y ≡ drop j bs → bs ≡ x ++ (colon ∷ minus_sign ∷ y)
cut_at_mark bs x y i j h ex ey =
    sym (take-append-drop i bs) ∙ ap (λ t. take i bs ++ t) h.1.split ∙ ap (λ t. t ++ (default_mark ++ drop j bs)) (sym ex) ∙ ap (λ t. x ++ (default_mark ++ t)) (sym ey)

-- and in front of the first one it doesn't stand
pub first_mark : (bs x y : List ℕ) (i j : ℕ) → FindsText default_mark bs (Some (i, j)) → bs ≡ x ++ (colon ∷ minus_sign ∷ y) → length x ≡ i → LacksMark x
first_mark bs x y i j h e n = λ front rest f.
    let whole : bs ≡ front ++ ((default_mark ++ rest) ++ (default_mark ++ y)) = e ∙ ap (λ t. t ++ (default_mark ++ y)) f ∙ append_assoc front (default_mark ++ rest) (default_mark ++ y) in
    let m = ap length f in
    h.0 (length front) (omega (arith, m, n, length-append front (default_mark ++ rest))) (rest ++ (default_mark ++ y))
    (ap (drop (length front)) whole ∙ drop-append_seam front ((default_mark ++ rest) ++ (default_mark ++ y)))

-- what `split_once` at a character says, by the parts
abbrev SplitAt : ℕ → List ℕ → Option (Bor (List ℕ) × Bor (List ℕ)) → Type 0
SplitAt c bs r = MatchOption r ((i : ℕ) → i < length bs → get_or bs i 0 ≢ c) (λ x. (bs ≡ x.0.now ++ (c ∷ x.1.now)) × ((i : ℕ) → i < length x.0.now → get_or x.0.now i 0 ≢ c))

-- the parts of a split at a character: the first lacks it
pub split_some : (c : ℕ) (bs : List ℕ) (r : Option (Bor (List ℕ) × Bor (List ℕ))) (x y : Bor (List ℕ)) → IsSplitOnceResult c bs r → c < 128 → r ≡ Some (x, y) → (bs ≡ x.now ++ (c ∷ y.now)) × Lacks c x.now
split_some c bs r x y h l e =
    let pair : Bor (List ℕ) × Bor (List ℕ) = (x, y) in
    let at : SplitAt c bs (Some pair) = subst (SplitAt c bs) e (split_parts c bs r h l) in
    (at.0, lacks_from_index c x.now at.1)

-- where a search finds no such character, the text lacks it
pub lacks_all : (c : ℕ) (bs : List ℕ) → FindsChar c bs None → c < 128 → Lacks c bs
lacks_all c bs h l = lacks_from_index c bs (λ i k. NoCharPasses-char c bs i h l k)

-- what stands before the first `$` is plain text
pub plain_before : (t x y : List ℕ) (i j : ℕ) → FindsChar dollar_sign t (Some (i, j)) → x ≡ take i t → y ≡ drop i t → BeginsWithout dollar_sign t → (t ≡ x ++ y) × ((x ≢ []) × Lacks dollar_sign x × EndsOrBegins dollar_sign y)
plain_before t x y i j h ex ey without =
    let whole : t ≡ x ++ y = sym (take-append-drop i t) ∙ ap (λ u. u ++ drop i t) (sym ex) ∙ ap (λ u. x ++ u) (sym ey) in
    let begins : y ≡ 36 ∷ drop j t = ey ∙ drop_at_char 36 t i j h.1 (lit< tt) in
    (whole, ((λ e. without (drop j t) (whole ∙ ap (λ u. u ++ y) e ∙ begins)), subst (Lacks dollar_sign) (sym ex) (lacks_all 36 (take i t) h.0 (lit< tt)), inr (drop j t, begins)))

-- where no `$` is found, all is
pub plain_all : (t : List ℕ) → FindsChar dollar_sign t None → t ≢ [] → (t ≡ t ++ []) × ((t ≢ []) × Lacks dollar_sign t × EndsOrBegins dollar_sign [])
plain_all t h n = (sym (append-nil t), (n, lacks_all 36 t h (lit< tt), inl refl))
