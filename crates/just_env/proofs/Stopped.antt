-- A text that gives no pairs stops on one line.
use Rattle.std.proofs.Common.{◌≡◌, ℕ, List, [], ◌∷◌, Option, sym, ap, ◌∙◌, subst}
use Rattle.just_lang_read.specs.Place.{Place, AreMany}
use Rattle.just_lang_read.proofs.Laws.{one_place}
use Rattle.just_dotenv.specs.Grammar.{Entry, IsLine}
use Rattle.just_dotenv.specs.File.{first_line, Stops}
use Rattle.just_dotenv.specs.Readers as reader
use Rattle.just_dotenv.proofs.LineLaws.{line_again}

-- a line ends at one place
same_end : (p q r : Place) (x y : Option Entry) → IsLine p q x → IsLine p r y → q ≡ r
same_end p q r x y h k = one_place (reader.line p) x y q r (line_again p q x h) (line_again p r y k)

abbrev HasNone : Place → Type 0
HasNone p = (q : Place) (x : Option Entry) → IsLine p q x → ⊥

-- lines behind which no line stands end at one place
same_stop : (p q r : Place) (xs ys : List (Option Entry)) → AreMany IsLine p q xs → AreMany IsLine p r ys → HasNone q → HasNone r → q ≡ r
same_stop p q r [] [] a b none lacks = a ∙ sym b
same_stop p q r [] (y ∷ ys) a (m, i, b) none lacks = absurd (none m y (subst (λ (l : Place). IsLine l m y) (sym a) i))
same_stop p q r (x ∷ xs) [] (m, i, a) b none lacks = absurd (lacks m x (subst (λ (l : Place). IsLine l m x) (sym b) i))
same_stop p q r (x ∷ xs) (y ∷ ys) (m, i, a) (n, j, b) none lacks =
    same_stop m q r xs ys a (subst (λ (l : Place). AreMany IsLine l r ys) (sym (same_end p m n x y i j)) b) none lacks

pub one_stop : (text : List ℕ) (m n : ℕ) → Stops text m → Stops text n → m ≡ n
one_stop text m n s t = s.line ∙ ap (λ p. p.line) (same_stop (first_line text) s.place t.place s.lines t.lines s.are t.are s.no_line t.no_line) ∙ sym t.line
