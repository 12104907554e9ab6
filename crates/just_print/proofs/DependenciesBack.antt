-- What is printed of dependencies is read again.
use Rattle.std.proofs.Common.{◌≡◌, ℕ, ◌==◌, Bool, true, false, ◌||◌, if◌then◌else◌, List, [], ◌∷◌, ◌++◌, map, Some, codes, encode_utf8_all, refl, sym, ap, ◌∙◌, subst, append_assoc}
use Rattle.just_lang_read.specs.Place.{Place, Rule, AreMany, next, first, first_in, starts, sees, begins, begins_in}
use Rattle.just_lang_read.proofs.Laws.{sees_first, starts_with}
use Rattle.just_lang_syntax.specs.declared.ast.Name.{Name}
use Rattle.just_lang_read.specs.declared.quote.Quote.{Quote}
use Rattle.just_lang_read.specs.declared.quote.Quote.TheVariants.{Single, Double, SingleBlock, DoubleBlock}
use Rattle.just_lang_syntax.specs.declared.ast.StringLiteral.{StringLiteral}
use Rattle.just_lang_syntax.specs.declared.ast.Expr.{Expr}
use Rattle.just_lang_syntax.specs.declared.ast.AstDependency.{AstDependency}
use Rattle.just_lang_read.specs.Characters.{is_blank, begins_name}
use Rattle.just_lang_read.specs.Lines.{IsToken}
use Rattle.just_lang_syntax.specs.Places.{IsPath}
use Rattle.just_lang_read.specs.Quotes.{quote_at, behind_x}
use Rattle.just_lang_syntax.specs.Strings.{IsString}
use Rattle.just_lang_syntax.specs.Strings.IsString.{string}
use Rattle.just_lang_syntax.specs.Exprs.{begins_condition, IsValue, IsLevel, IsInner, IsExpr}
use Rattle.just_lang_syntax.specs.Exprs.IsValue.{literal, group, env, variable}
use Rattle.just_lang_syntax.specs.Exprs.IsLevel.{conditional, root, value, joined, concatenated}
use Rattle.just_lang_syntax.specs.Recipes.{begins_dependency, IsDependencyValue, IsDependency, AreDependencies}
use Rattle.just_lang_syntax.specs.Recipes.IsDependency.{bare, grouped}
use Rattle.just_lang_syntax.specs.Recipes.AreDependencies.{dependencies}
use Rattle.just_print.specs.Printed.{printed_expr, printed_path, printed_values, printed_dependency, printed_dependencies}
use Rattle.just_print.specs.Shapes.{bare_name, bare_expr, bare_dependency}
use Rattle.just_print.proofs.Places.{beyond, beyond_dark, not_that, Alike, widen, one_first, alike_test, IsApart, token_back}
use Rattle.just_print.proofs.NamesBack.{Back}
use Rattle.just_print.proofs.StringsBack.{quote_character, quote_first}
use Rattle.just_print.proofs.WordsBack.{joined_text, plain_text, token_first, other_in, begins_alike}
use Rattle.just_print.proofs.PathsBack.{PathBack, path_back}
use Rattle.just_print.proofs.ValuesBack.{At}
use Rattle.just_print.proofs.CallsBack.{word_first}
use Rattle.just_print.proofs.ExprsBack.{expr_back}

-- ---- no expression begins with a colon

abbrev NoColon : Place → Type 0
NoColon p = (c : ℕ) × (first p ≡ Some c) × ((c == 58) ≡ false)

quote_no_colon : (quote : Quote) → (quote_character quote == 58) ≡ false
quote_no_colon Single = refl
quote_no_colon Double = refl
quote_no_colon SingleBlock = refl
quote_no_colon DoubleBlock = refl

string_colon_by : (b : Bool) (p : Place) (quote : Quote) → sees 120 p ≡ b → quote_at (behind_x p) ≡ Some quote → NoColon p
string_colon_by true p quote h o = (120, sees_first 120 p h, refl)
string_colon_by false p quote h o =
    (quote_character quote, quote_first p quote (ap (λ (b : Bool). quote_at (if b then next p else p)) (sym h) ∙ o), quote_no_colon quote)

string_colon : (p q : Place) (x : StringLiteral) → IsString p q x → NoColon p
string_colon p q x (string m quote raw o r u z) = string_colon_by (sees 120 p) p quote refl o

module _ (Inner : Rule Expr) where
  value_colon : (p q : Place) (x : Expr) → IsValue Inner p q x → NoColon p
  value_colon p q x (literal s i z) = string_colon p q s i
  value_colon p q x (group m n y t i u z) = (40, token_first 40 [] p m t, refl)
  value_colon p q x (env m n o r key d w t i k u z) = (101, word_first 101 (codes "nv") p m w, refl)
  value_colon p q x (variable n s c i z) = let (d, f, t) = starts_with begins_name p i.0 in (d, f, not_that begins_name d 58 t refl)

  level_colon : (p q : Place) (x : Expr) → IsLevel Inner p q x → NoColon p
  level_colon p q x (conditional m n o r s t left right consequent alternative c chained g i a k b d w y z) = (105, token_first 105 (codes "f") p m i, refl)
  level_colon p q x (root m y t i z) = (47, token_first 47 [] p m t, refl)
  level_colon p q x (value g i n k) = value_colon p q x i
  level_colon p q x (joined m n a b g v t i z) = value_colon p m a v
  level_colon p q x (concatenated m n a b g v t i z) = value_colon p m a v

-- ---- what follows a dependency

pub record Follows (more : List ℕ) (q : Place) : Type 0 where
  pub apart : IsApart more
  pub alike : Alike (beyond is_blank more) q.rest
  pub no_path : begins_in (codes "::") (beyond is_blank more) ≡ false

-- ---- the arguments of a dependency, before the parenthesis that closes it

pub record ValuesBack (n : Place) (xs : List Expr) : Type 0 where
  pub letters : List ℕ
  pub encoded : printed_values xs ≡ encode_utf8_all letters
  pub follows : (rest : List ℕ) → Follows (letters ++ (codes ")" ++ rest)) n
  pub again : (s : Place) (rest : List ℕ) → s.rest ≡ beyond is_blank (letters ++ (codes ")" ++ rest))
      → (t : Place) × (ys : List Expr) × AreMany IsDependencyValue s t ys × (t.rest ≡ codes ")" ++ rest) × (map bare_expr ys ≡ map bare_expr xs)

values_back : (n o q : Place) (xs : List Expr) → AreMany IsDependencyValue n o xs → IsToken (codes ")") o q → ValuesBack n xs
values_back n o q [] e u =
    record {
      letters = [];
      encoded = refl;
      follows = λ rest. record { apart = (refl, refl); alike = one_first (sym (ap first (sym e) ∙ token_first 41 [] o q u)); no_path = refl };
      again = λ s rest h. (s, [], refl, h, refl);
    }
values_back n o q (x ∷ xs) (k, (c, i), are) u =
    let O : ValuesBack k xs = values_back k o q xs are u in
    let b : Back (At IsExpr (begins_condition n)) bare_expr n k x (printed_expr x) = expr_back n k x i in
    let starts_so : (rest : List ℕ) → beyond is_blank ((b.letters ++ O.letters) ++ (codes ")" ++ rest)) ≡ b.letters ++ (O.letters ++ (codes ")" ++ rest)) =
    λ rest. ap (beyond is_blank) (append_assoc b.letters O.letters (codes ")" ++ rest))
    ∙ beyond_dark b.letters b.head b.tail (O.letters ++ (codes ")" ++ rest)) b.begins b.dark_head in
    let heads : (rest : List ℕ) → first_in (b.letters ++ (O.letters ++ (codes ")" ++ rest))) ≡ Some b.head =
    λ rest. ap (λ (l : List ℕ). first_in (l ++ (O.letters ++ (codes ")" ++ rest)))) b.begins in
    let (d, f, none_there) = level_colon (IsInner 256) n k x i in
    let is_head : Some d ≡ Some b.head = sym f ∙ b.seen in
    let head : d ≡ b.head = cc (is_head) in
    record {
      letters = codes " " ++ (b.letters ++ O.letters);
      encoded = joined_text (codes " ") (printed_expr x ++ printed_values xs) (codes " ") (b.letters ++ O.letters) (plain_text (codes " ") refl)
          (joined_text (printed_expr x) (printed_values xs) b.letters O.letters b.encoded O.encoded);
      follows = λ rest. record {
        apart = (refl, refl);
        alike = one_first (ap first_in (starts_so rest) ∙ (heads rest ∙ sym b.seen));
        no_path = other_in b.head 58 (58 ∷ []) (beyond is_blank ((b.letters ++ O.letters) ++ (codes ")" ++ rest))) (ap first_in (starts_so rest) ∙ heads rest)
            (ap (λ (e : ℕ). e == 58) (sym head) ∙ none_there);
      };
      again = λ s rest h.
          let start : s.rest ≡ b.letters ++ (O.letters ++ (codes ")" ++ rest)) = h ∙ starts_so rest in
          let F : Follows (O.letters ++ (codes ")" ++ rest)) k = O.follows rest in
          let (v, y, j, l1, shape) = b.again s (O.letters ++ (codes ")" ++ rest)) start F.apart (widen (beyond is_blank (O.letters ++ (codes ")" ++ rest))) k.rest F.alike) in
          let (t, ys, many, l2, shapes) = O.again v rest l1 in
          let closes_not : begins (codes ")") s ≡ false = begins_alike 41 s n refl refl (one_first (ap first_in start ∙ (heads rest ∙ sym b.seen))) ∙ c in
          (t, y ∷ ys, (v, (closes_not, j.1), many), l2, ap (λ (a : Expr). a ∷ map bare_expr ys) shape ∙ ap (λ (l : List Expr). bare_expr x ∷ l) shapes);
    }

-- ---- a dependency

pub record DependencyBack (p q : Place) (x : AstDependency) : Type 0 where
  pub letters : List ℕ
  pub head : ℕ
  pub tail : List ℕ
  pub encoded : printed_dependency x ≡ encode_utf8_all letters
  pub begins : letters ≡ head ∷ tail
  pub seen : first p ≡ Some head
  pub dark_head : is_blank head ≡ false
  pub no_colon : (head == 58) ≡ false
  pub again : (r : Place) (rest : List ℕ) → r.rest ≡ letters ++ rest → Follows rest q
      → (s : Place) × (y : AstDependency) × IsDependency r s y × (s.rest ≡ beyond is_blank rest) × (bare_dependency y ≡ bare_dependency x)

abbrev pub dependency_of : List Name → Bool → List Expr → AstDependency
dependency_of path is_grouped arguments = record { path = path; grouped = is_grouped; arguments = arguments }

bare_back : (p q : Place) (path : List Name) → IsPath p q path → DependencyBack p q (dependency_of path false [])
bare_back p q path i =
    let P : PathBack p path = path_back p q path i in
    record {
      letters = P.letters;
      head = P.head;
      tail = P.tail;
      encoded = P.encoded;
      begins = P.begins;
      seen = P.seen;
      dark_head = P.dark_head;
      no_colon = not_that begins_name P.head 58 P.letter refl;
      again = λ r rest h f.
          let (s, ys, j, left, shapes) = P.again r rest h f.apart f.no_path in
          (s, dependency_of ys false [], bare ys j refl, left, ap (λ (l : List Name). record { path = l; grouped = false; arguments = [] }) shapes);
    }

grouped_back : (p m n o q : Place) (path : List Name) (arguments : List Expr) → IsToken (codes "(") p m → IsPath m n path → AreMany IsDependencyValue n o arguments
    → IsToken (codes ")") o q → DependencyBack p q (dependency_of path true arguments)
grouped_back p m n o q path arguments t i are u =
    let P : PathBack m path = path_back m n path i in
    let V : ValuesBack n arguments = values_back n o q arguments are u in
    record {
      letters = codes "(" ++ (P.letters ++ (V.letters ++ codes ")"));
      head = 40;
      tail = P.letters ++ (V.letters ++ codes ")");
      encoded = joined_text (codes "(") (printed_path path ++ (printed_values arguments ++ codes ")")) (codes "(") (P.letters ++ (V.letters ++ codes ")")) (plain_text (codes "(") refl)
          (joined_text (printed_path path) (printed_values arguments ++ codes ")") P.letters (V.letters ++ codes ")") P.encoded
          (joined_text (printed_values arguments) (codes ")") V.letters (codes ")") V.encoded (plain_text (codes ")") refl)));
      begins = refl;
      seen = token_first 40 [] p m t;
      dark_head = refl;
      no_colon = refl;
      again = λ r rest h f.
          let (m2, t2, l1) = token_back (codes "(") ((P.letters ++ (V.letters ++ codes ")")) ++ rest) r h in
          let start : m2.rest ≡ P.letters ++ (V.letters ++ (codes ")" ++ rest)) =
          l1 ∙ (ap (beyond is_blank) (append_assoc P.letters (V.letters ++ codes ")") rest ∙ ap (λ (l : List ℕ). P.letters ++ l) (append_assoc V.letters (codes ")") rest))
          ∙ beyond_dark P.letters P.head P.tail (V.letters ++ (codes ")" ++ rest)) P.begins P.dark_head) in
          let F : Follows (V.letters ++ (codes ")" ++ rest)) n = V.follows rest in
          let (n2, ys, j, l2, shapes) = P.again m2 (V.letters ++ (codes ")" ++ rest)) start F.apart F.no_path in
          let (o2, zs, many, l3, shapes2) = V.again n2 rest l2 in
          let (q2, u2, l4) = token_back (codes ")") rest o2 l3 in (
            q2,
            dependency_of ys true zs,
            grouped m2 n2 o2 ys zs t2 j many u2 refl,
            l4,
            ap (λ (l : List Name). record { path = l; grouped = true; arguments = map bare_expr zs }) shapes
                ∙ ap (λ (l : List Expr). record { path = map bare_name path; grouped = true; arguments = l }) shapes2,
          );
    }

-- a dependency is printed and read as it is
pub dependency_back : (p q : Place) (x : AstDependency) → IsDependency p q x → DependencyBack p q x
dependency_back p q x (bare path i z) = subst (λ (y : AstDependency). DependencyBack p q y) (sym z) (bare_back p q path i)
dependency_back p q x (grouped m n o path arguments t i are u z) =
    subst (λ (y : AstDependency). DependencyBack p q y) (sym z) (grouped_back p m n o q path arguments t i are u)

-- ---- dependencies, each behind a blank

pub record DependenciesBack (p q : Place) (xs : List AstDependency) : Type 0 where
  pub letters : List ℕ
  pub encoded : printed_dependencies xs ≡ encode_utf8_all letters
  pub follows : (more : List ℕ) → Follows more q → Follows (letters ++ more) p
  pub again : (s : Place) (more : List ℕ) → s.rest ≡ beyond is_blank (letters ++ more) → Follows more q
      → (t : Place) × (ys : List AstDependency) × AreMany IsDependency s t ys × (t.rest ≡ beyond is_blank more) × (map bare_dependency ys ≡ map bare_dependency xs)

many_back : (p q : Place) (xs : List AstDependency) → AreMany IsDependency p q xs → DependenciesBack p q xs
many_back p q [] e =
    record {
      letters = [];
      encoded = refl;
      follows = λ more f. subst (λ (r : Place). Follows more r) e f;
      again = λ s more h f. (s, [], refl, h, refl);
    }
many_back p q (x ∷ xs) (k, i, are) =
    let O : DependenciesBack k q xs = many_back k q xs are in
    let b : DependencyBack p k x = dependency_back p k x i in
    let starts_so : (more : List ℕ) → beyond is_blank ((b.letters ++ O.letters) ++ more) ≡ b.letters ++ (O.letters ++ more) =
    λ more. ap (beyond is_blank) (append_assoc b.letters O.letters more) ∙ beyond_dark b.letters b.head b.tail (O.letters ++ more) b.begins b.dark_head in
    let heads : (more : List ℕ) → first_in (b.letters ++ (O.letters ++ more)) ≡ Some b.head =
    λ more. ap (λ (l : List ℕ). first_in (l ++ (O.letters ++ more))) b.begins in
    record {
      letters = codes " " ++ (b.letters ++ O.letters);
      encoded = joined_text (codes " ") (printed_dependency x ++ printed_dependencies xs) (codes " ") (b.letters ++ O.letters) (plain_text (codes " ") refl)
          (joined_text (printed_dependency x) (printed_dependencies xs) b.letters O.letters b.encoded O.encoded);
      follows = λ more f. record {
        apart = (refl, refl);
        alike = one_first (ap first_in (starts_so more) ∙ (heads more ∙ sym b.seen));
        no_path = other_in b.head 58 (58 ∷ []) (beyond is_blank ((b.letters ++ O.letters) ++ more)) (ap first_in (starts_so more) ∙ heads more) b.no_colon;
      };
      again = λ s more h f.
          let (v, y, j, l1, shape) = b.again s (O.letters ++ more) (h ∙ starts_so more) (O.follows more f) in
          let (t, ys, many, l2, shapes) = O.again v more l1 f in
          (t, y ∷ ys, (v, j, many), l2, ap (λ (a : AstDependency). a ∷ map bare_dependency ys) shape ∙ ap (λ (l : List AstDependency). bare_dependency x ∷ l) shapes);
    }

-- whether a dependency begins is the same of places that begin alike
pub dependency_alike : (s q : Place) → Alike s.rest q.rest → begins_dependency s ≡ begins_dependency q
dependency_alike s q a =
    ap (λ (b : Bool). b || starts begins_name s) (begins_alike 40 s q refl refl a)
    ∙ ap (λ (b : Bool). begins (codes "(") q || b) (alike_test begins_name s.rest q.rest refl refl a)

-- dependencies are printed and read as they are
pub record AllBack (p q : Place) (xs : List AstDependency) : Type 0 where
  pub letters : List ℕ
  pub encoded : printed_dependencies xs ≡ encode_utf8_all letters
  pub follows : (more : List ℕ) → Follows more q → Follows (letters ++ more) p
  pub again : (s : Place) (more : List ℕ) → s.rest ≡ beyond is_blank (letters ++ more) → Follows more q
      → (t : Place) × (ys : List AstDependency) × AreDependencies s t ys × (t.rest ≡ beyond is_blank more) × (map bare_dependency ys ≡ map bare_dependency xs)

-- dependencies, as long as one begins, are printed and read as they are
pub dependencies_back : (p q : Place) (xs : List AstDependency) → AreDependencies p q xs → AllBack p q xs
dependencies_back p q xs (dependencies are n) =
    let O : DependenciesBack p q xs = many_back p q xs are in
    record {
      letters = O.letters;
      encoded = O.encoded;
      follows = O.follows;
      again = λ s more h f.
          let (t, ys, many, left, shapes) = O.again s more h f in
          let stops : begins_dependency t ≡ false = dependency_alike t q (subst (λ (l : List ℕ). Alike l q.rest) (sym left) f.alike) ∙ n in
          (t, ys, dependencies many stops, left, shapes);
    }
