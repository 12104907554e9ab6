-- What is printed of parameters is read again.
use Rattle.std.specs.Option.{option_map}
use Rattle.std.proofs.Common.{◌≡◌, ℕ, ◌==◌, Bool, true, false, ◌||◌, List, [], ◌∷◌, ◌++◌, map, Option, Some, None, codes, encode_utf8_all, refl, sym, ap, ◌∙◌, subst, append_assoc}
use Rattle.std.proofs.lemmas.List.{map-append}
use Rattle.just_lang_read.specs.Place.{Place, AreMany, next, run, first, first_in, starts, begins}
use Rattle.just_lang_read.proofs.Laws.{starts_at}
use Rattle.just_lang_syntax.specs.declared.ast.Name.{Name}
use Rattle.just_lang_syntax.specs.declared.ast.Expr.{Expr}
use Rattle.just_lang_syntax.specs.declared.ast.ParameterKind.{ParameterKind}
use Rattle.just_lang_syntax.specs.declared.ast.ParameterKind.TheVariants.{Singular, Plus, Star}
use Rattle.just_lang_syntax.specs.declared.ast.AstParameter.{AstParameter}
use Rattle.just_lang_read.specs.Characters.{is_blank, begins_name, in_name}
use Rattle.just_lang_read.specs.Lines.{behind_word, IsToken}
use Rattle.just_lang_syntax.specs.Places.{name_at}
use Rattle.just_lang_syntax.specs.Exprs.{IsInner, IsValue}
use Rattle.just_lang_syntax.specs.Recipes.{begins_parameter, listed, IsMaybe, IsDefault, IsParameter, IsVariadic, IsSingular, AreParameters}
use Rattle.just_lang_syntax.specs.Recipes.IsMaybe.{here, not_here}
use Rattle.just_lang_syntax.specs.Recipes.IsDefault.{default, without}
use Rattle.just_lang_syntax.specs.Recipes.IsParameter.{parameter}
use Rattle.just_lang_syntax.specs.Recipes.IsVariadic.{star, plus, none}
use Rattle.just_lang_syntax.specs.Recipes.AreParameters.{parameters}
use Rattle.just_print.specs.Printed.{only_if, kind_sign, printed_expr, printed_default, printed_parameter, printed_parameters}
use Rattle.just_print.specs.Shapes.{bare_name, bare_expr, bare_parameter}
use Rattle.just_print.proofs.Places.{beyond, beyond_dark, not_that, Alike, Near, widen, one_first, alike_test, IsApart, token_back}
use Rattle.just_print.proofs.NamesBack.{Back, name_stands}
use Rattle.just_print.proofs.PathsBack.{name_cell}
use Rattle.just_print.proofs.WordsBack.{joined_text, plain_text, token_first, begins_other, begins_alike, begins_near}
use Rattle.just_print.proofs.CallsBack.{any_value_back}
use Rattle.just_print.proofs.ExprsBack.{alike_front, inner_back}

-- ---- a mark that stands, or doesn't

-- no blanks are dropped before a first character that is none
pub dark_first : (list : List ℕ) (c : ℕ) → first_in list ≡ Some c → is_blank c ≡ false → beyond is_blank list ≡ list
dark_first [] c h k = refl
dark_first (d ∷ list) c h k = let e : d ≡ c = cc (h) in rw (e, k) refl

-- a mark is printed and read as it stands, or not
pub maybe_here : (b : Bool) (c d : ℕ) (r : Place) (more : List ℕ) → r.rest ≡ only_if b (c ∷ []) ++ more → first_in more ≡ Some d → (d == c) ≡ false → is_blank d ≡ false
    → (s : Place) × IsMaybe (c ∷ []) r s b × (s.rest ≡ more)
maybe_here true c d r more h f n k =
    let (s, t, left) = token_back (c ∷ []) more r h in (s, here t refl, left ∙ dark_first more d f k)
maybe_here false c d r more h f n k = (r, not_here (begins_other d c [] r (ap first_in h ∙ f) n) refl refl, h)

-- the first character of what stands behind a mark or without it
pub maybe_first : (c d : ℕ) (p q : Place) (b : Bool) → IsMaybe (c ∷ []) p q b → first q ≡ Some d → is_blank c ≡ false → is_blank d ≡ false
    → (head : ℕ) × ((more : List ℕ) → (tail : List ℕ) × (only_if b (c ∷ []) ++ (d ∷ more) ≡ head ∷ tail)) × (first p ≡ Some head) × (is_blank head ≡ false)
maybe_first c d p q b (here t z) f k l =
    (c, λ more. (d ∷ more, ap (λ (a : Bool). only_if a (c ∷ []) ++ (d ∷ more)) z), token_first c [] p q t, k)
maybe_first c d p q b (not_here n e z) f k l =
    (d, λ more. (more, ap (λ (a : Bool). only_if a (c ∷ []) ++ (d ∷ more)) z), ap first (sym e) ∙ f, l)

-- a mark that is wanted is encoded as it stands
only_if_plain : (b : Bool) → only_if b (codes "$") ≡ encode_utf8_all (only_if b (codes "$"))
only_if_plain true = plain_text (codes "$") refl
only_if_plain false = refl

-- ---- defaults

pub record DefaultBack (q : Place) (d : Option Expr) : Type 0 where
  pub letters : List ℕ
  pub encoded : printed_default d ≡ encode_utf8_all letters
  pub apart : (rest : List ℕ) → IsApart rest → IsApart (letters ++ rest)
  pub again : (s : Place) (rest : List ℕ) → s.rest ≡ beyond is_blank (letters ++ rest) → IsApart rest → Near (beyond is_blank rest) q.rest
      → (t : Place) × (y : Option Expr) × IsDefault s t y × (t.rest ≡ beyond is_blank rest) × (option_map bare_expr y ≡ option_map bare_expr d)

given_back : (p m q : Place) (y : Expr) → IsToken (codes "=") p m → IsValue (IsInner 256) m q y → DefaultBack q (Some y)
given_back p m q y t i =
    let b : Back (IsValue (IsInner 256)) bare_expr m q y (printed_expr y) = any_value_back (IsInner 256) (inner_back 256) m q y i in
    record {
      letters = codes "=" ++ b.letters;
      encoded = joined_text (codes "=") (printed_expr y) (codes "=") b.letters (plain_text (codes "=") refl) b.encoded;
      apart = λ rest a. (refl, refl);
      again = λ s rest h apart alike.
          let (o, t1, l1) = token_back (codes "=") (b.letters ++ rest) s h in
          let (v, w, j, l2, shape) = b.again o rest (l1 ∙ beyond_dark b.letters b.head b.tail rest b.begins b.dark_head) apart alike in
          (v, Some w, default o w t1 j refl, l2, ap (λ (c : Expr). Some c) shape);
    }

not_given_back : (p q : Place) → begins (codes "=") p ≡ false → q ≡ p → DefaultBack q None
not_given_back p q n e =
    record {
      letters = [];
      encoded = refl;
      apart = λ rest a. a;
      again = λ s rest h apart alike.
          (s, None, without (begins_near 61 s q refl refl refl refl (subst (λ (l : List ℕ). Near l q.rest) (sym h) alike) ∙ (ap (begins (codes "=")) e ∙ n)) refl refl, h, refl);
    }

default_back : (p q : Place) (d : Option Expr) → IsDefault p q d → DefaultBack q d
default_back p q d (default m y t i z) = subst (λ (c : Option Expr). DefaultBack q c) (sym z) (given_back p m q y t i)
default_back p q d (without n e z) = subst (λ (c : Option Expr). DefaultBack q c) (sym z) (not_given_back p q n e)

-- ---- a parameter behind the sign of its kind

abbrev pub unsigned : AstParameter → List ℕ
unsigned x = only_if x.export (codes "$") ++ (x.name.text ++ printed_default x.default)

abbrev pub parameter_of : ParameterKind → Bool → Name → Option Expr → AstParameter
parameter_of kind export name d = record { kind = kind; export = export; name = name; default = d }

-- a parameter behind the sign of its kind is printed and read as it is
pub parameter_back : (kind : ParameterKind) (p q : Place) (x : AstParameter) → IsParameter kind p q x → Back (IsParameter kind) bare_parameter p q x (unsigned x)
parameter_back kind p q x (parameter m n export name d i k g z) =
    let D : DefaultBack q d = default_back n q d g in
    let word : List ℕ = run in_name m.rest in
    let (c, f, cell, is_dark, is_letter) = name_cell m n name k in
    let (head, tails, firsts, dark_one) = maybe_first 36 c p m export i f refl is_dark in
    let behind : List ℕ = run in_name (next m).rest ++ D.letters in
    let (tail, begins_so) = tails behind in
    record {
      letters = only_if export (codes "$") ++ (word ++ D.letters);
      head = head;
      tail = tail;
      encoded = ap unsigned z ∙ joined_text (only_if export (codes "$")) (name.text ++ printed_default d) (only_if export (codes "$")) (word ++ D.letters) (only_if_plain export)
          (joined_text name.text (printed_default d) word D.letters (ap (λ (a : Name). a.text) k.2) D.encoded);
      begins = ap (λ (l : List ℕ). only_if export (codes "$") ++ (l ++ D.letters)) cell ∙ begins_so;
      seen = firsts;
      dark_head = dark_one;
      again = λ r rest h apart alike.
          let spread : r.rest ≡ only_if export (codes "$") ++ (word ++ (D.letters ++ rest)) =
          h ∙ (append_assoc (only_if export (codes "$")) (word ++ D.letters) rest ∙ ap (λ (l : List ℕ). only_if export (codes "$") ++ l) (append_assoc word D.letters rest)) in
          let (m2, i2, l1) = maybe_here export 36 c r (word ++ (D.letters ++ rest)) spread (ap (λ (l : List ℕ). first_in (l ++ (D.letters ++ rest))) cell)
          (not_that begins_name c 36 is_letter refl) is_dark in
          let (is, l2, shape) = name_stands m n name k m2 (D.letters ++ rest) l1 (D.apart rest apart).0 in
          let (q2, d2, g2, l3, shape2) = D.again (behind_word m2) rest l2 apart alike in (
            q2,
            parameter_of kind export (name_at m2) d2,
            parameter m2 (behind_word m2) export (name_at m2) d2 i2 is g2 refl,
            l3,
            ap (λ (a : Name). record { kind = kind; export = export; name = a; default = option_map bare_expr d2 }) shape
                ∙ (ap (λ (a : Option Expr). record { kind = kind; export = export; name = bare_name name; default = a }) shape2 ∙ sym (ap bare_parameter z)),
          );
    }

-- the sign of a parameter is that of its kind
kind_of : (kind : ParameterKind) (p q : Place) (x : AstParameter) → IsParameter kind p q x → printed_parameter x ≡ kind_sign kind ++ unsigned x
kind_of kind p q x (parameter m n export name d i k g z) = ap (λ (y : AstParameter). kind_sign y.kind ++ unsigned x) z

-- ---- the last parameter, before the colon

pub record LastBack (p : Place) (x : Option AstParameter) : Type 0 where
  pub letters : List ℕ
  pub encoded : printed_parameters (listed x) ≡ encode_utf8_all letters
  pub apart : (rest : List ℕ) → IsApart (letters ++ (codes ":" ++ rest))
  pub alike : (rest : List ℕ) → Alike (beyond is_blank (letters ++ (codes ":" ++ rest))) p.rest
  pub again : (s : Place) (rest : List ℕ) → s.rest ≡ beyond is_blank (letters ++ (codes ":" ++ rest))
      → (t : Place) × (y : Option AstParameter) × (begins_parameter s ≡ false) × IsVariadic s t y × (t.rest ≡ codes ":" ++ rest)
      × (option_map bare_parameter y ≡ option_map bare_parameter x)

no_parameter : (c : ℕ) (p : Place) → first p ≡ Some c → (c == 36) ≡ false → begins_name c ≡ false → begins_parameter p ≡ false
no_parameter c p h n k = rw (begins_other c 36 [] p h n, starts_at begins_name p c h, k) refl

none_back : (p q : Place) (x : Option AstParameter) → q ≡ p → first q ≡ Some 58 → x ≡ None → LastBack p x
none_back p q x e f z =
    subst (λ (y : Option AstParameter). LastBack p y) (sym z) record {
      letters = [];
      encoded = refl;
      apart = λ rest. (refl, refl);
      alike = λ rest. one_first (sym (ap first (sym e) ∙ f));
      again = λ s rest h.
          (s, None, no_parameter 58 s (ap first_in h) refl refl, none (begins_other 58 42 [] s (ap first_in h) refl) (begins_other 58 43 [] s (ap first_in h) refl) refl refl, h, refl);
    }

star_back : (p m q : Place) (x : AstParameter) → IsToken (codes "*") p m → IsParameter Star m q x → first q ≡ Some 58 → LastBack p (Some x)
star_back p m q x t i f =
    let b : Back (IsParameter Star) bare_parameter m q x (unsigned x) = parameter_back Star m q x i in
    record {
      letters = codes " *" ++ (b.letters ++ []);
      encoded = ap (λ (l : List ℕ). codes " " ++ (l ++ [])) (kind_of Star m q x i)
          ∙ joined_text (codes " *") (unsigned x ++ []) (codes " *") (b.letters ++ []) (plain_text (codes " *") refl) (joined_text (unsigned x) [] b.letters [] b.encoded refl);
      apart = λ rest. (refl, refl);
      alike = λ rest. one_first (sym (token_first 42 [] p m t));
      again = λ s rest h.
          let (o, t1, l1) = token_back (codes "*") ((b.letters ++ []) ++ (codes ":" ++ rest)) s h in
          let start : o.rest ≡ b.letters ++ (codes ":" ++ rest) =
          l1 ∙ (ap (beyond is_blank) (append_assoc b.letters [] (codes ":" ++ rest)) ∙ beyond_dark b.letters b.head b.tail (codes ":" ++ rest) b.begins b.dark_head) in
          let (v, y, j, l2, shape) = b.again o (codes ":" ++ rest) start (refl, refl) (one_first (sym f)) in
          (v, Some y, no_parameter 42 s (ap first_in h) refl refl, star o y t1 j refl, l2, ap (λ (a : AstParameter). Some a) shape);
    }

plus_back : (p m q : Place) (x : AstParameter) → IsToken (codes "+") p m → IsParameter Plus m q x → first q ≡ Some 58 → LastBack p (Some x)
plus_back p m q x t i f =
    let b : Back (IsParameter Plus) bare_parameter m q x (unsigned x) = parameter_back Plus m q x i in
    record {
      letters = codes " +" ++ (b.letters ++ []);
      encoded = ap (λ (l : List ℕ). codes " " ++ (l ++ [])) (kind_of Plus m q x i)
          ∙ joined_text (codes " +") (unsigned x ++ []) (codes " +") (b.letters ++ []) (plain_text (codes " +") refl) (joined_text (unsigned x) [] b.letters [] b.encoded refl);
      apart = λ rest. (refl, refl);
      alike = λ rest. one_first (sym (token_first 43 [] p m t));
      again = λ s rest h.
          let (o, t1, l1) = token_back (codes "+") ((b.letters ++ []) ++ (codes ":" ++ rest)) s h in
          let start : o.rest ≡ b.letters ++ (codes ":" ++ rest) =
          l1 ∙ (ap (beyond is_blank) (append_assoc b.letters [] (codes ":" ++ rest)) ∙ beyond_dark b.letters b.head b.tail (codes ":" ++ rest) b.begins b.dark_head) in
          let (v, y, j, l2, shape) = b.again o (codes ":" ++ rest) start (refl, refl) (one_first (sym f)) in
          (v, Some y, no_parameter 43 s (ap first_in h) refl refl, plus o y t1 j refl, l2, ap (λ (a : AstParameter). Some a) shape);
    }

last_back : (p q : Place) (x : Option AstParameter) → IsVariadic p q x → first q ≡ Some 58 → LastBack p x
last_back p q x (star m y t i z) f = subst (λ (w : Option AstParameter). LastBack p w) (sym z) (star_back p m q y t i f)
last_back p q x (plus m y t i z) f = subst (λ (w : Option AstParameter). LastBack p w) (sym z) (plus_back p m q y t i f)
last_back p q x (none n k e z) f = none_back p q x e f z

-- ---- all parameters, before the colon

pub record SingularsBack (p : Place) (xs : List AstParameter) (last : Option AstParameter) : Type 0 where
  pub letters : List ℕ
  pub encoded : printed_parameters (xs ++ listed last) ≡ encode_utf8_all letters
  pub apart : (rest : List ℕ) → IsApart (letters ++ (codes ":" ++ rest))
  pub alike : (rest : List ℕ) → Alike (beyond is_blank (letters ++ (codes ":" ++ rest))) p.rest
  pub again : (s : Place) (rest : List ℕ) → s.rest ≡ beyond is_blank (letters ++ (codes ":" ++ rest))
      → (k : Place) × (t : Place) × (ys : List AstParameter) × (y : Option AstParameter) × AreMany IsSingular s k ys × (begins_parameter k ≡ false) × IsVariadic k t y
      × (t.rest ≡ codes ":" ++ rest) × (map bare_parameter ys ≡ map bare_parameter xs) × (option_map bare_parameter y ≡ option_map bare_parameter last)

-- whether a parameter begins is the same where the first characters are
begins_same : (s p : Place) (c : ℕ) → first s ≡ Some c → first p ≡ Some c → begins_parameter s ≡ begins_parameter p
begins_same s p c h k =
    let a : Alike s.rest p.rest = one_first (h ∙ sym k) in
    ap (λ (b : Bool). b || starts begins_name s) (begins_alike 36 s p refl refl a)
    ∙ ap (λ (b : Bool). begins (codes "$") p || b) (alike_test begins_name s.rest p.rest refl refl a)

singulars_back : (p m : Place) (xs : List AstParameter) (last : Option AstParameter) → AreMany IsSingular p m xs → LastBack m last → SingularsBack p xs last
singulars_back p m [] last e L =
    record {
      letters = L.letters;
      encoded = L.encoded;
      apart = L.apart;
      alike = λ rest. subst (λ (q : Place). Alike (beyond is_blank (L.letters ++ (codes ":" ++ rest))) q.rest) e (L.alike rest);
      again = λ s rest h. let (t, y, n, v, left, shape) = L.again s rest h in (s, t, [], y, refl, n, v, left, refl, shape);
    }
singulars_back p m (x ∷ xs) last (o, (g, i), are) L =
    let O : SingularsBack o xs last = singulars_back o m xs last are L in
    let b : Back (IsParameter Singular) bare_parameter p o x (unsigned x) = parameter_back Singular p o x i in
    record {
      letters = codes " " ++ (b.letters ++ O.letters);
      encoded = ap (λ (l : List ℕ). codes " " ++ (l ++ printed_parameters (xs ++ listed last))) (kind_of Singular p o x i)
          ∙ joined_text (codes " ") (unsigned x ++ printed_parameters (xs ++ listed last)) (codes " ") (b.letters ++ O.letters) (plain_text (codes " ") refl)
          (joined_text (unsigned x) (printed_parameters (xs ++ listed last)) b.letters O.letters b.encoded O.encoded);
      apart = λ rest. (refl, refl);
      alike = λ rest. subst (λ (l : List ℕ). Alike (beyond is_blank l) p.rest) (sym (append_assoc b.letters O.letters (codes ":" ++ rest)))
          (alike_front (IsParameter Singular) bare_parameter p o x (unsigned x) b (O.letters ++ (codes ":" ++ rest)));
      again = λ s rest h.
          let start : s.rest ≡ b.letters ++ (O.letters ++ (codes ":" ++ rest)) =
          h ∙ (ap (beyond is_blank) (append_assoc b.letters O.letters (codes ":" ++ rest))
          ∙ beyond_dark b.letters b.head b.tail (O.letters ++ (codes ":" ++ rest)) b.begins b.dark_head) in
          let (v, y, j, l1, shape) = b.again s (O.letters ++ (codes ":" ++ rest)) start (O.apart rest) (widen (beyond is_blank (O.letters ++ (codes ":" ++ rest))) o.rest (O.alike rest)) in
          let (k, t, ys, w, many, n, variadic, l2, shapes, shape2) = O.again v rest l1 in
          let opens : begins_parameter s ≡ true = begins_same s p b.head (ap first_in (start ∙ ap (λ (l : List ℕ). l ++ (O.letters ++ (codes ":" ++ rest))) b.begins)) b.seen ∙ g in (
            k,
            t,
            y ∷ ys,
            w,
            (v, (opens, j), many),
            n,
            variadic,
            l2,
            ap (λ (a : AstParameter). a ∷ map bare_parameter ys) shape
                ∙ ap (λ (l : List AstParameter). bare_parameter x ∷ l) shapes,
            shape2,
          );
    }

mapped : (x : Option AstParameter) → map bare_parameter (listed x) ≡ listed (option_map bare_parameter x)
mapped None = refl
mapped (Some x) = refl

listed_same : (x y : Option AstParameter) → option_map bare_parameter x ≡ option_map bare_parameter y → map bare_parameter (listed x) ≡ map bare_parameter (listed y)
listed_same x y h = mapped x ∙ (ap listed h ∙ sym (mapped y))

-- what is printed of parameters before a colon is read again
pub record ParametersBack (p : Place) (xs : List AstParameter) : Type 0 where
  pub letters : List ℕ
  pub encoded : printed_parameters xs ≡ encode_utf8_all letters
  pub apart : (rest : List ℕ) → IsApart (letters ++ (codes ":" ++ rest))
  pub again : (s : Place) (rest : List ℕ) → s.rest ≡ beyond is_blank (letters ++ (codes ":" ++ rest))
      → (t : Place) × (ys : List AstParameter) × AreParameters s t ys × (t.rest ≡ codes ":" ++ rest) × (map bare_parameter ys ≡ map bare_parameter xs)

-- parameters before a colon are printed and read as they are
pub parameters_back : (p q : Place) (xs : List AstParameter) → AreParameters p q xs → first q ≡ Some 58 → ParametersBack p xs
parameters_back p q xs (parameters m singular last are n v z) f =
    let S : SingularsBack p singular last = singulars_back p m singular last are (last_back m q last v f) in
    record {
      letters = S.letters;
      encoded = ap printed_parameters z ∙ S.encoded;
      apart = S.apart;
      again = λ s rest h.
          let (k, t, ys, w, many, stops, variadic, left, shapes, shape) = S.again s rest h in (
            t,
            ys ++ listed w,
            parameters k ys w many stops variadic refl,
            left,
            map-append bare_parameter ys (listed w) ∙ (ap (λ (l : List AstParameter). l ++ map bare_parameter (listed w)) shapes
                ∙ (ap (λ (l : List AstParameter). map bare_parameter singular ++ l) (listed_same w last shape) ∙ (sym (map-append bare_parameter singular (listed last))
                ∙ sym (ap (map bare_parameter) z)))),
          );
    }
