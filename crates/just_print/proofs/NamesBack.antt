-- What is printed of a name is read again as that name.
use Rattle.std.proofs.Common.{◌≡◌, ℕ, true, false, List, ◌∷◌, ◌++◌, Some, encode_utf8_all, refl, sym, ap, ◌∙◌}
use Rattle.just_lang_read.specs.Place.{Place, Rule, past, run, first, first_in, passes, next}
use Rattle.just_lang_read.proofs.Laws.{starts_at, starts_with, run_next}
use Rattle.just_lang_syntax.specs.declared.ast.Name.{Name}
use Rattle.just_lang_read.specs.Characters.{is_blank, begins_name, in_name}
use Rattle.just_lang_read.specs.Lines.{behind_word}
use Rattle.just_lang_syntax.specs.Places.{name_at, IsName}
use Rattle.just_print.specs.Shapes.{bare_name}
use Rattle.just_print.proofs.Places.{beyond, past_rest, run_run, beyond_run, dark, Near, IsApart}

-- the text that x, which stands from p to q, is printed as begins with the character at p, and wherever that text stands,
-- what follows it is apart from it and begins as what follows x does or ends an argument as that does, a value of the shape of x is read, and the blanks behind it
pub record Back {A : Type 0} (Is : Rule A) (bare : A → A) (p q : Place) (x : A) (text : List ℕ) : Type 0 where
  pub letters : List ℕ
  pub head : ℕ
  pub tail : List ℕ
  pub encoded : text ≡ encode_utf8_all letters
  pub begins : letters ≡ head ∷ tail
  pub seen : first p ≡ Some head
  pub dark_head : is_blank head ≡ false
  pub again : (r : Place) (rest : List ℕ) → r.rest ≡ letters ++ rest → IsApart rest → Near (beyond is_blank rest) q.rest
      → (s : Place) × (y : A) × Is r s y × (s.rest ≡ beyond is_blank rest) × (bare y ≡ bare x)

-- what begins a name is of it
pub in_name_first : (c : ℕ) → begins_name c ≡ true → in_name c ≡ true
in_name_first c h = rw h refl

-- what was printed of a name is the name that stands there
pub name_stands : (p q : Place) (x : Name) → IsName p q x → (r : Place) (rest : List ℕ) → r.rest ≡ run in_name p.rest ++ rest → passes in_name (first_in rest) ≡ false
    → IsName r (behind_word r) (name_at r) × ((behind_word r).rest ≡ beyond is_blank rest) × (bare_name (name_at r) ≡ bare_name x)
name_stands p q x (b, e, z) r rest h apart =
    let (c, f, t) = starts_with begins_name p b in
    let more : run in_name p.rest ≡ c ∷ run in_name (next p).rest = run_next in_name p c f (starts_at in_name p c f ∙ in_name_first c t) in
    let g : first r ≡ Some c = ap first_in (h ∙ ap (λ (l : List ℕ). l ++ rest) more) in
    let left : (behind_word r).rest ≡ beyond is_blank rest =
    past_rest is_blank (past in_name r) ∙ ap (beyond is_blank) (past_rest in_name r ∙ (ap (beyond in_name) h ∙ beyond_run in_name p.rest rest apart)) in
    let text : run in_name r.rest ≡ run in_name p.rest = ap (run in_name) h ∙ run_run in_name p.rest rest apart in
    let shape : bare_name (name_at r) ≡ bare_name x =
    ap (λ (l : List ℕ). record { text = encode_utf8_all l; line = 0; column = 0 }) text ∙ sym (ap bare_name z) in
    ((starts_at begins_name r c g ∙ t, refl, refl), left, shape)

-- a name is printed and read as it is
pub name_back : (p q : Place) (x : Name) → IsName p q x → Back IsName bare_name p q x x.text
name_back p q x (b, e, z) =
    let (c, f, t) = starts_with begins_name p b in
    record {
      letters = run in_name p.rest;
      head = c;
      tail = run in_name (next p).rest;
      encoded = ap (λ (n : Name). n.text) z;
      begins = run_next in_name p c f (starts_at in_name p c f ∙ in_name_first c t);
      seen = f;
      dark_head = dark begins_name c t refl refl;
      again = λ r rest h apart alike.
          let (is, left, shape) = name_stands p q x (b, e, z) r rest h apart.0 in
          (behind_word r, name_at r, is, left, shape);
    }
