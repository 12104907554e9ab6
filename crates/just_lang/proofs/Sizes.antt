-- The patterns that are too big, one pattern at a time.
use Rattle.std.proofs.Common.{◌≡◌, ℕ, zero, suc, ◌<◌, List, [], ◌∷◌, length, get_or, Bool, true, false, cond, Option, Some, None, refl, sym, ap, ◌∙◌, subst, arith}
use Rattle.std.specs.List.{cons_option, Contains}
use Rattle.just_lang_spots.specs.declared.spot.Spot.{Spot}
use Rattle.just_lang_spots.specs.Spots.{earlier, first_spot}
use Rattle.just_lang_rulebook.specs.Patterns.{is_pattern, whole_pattern, IsTooBig, IsFirstTooBig}
use Rattle.just_lang.specs.Rules.{AreTooBig}

-- what the library answers of each pattern gives these places
abbrev pub Picks : List (List ℕ × Spot) → List Spot → Type 0
Picks [] big = big ≡ []
Picks (p ∷ ps) big = (here : Option Spot) × (rest : List Spot) × IsTooBig p here × Picks ps rest × (big ≡ cons_option here rest)

-- ---- they are too big

head_of : {A : Type 0} (x : A) (xs : List A) → Contains (x ∷ xs) x
head_of x xs = (0, omega arith, refl)

tail_of : {A : Type 0} (y x : A) (xs : List A) → Contains xs x → Contains (y ∷ xs) x
tail_of y x xs c = (suc c.0, omega (arith, c.1), c.2)

-- the places that are picked are those of patterns
abbrev pub AreRead : List (List ℕ × Spot) → List Spot → Type 0
AreRead ps big = (s : Spot) → Contains big s → (text : List ℕ) × Contains ps (text, s) × (is_pattern text ≡ true)

read_more : (p : List ℕ × Spot) (ps : List (List ℕ × Spot)) (here : Option Spot) (rest : List Spot) → IsTooBig p here → AreRead ps rest → AreRead (p ∷ ps) (cons_option here rest)
read_more p ps None rest t are = λ s c.
    let r = are s c in (r.0, tail_of p (r.0, s) ps r.1, r.2)
read_more p ps (Some h) rest t are = λ s c.
    elim c.0 as (λ i. i < suc (length rest) → get_or (h ∷ rest) i s ≡ s → (text : List ℕ) × Contains (p ∷ ps) (text, s) × (is_pattern text ≡ true)) [
      | zero ↦ λ less e.
          let same : p ≡ (p.0, s) = ap (λ (x : Spot). (p.0, x)) (t.0 ∙ e) in
          (p.0, (0, omega arith, same), t.1)
      | suc i ↦ λ less e.
          let r = are s (i, omega (arith, less), e) in
          (r.0, tail_of p (r.0, s) ps r.1, r.2)
    ] c.1 c.2

-- what isn't picked is read for a whole value too
abbrev pub AreWhole : List (List ℕ × Spot) → List Spot → Type 0
AreWhole ps big = (text : List ℕ) (s : Spot) → Contains ps (text, s) → is_pattern text ≡ true → (Contains big s → ⊥) → is_pattern (whole_pattern text) ≡ true

whole_here : (p : List ℕ × Spot) (here : Option Spot) (rest : List Spot) → IsTooBig p here → is_pattern p.0 ≡ true → (Contains (cons_option here rest) p.1 → ⊥) → is_pattern (whole_pattern p.0) ≡ true
whole_here p None rest t r missing = t r
whole_here p (Some h) rest t r missing = absurd (missing (0, omega arith, sym t.0))

not_in_rest : (here : Option Spot) (rest : List Spot) (s : Spot) → (Contains (cons_option here rest) s → ⊥) → Contains rest s → ⊥
not_in_rest None rest s missing c = missing c
not_in_rest (Some h) rest s missing c = missing (tail_of h s rest c)

whole_more : (p : List ℕ × Spot) (ps : List (List ℕ × Spot)) (here : Option Spot) (rest : List Spot) → IsTooBig p here → AreWhole ps rest → AreWhole (p ∷ ps) (cons_option here rest)
whole_more p ps here rest t are = λ text s c r missing.
    elim c.0 as (λ i. i < suc (length ps) → get_or (p ∷ ps) i (text, s) ≡ (text, s) → is_pattern (whole_pattern text) ≡ true) [
      | zero ↦ λ less e.
          let named : p.0 ≡ text = ap (λ (x : List ℕ × Spot). x.0) e in
          let placed : p.1 ≡ s = ap (λ (x : List ℕ × Spot). x.1) e in
          subst (λ (x : List ℕ). is_pattern (whole_pattern x) ≡ true) named
          (whole_here p here rest t (subst (λ (x : List ℕ). is_pattern x ≡ true) (sym named) r) (subst (λ (x : Spot). Contains (cons_option here rest) x → ⊥) (sym placed) missing))
      | suc i ↦ λ less e. are text s (i, omega (arith, less), e) r (not_in_rest here rest s missing)
    ] c.1 c.2

read_all : (ps : List (List ℕ × Spot)) (big : List Spot) → Picks ps big → AreRead ps big
read_all [] big e = λ s c. absurd (let less : c.0 < length big = c.1 in let size : length big ≡ 0 = ap length e in omega (arith, less, size))
read_all (p ∷ ps) big h = subst (λ (ss : List Spot). AreRead (p ∷ ps) ss) (sym h.4) (read_more p ps h.0 h.1 h.2 (read_all ps h.1 h.3))

whole_all : (ps : List (List ℕ × Spot)) (big : List Spot) → Picks ps big → AreWhole ps big
whole_all [] big e = λ text s c r missing. absurd (let less : c.0 < 0 = c.1 in omega (arith, less))
whole_all (p ∷ ps) big h = subst (λ (ss : List Spot). AreWhole (p ∷ ps) ss) (sym h.4) (whole_more p ps h.0 h.1 h.2 (whole_all ps h.1 h.3))

pub picked_too_big : (ps : List (List ℕ × Spot)) (big : List Spot) → Picks ps big → AreTooBig ps big
picked_too_big ps big h = record { read = read_all ps big h; others = whole_all ps big h }

-- ---- where the library isn't asked, each that is read may be

abbrev pub read_spots : List (List ℕ × Spot) → List Spot
read_spots [] = []
read_spots (p ∷ ps) = cons_option (cond (is_pattern p.0) (Some p.1) None) (read_spots ps)

may_be_big : (p : List ℕ × Spot) (b : Bool) → is_pattern p.0 ≡ b → IsTooBig p (cond b (Some p.1) None)
may_be_big p true e = (refl, e)
may_be_big p false e = λ r. absurd (cc)

all_picked : (ps : List (List ℕ × Spot)) → Picks ps (read_spots ps)
all_picked [] = refl
all_picked (p ∷ ps) = (cond (is_pattern p.0) (Some p.1) None, read_spots ps, may_be_big p (is_pattern p.0) refl, all_picked ps, refl)

pub read_too_big : (ps : List (List ℕ × Spot)) → AreTooBig ps (read_spots ps)
read_too_big ps = picked_too_big ps (read_spots ps) (all_picked ps)

-- ---- the places that the library's answers give

first_with : (here : Option Spot) (rest : List Spot) (o : Option Spot) → first_spot rest ≡ o → first_spot (cons_option here rest) ≡ earlier here o
first_with None rest o e = e
first_with (Some s) rest o e = ap (earlier (Some s)) e

pub record ArePicked (ps : List (List ℕ × Spot)) (o : Option Spot) : Type 0 where
  pub big : List Spot
  pub picks : Picks ps big
  pub first : first_spot big ≡ o

pub picked : (ps : List (List ℕ × Spot)) (o : Option Spot) → IsFirstTooBig ps o → ArePicked ps o
picked [] o e = record { big = []; picks = refl; first = sym e }
picked (p ∷ ps) o h =
    let r = picked ps h.1 h.3 in
    record { big = cons_option h.0 r.big; picks = (h.0, r.big, h.2, r.picks, refl); first = first_with h.0 r.big h.1 r.first ∙ sym h.4 }
