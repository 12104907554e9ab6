-- What stands in front of a path, by its first two bytes.
use Rattle.std.proofs.Common.{◌≡◌, ◌≢◌, ℕ, zero, suc, ◌<◌, ◌≤◌, true, false, eqb, List, [], ◌∷◌, length, get_or, refl, sym, ap, ◌∙◌, subst, arith, cond, ⊎_elim}
use Rattle.std.proofs.lemmas.Bool.{ne_eqb, cases_eq, cases_lt}
use Rattle.std.proofs.lemmas.Str.{IsCharBoundary-start, IsCharBoundary-after_ascii}
use Rattle.std.specs.Str.{IsUtf8, IsCharBoundary}
use Rattle.just_path.specs.Comps.{root, current, with_first_byte, pieces, is_dot_first, lead_of}
use Rattle.just_path.specs.Path.{is_absolute}

-- pieces whose first byte is no dot do not begin with `.`
with_first_byte_other : (b : ℕ) (ps : List (List ℕ)) → b ≢ 46 → is_dot_first (with_first_byte b ps) ≡ false
with_first_byte_other b [] n = let e : eqb b 46 ≡ false = ne_eqb b 46 n in rw e refl
with_first_byte_other b (p ∷ ps) n = let e : eqb b 46 ≡ false = ne_eqb b 46 n in rw e refl

-- a first piece of two bytes or more is not `.`
with_two_bytes : (c : ℕ) (ps : List (List ℕ)) → is_dot_first (with_first_byte 46 (with_first_byte c ps)) ≡ false
with_two_bytes c [] = refl
with_two_bytes c (p ∷ ps) = refl

-- nothing stands in front of the empty text
pub leading_nil : lead_of [] ≡ []
unfolding lead_of
leading_nil = refl

-- the root stands in front of a text that begins with `/`
pub leading_root : (bs : List ℕ) → lead_of (47 ∷ bs) ≡ root ∷ []
unfolding lead_of
leading_root bs = refl

-- nothing stands in front of a text that begins with neither `/` nor `.`
pub leading_other : (b : ℕ) (bs : List ℕ) → b ≢ 47 → b ≢ 46 → lead_of (b ∷ bs) ≡ []
unfolding lead_of
leading_other b bs m n =
    let e : eqb b 47 ≡ false = ne_eqb b 47 m in
    rw (e, with_first_byte_other b (pieces bs) n) refl

-- a `.` stands in front of the text `.`
pub leading_dot : lead_of (46 ∷ []) ≡ current ∷ []
unfolding lead_of
leading_dot = refl

-- it stands in front of a text that begins with `./`
pub leading_dot_slash : (bs : List ℕ) → lead_of (46 ∷ 47 ∷ bs) ≡ current ∷ []
unfolding lead_of
leading_dot_slash bs = refl

-- nothing stands in front of a text that begins with `.` and another byte
pub leading_dot_other : (c : ℕ) (bs : List ℕ) → c ≢ 47 → lead_of (46 ∷ c ∷ bs) ≡ []
unfolding lead_of
leading_dot_other c bs m =
    let e : eqb c 47 ≡ false = ne_eqb c 47 m in
    rw (e, with_two_bytes c (pieces bs)) refl

-- the same of a text that is known by its length and its first bytes
pub when_nil : (t : List ℕ) → length t ≡ 0 → lead_of t ≡ []
when_nil [] h = leading_nil
when_nil (b ∷ bs) h = absurd (omega arith)

-- a first byte `/` gives the root
pub when_root : (t : List ℕ) → 0 < length t → get_or t 0 0 ≡ 47 → lead_of t ≡ root ∷ []
when_root [] h e = absurd (omega arith)
when_root (b ∷ bs) h e = ap (λ x. lead_of (x ∷ bs)) e ∙ leading_root bs

-- a first byte that is neither gives nothing
pub when_other : (t : List ℕ) → 0 < length t → get_or t 0 0 ≢ 47 → get_or t 0 0 ≢ 46 → lead_of t ≡ []
when_other [] h m n = absurd (omega arith)
when_other (b ∷ bs) h m n = leading_other b bs m n

-- a `.` alone gives itself
pub when_dot : (t : List ℕ) → get_or t 0 0 ≡ 46 → length t ≡ 1 → lead_of t ≡ current ∷ []
when_dot [] e l = absurd (omega arith)
when_dot (b ∷ []) e l = ap (λ x. lead_of (x ∷ [])) e ∙ leading_dot
when_dot (b ∷ c ∷ bs) e l = absurd (omega arith)

-- a `.` with a slash behind it gives itself
pub when_dot_slash : (t : List ℕ) → 1 < length t → get_or t 0 0 ≡ 46 → get_or t 1 0 ≡ 47 → lead_of t ≡ current ∷ []
when_dot_slash [] l e f = absurd (omega arith)
when_dot_slash (b ∷ []) l e f = absurd (omega arith)
when_dot_slash (b ∷ c ∷ bs) l e f = ap (λ x. lead_of (x ∷ c ∷ bs)) e ∙ ap (λ x. lead_of (46 ∷ x ∷ bs)) f ∙ leading_dot_slash bs

-- a `.` with another byte behind it gives nothing
pub when_dot_other : (t : List ℕ) → 1 < length t → get_or t 0 0 ≡ 46 → get_or t 1 0 ≢ 47 → lead_of t ≡ []
when_dot_other [] l e f = absurd (omega arith)
when_dot_other (b ∷ []) l e f = absurd (omega arith)
when_dot_other (b ∷ c ∷ bs) l e f = ap (λ x. lead_of (x ∷ c ∷ bs)) e ∙ leading_dot_other c bs f

-- what stands in front is one ASCII byte, or nothing
pub one_at_most : (t : List ℕ) → length (lead_of t) ≤ 1
unfolding lead_of
one_at_most t =
    elim (is_absolute t) as (λ v. length (cond v (root ∷ []) (cond (is_dot_first (pieces t)) (current ∷ []) [])) ≤ 1) [
      | true ↦ omega arith
      | false ↦ elim (is_dot_first (pieces t)) as (λ v. length (cond v (current ∷ []) []) ≤ 1) [ true ↦ omega arith | false ↦ omega arith ]
    ]

-- where something stands in front, the first byte is ASCII
pub first_ascii : (t : List ℕ) → 0 < length (lead_of t) → (0 < length t) × (get_or t 0 0 < 128)
first_ascii [] h = absurd (let z : length (lead_of []) ≡ 0 = ap length leading_nil in omega arith)
first_ascii (b ∷ bs) h =
    ⊎_elim
    (λ (e : b ≡ 47). (omega arith, omega arith))
    (λ (n : b ≢ 47). ⊎_elim
    (λ (e : b ≡ 46). (omega arith, omega arith))
    (λ (m : b ≢ 46). absurd (let z : length (lead_of (b ∷ bs)) ≡ 0 = ap length (leading_other b bs n m) in omega arith))
    (cases_eq b 46))
    (cases_eq b 47)

-- so a character ends behind it
pub boundary : (t : List ℕ) (low : ℕ) → IsUtf8 t → low ≡ length (lead_of t) → IsCharBoundary t low
boundary t zero u d = IsCharBoundary-start t u
boundary t (suc low) u d =
    let z : low ≡ 0 = omega (arith, one_at_most t) in
    let a = first_ascii t (omega arith) in
    subst (λ (n : ℕ). IsCharBoundary t (suc n)) (sym z) (IsCharBoundary-after_ascii t 0 u a.0 a.1)

-- what stands in front is no longer than the text
pub no_longer : (t : List ℕ) → length (lead_of t) ≤ length t
no_longer t =
    ⊎_elim
    (λ (h : 0 < length (lead_of t)). omega (arith, one_at_most t, (first_ascii t h).0))
    (λ (h : length (lead_of t) ≤ 0). omega arith)
    (cases_lt 0 (length (lead_of t)))
