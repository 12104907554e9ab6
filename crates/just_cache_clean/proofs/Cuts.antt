-- Texts that are cut in front and behind.
use Rattle.std.proofs.Common.{◌≡◌, ◌≢◌, ◌↔◌, ◌⊎◌, inl, inr, ℕ, ◌+◌, Bool, true, false, List, [], ◌∷◌, ◌++◌, length, get_or, append_assoc, length-append, refl, sym, ap, ◌∙◌, subst, arith}
use denote.Ref.{Bor}
use Rattle.std.specs.Prelude.{Option, Some, None, MatchOption, IsTrue, codes}
use Rattle.just_cache_clean.specs.EntryTexts.{IsDigest, IsEntryName, front1, front2, back}
use Rattle.just_cache_clean.specs.PathTexts.{IsOtherText, StaysText}

-- ---- what two texts have in common

pub same_behind : (a x y : List ℕ) → a ++ x ≡ a ++ y → x ≡ y
same_behind [] x y h = h
same_behind (c ∷ a) x y h = same_behind a x y (let rest : a ++ x ≡ a ++ y = cc in rest)

long : (x y b : List ℕ) → x ++ b ≡ y ++ b → length x ≡ length y
long x y b h =
    let whole : length x + length b ≡ length y + length b = sym (length-append x b) ∙ ap (λ (l : List ℕ). length l) h ∙ length-append y b in
    omega (arith, whole)

in_front : (x y b : List ℕ) → length x ≡ length y → x ++ b ≡ y ++ b → x ≡ y
in_front [] [] b s h = refl
in_front [] (d ∷ y) b s h = absurd (omega (arith, s))
in_front (c ∷ x) [] b s h = absurd (omega (arith, s))
in_front (c ∷ x) (d ∷ y) b s h =
    let one : c ≡ d = cc in
    let rest : x ++ b ≡ y ++ b = cc in
    ap (λ (k : ℕ). k ∷ x) one ∙ ap (λ (l : List ℕ). d ∷ l) (in_front x y b (omega (arith, s)) rest)

pub same_before : (x y b : List ℕ) → x ++ b ≡ y ++ b → x ≡ y
same_before x y b h = in_front x y b (long x y b h) h

-- ---- two cuts, one behind the other

pub none_first : (t a b : List ℕ) → ((rest : List ℕ) → t ≢ a ++ rest) → (rest : List ℕ) → t ≢ a ++ (b ++ rest)
none_first t a b h rest e = h (b ++ rest) e

pub none_second : (t a b r : List ℕ) → t ≡ a ++ r → ((rest : List ℕ) → r ≢ b ++ rest) → (rest : List ℕ) → t ≢ a ++ (b ++ rest)
none_second t a b r is h rest e = h rest (same_behind a r (b ++ rest) (sym is ∙ e))

pub none_inside : (t a b : List ℕ) → ((rest : List ℕ) → t ≢ a ++ rest) → (inner : List ℕ) → t ≢ a ++ (inner ++ b)
none_inside t a b h inner e = h (inner ++ b) e

pub none_end : (t a b r : List ℕ) → t ≡ a ++ r → ((front : List ℕ) → r ≢ front ++ b) → (inner : List ℕ) → t ≢ a ++ (inner ++ b)
none_end t a b r is h inner e = h inner (same_behind a r (inner ++ b) (sym is ∙ e))

pub both : (t a r s : List ℕ) → t ≡ a ++ r → r ≡ s → t ≡ a ++ s
both t a r s is e = is ∙ ap (λ (l : List ℕ). a ++ l) e

-- the same, whatever the second cut answers
pub both_cut : (t a b r : List ℕ) (o : Option (Bor (List ℕ))) → t ≡ a ++ r → MatchOption o ((front : List ℕ) → r ≢ front ++ b) (λ front. r ≡ front.now ++ b)
    → MatchOption o ((inner : List ℕ) → t ≢ a ++ (inner ++ b)) (λ inner. t ≡ a ++ (inner.now ++ b))
both_cut t a b r None is h = none_end t a b r is h
both_cut t a b r (Some x) is h = both t a r (x.now ++ b) is h

-- the second form: its front, the digest, and what stands behind it
two_fronts : (digest rest : List ℕ) → front2 digest ++ rest ≡ codes "{\"digest\":\"" ++ (digest ++ (codes "\",\"format\":2,\"recipe\":\"" ++ rest))
two_fronts digest rest =
    append_assoc (codes "{\"digest\":\"") (digest ++ codes "\",\"format\":2,\"recipe\":\"") rest
    ∙ ap (λ (l : List ℕ). codes "{\"digest\":\"" ++ l) (append_assoc digest (codes "\",\"format\":2,\"recipe\":\"") rest)

pub no_second : (t digest : List ℕ) → ((rest : List ℕ) → t ≢ codes "{\"digest\":\"" ++ (digest ++ rest)) → (inner : List ℕ) → t ≢ front2 digest ++ (inner ++ back)
no_second t digest h inner e = h (codes "\",\"format\":2,\"recipe\":\"" ++ (inner ++ back)) (e ∙ two_fronts digest (inner ++ back))

pub no_path : (t digest r : List ℕ) → t ≡ codes "{\"digest\":\"" ++ (digest ++ r) → ((inner : List ℕ) → r ≢ codes "\",\"format\":2,\"recipe\":\"" ++ (inner ++ back)) → (inner : List ℕ) → t ≢ front2 digest ++ (inner ++ back)
no_path t digest r is h inner e =
    h inner (same_behind digest r (codes "\",\"format\":2,\"recipe\":\"" ++ (inner ++ back))
    (same_behind (codes "{\"digest\":\"") (digest ++ r) (digest ++ (codes "\",\"format\":2,\"recipe\":\"" ++ (inner ++ back))) (sym is ∙ e ∙ two_fronts digest (inner ++ back))))

pub a_second : (t digest r inner : List ℕ) → t ≡ codes "{\"digest\":\"" ++ (digest ++ r) → r ≡ codes "\",\"format\":2,\"recipe\":\"" ++ (inner ++ back) → t ≡ front2 digest ++ (inner ++ back)
a_second t digest r inner is e = is ∙ ap (λ (l : List ℕ). codes "{\"digest\":\"" ++ (digest ++ l)) e ∙ sym (two_fronts digest (inner ++ back))

pub second_cut : (t digest r : List ℕ) (o : Option (Bor (List ℕ))) → t ≡ codes "{\"digest\":\"" ++ (digest ++ r)
    → MatchOption o ((inner : List ℕ) → r ≢ codes "\",\"format\":2,\"recipe\":\"" ++ (inner ++ back)) (λ inner. r ≡ codes "\",\"format\":2,\"recipe\":\"" ++ (inner.now ++ back))
    → MatchOption o ((inner : List ℕ) → t ≢ front2 digest ++ (inner ++ back)) (λ inner. t ≡ front2 digest ++ (inner.now ++ back))
second_cut t digest r None is h = no_path t digest r is h
second_cut t digest r (Some x) is h = a_second t digest r x.now is h

-- ---- the digest of a file name

pub no_name : (name : List ℕ) → ((front : List ℕ) → name ≢ front ++ codes ".json") → (digest : List ℕ) → IsEntryName digest name → ⊥
no_name name h digest e = h digest e.1

pub no_digest : (name front : List ℕ) (b : Bool) → name ≡ front ++ codes ".json" → (IsTrue b ↔ IsDigest front) → b ≡ false → (digest : List ℕ) → IsEntryName digest name → ⊥
no_digest name front b is decides f digest e =
    let same : digest ≡ front = same_before digest front (codes ".json") (sym e.1 ∙ is) in
    let t : b ≡ true = decides.1 (subst (λ (d : List ℕ). IsDigest d) same e.0) in
    absurd (let no : ⊥ = cc in no)

pub a_digest : (name front : List ℕ) (b : Bool) → name ≡ front ++ codes ".json" → (IsTrue b ↔ IsDigest front) → b ≡ true → IsEntryName front name
a_digest name front b is decides t = (decides.0 t, is)

-- ---- entries

-- the two forms differ behind two bytes
apart : (digest x y : List ℕ) → front1 ++ x ≡ front2 digest ++ y → ⊥
apart digest x y e = let third : 114 ≡ 100 = ap (λ (l : List ℕ). get_or l 2 0) e in absurd (omega (arith, third))

pub stays_first : (prefix digest text inner : List ℕ) (b : Bool) → text ≡ front1 ++ (inner ++ back) → (IsTrue b ↔ IsOtherText prefix inner) → IsTrue b ↔ StaysText prefix digest text
stays_first prefix digest text inner b is other = (
  λ t. (inner, inl is, other.0 t),
  λ s. other.1 (subst (λ (l : List ℕ). IsOtherText prefix l) (same s.0 s.1) s.2),
)
  where
    same : (i : List ℕ) → (text ≡ front1 ++ (i ++ back)) ⊎ (text ≡ front2 digest ++ (i ++ back)) → i ≡ inner
    same i (inl e) = same_before i inner back (same_behind front1 (i ++ back) (inner ++ back) (sym e ∙ is))
    same i (inr e) = absurd (apart digest (inner ++ back) (i ++ back) (sym is ∙ e))

pub stays_second : (prefix digest text inner : List ℕ) (b : Bool) → ((i : List ℕ) → text ≢ front1 ++ (i ++ back)) → text ≡ front2 digest ++ (inner ++ back) → (IsTrue b ↔ IsOtherText prefix inner)
    → IsTrue b ↔ StaysText prefix digest text
stays_second prefix digest text inner b never is other = (
  λ t. (inner, inr is, other.0 t),
  λ s. other.1 (subst (λ (l : List ℕ). IsOtherText prefix l) (same s.0 s.1) s.2),
)
  where
    same : (i : List ℕ) → (text ≡ front1 ++ (i ++ back)) ⊎ (text ≡ front2 digest ++ (i ++ back)) → i ≡ inner
    same i (inl e) = absurd (never i e)
    same i (inr e) = same_before i inner back (same_behind (front2 digest) (i ++ back) (inner ++ back) (sym e ∙ is))

pub stays_neither : (prefix digest text : List ℕ) → ((i : List ℕ) → text ≢ front1 ++ (i ++ back)) → ((i : List ℕ) → text ≢ front2 digest ++ (i ++ back)) → IsTrue false ↔ StaysText prefix digest text
stays_neither prefix digest text never none = (λ t. absurd (let f : ⊥ = cc in f), λ s. absurd (neither s.0 s.1))
  where
    neither : (i : List ℕ) → (text ≡ front1 ++ (i ++ back)) ⊎ (text ≡ front2 digest ++ (i ++ back)) → ⊥
    neither i (inl e) = never i e
    neither i (inr e) = none i e
