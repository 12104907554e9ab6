-- A text without the `\` at its end, and without the blanks at its front.
use Rattle.std.proofs.Common.{◌≡◌, ◌≢◌, ℕ, zero, suc, ◌+◌, ◌-◌, ◌<◌, ◌≤◌, ◌==◌, ◌||◌, ◌⊎◌, inl, inr, Bool, true, false, Bor, List, [], ◌∷◌, ◌++◌, length, take, drop, get_or, drop-cons, Option, Some, None, refl, sym, ap, ◌∙◌, arith, lit<}
use Rattle.std.specs.Prelude.{if◌then◌else◌}
use Rattle.std.specs.Option.{MatchOption}
use Rattle.std.specs.Str.Pattern.{FindsCharSuffix}
use Rattle.std.proofs.Math.Seq.{take-append_seam}
use Rattle.std.proofs.lemmas.Bool.Decides.{Decides-eqb, eqb_tells}
use Rattle.std.proofs.lemmas.List.{drop_all, length-append}
use Rattle.std.proofs.lemmas.Slice.Eq.{ends_is}
use Rattle.std.proofs.lemmas.Str.Pattern.{strip_suffix_char}
use Rattle.just_lang_syntax.specs.declared.ast.Fragment.{Fragment}
use Rattle.just_eval.specs.Bodies.{has_mark, before_mark, is_blank, behind_blanks, is_marked, goes_on}

ends : (t : List ℕ) → (has_mark t ≡ true → t ≡ take (length t - 1) t ++ 92 ∷ []) × ((f : List ℕ) → t ≡ f ++ 92 ∷ [] → has_mark t ≡ true)
ends t = ends_is Decides-eqb t (92 ∷ []) (has_mark t) refl

shorter : (x : List ℕ) → take (length (x ++ 92 ∷ []) - 1) (x ++ 92 ∷ []) ≡ x
shorter x =
    let whole : length (x ++ 92 ∷ []) ≡ length x + 1 = length-append x (92 ∷ []) in
    let one : length (x ++ 92 ∷ []) - 1 ≡ length x = omega (arith, whole) in
    ap (λ n. take n (x ++ 92 ∷ [])) one ∙ take-append_seam x (92 ∷ [])

mark_dropped : (t x : List ℕ) → t ≡ x ++ 92 ∷ [] → x ≡ before_mark t
mark_dropped t x h =
    sym (ap (λ b. if b then take (length t - 1) t else t) ((ends t).1 x h) ∙ ap (λ u. take (length u - 1) u) h ∙ shorter x)

no_mark : (t : List ℕ) → ((f : List ℕ) → t ≢ f ++ 92 ∷ []) → t ≡ before_mark t
no_mark t h = pick (has_mark t) refl
  where
    pick : (b : Bool) → has_mark t ≡ b → t ≡ (if b then take (length t - 1) t else t)
    pick true e = absurd (h (take (length t - 1) t) ((ends t).0 e))
    pick false e = refl

-- what is stripped at the end
pub stripped : (t : List ℕ) (r : Option (Bor (List ℕ))) → MatchOption r (FindsCharSuffix 92 t None) (λ x. (n : ℕ) × FindsCharSuffix 92 t (Some n) × (x.now ≡ take (length t - n) t) × (length x.now + n ≡ length t)) → MatchOption r (t ≡ before_mark t) (λ x. x.now ≡ before_mark t)
stripped t None cases = no_mark t (strip_suffix_char 92 t None cases (lit< tt))
stripped t (Some x) cases = mark_dropped t x.now (strip_suffix_char 92 t (Some x) cases (lit< tt))

-- ---- lines that go on

pub nothing_goes_on : (fs : List Fragment) → length fs ≡ 0 → goes_on fs ≡ false
nothing_goes_on [] none = refl
nothing_goes_on (f ∷ fs) none = absurd (omega (arith, none))

pub last_goes_on : (fs : List Fragment) (n : ℕ) (f : Fragment) → n + 1 ≡ length fs → f ≡ get_or fs n f → is_marked f ≡ goes_on fs
last_goes_on [] n f whole is = absurd (omega (arith, whole))
last_goes_on (g ∷ []) zero f whole is = ap is_marked is
last_goes_on (g ∷ []) (suc n) f whole is = absurd (omega (arith, whole))
last_goes_on (g ∷ h ∷ fs) zero f whole is = absurd (omega (arith, whole))
last_goes_on (g ∷ h ∷ fs) (suc n) f whole is = last_goes_on (h ∷ fs) n f (omega (arith, whole)) is

-- ---- blanks

module _ (t : List ℕ) (n : ℕ) (lt : n < length t) where
  one : n + 1 ≡ suc n
  one = omega arith

  here : behind_blanks (drop n t) ≡ (if is_blank (get_or t n 0) then behind_blanks (drop (suc n) t) else get_or t n 0 ∷ drop (suc n) t)
  here = ap behind_blanks (drop-cons t n 0 lt)

  pub blank_more : is_blank (get_or t n 0) ≡ true → behind_blanks (drop (n + 1) t) ≡ behind_blanks (drop n t)
  blank_more h = ap (λ k. behind_blanks (drop k t)) one ∙ sym (here ∙ ap (λ b. if b then behind_blanks (drop (suc n) t) else get_or t n 0 ∷ drop (suc n) t) h)

  pub no_blank : is_blank (get_or t n 0) ≡ false → drop n t ≡ behind_blanks (drop n t)
  no_blank h = drop-cons t n 0 lt ∙ sym (here ∙ ap (λ b. if b then behind_blanks (drop (suc n) t) else get_or t n 0 ∷ drop (suc n) t) h)

pub all_blanks : (t : List ℕ) (n : ℕ) → length t ≤ n → [] ≡ behind_blanks (drop n t)
all_blanks t n le = sym (ap behind_blanks (drop_all n t le))

pub blank_ascii : (c : ℕ) → is_blank c ≡ true → c < 128
blank_ascii c h = pick (eqb_tells c 32) (eqb_tells c 9)
  where
    pick : (((c == 32) ≡ true) × (c ≡ 32)) ⊎ (((c == 32) ≡ false) × (c ≢ 32)) → (((c == 9) ≡ true) × (c ≡ 9)) ⊎ (((c == 9) ≡ false) × (c ≢ 9)) → c < 128
    pick (inl p) q = let e = p.1 in omega (arith, e)
    pick (inr p) (inl q) = let e = q.1 in omega (arith, e)
    pick (inr p) (inr q) = let no : true ≡ false = sym h ∙ ap (λ b. b || (c == 9)) p.0 ∙ q.0 in absurd (let none : ⊥ = cc in none)
