-- Steps of the loops over overrides and positional words.
use Rattle.std.proofs.Common.{◌≡◌, ℕ, suc, ◌==◌, ◌<◌, ◌≤◌, ◌+◌, ◌-◌, ◌++◌, not, true, false, List, [], ◌∷◌, length, take, drop, drop-cons, get_or, refl, sym, ap, ◌∙◌, append_assoc, append-nil, arith}
use Rattle.std.specs.Prelude.{Option, Some, None, is_some, if◌then◌else◌}
use Rattle.std.proofs.lemmas.List.{take_all}
use Rattle.just_lang_types.specs.declared.scope.Override.{Override}
use Rattle.just_config_words.specs.Cuts.{holds, before_first, behind_first}
use Rattle.just_config.specs.Positional.{overrides_in, behind_overrides}
use Rattle.just_config.specs.Config.{pairs_of, is_odd, override_of, overrides_of, ill_override}

-- at most one text is left
pub odd_short : (ts : List (List ℕ)) → length ts < 2 → not (length ts == 0) ≡ is_odd ts
odd_short [] h = refl
odd_short (t ∷ []) h = refl
odd_short (t ∷ (u ∷ ts)) h = grind arith

pub pairs_short : (ts : List (List ℕ)) → length ts < 2 → pairs_of ts ≡ []
pairs_short [] h = refl
pairs_short (t ∷ []) h = refl
pairs_short (t ∷ (u ∷ ts)) h = grind arith

-- a positional word that is an override
pub override_next : (os : List (List ℕ × List ℕ)) (w n v : List ℕ) (ws : List (List ℕ)) (all : List (List ℕ × List ℕ)) → holds 61 w ≡ true → before_first 61 w ≡ n → behind_first 61 w ≡ v
    → os ++ overrides_in (w ∷ ws) ≡ all → (os ++ ((n, v) ∷ [])) ++ overrides_in ws ≡ all
override_next os w n v ws all h b d e =
    let step : overrides_in (w ∷ ws) ≡ (n, v) ∷ overrides_in ws = rw h (rw b (rw d refl)) in
    append_assoc os ((n, v) ∷ []) (overrides_in ws) ∙ ap (λ (xs : List (List ℕ × List ℕ)). os ++ xs) (sym step) ∙ e

pub behind_next : (w : List ℕ) (ws all : List (List ℕ)) → holds 61 w ≡ true → behind_overrides (w ∷ ws) ≡ all → behind_overrides ws ≡ all
behind_next w ws all h e = let step : behind_overrides (w ∷ ws) ≡ behind_overrides ws = rw h refl in sym step ∙ e

-- and one that isn't
pub override_end : (os : List (List ℕ × List ℕ)) (w : List ℕ) (ws : List (List ℕ)) (all : List (List ℕ × List ℕ)) → holds 61 w ≡ false → os ++ overrides_in (w ∷ ws) ≡ all → os ≡ all
override_end os w ws all h e =
    let step : overrides_in (w ∷ ws) ≡ [] = rw h refl in
    sym (append-nil os) ∙ ap (λ (xs : List (List ℕ × List ℕ)). os ++ xs) (sym step) ∙ e

pub behind_end : (w : List ℕ) (ws all : List (List ℕ)) → holds 61 w ≡ false → behind_overrides (w ∷ ws) ≡ all → w ∷ ws ≡ all
behind_end w ws all h e = let step : behind_overrides (w ∷ ws) ≡ w ∷ ws = rw h refl in sym step ∙ e

-- a name that is a path
pub more_override : (os : List Override) (p : List ℕ × List ℕ) (ps : List (List ℕ × List ℕ)) (o : Override) (all : List Override) → Some o ≡ override_of p → os ++ overrides_of (p ∷ ps) ≡ all
    → (os ++ (o ∷ [])) ++ overrides_of ps ≡ all
more_override os p ps o all h e =
    let k = sym h in
    let step : overrides_of (p ∷ ps) ≡ o ∷ overrides_of ps = rw k refl in
    append_assoc os (o ∷ []) (overrides_of ps) ∙ ap (λ (xs : List Override). os ++ xs) (sym step) ∙ e

pub more_ill : (p : List ℕ × List ℕ) (ps : List (List ℕ × List ℕ)) (o : Override) (x : Option (List ℕ)) → Some o ≡ override_of p → ill_override (p ∷ ps) ≡ x → ill_override ps ≡ x
more_ill p ps o x h e = ap (λ (y : Option Override). if is_some y then ill_override ps else Some p.0) h ∙ e

-- and one that isn't
pub ill_here : (p : List ℕ × List ℕ) (ps : List (List ℕ × List ℕ)) (x : Option (List ℕ)) → None ≡ override_of p → ill_override (p ∷ ps) ≡ x → x ≡ Some p.0
ill_here p ps x h e = sym e ∙ sym (ap (λ (y : Option Override). if is_some y then ill_override ps else Some p.0) h)

-- ---- the pair at a place

here : (n : ℕ) (p : List ℕ × List ℕ) (ps : List (List ℕ × List ℕ)) → n < length ps → p ≡ get_or ps n p → p ∷ drop (n + 1) ps ≡ drop n ps
here n p ps lt is =
    let one : n + 1 ≡ suc n = omega arith in
    ap (λ k. p ∷ drop k ps) one ∙ ap (λ y. y ∷ drop (suc n) ps) is ∙ sym (drop-cons ps n p lt)

-- whose name is a path
pub more_override_at : (os : List Override) (n : ℕ) (p : List ℕ × List ℕ) (ps : List (List ℕ × List ℕ)) (o : Override) (all : List Override) → n < length ps → p ≡ get_or ps n p
    → Some o ≡ override_of p → os ++ overrides_of (drop n ps) ≡ all → (os ++ (o ∷ [])) ++ overrides_of (drop (n + 1) ps) ≡ all
more_override_at os n p ps o all lt is h e = more_override os p (drop (n + 1) ps) o all h (ap (λ (xs : List (List ℕ × List ℕ)). os ++ overrides_of xs) (here n p ps lt is) ∙ e)

pub more_ill_at : (n : ℕ) (p : List ℕ × List ℕ) (ps : List (List ℕ × List ℕ)) (o : Override) (x : Option (List ℕ)) → n < length ps → p ≡ get_or ps n p → Some o ≡ override_of p
    → ill_override (drop n ps) ≡ x → ill_override (drop (n + 1) ps) ≡ x
more_ill_at n p ps o x lt is h e = more_ill p (drop (n + 1) ps) o x h (ap (λ (xs : List (List ℕ × List ℕ)). ill_override xs) (here n p ps lt is) ∙ e)

-- and whose name is none
pub ill_at : (n : ℕ) (p : List ℕ × List ℕ) (ps : List (List ℕ × List ℕ)) (x : Option (List ℕ)) → n < length ps → p ≡ get_or ps n p → None ≡ override_of p
    → ill_override (drop n ps) ≡ x → x ≡ Some p.0
ill_at n p ps x lt is h e = ill_here p (drop (n + 1) ps) x h (ap (λ (xs : List (List ℕ × List ℕ)). ill_override xs) (here n p ps lt is) ∙ e)

-- ---- the first word, in front of the others

word_here : (w : List ℕ) (ws : List (List ℕ)) → 1 ≤ length ws → w ≡ get_or ws 0 w → w ∷ take (length ws - 1) (drop 1 ws) ≡ ws
word_here w [] l is = absurd (omega (arith, l))
word_here w (x ∷ xs) l is =
    let rest : length xs ≤ length (x ∷ xs) - 1 = omega arith in
    ap (λ (y : List ℕ). y ∷ take (length (x ∷ xs) - 1) xs) is ∙ ap (λ (ys : List (List ℕ)). x ∷ ys) (take_all (length (x ∷ xs) - 1) xs rest)

-- which is an override
pub override_at_first : (os : List (List ℕ × List ℕ)) (w t n v : List ℕ) (ws : List (List ℕ)) (all : List (List ℕ × List ℕ)) → 1 ≤ length ws → w ≡ get_or ws 0 w → t ≡ w
    → holds 61 t ≡ true → before_first 61 t ≡ n → behind_first 61 t ≡ v → os ++ overrides_in ws ≡ all → (os ++ ((n, v) ∷ [])) ++ overrides_in (take (length ws - 1) (drop 1 ws)) ≡ all
override_at_first os w t n v ws all l is same h b d e =
    override_next os w n v (take (length ws - 1) (drop 1 ws)) all (ap (λ (x : List ℕ). holds 61 x) (sym same) ∙ h) (ap (λ (x : List ℕ). before_first 61 x) (sym same) ∙ b) (ap (λ (x : List ℕ). behind_first 61 x) (sym same) ∙ d)
    (ap (λ (xs : List (List ℕ)). os ++ overrides_in xs) (word_here w ws l is) ∙ e)

pub behind_at_first : (w t : List ℕ) (ws all : List (List ℕ)) → 1 ≤ length ws → w ≡ get_or ws 0 w → t ≡ w → holds 61 t ≡ true → behind_overrides ws ≡ all
    → behind_overrides (take (length ws - 1) (drop 1 ws)) ≡ all
behind_at_first w t ws all l is same h e =
    behind_next w (take (length ws - 1) (drop 1 ws)) all (ap (λ (x : List ℕ). holds 61 x) (sym same) ∙ h) (ap (λ (xs : List (List ℕ)). behind_overrides xs) (word_here w ws l is) ∙ e)
