-- Names and defaults in braces: where they end, and that their parts are theirs in one way.
use Rattle.std.proofs.Common.{◌≡◌, ◌≢◌, ℕ, List, [], ◌∷◌, ◌++◌, refl, sym, ◌∙◌, ap, subst, inl, inr, append_assoc, lit<, ◌⊎◌}
use Rattle.just_expand.specs.Bytes.{close_brace, colon, minus_sign}
use Rattle.just_expand.specs.Pieces.{Lacks, LacksMark, BeginsWithMark}
use Rattle.just_expand.proofs.Lists.{same_head, same_tail, less_apart, lacks_append}

-- what stands before the first `}` of a text is one, and so is what stands behind that
pub same_inside : (x y u v : List ℕ) → x ++ (close_brace ∷ u) ≡ y ++ (close_brace ∷ v) → Lacks close_brace x → Lacks close_brace y → (x ≡ y) × (u ≡ v)
same_inside [] [] u v e hx hy = (refl, same_tail 125 125 u v e)
same_inside [] (y ∷ ys) u v e hx hy = absurd (hy.0 (sym (same_head 125 y u (ys ++ (125 ∷ v)) e)))
same_inside (x ∷ xs) [] u v e hx hy = absurd (hx.0 (same_head x 125 (xs ++ (125 ∷ u)) v e))
same_inside (x ∷ xs) (y ∷ ys) u v e hx hy =
    let rest = same_inside xs ys u v (same_tail x y (xs ++ (125 ∷ u)) (ys ++ (125 ∷ v)) e) hx.1 hy.1 in
    (ap (λ k. k ∷ xs) (same_head x y (xs ++ (125 ∷ u)) (ys ++ (125 ∷ v)) e) ∙ ap (λ k. y ∷ k) rest.0, rest.1)

-- a text with a `}` doesn't lack it
brace_stands : (x u : List ℕ) → Lacks close_brace (x ++ (close_brace ∷ u)) → ⊥
brace_stands [] u h = h.0 refl
brace_stands (x ∷ xs) u h = brace_stands xs u h.1

-- nor does one that is equal to it
pub not_closed : (x u w : List ℕ) → w ≡ x ++ (close_brace ∷ u) → Lacks close_brace w → ⊥
not_closed x u w e h = brace_stands x u (subst (Lacks close_brace) e h)

module _ (a b : ℕ) (apart : b ≢ a) where
  -- the two bytes don't stand in the text, one behind the other
  abbrev LacksPair : List ℕ → Type 0
  LacksPair t = (front rest : List ℕ) → t ≢ front ++ (a ∷ b ∷ rest)

  -- a pair in front of a text that has one behind some bytes stands in these, or at their end
  pair_in : (y : ℕ) (ys c d : List ℕ) → a ∷ b ∷ c ≡ y ∷ (ys ++ (a ∷ b ∷ d)) → LacksPair (y ∷ ys) → ⊥
  pair_in y [] c d e h = apart (same_head b a c (b ∷ d) (same_tail a y (b ∷ c) (a ∷ b ∷ d) e))
  pair_in y (z ∷ zs) c d e h =
      let rest = same_tail a y (b ∷ c) (z ∷ (zs ++ (a ∷ b ∷ d))) e in
      h [] zs (ap (λ k. k ∷ z ∷ zs) (sym (same_head a y (b ∷ c) (z ∷ (zs ++ (a ∷ b ∷ d))) e)) ∙ ap (λ k. a ∷ k ∷ zs) (sym (same_head b z c (zs ++ (a ∷ b ∷ d)) rest)))

  -- what stands before the first pair of a text is one, and so is what stands behind that
  same_parts : (n m c d : List ℕ) → n ++ (a ∷ b ∷ c) ≡ m ++ (a ∷ b ∷ d) → LacksPair n → LacksPair m → (n ≡ m) × (c ≡ d)
  same_parts [] [] c d e hn hm = (refl, same_tail b b c d (same_tail a a (b ∷ c) (b ∷ d) e))
  same_parts [] (y ∷ ys) c d e hn hm = absurd (pair_in y ys c d e hm)
  same_parts (x ∷ xs) [] c d e hn hm = absurd (pair_in x xs d c (sym e) hn)
  same_parts (x ∷ xs) (y ∷ ys) c d e hn hm =
      let rest = same_parts xs ys c d (same_tail x y (xs ++ (a ∷ b ∷ c)) (ys ++ (a ∷ b ∷ d)) e) (λ f r k. hn (x ∷ f) r (ap (λ t. x ∷ t) k)) (λ f r k. hm (y ∷ f) r (ap (λ t. y ∷ t) k)) in
      (ap (λ k. k ∷ xs) (same_head x y (xs ++ (a ∷ b ∷ c)) (ys ++ (a ∷ b ∷ d)) e) ∙ ap (λ k. y ∷ k) rest.0, rest.1)

  -- what lacks the pair, or has it in front, isn't parted by it behind some bytes
  not_parted : (m n d : List ℕ) → m ≡ n ++ (a ∷ b ∷ d) → ((rest : List ℕ) × (m ≡ a ∷ b ∷ rest)) ⊎ LacksPair m → n ≢ [] → LacksPair n → ⊥
  not_parted m n d e (inr lacks) some hn = lacks n d e
  not_parted m [] d e (inl front) some hn = some refl
  not_parted m (x ∷ xs) d e (inl front) some hn = pair_in x xs front.0 d (sym front.1 ∙ e) hn

-- the name before the first `:-` is one, and so is the default behind it
pub same_default : (n m c d : List ℕ) → n ++ (colon ∷ minus_sign ∷ c) ≡ m ++ (colon ∷ minus_sign ∷ d) → LacksMark n → LacksMark m → (n ≡ m) × (c ≡ d)
same_default = same_parts 58 45 (less_apart 45 58 (lit< tt))

-- what lacks `:-`, or has it in front, is no name and default
pub no_default : (m n d : List ℕ) → m ≡ n ++ (colon ∷ minus_sign ∷ d) → BeginsWithMark m ⊎ LacksMark m → n ≢ [] → LacksMark n → ⊥
no_default = not_parted 58 45 (less_apart 45 58 (lit< tt))

-- a name and a default without `}` lack it together
pub lacks_inside : (n d : List ℕ) → Lacks close_brace n → Lacks close_brace d → Lacks close_brace (n ++ (colon ∷ minus_sign ∷ d))
lacks_inside n d hn hd = lacks_append 125 n (58 ∷ 45 ∷ d) hn (less_apart 58 125 (lit< tt), (less_apart 45 125 (lit< tt), hd))

-- a name, `}` and what follows are the braced text and what follows
pub finish_braced : (n rest : List ℕ) → n ++ (close_brace ∷ rest) ≡ (n ++ (close_brace ∷ [])) ++ rest
finish_braced n rest = sym (append_assoc n (125 ∷ []) rest)

-- the same with a default
pub finish_defaulted : (bs n d rest : List ℕ) → bs ≡ n ++ (colon ∷ minus_sign ∷ d) → bs ++ (close_brace ∷ rest) ≡ (n ++ (colon ∷ minus_sign ∷ (d ++ (close_brace ∷ [])))) ++ rest
finish_defaulted bs n d rest e =
    ap (λ t. t ++ (125 ∷ rest)) e
    ∙ append_assoc n (58 ∷ 45 ∷ d) (125 ∷ rest)
    ∙ ap (λ t. n ++ (58 ∷ 45 ∷ t)) (sym (append_assoc d (125 ∷ []) rest))
    ∙ sym (append_assoc n (58 ∷ 45 ∷ (d ++ (125 ∷ []))) rest)

-- the other way round
pub defaulted_shape : (n d u : List ℕ) → (n ++ (colon ∷ minus_sign ∷ (d ++ (close_brace ∷ [])))) ++ u ≡ (n ++ (colon ∷ minus_sign ∷ d)) ++ (close_brace ∷ u)
defaulted_shape n d u = sym (finish_defaulted (n ++ (58 ∷ 45 ∷ d)) n d u refl)
