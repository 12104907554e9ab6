-- A text is cut into pieces in one way.
use Rattle.std.proofs.Common.{◌≡◌, ◌≢◌, ℕ, List, [], ◌∷◌, ◌++◌, refl, sym, ◌∙◌, ap, subst, inl, inr, lit<}
use Rattle.just_expand.specs.Bytes.{dollar_sign, open_brace, close_brace}
use Rattle.just_expand.specs.Pieces.{Piece, plain, dollar, bare, braced, defaulted, unclosed, lone, piece_text, StandsBefore, Cuts, Lacks, BeginsWithout, BeginsWithoutName, EndsOrBegins, IsNameRun, HasOneCut}
use Rattle.just_expand.proofs.Lists.{same_head, same_tail, less_apart}
use Rattle.just_expand.proofs.Names.{no_name, same_name, no_dollar_name, no_brace_name}
use Rattle.just_expand.proofs.Braces.{same_inside, not_closed, same_default, no_default, lacks_inside, finish_braced, defaulted_shape}

-- plain text doesn't begin with `$`
plain_not_dollar : (x u w : List ℕ) → x ≢ [] → Lacks dollar_sign x → x ++ u ≡ dollar_sign ∷ w → ⊥
plain_not_dollar [] u w n h e = n refl
plain_not_dollar (x ∷ xs) u w n h e = h.0 (same_head x 36 (xs ++ u) w e)

-- where plain text stops, nothing but `$` follows
no_other_at_stop : (y : ℕ) (ys u : List ℕ) → EndsOrBegins dollar_sign u → y ≢ 36 → u ≡ y ∷ ys → ⊥
no_other_at_stop y ys u (inl e) n h = cc
no_other_at_stop y ys u (inr r) n h = n (same_head y 36 ys r.0 (sym h ∙ r.1))

-- plain text in front of one text is one, and so is what stands behind it
same_plain : (x y u v : List ℕ) → x ++ u ≡ y ++ v → Lacks dollar_sign x → EndsOrBegins dollar_sign u → Lacks dollar_sign y → EndsOrBegins dollar_sign v → (x ≡ y) × (u ≡ v)
same_plain [] [] u v e hx hu hy hv = (refl, e)
same_plain [] (y ∷ ys) u v e hx hu hy hv = absurd (no_other_at_stop y (ys ++ v) u hu hy.0 e)
same_plain (x ∷ xs) [] u v e hx hu hy hv = absurd (no_other_at_stop x (xs ++ u) v hv hx.0 (sym e))
same_plain (x ∷ xs) (y ∷ ys) u v e hx hu hy hv =
    let rest = same_plain xs ys u v (same_tail x y (xs ++ u) (ys ++ v) e) hx.1 hu hy.1 hv in
    (ap (λ k. k ∷ xs) (same_head x y (xs ++ u) (ys ++ v) e) ∙ ap (λ k. y ∷ k) rest.0, rest.1)

-- behind two equal bytes equal texts follow
second_tail : (x y : List ℕ) → dollar_sign ∷ open_brace ∷ x ≡ dollar_sign ∷ open_brace ∷ y → x ≡ y
second_tail x y e = same_tail 123 123 x y (same_tail 36 36 (123 ∷ x) (123 ∷ y) e)

-- two texts in braces are one, and so is what stands behind them
closed_same : (x y i j u v : List ℕ) → dollar_sign ∷ open_brace ∷ x ≡ dollar_sign ∷ open_brace ∷ y → x ≡ i ++ (close_brace ∷ u) → y ≡ j ++ (close_brace ∷ v) → Lacks close_brace i → Lacks close_brace j → (i ≡ j) × (u ≡ v)
closed_same x y i j u v e ex ey hi hj = same_inside i j u v (sym ex ∙ second_tail x y e ∙ ey) hi hj

-- a text in braces is no `${` that no `}` closes
closed_open : (x w i u : List ℕ) → dollar_sign ∷ open_brace ∷ x ≡ dollar_sign ∷ open_brace ∷ w → x ≡ i ++ (close_brace ∷ u) → Lacks close_brace w → ⊥
closed_open x w i u e ex hw = not_closed i u w (sym (second_tail x w e) ∙ ex) hw

-- `$$` is no `${`
dollar_brace : (x y : List ℕ) → dollar_sign ∷ dollar_sign ∷ x ≡ dollar_sign ∷ open_brace ∷ y → ⊥
dollar_brace x y e = less_apart 36 123 (lit< tt) (same_head 36 123 x y (same_tail 36 36 (36 ∷ x) (123 ∷ y) e))

-- `$$` is no name without braces
dollar_bare : (x n v : List ℕ) → dollar_sign ∷ dollar_sign ∷ x ≡ dollar_sign ∷ (n ++ v) → n ≢ [] → IsNameRun n → ⊥
dollar_bare x n v e some run = no_dollar_name n v x some run (sym (same_tail 36 36 (36 ∷ x) (n ++ v) e))

-- `${` is no name without braces
brace_bare : (x n v : List ℕ) → dollar_sign ∷ open_brace ∷ x ≡ dollar_sign ∷ (n ++ v) → n ≢ [] → IsNameRun n → ⊥
brace_bare x n v e some run = no_brace_name n v x some run (sym (same_tail 36 36 (123 ∷ x) (n ++ v) e))

-- `$$` is no other `$`
dollar_lone : (x u : List ℕ) → dollar_sign ∷ dollar_sign ∷ x ≡ dollar_sign ∷ u → BeginsWithout dollar_sign u → ⊥
dollar_lone x u e h = h x (sym (same_tail 36 36 (36 ∷ x) u e))

-- `${` is no other `$`
brace_lone : (x u : List ℕ) → dollar_sign ∷ open_brace ∷ x ≡ dollar_sign ∷ u → BeginsWithout open_brace u → ⊥
brace_lone x u e h = h x (sym (same_tail 36 36 (123 ∷ x) u e))

-- a name without braces is no other `$`
bare_lone : (n v u : List ℕ) → dollar_sign ∷ (n ++ v) ≡ dollar_sign ∷ u → n ≢ [] → IsNameRun n → BeginsWithoutName u → ⊥
bare_lone n v u e some run h = no_name n v some run (subst BeginsWithoutName (sym (same_tail 36 36 (n ++ v) u e)) h)

-- two names without braces are one, and so is what stands behind them
bare_bare : (n m u v : List ℕ) → dollar_sign ∷ (n ++ u) ≡ dollar_sign ∷ (m ++ v) → IsNameRun n → BeginsWithoutName u → IsNameRun m → BeginsWithoutName v → (n ≡ m) × (u ≡ v)
bare_bare n m u v e hn hu hm hv =
    let both = same_name hn.0 hm.0 u v (ap (λ t. t ++ u) (sym hn.1) ∙ same_tail 36 36 (n ++ u) (m ++ v) e ∙ ap (λ t. t ++ v) hm.1) hn.2 hu hm.2 hv in
    (hn.1 ∙ both.0 ∙ sym hm.1, both.1)

-- the first piece of a text is one, and so is what stands behind it
pub unique : (p q : Piece) (u v : List ℕ) → piece_text p ++ u ≡ piece_text q ++ v → StandsBefore p u → StandsBefore q v → (p ≡ q) × (u ≡ v)
unique (plain x) (plain y) u v e h k = let same = same_plain x y u v e h.1 h.2 k.1 k.2 in (ap plain same.0, same.1)
unique (plain x) dollar u v e h k = absurd (plain_not_dollar x u _ h.0 h.1 e)
unique (plain x) (bare m) u v e h k = absurd (plain_not_dollar x u _ h.0 h.1 e)
unique (plain x) (braced m) u v e h k = absurd (plain_not_dollar x u _ h.0 h.1 e)
unique (plain x) (defaulted m c) u v e h k = absurd (plain_not_dollar x u _ h.0 h.1 e)
unique (plain x) unclosed u v e h k = absurd (plain_not_dollar x u _ h.0 h.1 e)
unique (plain x) lone u v e h k = absurd (plain_not_dollar x u _ h.0 h.1 e)
unique dollar (plain y) u v e h k = absurd (plain_not_dollar y v _ k.0 k.1 (sym e))
unique dollar dollar u v e h k = (refl, same_tail 36 36 u v (same_tail 36 36 (36 ∷ u) (36 ∷ v) e))
unique dollar (bare m) u v e h k = absurd (dollar_bare u m v e k.0 k.1)
unique dollar (braced m) u v e h k = absurd (dollar_brace u _ e)
unique dollar (defaulted m c) u v e h k = absurd (dollar_brace u _ e)
unique dollar unclosed u v e h k = absurd (dollar_brace u v e)
unique dollar lone u v e h k = absurd (dollar_lone u v e k.0)
unique (bare n) (plain y) u v e h k = absurd (plain_not_dollar y v _ k.0 k.1 (sym e))
unique (bare n) dollar u v e h k = absurd (dollar_bare v n u (sym e) h.0 h.1)
unique (bare n) (bare m) u v e h k = let same = bare_bare n m u v e h.1 h.2 k.1 k.2 in (ap bare same.0, same.1)
unique (bare n) (braced m) u v e h k = absurd (brace_bare _ n u (sym e) h.0 h.1)
unique (bare n) (defaulted m c) u v e h k = absurd (brace_bare _ n u (sym e) h.0 h.1)
unique (bare n) unclosed u v e h k = absurd (brace_bare v n u (sym e) h.0 h.1)
unique (bare n) lone u v e h k = absurd (bare_lone n u v e h.0 h.1 k.2)
unique (braced n) (plain y) u v e h k = absurd (plain_not_dollar y v _ k.0 k.1 (sym e))
unique (braced n) dollar u v e h k = absurd (dollar_brace v _ (sym e))
unique (braced n) (bare m) u v e h k = absurd (brace_bare _ m v e k.0 k.1)
unique (braced n) (braced m) u v e h k =
    let same = closed_same _ _ n m u v e (sym (finish_braced n u)) (sym (finish_braced m v)) h.0 k.0 in (ap braced same.0, same.1)
unique (braced n) (defaulted m c) u v e h k =
    let same = closed_same _ _ n (m ++ (58 ∷ 45 ∷ c)) u v e (sym (finish_braced n u)) (defaulted_shape m c v) h.0 (lacks_inside m c k.1 k.3) in absurd (no_default n m c same.0 h.1 k.0 k.2)
unique (braced n) unclosed u v e h k = absurd (closed_open _ v n u e (sym (finish_braced n u)) k)
unique (braced n) lone u v e h k = absurd (brace_lone _ v e k.1)
unique (defaulted n d) (plain y) u v e h k = absurd (plain_not_dollar y v _ k.0 k.1 (sym e))
unique (defaulted n d) dollar u v e h k = absurd (dollar_brace v _ (sym e))
unique (defaulted n d) (bare m) u v e h k = absurd (brace_bare _ m v e k.0 k.1)
unique (defaulted n d) (braced m) u v e h k =
    let same = closed_same _ _ (n ++ (58 ∷ 45 ∷ d)) m u v e (defaulted_shape n d u) (sym (finish_braced m v)) (lacks_inside n d h.1 h.3) k.0 in absurd (no_default m n d (sym same.0) k.1 h.0 h.2)
unique (defaulted n d) (defaulted m c) u v e h k =
    let same = closed_same _ _ (n ++ (58 ∷ 45 ∷ d)) (m ++ (58 ∷ 45 ∷ c)) u v e (defaulted_shape n d u) (defaulted_shape m c v) (lacks_inside n d h.1 h.3) (lacks_inside m c k.1 k.3) in
    let parts = same_default n m d c same.0 h.2 k.2 in
    (ap (λ t. defaulted t d) parts.0 ∙ ap (λ t. defaulted m t) parts.1, same.1)
unique (defaulted n d) unclosed u v e h k = absurd (closed_open _ v (n ++ (58 ∷ 45 ∷ d)) u e (defaulted_shape n d u) k)
unique (defaulted n d) lone u v e h k = absurd (brace_lone _ v e k.1)
unique unclosed (plain y) u v e h k = absurd (plain_not_dollar y v _ k.0 k.1 (sym e))
unique unclosed dollar u v e h k = absurd (dollar_brace v u (sym e))
unique unclosed (bare m) u v e h k = absurd (brace_bare u m v e k.0 k.1)
unique unclosed (braced m) u v e h k = absurd (closed_open _ u m v (sym e) (sym (finish_braced m v)) h)
unique unclosed (defaulted m c) u v e h k = absurd (closed_open _ u (m ++ (58 ∷ 45 ∷ c)) v (sym e) (defaulted_shape m c v) h)
unique unclosed unclosed u v e h k = (refl, second_tail u v e)
unique unclosed lone u v e h k = absurd (brace_lone u v e k.1)
unique lone (plain y) u v e h k = absurd (plain_not_dollar y v _ k.0 k.1 (sym e))
unique lone dollar u v e h k = absurd (dollar_lone v u (sym e) h.0)
unique lone (bare m) u v e h k = absurd (bare_lone m v u (sym e) k.0 k.1 h.2)
unique lone (braced m) u v e h k = absurd (brace_lone _ u (sym e) h.1)
unique lone (defaulted m c) u v e h k = absurd (brace_lone _ u (sym e) h.1)
unique lone unclosed u v e h k = absurd (brace_lone v u (sym e) h.1)
unique lone lone u v e h k = (refl, same_tail 36 36 u v e)

-- a piece takes a byte at least
pieces_take : (p : Piece) (u : List ℕ) → StandsBefore p u → [] ≡ piece_text p ++ u → ⊥
pieces_take (plain []) u h e = h.0 refl
pieces_take (plain (x ∷ xs)) u h e = cc
pieces_take dollar u h e = cc
pieces_take (bare n) u h e = cc
pieces_take (braced n) u h e = cc
pieces_take (defaulted n d) u h e = cc
pieces_take unclosed u h e = cc
pieces_take lone u h e = cc

-- two cuts of a whole text are one
same_cut : (t : List ℕ) (ps qs : List Piece) → Cuts t ps [] → Cuts t qs [] → ps ≡ qs
same_cut t [] [] c d = refl
same_cut t [] (q ∷ qs) c d = absurd (pieces_take q d.0 d.1.1 (sym c ∙ d.1.0))
same_cut t (p ∷ ps) [] c d = absurd (pieces_take p c.0 c.1.1 (sym d ∙ c.1.0))
same_cut t (p ∷ ps) (q ∷ qs) c d =
    let first = unique p q c.0 d.0 (sym c.1.0 ∙ d.1.0) c.1.1 d.1.1 in
    let P : List ℕ → Type 0 = λ w. Cuts w ps [] in
    let rest = same_cut d.0 ps qs (subst P first.1 c.2) d.2 in
    ap (λ k. k ∷ ps) first.0 ∙ ap (λ k. q ∷ k) rest

-- a text has one cut at most
pub one_cut : (t : List ℕ) → HasOneCut t
unfolding HasOneCut
one_cut t = same_cut t
