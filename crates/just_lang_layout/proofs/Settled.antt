-- What a text of characters becomes over an environment is settled: one text, or none.
use Rattle.std.proofs.Common.{◌≡◌, ◌⊎◌, ℕ, List, [], ◌∷◌, ◌++◌, ◌==◌, Bool, true, false, refl, sym, ◌∙◌, ap, subst, inl, inr, arith}
use Rattle.std.specs.Prelude.{Option, Some, None, Result, Ok, Err}
use Rattle.std.specs.List.{FoldsTo}
use Rattle.std.specs.Str.{encode_utf8_all}
use Rattle.std.proofs.lemmas.Bool.Decides.{nat_tests}
use Rattle.just_path_text.specs.Environ.{home_of, value_of}
use Rattle.just_expand.specs.Bytes.{dollar_sign, tilde_sign, slash}
use Rattle.just_expand.specs.Pieces.{Piece, Cuts, HasOneCut, Lacks, BeginsWithout, EndsOrBegins}
use Rattle.just_expand.specs.Expansion.{Reply, question, outcome, own_text, Puts, PutsBy, ExpandsTo}
use Rattle.just_expand.specs.Contexts.{EnvironAnswers, environ_reply, IsHome}
use Rattle.just_expand.specs.Tilde.{CallsForHome, NeedsNoHome, with_home, TildeExpandsTo, BringsTilde, OwnTildeExpandsTo, FullyExpandsTo}
use Rattle.just_expand.specs.declared.error.NotPresent.{NotPresent}
use Rattle.just_lang_layout.proofs.CutsExist.{cuts}
use Rattle.just_expand.proofs.Lists.{same_tail, same_head}
use Rattle.just_expand.proofs.OneCut.{one_cut}

abbrev Pairs : Type 0
Pairs = List (List ℕ × List ℕ)

abbrev State : Type 0
State = Pairs × List ℕ

-- something holds of one, or of none
abbrev pub Settled : {A : Type 0} → (A → Type 0) → Type 0
Settled {A} P = ((a : A) × P a) ⊎ ((a : A) → P a → ⊥)

pair_same : (a b : State) → a.0 ≡ b.0 → a.1 ≡ b.1 → a ≡ b
pair_same a b e f = ap (λ (k : Pairs). (k, a.1)) e ∙ ap (λ (k : List ℕ). (b.0, k)) f

outcome_once : (p : Piece) (r s : Reply NotPresent) (u v : List ℕ) → r ≡ s → outcome p r ≡ Ok u → outcome p s ≡ Ok v → u ≡ v
outcome_once p r s u v e h k = cc

-- a piece leads to one state
pub puts_once : (q : Option (List ℕ)) (s : State) (p : Piece) (t u : State) → PutsBy EnvironAnswers q s p t → PutsBy EnvironAnswers q s p u → t ≡ u
puts_once None s p t u h k = pair_same t u (h.0 ∙ sym k.0) (h.1 ∙ sym k.1)
puts_once (Some n) s p t u h k =
    let text : h.1 ≡ k.1 = outcome_once p h.0 k.0 h.1 k.1 (h.2.0 ∙ sym k.2.0) h.3 k.3 in
    pair_same t u (h.2.1 ∙ sym k.2.1) (h.4 ∙ ap (λ (w : List ℕ). s.1 ++ w) text ∙ sym k.4)

-- ---- the pieces

-- what a piece puts behind a text, if it puts something
abbrev PutsText : Option (List ℕ) → State → Piece → List ℕ → Type 0
PutsText q s p u = PutsBy EnvironAnswers q s p (s.0, s.1 ++ u)

abbrev PutsNothing : Option (List ℕ) → State → Piece → Type 0
PutsNothing q s p = (t : State) → PutsBy EnvironAnswers q s p t → ⊥

puts_asked : (n : List ℕ) (s : State) (p : Piece) (r : Result (List ℕ) NotPresent) → outcome p (environ_reply (value_of n s.0)) ≡ r
    → ((u : List ℕ) × PutsText (Some n) s p u) ⊎ PutsNothing (Some n) s p
puts_asked n s p (Ok u) e = inl (u, (environ_reply (value_of n s.0), u, (refl, refl), e, refl))
puts_asked n s p (Err f) e = inr (λ t k. let o : Err f ≡ Ok k.1 = sym e ∙ ap (outcome p) (sym k.2.0) ∙ k.3 in cc)

puts : (q : Option (List ℕ)) (s : State) (p : Piece) → ((u : List ℕ) × PutsText q s p u) ⊎ PutsNothing q s p
puts None s p = inl (own_text p, (refl, refl))
puts (Some n) s p = puts_asked n s p (outcome p (environ_reply (value_of n s.0))) refl

abbrev Folds : Pairs → List ℕ → List Piece → List ℕ → Type 0
Folds environ out ps last = FoldsTo (Puts EnvironAnswers) (environ, out) ps (environ, last)

abbrev FoldsNowhere : Pairs → List ℕ → List Piece → Type 0
FoldsNowhere environ out ps = (t : State) → FoldsTo (Puts EnvironAnswers) (environ, out) ps t → ⊥

folds_on : (environ : Pairs) (out : List ℕ) (p : Piece) (ps : List Piece) (u : List ℕ) → PutsText (question p) (environ, out) p u
    → ((last : List ℕ) × Folds environ (out ++ u) ps last) ⊎ FoldsNowhere environ (out ++ u) ps
    → ((last : List ℕ) × Folds environ out (p ∷ ps) last) ⊎ FoldsNowhere environ out (p ∷ ps)
folds_on environ out p ps u h (inl r) = inl (r.0, ((environ, out ++ u), h, r.1))
folds_on environ out p ps u h (inr never) =
    inr (λ t k.
    let middle : k.0 ≡ (environ, out ++ u) = puts_once (question p) (environ, out) p k.0 (environ, out ++ u) k.1 h in
    let P : State → Type 0 = λ m. FoldsTo (Puts EnvironAnswers) m ps t in
    never t (subst P middle k.2))

folds_behind : (environ : Pairs) (out : List ℕ) (p : Piece) (ps : List Piece) → ((u : List ℕ) × PutsText (question p) (environ, out) p u) ⊎ PutsNothing (question p) (environ, out) p
    → ((now : List ℕ) → ((last : List ℕ) × Folds environ now ps last) ⊎ FoldsNowhere environ now ps)
    → ((last : List ℕ) × Folds environ out (p ∷ ps) last) ⊎ FoldsNowhere environ out (p ∷ ps)
folds_behind environ out p ps (inl h) more = folds_on environ out p ps h.0 h.1 (more (out ++ h.0))
folds_behind environ out p ps (inr never) more = inr (λ t k. never k.0 k.1)

folds : (environ : Pairs) (out : List ℕ) (ps : List Piece) → ((last : List ℕ) × Folds environ out ps last) ⊎ FoldsNowhere environ out ps
folds environ out [] = inl (out, refl)
folds environ out (p ∷ ps) = folds_behind environ out p ps (puts (question p) (environ, out) p) (λ now. folds environ now ps)

variables_by : (environ : Pairs) (t : List ℕ) (ps : List Piece) → Cuts t ps [] → ((last : List ℕ) × Folds environ [] ps last) ⊎ FoldsNowhere environ [] ps
    → Settled (ExpandsTo EnvironAnswers environ t)
unfolding HasOneCut
variables_by environ t ps cut (inl r) = inl (r.0, (environ, (ps, cut, r.1)))
variables_by environ t ps cut (inr never) =
    inr (λ out k.
    let same : k.1.0 ≡ ps = one_cut t k.1.0 ps k.1.1 cut in
    let P : List Piece → Type 0 = λ qs. FoldsTo (Puts EnvironAnswers) (environ, []) qs (k.0, out) in
    never (k.0, out) (subst P same k.1.2))

variables : (environ : Pairs) (cs : List ℕ) → Settled (ExpandsTo EnvironAnswers environ (encode_utf8_all cs))
variables environ cs = let c = cuts cs in variables_by environ (encode_utf8_all cs) c.0 c.1 (folds environ [] c.0)

-- ---- the tilde

abbrev Either : Type 0 → Type 0
Either P = P ⊎ (P → ⊥)

same_byte : (b c : ℕ) → (c == b) ≡ true → c ≡ b
same_byte b c e = grind (arith, nat_tests)

other_byte : (b c : ℕ) → (c == b) ≡ false → c ≡ b → ⊥
other_byte b c e h = grind (arith, nat_tests)

begins_by : (b c : ℕ) (t : List ℕ) (x : Bool) → (c == b) ≡ x → ((rest : List ℕ) × (c ∷ t ≡ b ∷ rest)) ⊎ BeginsWithout b (c ∷ t)
begins_by b c t true e = inl (t, ap (λ (k : ℕ). k ∷ t) (same_byte b c e))
begins_by b c t false e = inr (λ rest f. other_byte b c e (same_head c b t rest f))

begins : (b : ℕ) (t : List ℕ) → ((rest : List ℕ) × (t ≡ b ∷ rest)) ⊎ BeginsWithout b t
begins b [] = inr (λ rest e. cc)
begins b (c ∷ t) = begins_by b c t (c == b) refl

lacks_by : (b c : ℕ) (t : List ℕ) (x : Bool) → (c == b) ≡ x → Either (Lacks b t) → Either (Lacks b (c ∷ t))
lacks_by b c t true e r = inr (λ l. l.0 (same_byte b c e))
lacks_by b c t false e (inl l) = inl (other_byte b c e, l)
lacks_by b c t false e (inr never) = inr (λ l. never l.1)

lacks : (b : ℕ) (t : List ℕ) → Either (Lacks b t)
lacks b [] = inl tt
lacks b (c ∷ t) = lacks_by b c t (c == b) refl (lacks b t)

brings_by : (t u : List ℕ) → Either (Lacks dollar_sign t) → ((rest : List ℕ) × (t ≡ tilde_sign ∷ rest)) ⊎ BeginsWithout tilde_sign t
    → ((rest : List ℕ) × (u ≡ tilde_sign ∷ rest)) ⊎ BeginsWithout tilde_sign u → Either (BringsTilde t u)
brings_by t u (inl l) x y = inr (λ h. h.0 l)
brings_by t u (inr never) (inl x) y = inr (λ h. h.1.0 x.0 x.1)
brings_by t u (inr never) (inr x) (inl y) = inl (never, (x, y))
brings_by t u (inr never) (inr x) (inr y) = inr (λ h. y h.1.1.0 h.1.1.1)

no_end : (c : ℕ) (t : List ℕ) → BeginsWithout slash (c ∷ t) → EndsOrBegins slash (c ∷ t) → ⊥
no_end c t x (inl e) = cc
no_end c t x (inr r) = x r.0 r.1

ends_by : (t : List ℕ) → ((rest : List ℕ) × (t ≡ slash ∷ rest)) ⊎ BeginsWithout slash t → Either (EndsOrBegins slash t)
ends_by [] x = inl (inl refl)
ends_by (c ∷ t) (inl x) = inl (inr x)
ends_by (c ∷ t) (inr x) = inr (λ h. no_end c t x h)

calls_by : (u rest : List ℕ) → u ≡ tilde_sign ∷ rest → Either (EndsOrBegins slash rest) → ((r : List ℕ) × CallsForHome u r) ⊎ NeedsNoHome u
calls_by u rest e (inl h) = inl (rest, (e, h))
calls_by u rest e (inr never) = inr (λ r k. never (subst (EndsOrBegins slash) (same_tail 126 126 r rest (sym k.0 ∙ e)) k.1))

calls : (u : List ℕ) → ((rest : List ℕ) × (u ≡ tilde_sign ∷ rest)) ⊎ BeginsWithout tilde_sign u → ((r : List ℕ) × CallsForHome u r) ⊎ NeedsNoHome u
calls u (inl x) = calls_by u x.0 x.1 (ends_by x.0 (begins 47 x.0))
calls u (inr x) = inr (λ r k. x r k.0)

tilde_by : (told : Option (List ℕ)) (u : List ℕ) → ((r : List ℕ) × CallsForHome u r) ⊎ NeedsNoHome u → (out : List ℕ) × TildeExpandsTo (IsHome told) u out
tilde_by told u (inl c) = (with_home u c.0 told, inl (c.0, told, c.1, refl, refl))
tilde_by told u (inr n) = (u, inr (n, refl))

own_by : (told : Option (List ℕ)) (t u : List ℕ) → Either (BringsTilde t u) → (out : List ℕ) × OwnTildeExpandsTo (IsHome told) t u out
own_by told t u (inl h) = (u, inl (h, refl))
own_by told t u (inr never) = let r = tilde_by told u (calls u (begins 126 u)) in (r.0, inr (never, r.1))

-- ---- both

both_by : (environ : Pairs) (t : List ℕ) → Settled (ExpandsTo EnvironAnswers environ t) → Settled (FullyExpandsTo EnvironAnswers (IsHome (home_of environ)) environ t)
both_by environ t (inl v) =
    let own = own_by (home_of environ) t v.0 (brings_by t v.0 (lacks 36 t) (begins 126 t) (begins 126 v.0)) in
    inl (own.0, (v.0, v.1, own.1))
both_by environ t (inr never) = inr (λ out k. never k.0 k.1)

-- what a text of characters becomes fully over an environment is settled
pub settled : (environ : Pairs) (cs : List ℕ) → Settled (FullyExpandsTo EnvironAnswers (IsHome (home_of environ)) environ (encode_utf8_all cs))
settled environ cs = both_by environ (encode_utf8_all cs) (variables environ cs)
