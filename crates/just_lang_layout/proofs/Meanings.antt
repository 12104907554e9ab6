-- The text that a string means over an environment is one.
use Rattle.std.proofs.Common.{◌≡◌, ℕ, List, [], ◌∷◌, refl, sym, ◌∙◌, subst, ap, inl, inr, Bool, true, false}
use Rattle.std.specs.Prelude.{Option, Some, None}
use Rattle.std.specs.List.{FoldsTo}
use Rattle.just_path_text.specs.Environ.{home_of}
use Rattle.just_lang_syntax.specs.declared.ast.StringLiteral.{StringLiteral}
use Rattle.just_lang_syntax.specs.Meanings.{text_of}
use Rattle.just_expand.specs.Bytes.{tilde_sign}
use Rattle.just_expand.specs.Pieces.{Piece, HasOneCut}
use Rattle.just_expand.specs.Expansion.{question, Puts, ExpandsTo}
use Rattle.just_expand.specs.Contexts.{EnvironAnswers, IsHome}
use Rattle.just_expand.specs.Tilde.{CallsForHome, with_home, TildeExpandsTo, OwnTildeExpandsTo}
use Rattle.just_expand.proofs.Lists.{same_tail}
use Rattle.just_expand.proofs.OneCut.{one_cut}
use Rattle.just_lang_layout.proofs.Settled.{puts_once}
use Rattle.just_lang_layout.specs.Paths.{Pairs, Expands, ExpandsIf, MeansWith, Means}

abbrev State : Type 0
State = Pairs × List ℕ

-- pieces lead to one state
folds_once : (ps : List Piece) (s t u : State) → FoldsTo (Puts EnvironAnswers) s ps t → FoldsTo (Puts EnvironAnswers) s ps u → t ≡ u
folds_once [] s t u h k = sym h ∙ k
folds_once (p ∷ ps) s t u h k =
    let middle : k.0 ≡ h.0 = puts_once (question p) s p k.0 h.0 k.1 h.1 in
    let P : State → Type 0 = λ m. FoldsTo (Puts EnvironAnswers) m ps u in
    folds_once ps h.0 t u h.2 (subst P middle k.2)

-- the variables of a text become one text
variables_once : (environ : Pairs) (t u v : List ℕ) → ExpandsTo EnvironAnswers environ t u → ExpandsTo EnvironAnswers environ t v → u ≡ v
unfolding HasOneCut
variables_once environ t u v h k =
    let pieces : k.1.0 ≡ h.1.0 = one_cut t k.1.0 h.1.0 k.1.1 h.1.1 in
    let P : List Piece → Type 0 = λ ps. FoldsTo (Puts EnvironAnswers) (environ, []) ps (k.0, v) in
    ap (λ (x : State). x.1) (folds_once h.1.0 (environ, []) (h.0, u) (k.0, v) h.1.2 (subst P pieces k.1.2))

-- and so does its tilde
home_once : (t r w : List ℕ) (g h told : Option (List ℕ)) → CallsForHome t r → CallsForHome t w → g ≡ told → h ≡ told → with_home t r g ≡ with_home t w h
home_once t r w g h told a b e f =
    let rest : r ≡ w = same_tail tilde_sign tilde_sign r w (sym a.0 ∙ b.0) in
    ap (λ (k : List ℕ). with_home t k g) rest ∙ ap (λ (k : Option (List ℕ)). with_home t w k) (e ∙ sym f)

tilde_once : (told : Option (List ℕ)) (t u v : List ℕ) → TildeExpandsTo (IsHome told) t u → TildeExpandsTo (IsHome told) t v → u ≡ v
tilde_once told t u v (inl a) (inl b) = a.4 ∙ home_once t a.0 b.0 a.1 b.1 told a.2 b.2 a.3 b.3 ∙ sym b.4
tilde_once told t u v (inl a) (inr b) = absurd (b.0 a.0 a.2)
tilde_once told t u v (inr a) (inl b) = absurd (a.0 b.0 b.2)
tilde_once told t u v (inr a) (inr b) = a.1 ∙ sym b.1

own_tilde_once : (told : Option (List ℕ)) (t w u v : List ℕ) → OwnTildeExpandsTo (IsHome told) t w u → OwnTildeExpandsTo (IsHome told) t w v → u ≡ v
own_tilde_once told t w u v (inl a) (inl b) = a.1 ∙ sym b.1
own_tilde_once told t w u v (inl a) (inr b) = absurd (b.0 a.0)
own_tilde_once told t w u v (inr a) (inl b) = absurd (a.0 b.0)
own_tilde_once told t w u v (inr a) (inr b) = tilde_once told w u v a.1 b.1

-- a text has one expansion
expands_once : (environ : Pairs) (t u v : List ℕ) → Expands environ t u → Expands environ t v → u ≡ v
expands_once environ t u v h k =
    let middle : k.0 ≡ h.0 = variables_once environ t k.0 h.0 k.1 h.1 in
    let P : List ℕ → Type 0 = λ w. OwnTildeExpandsTo (IsHome (home_of environ)) t w v in
    own_tilde_once (home_of environ) t h.0 u v h.2 (subst P middle k.2)

if_once : (environ : Pairs) (t a b : Option (List ℕ)) → ExpandsIf environ t a → ExpandsIf environ t b → a ≡ b
if_once environ None a b h k = h ∙ sym k
if_once environ (Some t) None None h k = refl
if_once environ (Some t) None (Some v) h k = absurd (h v k)
if_once environ (Some t) (Some u) None h k = absurd (k u h)
if_once environ (Some t) (Some u) (Some v) h k = ap Some (expands_once environ t u v h k)

with_once : (expands : Bool) (environ : Pairs) (t a b : Option (List ℕ)) → MeansWith expands environ t a → MeansWith expands environ t b → a ≡ b
with_once true environ t a b h k = if_once environ t a b h k
with_once false environ t a b h k = h ∙ sym k

-- a string means one text
pub means_once : (environ : Pairs) (x : StringLiteral) (a b : Option (List ℕ)) → Means environ x a → Means environ x b → a ≡ b
means_once environ x a b h k = with_once x.expands environ (text_of x) a b h k
