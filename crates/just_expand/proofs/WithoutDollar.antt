-- A text without `$` is its own expansion, and asks for nothing.
use Rattle.std.proofs.Common.{◌≡◌, ℕ, List, [], ◌∷◌, refl, sym, inl, subst}
use Rattle.std.proofs.lemmas.List.{append-nil}
use Rattle.std.specs.Prelude.{Some}
use Rattle.just_expand.specs.Bytes.{dollar_sign}
use Rattle.just_expand.specs.Pieces.{Piece, Lacks, Begins, Cuts, plain, dollar, bare, braced, defaulted, unclosed, lone}
use Rattle.just_expand.specs.Expansion.{Reply, ExpandsTo, AsksNothing, question}
use Rattle.just_expand.proofs.NextPiece.{lacks_behind}

-- a text without `$` becomes itself
pub expands_to_itself : {S E : Type 0} (asks : S → List ℕ → Reply E → S → Type 0) (s : S) (t : List ℕ) → Lacks dollar_sign t → ExpandsTo asks s t t
expands_to_itself asks s [] h = (s, ([], refl, refl))
expands_to_itself asks s (x ∷ xs) h =
    (s, (plain (x ∷ xs) ∷ [], ([], (sym (append-nil (x ∷ xs)), ((λ e. cc), h, inl refl)), refl), ((s, x ∷ xs), (refl, refl), refl)))

-- behind pieces of a text without `$` none stands
lacks_cut : (t : List ℕ) (ps : List Piece) (rest : List ℕ) → Cuts t ps rest → Lacks dollar_sign t → Lacks dollar_sign rest
lacks_cut t [] rest e h = subst (Lacks dollar_sign) e h
lacks_cut t (p ∷ ps) rest c h = lacks_cut c.0 ps rest c.2 (lacks_behind 36 t p c.0 c.1 h)

-- no piece of it asks
no_question : (t : List ℕ) (p : Piece) (behind n : List ℕ) → Lacks dollar_sign t → Begins t p behind → question p ≡ Some n → ⊥
no_question t (plain x) behind n h b e = cc
no_question t dollar behind n h b e = cc
no_question t (bare m) behind n h b e = (subst (Lacks dollar_sign) b.0 h).0 refl
no_question t (braced m) behind n h b e = (subst (Lacks dollar_sign) b.0 h).0 refl
no_question t (defaulted m d) behind n h b e = (subst (Lacks dollar_sign) b.0 h).0 refl
no_question t unclosed behind n h b e = cc
no_question t lone behind n h b e = cc

-- so nothing is asked for
pub asks_nothing : {S E : Type 0} (asks : S → List ℕ → Reply E → S → Type 0) (s : S) (t : List ℕ) → Lacks dollar_sign t → AsksNothing asks s t
unfolding AsksNothing
asks_nothing asks s t h = λ rest out s' p behind n r b q. no_question rest p behind n (lacks_cut t r.0 rest r.1 h) b q
