-- Each string means one text over an environment, or none.
use Rattle.std.proofs.Common.{◌≡◌, ◌⊎◌, ℕ, List, [], Bool, true, false, refl, sym, subst, inl, inr}
use Rattle.std.specs.Prelude.{Option, Some, None, Ok, Err, encode_utf8_all, if◌then◌else◌}
use Rattle.just_lang_read.specs.Place.{Place, start}
use Rattle.just_lang_read.specs.Quotes.{is_cooked}
use Rattle.just_lang_read.specs.Reader.{Outcome, many}
use Rattle.just_lang_read.specs.Tokens.{piece}
use Rattle.just_lang_syntax.specs.declared.ast.StringLiteral.{StringLiteral}
use Rattle.just_lang_syntax.specs.Meanings.{text_of, text_with, text_from, cooked_text, is_on}
use Rattle.just_lang_syntax.specs.Strings.{plain_text, concat}
use Rattle.just_lang_layout.proofs.Settled.{Settled, settled}
use Rattle.just_lang_layout.specs.Paths.{Pairs, Expands, ExpandsIf, MeansWith, Means}

-- none, or the text of some characters
abbrev Spelled : Option (List ℕ) → Type 0
Spelled t = (t ≡ None) ⊎ ((cs : List ℕ) × (t ≡ Some (encode_utf8_all cs)))

spelled_with : (r : Outcome (List (List ℕ))) → Spelled (text_with [] r)
spelled_with (Ok s) = inr (concat s.0, refl)
spelled_with (Err e) = inl refl

spelled_from : (p : Place) → Spelled (text_from [] p)
unfolding text_from
spelled_from p = spelled_with (many is_on (piece true) p)

spelled_by : (x : StringLiteral) (b : Bool) → Spelled (if b then cooked_text (plain_text x) else Some (encode_utf8_all (plain_text x)))
spelled_by x true = spelled_from (start (plain_text x))
spelled_by x false = inr (plain_text x, refl)

spelled : (x : StringLiteral) → Spelled (text_of x)
spelled x = spelled_by x (is_cooked x.quote)

expands_by : (environ : Pairs) (cs : List ℕ) → Settled (Expands environ (encode_utf8_all cs)) → (out : Option (List ℕ)) × ExpandsIf environ (Some (encode_utf8_all cs)) out
expands_by environ cs (inl r) = (Some r.0, r.1)
expands_by environ cs (inr never) = (None, never)

expands_if : (environ : Pairs) (t : Option (List ℕ)) → Spelled t → (out : Option (List ℕ)) × ExpandsIf environ t out
expands_if environ t (inl e) = (None, subst (λ (k : Option (List ℕ)). ExpandsIf environ k None) (sym e) refl)
expands_if environ t (inr s) =
    let r = expands_by environ s.0 (settled environ s.0) in
    (r.0, subst (λ (k : Option (List ℕ)). ExpandsIf environ k r.0) (sym s.1) r.1)

means_with : (b : Bool) (environ : Pairs) (t : Option (List ℕ)) → Spelled t → (out : Option (List ℕ)) × MeansWith b environ t out
means_with true environ t s = expands_if environ t s
means_with false environ t s = (t, refl)

-- the text that a string means, or that it means none
pub text_meant : (environ : Pairs) (x : StringLiteral) → (out : Option (List ℕ)) × Means environ x out
text_meant environ x = means_with x.expands environ (text_of x) (spelled x)
