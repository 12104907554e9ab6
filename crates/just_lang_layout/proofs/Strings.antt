-- What a string means, with an `x` in front and without.
use Rattle.std.proofs.Common.{◌≡◌, ℕ, List, Bool, true, false, refl, sym, subst}
use Rattle.std.specs.Prelude.{Option, Some, None}
use Rattle.just_lang_syntax.specs.declared.ast.StringLiteral.{StringLiteral}
use Rattle.just_lang_syntax.specs.Meanings.{text_of}
use Rattle.just_lang_layout.specs.Paths.{Pairs, ExpandsIf, MeansWith, Means}

-- a string that is no text means none, expanded or not
none_with : (b : Bool) (e : Pairs) (t : Option (List ℕ)) → t ≡ None → MeansWith b e t None
none_with true e t h = subst (λ (u : Option (List ℕ)). ExpandsIf e u None) (sym h) refl
none_with false e t h = sym h

pub none_meant : (e : Pairs) (s : StringLiteral) → text_of s ≡ None → Means e s None
none_meant e s h = none_with s.expands e (text_of s) h

-- one without an `x` in front means its text
pub as_it_stands : (e : Pairs) (s : StringLiteral) (t : List ℕ) → text_of s ≡ Some t → s.expands ≡ false → Means e s (Some t)
as_it_stands e s t h k = subst (λ (b : Bool). MeansWith b e (text_of s) (Some t)) (sym k) (sym h)

-- one with an `x` in front means what its text becomes
pub by_expansion : (e : Pairs) (s : StringLiteral) (t : List ℕ) (out : Option (List ℕ)) → text_of s ≡ Some t → s.expands ≡ true → ExpandsIf e (Some t) out → Means e s out
by_expansion e s t out h k x = subst (λ (b : Bool). MeansWith b e (text_of s) out) (sym k) (subst (λ (u : Option (List ℕ)). ExpandsIf e u out) (sym h) x)
