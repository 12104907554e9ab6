-- Tildes: what stripping one says, and what becomes of one.
use Rattle.std.proofs.Common.{◌≡◌, ◌≢◌, ℕ, List, [], ◌∷◌, ◌++◌, ◌<◌, refl, sym, ◌∙◌, subst, drop, length, ◌+◌, inl, inr, Bor, Option}
use Rattle.std.specs.Option.{MatchOption}
use Rattle.std.specs.Prelude.{Some, None, Result, Ok, Err, IfOk}
use Rattle.std.specs.Cow.{cow_str_bytes}
use Rattle.std.specs.declared.alloc.Global.{Global}
use Rattle.std.specs.declared.borrow.CowStr.{CowStr}
use Rattle.std.specs.Str.Pattern.{FindsCharPrefix}
use Rattle.std.proofs.lemmas.Str.Pattern.{strip_prefix_char}
use Rattle.just_expand.specs.Bytes.{tilde_sign, slash}
use Rattle.just_expand.specs.Pieces.{BeginsWithout, EndsOrBegins}
use Rattle.just_expand.specs.Expansion.{Reply, ExpandsTo}
use Rattle.just_expand.specs.Tilde.{CallsForHome, NeedsNoHome, OwnTildeExpandsTo, FullyExpandsTo, BringsTilde}
use Rattle.just_expand.proofs.Lists.{same_tail}

-- the character was stripped from the front of the text, or is not there
abbrev StripsCharacter : ℕ → List ℕ → Option (Bor (List ℕ)) → Type 0
StripsCharacter c bs r = MatchOption r ((rest : List ℕ) → bs ≢ c ∷ rest) (λ x. bs ≡ c ∷ x.now)

-- what the clause of `strip_prefix` at a character says of the rest
pub begins_with_stripped : (c : ℕ) (bs : List ℕ) (r : Option (Bor (List ℕ))) (x : Bor (List ℕ))
    → MatchOption r (FindsCharPrefix c bs None) (λ y. (n : ℕ) × FindsCharPrefix c bs (Some n) × (y.now ≡ drop n bs) × (length y.now + n ≡ length bs))
    → c < 128 → r ≡ Some x → bs ≡ c ∷ x.now
begins_with_stripped c bs r x h l e = let at : StripsCharacter c bs (Some x) = subst (StripsCharacter c bs) e (strip_prefix_char c bs r h l) in at

-- a text that isn't empty and doesn't begin with `/` is neither
no_slash_nor_end : (t : List ℕ) → t ≢ [] → BeginsWithout slash t → EndsOrBegins slash t → ⊥
no_slash_nor_end t some without (inl e) = some e
no_slash_nor_end t some without (inr r) = without r.0 r.1

-- a tilde before such a text doesn't call for the home folder
pub needs_no_home_before_other : (t behind : List ℕ) → t ≡ tilde_sign ∷ behind → behind ≢ [] → BeginsWithout slash behind → NeedsNoHome t
needs_no_home_before_other t behind e some without = λ rest h.
    let same : rest ≡ behind = same_tail 126 126 rest behind (sym h.0 ∙ e) in
    no_slash_nor_end behind some without (subst (EndsOrBegins slash) same h.1)

module _ (home : Option (List ℕ) → Type 0) where
  -- an own tilde stays where there is no home folder
  pub stays_without_home : (t u rest : List ℕ) → (BringsTilde t u → ⊥) × CallsForHome u rest → home None → OwnTildeExpandsTo home t u u
  stays_without_home t u rest h k = inr (h.0, inl (rest, None, h.1, k, refl))

  -- and becomes the home folder where there is one
  pub becomes_home : (t u rest h out : List ℕ) → (BringsTilde t u → ⊥) × CallsForHome u rest → home (Some h) → out ≡ h ++ rest → OwnTildeExpandsTo home t u out
  becomes_home t u rest h out k at e = inr (k.0, inl (rest, Some h, k.1, at, e))

-- what a text becomes by its variables, and then by its own tilde, it becomes fully
pub fully_expands : {S E X : Type 0} (asks : S → List ℕ → Reply E → S → Type 0) (home : Option (List ℕ) → Type 0) (s : S) (t u : List ℕ) (r : Result (CowStr Global) X)
    → ExpandsTo asks s t u → IfOk r (λ x. OwnTildeExpandsTo home t u (cow_str_bytes x)) → IfOk r (λ x. FullyExpandsTo asks home s t (cow_str_bytes x))
fully_expands asks home s t u (Ok x) e h = (u, e, h)
fully_expands asks home s t u (Err f) e h = tt
