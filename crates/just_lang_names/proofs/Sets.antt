-- Sets of names after one more name.
use Rattle.std.proofs.Common.{◌≡◌, ◌<◌, ◌+◌, ℕ, Bool, true, false, List, [], ◌∷◌, ◌++◌, length, take, get_or, Option, Ordering, refl, sym, ap, ◌∙◌}
use Rattle.std.specs.Prelude.{◌||◌, bytes_eq}
use mathlib.Core.Bool.{cond}
use denote.Ref.{Bor}
use Rattle.std.specs.List.{list_any}
use Rattle.std.specs.Ordering.{nat_cmp}
use Rattle.std.specs.BTreeSet.{BTreeSet, contains, Updates}
use Rattle.std.specs.Cmp.Lexicographic.{slice_cmp}
use Rattle.std.proofs.lemmas.Map.Text.{is_eq-slice_cmp}
use Rattle.std.proofs.lemmas.List.Folds.{list_any-append}
use Rattle.just_lang_syntax.specs.declared.ast.AstParameter.{AstParameter}
use Rattle.just_lang_syntax.specs.declared.ast.Attribute.{Attribute}
use Rattle.just_lang_syntax.specs.declared.ast.StringLiteral.{StringLiteral}
use Rattle.just_lang_spots.proofs.ListLaws.{take_here}
use Rattle.just_lang_spots.proofs.Seen.{text_cmp}
use Rattle.just_lang_spots.proofs.Tables.{query}
use Rattle.just_lang_types.specs.Options.{is_text, is_option_by}
use Rattle.just_lang_names.specs.Arities.{option_of}
use Rattle.just_lang_names.specs.ScopeSpots.{has_parameter}
use Rattle.just_lang_names.proofs.ArityLaws.{option_is}

or_last : (b c : Bool) → cond b true c ≡ (c || (b || false))
or_last true true = refl
or_last true false = refl
or_last false true = refl
or_last false false = refl

any_more : {X : Type 0} (f : X → Bool) (xs : List X) (x : X) → cond (f x) true (list_any f xs) ≡ list_any f (xs ++ x ∷ [])
any_more f xs x = or_last (f x) (list_any f xs) ∙ sym (list_any-append f xs (x ∷ []))

-- one more parameter
pub parameter_more : (ps : List AstParameter) (p : AstParameter) (key : Bor (List ℕ)) (old new : BTreeSet (Bor (List ℕ))) (q : List ℕ) → key.now ≡ p.name.text → Updates text_cmp old new key true
    → contains text_cmp old (query q) ≡ has_parameter ps q → contains text_cmp new (query q) ≡ has_parameter (ps ++ p ∷ []) q
parameter_more ps p key old new q n u h =
    u.0 (query q) ∙ ap (λ b. cond b true (contains text_cmp old (query q))) (is_eq-slice_cmp key.now q ∙ ap (λ t. bytes_eq t q) n)
    ∙ ap (cond (bytes_eq p.name.text q) true) h ∙ any_more (λ (x : AstParameter). bytes_eq x.name.text q) ps p

-- ---- options

abbrev pub own_cmp : List ℕ → List ℕ → Ordering
own_cmp x y = slice_cmp nat_cmp x y

true_or : (b c : Bool) → cond b true c ≡ (b || c)
true_or true c = refl
true_or false c = refl

-- one more name
pub option_insert : (name : List ℕ) (old new : BTreeSet (List ℕ)) (q : List ℕ) → Updates own_cmp old new name true → contains own_cmp new q ≡ (bytes_eq name q || contains own_cmp old q)
option_insert name old new q u = u.0 q ∙ ap (λ b. cond b true (contains own_cmp old q)) (is_eq-slice_cmp name q) ∙ true_or (bytes_eq name q) (contains own_cmp old q)

-- one more attribute, which makes that parameter an option, or none
pub option_step : (text_of : StringLiteral → Option (List ℕ)) (attributes : List Attribute) (i : ℕ) (a : Attribute) (o : Option (List ℕ)) (before after : Bool) (q : List ℕ) → i < length attributes → a ≡ get_or attributes i a
    → o ≡ option_of text_of a → before ≡ list_any (is_option_by text_of q) (take i attributes) → after ≡ (is_text q o || before) → after ≡ list_any (is_option_by text_of q) (take (i + 1) attributes)
option_step text_of attributes i a o before after q lt is n h u =
    u ∙ sym (true_or (is_text q o) before)
    ∙ ap (λ b. cond b true before) (ap (is_text q) n ∙ option_is text_of q a)
    ∙ ap (cond (is_option_by text_of q a) true) h ∙ any_more (is_option_by text_of q) (take i attributes) a
    ∙ ap (list_any (is_option_by text_of q)) (sym (take_here attributes i a lt is))
