-- The tables of the keys of `arg`.
use Rattle.std.proofs.Common.{◌≡◌, ℕ, ◌+◌, ◌-◌, ◌<◌, ◌≤◌, Bool, true, false, cond, List, [], ◌∷◌, ◌++◌, length, take, drop, get_or, Option, Bor, Ordering, refl, sym, ap, ◌∙◌, arith}
use Rattle.std.specs.Prelude.{Some, None, bytes_eq}
use Rattle.std.specs.Option.{option_copied}
use Rattle.std.specs.Ordering.{is_eq, nat_cmp}
use Rattle.std.specs.Cmp.Lexicographic.{slice_cmp}
use Rattle.std.specs.BTreeMap.{BTreeMap, get, Updates}
use Rattle.std.proofs.lemmas.List.{take_all}
use Rattle.std.proofs.lemmas.Map.Text.{is_eq-slice_cmp}
use Rattle.just_lang_syntax.specs.declared.ast.Argument.{Argument}
use Rattle.just_lang_syntax.specs.declared.ast.Attribute.{Attribute}
use Rattle.just_lang_syntax.specs.declared.ast.StringLiteral.{StringLiteral}
use Rattle.just_lang_types.specs.ConstantTexts.{const_text}
use Rattle.just_lang_types.specs.Options.{is_text}
use Rattle.just_lang_spots.proofs.ListLaws.{take_here}
use Rattle.just_lang_shapes.specs.Parameters.{keys_behind, keys_for, last_keys, or_earlier, found_at}

none_earlier : (o : Option (List Argument)) → or_earlier None o ≡ o
none_earlier None = refl
none_earlier (Some k) = refl

in_turn : (a b c : Option (List Argument)) → or_earlier a (or_earlier b c) ≡ or_earlier (or_earlier a b) c
in_turn a b None = refl
in_turn a b (Some k) = refl

keys_more : (text_of : StringLiteral → Option (List ℕ)) (xs : List Attribute) (x : Attribute) (name : List ℕ) → last_keys text_of (xs ++ x ∷ []) name ≡ or_earlier (last_keys text_of xs name) (keys_for text_of name x)
keys_more text_of [] x name = sym (none_earlier (keys_for text_of name x))
keys_more text_of (y ∷ ys) x name =
    ap (or_earlier (keys_for text_of name y)) (keys_more text_of ys x name) ∙ in_turn (keys_for text_of name y) (last_keys text_of ys name) (keys_for text_of name x)

pub keys_step : (text_of : StringLiteral → Option (List ℕ)) (attributes : List Attribute) (i : ℕ) (x : Attribute) (name : List ℕ) (old new : Option (List Argument)) → i < length attributes → x ≡ get_or attributes i x
    → new ≡ or_earlier old (keys_for text_of name x) → old ≡ last_keys text_of (take i attributes) name → new ≡ last_keys text_of (take (i + 1) attributes) name
keys_step text_of attributes i x name old new lt e h k =
    h ∙ ap (λ (o : Option (List Argument)). or_earlier o (keys_for text_of name x)) k
    ∙ sym (ap (λ (xs : List Attribute). last_keys text_of xs name) (take_here attributes i x lt e) ∙ keys_more text_of (take i attributes) x name)

-- ---- one more name in a table

abbrev pub text_cmp : List ℕ → List ℕ → Ordering
text_cmp x y = slice_cmp nat_cmp x y

mapped : (b : Bool) (v : Bor (List Argument)) (o : Option (Bor (List Argument))) → option_copied (cond b (Some v) o) ≡ or_earlier (option_copied o) (cond b (Some v.now) None)
mapped true v o = refl
mapped false v o = refl

pub insert_step : (old new : BTreeMap (List ℕ) (Bor (List Argument))) (key : List ℕ) (v : Bor (List Argument)) (name : List ℕ) → Updates text_cmp old new key (Some v)
    → found_at new name ≡ or_earlier (found_at old name) (cond (bytes_eq key name) (Some v.now) None)
insert_step old new key v name u =
    ap option_copied (u.0 name) ∙ mapped (is_eq (text_cmp key name)) v (get text_cmp old name)
    ∙ ap (λ (b : Bool). or_earlier (found_at old name) (cond b (Some v.now) None)) (is_eq-slice_cmp key name)

-- the keys behind the first of some arguments, for the parameter that this one names
pub behind_step : (text_of : StringLiteral → Option (List ℕ)) (arguments : List Argument) (first : Argument) (key : List ℕ) (v : Bor (List Argument)) (old new : BTreeMap (List ℕ) (Bor (List Argument))) (name : List ℕ)
    → 1 ≤ length arguments → first ≡ get_or arguments 0 first → Some key ≡ const_text text_of first.value → Updates text_cmp old new key (Some v) → v.now ≡ take (length arguments - 1) (drop 1 arguments)
    → found_at new name ≡ or_earlier (found_at old name) (keys_behind text_of name arguments)
behind_step text_of [] first key v old new name l f k u d = absurd (omega (arith, l))
behind_step text_of (x ∷ xs) first key v old new name l f k u d =
    let named : Some key ≡ const_text text_of x.value = k ∙ ap (λ (a : Argument). const_text text_of a.value) f in
    let rest : length xs ≤ length (x ∷ xs) - 1 = omega arith in
    let keys : v.now ≡ xs = d ∙ take_all (length (x ∷ xs) - 1) xs rest in
    insert_step old new key v name u
    ∙ ap (λ (o : Option (List Argument)). or_earlier (found_at old name) o)
    (ap (λ (ys : List Argument). cond (bytes_eq key name) (Some ys) None) keys ∙ ap (λ (o : Option (List ℕ)). cond (is_text name o) (Some xs) None) named)
