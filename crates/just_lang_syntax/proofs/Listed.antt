-- The attributes and the settings are those whose forms and sorts are known.
use Rattle.std.proofs.Common.{◌≡◌, ℕ, Bool, true, false, if◌then◌else◌, ◌||◌, List, [], ◌∷◌, ◌++◌, codes, bytes_eq, refl, sym, ap, ◌∙◌}
use Rattle.just_lang_syntax.specs.declared.form.Form.{Form}
use Rattle.just_lang_syntax.specs.declared.form.Form.TheVariants.{Bare, MaybeText, Text, Texts, Arg, Cache, Open}
use Rattle.just_lang_syntax.specs.declared.form.Sort.{Sort}
use Rattle.just_lang_syntax.specs.declared.form.Sort.TheVariants as sort
use Rattle.just_lang_syntax.specs.Forms.{is_one_of, form_of, is_known, attributes, bare_attributes, sort_of, is_sorted, settings, text_settings, list_settings, flags}

-- ---- attributes

known : (a b c d e f g h i : Bool)
    → is_known (if a || (b || false) then MaybeText
    else (if c || (d || (e || false)) then Text
    else (if f then Texts else (if g then Arg else (if h then Cache else (if i then Bare else Open))))))
    ≡ (a || (b || (c || (d || (e || (f || (g || (h || i))))))))
known true b c d e f g h i = refl
known false true c d e f g h i = refl
known false false true d e f g h i = refl
known false false false true e f g h i = refl
known false false false false true f g h i = refl
known false false false false false true g h i = refl
known false false false false false false true h i = refl
known false false false false false false false true i = refl
known false false false false false false false false true = refl
known false false false false false false false false false = refl

-- an attribute whose form is known is one of the attributes
pub attribute_known : (name : List ℕ) → is_known (form_of name) ≡ is_one_of attributes name
attribute_known name =
    known (bytes_eq name (codes "confirm")) (bytes_eq name (codes "doc")) (bytes_eq name (codes "extension")) (bytes_eq name (codes "group"))
    (bytes_eq name (codes "working-directory")) (bytes_eq name (codes "script")) (bytes_eq name (codes "arg")) (bytes_eq name (codes "cache"))
    (is_one_of bare_attributes name)

-- ---- settings

-- a name in two lists together is in one of them
pub in_both : (first second : List (List ℕ)) (name : List ℕ)
    → is_one_of (first ++ second) name ≡ (is_one_of first name || is_one_of second name)
in_both [] second name = refl
in_both (x ∷ first) second name =
    behind (bytes_eq name x) (is_one_of (first ++ second) name) (is_one_of first name) (is_one_of second name) (in_both first second name)
  where
    behind : (a b c d : Bool) → b ≡ (c || d) → (a || b) ≡ ((a || c) || d)
    behind true b c d e = refl
    behind false b c d e = e

sorted : (a b c : Bool) → is_sorted (if a then sort.Text else (if b then sort.List else (if c then sort.Flag else sort.Open))) ≡ (a || (b || c))
sorted true b c = refl
sorted false true c = refl
sorted false false true = refl
sorted false false false = refl

-- a setting whose sort is known is one of the settings
pub setting_sorted : (name : List ℕ) → is_sorted (sort_of name) ≡ is_one_of settings name
setting_sorted name =
    sorted (is_one_of text_settings name) (is_one_of list_settings name) (is_one_of flags name)
    ∙ sym (in_both text_settings (list_settings ++ flags) name
    ∙ ap (λ (b : Bool). is_one_of text_settings name || b) (in_both list_settings flags name))
